-- What a scan of the clauses finds under a trail.
use Rattle.std.specs.Prelude.{◌≡◌, ℕ, ◌+◌, Bool, true, false, cond, List, [], ◌∷◌, Option, Some, None}
use Rattle.prop.specs.declared.Lit.{Lit}
use Rattle.prop.specs.Logic.{negated}
use Rattle.prop.specs.Steps.{same}
use Rattle.clause_learning.specs.declared.Entry.{Entry}
use Rattle.clause_learning.specs.Trail.{set_in}
use Rattle.plain_solver.specs.declared.trail.Look.{Look}
use Rattle.plain_solver.specs.declared.trail.Look.TheVariants.{AllFalse, Lone, Satisfied, Open}
use Rattle.plain_solver.specs.declared.trail.Found.{Found}
use Rattle.plain_solver.specs.declared.trail.Found.TheVariants.{Conflict, Implied, Free, Done}

-- a clause under the trail
abbrev pub look_on : Bool → Bool → Lit → Option Lit → (Option Lit → Look) → Look
look_on true neg m u go = Satisfied
look_on false true m u go = go u
look_on false false m None go = go (Some m)
look_on false false m (Some l) go = cond (same l m) (go (Some l)) (Open m)

abbrev pub look_end : Option Lit → Look
look_end None = AllFalse
look_end (Some l) = Lone l

abbrev pub look_of : List Entry → List Lit → Option Lit → Look
look_of t [] u = look_end u
look_of t (m ∷ c) u = look_on (set_in t m) (set_in t (negated m)) m u (look_of t c)

abbrev pub scan_on : Look → ℕ → Option Lit → (Option Lit → Found) → Found
scan_on AllFalse k u go = Conflict k
scan_on (Lone l) k u go = Implied k l
scan_on Satisfied k u go = go u
scan_on (Open l) k u go = go (Some l)

abbrev pub scan_end : Option Lit → Found
scan_end None = Done
scan_end (Some l) = Free l

abbrev pub scan_of : List Entry → List (List Lit) → ℕ → Option Lit → Found
scan_of t [] k u = scan_end u
scan_of t (c ∷ cs) k u = scan_on (look_of t c None) k u (scan_of t cs (k + 1))
