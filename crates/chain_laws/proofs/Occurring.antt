-- The variables before and behind a cut, and those of the cut.
use Rattle.std.proofs.Common.{◌≡◌, ℕ, ◌<◌, ◌≤◌, ◌⊎◌, inl, inr, Bool, true, false, ◌||◌, List, [], ◌∷◌, ◌++◌, length, take, drop, nat_eq, Option, Some, None, slice_get, slice_index_or, zero, suc, refl, sym, subst, arith}
use Rattle.std.proofs.lemmas.Bool.{false≢true, eqb-true, or_cases}
use Rattle.std.proofs.lemmas.Option.{get_or_from_slice_get, slice_get_within}
use Rattle.prop.specs.declared.Lit.{Lit}
use Rattle.prop.specs.Trues.{listed}
use Rattle.resolution_log.specs.Codes.{all_vars, vars_of}
use Rattle.c_graph.specs.declared.graph.EdgeId.{EdgeId}
use Rattle.c_graph.specs.Shape.{Flow, IsFlow}
use Rattle.path_query.specs.declared.query.Bundle.{Bundle}
use Rattle.path_formula.specs.Questions.{question_of}
use Rattle.interpolants.specs.CutMeanings.{AreShared, edge_of}
use Rattle.interpolants.specs.Meanings.{HasBit}
use Rattle.interpolants.specs.Placings.{bit_with, bits_of}
use Rattle.interpolants.proofs.Rows.{of-in}
use Rattle.path_laws.specs.Steps.{HasVariable, IsOf, Occurs}
use Rattle.path_laws.proofs.Sharing.{shared_in_cuts}

-- a variable that is listed is one of a clause
listed-either : (xs ys : List ℕ) (x : ℕ) → listed (xs ++ ys) x ≡ true → (listed xs x ≡ true) ⊎ (listed ys x ≡ true)
listed-either [] ys x h = inr h
listed-either (n ∷ xs) ys x h = way (nat_eq n x) (or_cases (nat_eq n x) (listed (xs ++ ys) x) h) (λ t. listed-either xs ys x t)
  where
    way : (b : Bool) → (b ≡ true) ⊎ (listed (xs ++ ys) x ≡ true) → (listed (xs ++ ys) x ≡ true → (listed xs x ≡ true) ⊎ (listed ys x ≡ true))
        → ((b || listed xs x) ≡ true) ⊎ (listed ys x ≡ true)
    way true c ih = inl refl
    way false (inl e) ih = absurd (false≢true e)
    way false (inr t) ih = ih t

in-clause : (c : List Lit) (x : ℕ) → listed (vars_of c) x ≡ true → HasVariable c x
in-clause [] x h = absurd (false≢true h)
in-clause (l ∷ c) x h = way (or_cases (nat_eq l.var x) (listed (vars_of c) x) h) (λ t. in-clause c x t)
  where
    way : (nat_eq l.var x ≡ true) ⊎ (listed (vars_of c) x ≡ true) → (listed (vars_of c) x ≡ true → HasVariable c x) → HasVariable (l ∷ c) x
    way (inl e) ih = (0, l, refl, eqb-true l.var x e)
    way (inr t) ih = let r = ih t in (suc r.0, r.1, r.2, r.3)

later : (c : List Lit) (cs : List (List Lit)) (n x : ℕ) → Occurs cs n x → Occurs (c ∷ cs) (suc n) x
later c cs n x o = o

-- a variable before an edge occurs before it
occurs-before : (edge : ℕ) (clauses : List (List Lit)) (x : ℕ) → listed (all_vars (take edge clauses)) x ≡ true
    → (m : ℕ) × (m < edge) × Occurs clauses m x
occurs-before zero [] x h = absurd (false≢true h)
occurs-before zero (c ∷ cs) x h = absurd (false≢true h)
occurs-before (suc edge) [] x h = absurd (false≢true h)
occurs-before (suc edge) (c ∷ cs) x h = way (listed-either (vars_of c) (all_vars (take edge cs)) x h) (λ t. occurs-before edge cs x t)
  where
    way : (listed (vars_of c) x ≡ true) ⊎ (listed (all_vars (take edge cs)) x ≡ true)
        → (listed (all_vars (take edge cs)) x ≡ true → (m : ℕ) × (m < edge) × Occurs cs m x) → (m : ℕ) × (m < suc edge) × Occurs (c ∷ cs) m x
    way (inl e) ih = (0, omega arith, (c, refl, in-clause c x e))
    way (inr t) ih = let r = ih t in (suc r.0, omega (arith, r.1), later c cs r.0 x r.2)

-- a variable from an edge on occurs from it on
occurs-behind : (edge : ℕ) (clauses : List (List Lit)) (x : ℕ) → listed (all_vars (drop edge clauses)) x ≡ true
    → (n : ℕ) × (edge ≤ n) × Occurs clauses n x
occurs-behind zero [] x h = absurd (false≢true h)
occurs-behind (suc edge) [] x h = absurd (false≢true h)
occurs-behind zero (c ∷ cs) x h = way (listed-either (vars_of c) (all_vars cs) x h) (λ t. occurs-behind zero cs x t)
  where
    way : (listed (vars_of c) x ≡ true) ⊎ (listed (all_vars cs) x ≡ true)
        → (listed (all_vars cs) x ≡ true → (n : ℕ) × (0 ≤ n) × Occurs cs n x) → (n : ℕ) × (0 ≤ n) × Occurs (c ∷ cs) n x
    way (inl e) ih = (0, omega arith, (c, refl, in-clause c x e))
    way (inr t) ih = let r = ih t in (suc r.0, omega arith, later c cs r.0 x r.2)
occurs-behind (suc edge) (c ∷ cs) x h =
    let r = occurs-behind edge cs x h in (suc r.0, omega (arith, r.1), later c cs r.0 x r.2)

-- a variable of a cut is that of a bit of it
has-bit : (cut : List Bundle) (x : ℕ) → IsOf cut x → HasBit (bits_of cut) x
has-bit cut x (k, b, g, (i, l, gl, e)) =
    let r = of-in cut k i b l g gl in (bit_with b.cell i l, (r.0, r.1, e))

shared-from : (g : Flow) (path : List EdgeId) (k start : ℕ) (cut : List Bundle) → IsFlow g
    → slice_get (question_of g path).starts k ≡ Some start → slice_get (question_of g path).cuts k ≡ Some cut
    → AreShared (question_of g path).clauses start (bits_of cut)
shared-from g path k start cut flow starts cuts x before behind =
    let (m, lt, first) = occurs-before start (question_of g path).clauses x before in
    let (n, le, second) = occurs-behind start (question_of g path).clauses x behind in
    has-bit cut x (shared_in_cuts g path k start cut m n x flow starts cuts lt le first second)

past-none : (xs : List ℕ) (k d : ℕ) → slice_get xs k ≡ None → slice_index_or xs k d ≡ d
past-none [] k d h = refl
past-none (x ∷ xs) zero d h = absurd cc
past-none (x ∷ xs) (suc k) d h = past-none xs k d h

none-behind : (clauses : List (List Lit)) (cut : List Bundle) (edge : ℕ) → edge ≡ length clauses → AreShared clauses edge (bits_of cut)
none-behind clauses cut edge e x before behind =
    let (n, le, (c, at, has)) = occurs-behind edge clauses x behind in
    let lt = slice_get_within clauses n c at in
    absurd (omega (arith, le, lt, e))

-- each variable that occurs before and behind a cut is that of a bit of it
pub shared-at : (g : Flow) (path : List EdgeId) (k : ℕ) (cut : List Bundle) → IsFlow g → slice_get (question_of g path).cuts k ≡ Some cut
    → AreShared (question_of g path).clauses (edge_of (question_of g path) k) (bits_of cut)
shared-at g path zero cut flow cuts = λ x before behind.
    let r = occurs-before 0 (question_of g path).clauses x before in absurd (omega (arith, r.1))
shared-at g path (suc k) cut flow cuts = way (slice_get (question_of g path).starts (suc k)) refl
  where
    way : (o : Option ℕ) → slice_get (question_of g path).starts (suc k) ≡ o
        → AreShared (question_of g path).clauses (edge_of (question_of g path) (suc k)) (bits_of cut)
    way None none =
        none-behind (question_of g path).clauses cut (edge_of (question_of g path) (suc k))
        (past-none (question_of g path).starts (suc k) (length (question_of g path).clauses) none)
    way (Some start) there =
        subst (λ (n : ℕ). AreShared (question_of g path).clauses n (bits_of cut))
        (sym (get_or_from_slice_get (question_of g path).starts (suc k) start (length (question_of g path).clauses) there))
        (shared-from g path (suc k) start cut flow there cuts)
