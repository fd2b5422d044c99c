use Rattle.std.specs.Prelude.{ℕ, List, [], ◌∷◌, ◌+◌, ◌≡◌, ◌<◌, length, Bool, true, false, not, ◌&&◌, ◌||◌, cond}
use Rattle.prop.specs.declared.Lit.{Lit}
use Rattle.prop.specs.declared.BlastFail.{BlastFail}
use Rattle.prop.specs.declared.BlastFail.TheVariants.{Over, Memory}

abbrev pub negated : Lit → Lit
negated l = record { var = l.var; positive = not l.positive }

abbrev pub positive_of : ℕ → Lit
positive_of n = record { var = n; positive = true }

-- the value of a literal
abbrev pub lit_value : (ℕ → Bool) → Lit → Bool
lit_value v l = cond l.positive (v l.var) (not (v l.var))

abbrev pub clause_holds : (ℕ → Bool) → List Lit → Bool
clause_holds v [] = false
clause_holds v (l ∷ ls) = lit_value v l || clause_holds v ls

abbrev pub all_hold : (ℕ → Bool) → List (List Lit) → Bool
all_hold v [] = true
all_hold v (c ∷ cs) = clause_holds v c && all_hold v cs

-- how many literals
abbrev pub count : List (List Lit) → ℕ
count [] = 0
count (c ∷ cs) = length c + count cs

-- each variable is below n
abbrev pub LitsBelow : ℕ → List Lit → Type 0
LitsBelow n [] = Unit {0}
LitsBelow n (l ∷ ls) = (l.var < n) × LitsBelow n ls

abbrev pub OnFail : BlastFail → Type 0 → ℕ → Type 0
OnFail (Over n) past total = past × (n ≡ total)
OnFail Memory past total = Unit {0}
