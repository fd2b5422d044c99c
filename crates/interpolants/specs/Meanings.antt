-- What the bits of a cut say of variables.
use Rattle.std.specs.Prelude.{ℕ, ◌≡◌, ◌++◌, ◌⊎◌, Bool, true, false, not, ◌&&◌, List, [], ◌∷◌, cond, nat_eq, Some, None, slice_get}
use Rattle.std.specs.HashMap.{get}
use Rattle.prop.specs.Steps.{same_sign}
use Rattle.formula_diagrams.specs.Truths.{choice, is_set}
use Rattle.interpolants.specs.declared.items.Placed.{Placed}
use Rattle.interpolants.specs.declared.items.Twins.{Twins}
use Rattle.interpolants.specs.declared.placing.CutBits.{CutBits}

-- what a bit says of the variable of its literal
abbrev pub said : List ℕ → Placed → Bool
said store p = same_sign p.lit.positive (is_set store p.bit)

-- the value that a store gives a variable: what the first bit says whose literal has it, and false where none has
abbrev pub read : List Placed → List ℕ → ℕ → Bool
read [] store x = false
read (p ∷ ps) store x = cond (nat_eq p.lit.var x) (said store p) (read ps store x)

-- all bits whose literals have one variable agree
abbrev pub Agree : List Placed → List ℕ → Type 0
Agree ps store =
    (i j : ℕ) (p q : Placed) → slice_get ps i ≡ Some p → slice_get ps j ≡ Some q → p.lit.var ≡ q.lit.var → said store p ≡ said store q

-- the bit is one of these, and its literal has the variable
abbrev pub IsBitOf : List Placed → ℕ → Placed → Type 0
IsBitOf ps x p = (k : ℕ) × (slice_get ps k ≡ Some p) × (p.lit.var ≡ x)

-- the variable is that of some bit
abbrev pub HasBit : List Placed → ℕ → Type 0
HasBit ps x = (p : Placed) × IsBitOf ps x p

-- the two bits say the same
abbrev pub twin_agrees : List ℕ → Twins → Bool
twin_agrees store t = choice (said store t.one) (said store t.other) (not (said store t.other))

-- the truth so far, and each two bits say the same
abbrev pub agree_from : List ℕ → Bool → List Twins → Bool
agree_from store b [] = b
agree_from store b (t ∷ ts) = agree_from store (twin_agrees store t && b) ts

-- each place that is noted for a variable is that of a bit with it, for each variable of a bit one is noted, and all twins agree exactly where
-- all bits with one variable do
pub record IsPlacing (b : CutBits) : Type 0 where
  pub found : (x k : ℕ) → get nat_eq b.places x ≡ Some k → (p : Placed) × (slice_get b.bits.items k ≡ Some p) × (p.lit.var ≡ x)
  pub none : (x : ℕ) → get nat_eq b.places x ≡ None → HasBit b.bits.items x → ⊥
  pub all : (store : List ℕ) → agree_from store true b.twins.items ≡ true → Agree b.bits.items store
  pub each : (store : List ℕ) → Agree b.bits.items store → agree_from store true b.twins.items ≡ true

-- the bit stands beside the one before it with the same variable, if there is one
pub record IsPaired (old new : CutBits) (p : Placed) : Type 0 where
  pub bits : new.bits.items ≡ old.bits.items
  pub places : (x : ℕ) → get nat_eq new.places x ≡ get nat_eq old.places x
  pub twins : ((HasBit old.bits.items p.lit.var → ⊥) × (new.twins.items ≡ old.twins.items))
      ⊎ ((q : Placed) × IsBitOf old.bits.items p.lit.var q × (new.twins.items ≡ old.twins.items ++ record { one = p; other = q } ∷ []))
