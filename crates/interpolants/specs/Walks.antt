-- What a walk at a cut goes by.
use Rattle.std.specs.Prelude.{ℕ, ◌+◌, ◌-◌, ◌<◌, ◌≤◌, ◌≡◌, Bool, true, List, [], Option, Some, length, slice_get, slice_index_or, ◌↔◌}
use Rattle.prop.specs.declared.Lit.{Lit}
use Rattle.resolution_log.specs.declared.Chain.{Chain}
use Rattle.interpolants.specs.declared.items.Formula.{Formula}
use Rattle.interpolants.specs.declared.walk.Cut.{Cut}
use Rattle.interpolants.specs.Meanings.{Agree, HasBit, IsPlacing, read}
use Rattle.interpolants.specs.Rules.{last_of, leaves, truths_after}
use Rattle.interpolants.specs.Sources.{IsCone, IsMet, Names, is_noted, low_of, lows_after}

-- what was noted of a variable: that it occurs behind the cut
abbrev pub noted_behind : Cut → ℕ → Bool
noted_behind c x = is_noted c.ends.now.0 c.ends.now.1 x c.edge

-- the value that a store gives a variable
abbrev pub value_of : Cut → List ℕ → ℕ → Bool
value_of c store x = read c.bits.now.bits.items store x

-- in the store all bits whose literals have one variable agree
abbrev pub AreAgreed : Cut → List ℕ → Type 0
AreAgreed c store = Agree c.bits.now.bits.items store

-- each variable of the clause that occurs behind the cut is that of a bit
abbrev pub AreBits : Cut → List Lit → Type 0
AreBits c clause =
    (k : ℕ) (l : Lit) → slice_get clause k ≡ Some l → noted_behind c l.var ≡ true → HasBit c.bits.now.bits.items l.var

-- each variable that occurs before and behind the cut is that of a bit
abbrev pub AreCovered : Cut → Type 0
AreCovered c = (n : ℕ) (clause : List Lit) → n < c.edge → slice_get c.clauses.now n ≡ Some clause → AreBits c clause

-- the truths of the clauses
abbrev pub leaf_truths : Cut → List ℕ → List Bool
leaf_truths c store = leaves (noted_behind c) (value_of c store) c.edge c.clauses.now

-- the truths of the clauses and of the results
abbrev pub all_truths : Cut → List ℕ → List Bool
all_truths c store = truths_after (noted_behind c) (leaf_truths c store) c.log.now

-- the truth of the clause of a number
unfoldable pub truth_of : Cut → List ℕ → ℕ → Bool
truth_of c store k = slice_index_or (all_truths c store) k true

-- what a walk goes by is of its clauses and its log, whose chains name earlier ones alone
pub record IsCut (c : Cut) : Type 0 where
  pub placing : IsPlacing c.bits.now
  pub clauses : c.cone.now.clauses ≡ length c.clauses.now
  pub lows : c.cone.now.lows.items ≡ lows_after (length c.clauses.now) [] c.log.now
  pub many : length c.cone.now.lows.items ≡ length c.log.now
  pub long : length c.cone.now.needed.items ≡ length c.log.now
  pub cone : IsCone (length c.clauses.now) c.cone.now.needed.items c.log.now
  pub names : (k : ℕ) (ch : Chain) (m : ℕ) → slice_get c.log.now k ≡ Some ch → Names ch m → m < length c.clauses.now + k

-- a formula is written down for the clause
abbrev pub HasEntry : List (Option Formula) → ℕ → Type 0
HasEntry memo k = (f : Formula) × (slice_get memo k ≡ Some (Some f))

-- each formula that is written down has the truth of its clause
abbrev pub AreTrue : (Formula → List ℕ → Bool) → Cut → List ℕ → List (Option Formula) → Type 0
AreTrue truth c store memo = (k : ℕ) (f : Formula) → slice_get memo k ≡ Some (Some f) → truth f store ≡ truth_of c store k

-- a result that comes from a clause before the cut is written down
abbrev pub IsKept : Cut → List (Option Formula) → ℕ → Type 0
IsKept c memo m =
    length c.clauses.now ≤ m → m - length c.clauses.now < length c.log.now → low_of c.cone.now.clauses c.cone.now.lows.items m < c.edge → HasEntry memo m

-- so are all that a chain names
abbrev pub AreKept : Cut → List (Option Formula) → Chain → Type 0
AreKept c memo ch = (m : ℕ) → Names ch m → IsKept c memo m

-- there is room for all, and each result before the place that is needed and comes from a clause before the cut is written down
abbrev pub AreMet : Cut → ℕ → List (Option Formula) → Type 0
AreMet c p memo =
    (length memo ≡ length c.clauses.now + length c.log.now)
    × ((k : ℕ) → k < p → IsMet c.cone.now.lows.items c.cone.now.needed.items k c.edge → HasEntry memo (length c.clauses.now + k))

-- it is true exactly where all bits with one variable agree and the truth of the last result is true
abbrev pub IsCutTruth : Cut → List ℕ → Bool → Type 0
IsCutTruth c store x = (x ≡ true) ↔ (AreAgreed c store × (last_of (all_truths c store) ≡ true))
