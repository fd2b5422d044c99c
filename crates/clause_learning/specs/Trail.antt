-- The trail, and what the solver keeps of it.
use Rattle.std.specs.Prelude.{◌≡◌, ℕ, ◌+◌, ◌-◌, ◌<◌, ◌≤◌, Bool, true, false, not, ◌&&◌, ◌||◌, cond, List, [], ◌∷◌, ◌++◌, Option, Some, None, slice_get, nat_le, nat_lt, ◌⊎◌}
use Rattle.prop.specs.declared.Lit.{Lit}
use Rattle.resolution_log.specs.declared.Chain.{Chain}
use Rattle.clause_learning.specs.declared.Entry.{Entry}
use Rattle.prop.specs.Logic.{negated}
use Rattle.resolution_log.specs.Logs.{New, Same}
use Rattle.prop.specs.Steps.{same, has, Has, In}
use Rattle.resolution_log.specs.Chains.{chain_from, chain_result, absent, pivots_differ}
use Rattle.resolution_log.specs.Propagation.{Quiet, Closed, IsNew}

abbrev pub set_in : List Entry → Lit → Bool
set_in [] l = false
set_in (e ∷ t) l = same e.lit l || set_in t l

abbrev pub Set : List Entry → Lit → Type 0
Set t l = set_in t l ≡ true

-- set at this level or below
abbrev pub set_at : ℕ → List Entry → Lit → Bool
set_at k [] l = false
set_at k (e ∷ t) l = (same e.lit l && nat_le e.level k) || set_at k t l

abbrev pub SetAt : ℕ → List Entry → Lit → Type 0
SetAt k t l = set_at k t l ≡ true

abbrev pub Why : List (List Lit) → List Entry → Entry → Option ℕ → Type 0
Why known t e None = (0 < e.level) × ((l : Lit) → Set t l → SetAt (e.level - 1) t l)
Why known t e (Some r) = (c : List Lit) × (slice_get known r ≡ Some c) × Has c e.lit × ((m : Lit) → Has c m → (m ≡ e.lit → ⊥) → Set t (negated m))

pub record EntryOk (known : List (List Lit)) (t : List Entry) (e : Entry) : Type 0 where
  pub fresh : Set t e.lit → ⊥
  pub fresh_not : Set t (negated e.lit) → ⊥
  pub above : (l : Lit) → Set t l → SetAt e.level t l
  pub why : Why known t e e.reason

pub data TrailOk (known : List (List Lit)) : List Entry → Type 0 where
  none_set : {x : List Entry} → x ≡ [] → TrailOk known x
  one_more : {x : List Entry} (t : List Entry) (e : Entry) → TrailOk known t → EntryOk known t e → x ≡ t ++ (e ∷ []) → TrailOk known x

-- each level below the current one is closed
abbrev pub LowerClosed : List (List Lit) → ℕ → List Entry → Type 0
LowerClosed known level t = (k : ℕ) → k < level → Closed known (SetAt k t)

-- while a conflict is analysed
pub record Analysed (known : List (List Lit)) (level : ℕ) (t : List Entry) (start d : List Lit) (pairs : List (ℕ × ℕ)) : Type 0 where
  pub chain : chain_from known start pairs ≡ Some d
  pub differ : pivots_differ pairs ≡ true
  pub away : (l : Lit) → Set t l → absent l.var pairs ≡ true
  pub falsified : (m : Lit) → Has d m → Set t (negated m)
  pub touches : 0 < level → (m : Lit) × Has d m × (SetAt (level - 1) t (negated m) → ⊥)

-- what an analysis gives
pub record Learnt (level : ℕ) (t : List Entry) (d : List Lit) (uip : Lit) : Type 0 where
  pub in_it : Has d uip
  pub free : Set t uip → ⊥
  pub free_not : Set t (negated uip) → ⊥
  pub below : (m : Lit) → Has d m → (m ≡ uip → ⊥) → SetAt (level - 1) t (negated m)

-- all but one literal of a clause are false by this level
abbrev pub below_of : ℕ → List Entry → Lit → List Lit → Bool
below_of k t u [] = true
below_of k t u (m ∷ d) = (same m u || set_at k t (negated m)) && below_of k t u d

-- the loop of an analysis
pub record Going (known : List (List Lit)) (level : ℕ) (t : List Entry) (conflict : ℕ) (d : List Lit) (pairs : List (ℕ × ℕ)) : Type 0 where
  pub ok : TrailOk known t
  pub low : LowerClosed known level t
  pub all : (l : Lit) → Set t l → SetAt level t l
  pub start : List Lit
  pub gets : slice_get known conflict ≡ Some start
  pub an : Analysed known level t start d pairs

abbrev pub UipOk : ℕ → List Entry → List Lit → Option Lit → Type 0
UipOk level t d None = (level ≡ 0) × (d ≡ [])
UipOk level t d (Some u) = (0 < level) × Learnt level t d u

-- what an analysis answers
pub record Told (known : List (List Lit)) (level : ℕ) (t : List Entry) (conflict : ℕ) (d : List Lit) (pairs : List (ℕ × ℕ)) (u : Option Lit) : Type 0 where
  pub start : List Lit
  pub gets : slice_get known conflict ≡ Some start
  pub chain : chain_from known start pairs ≡ Some d
  pub differ : pivots_differ pairs ≡ true
  pub ok : TrailOk known t
  pub low : LowerClosed known level t
  pub all : (l : Lit) → Set t l → SetAt level t l
  pub uip : UipOk level t d u

-- the literal is the only one of the current level, which isn't the lowest
abbrev pub first_of : ℕ → List Entry → Lit → List Lit → Bool
first_of level t u d = nat_lt 0 level && below_of (level - 1) t u d

-- going back: the trail of the levels up to `low`
pub record Back (known : List (List Lit)) (low : ℕ) (old t : List Entry) : Type 0 where
  pub ok : TrailOk known t
  pub low_closed : LowerClosed known low t
  pub keeps : (k : ℕ) (l : Lit) → k ≤ low → SetAt k old l → SetAt k t l
  pub fewer : (l : Lit) → Set t l → Set old l
  pub fewer_at : (k : ℕ) (l : Lit) → SetAt k t l → SetAt k old l

-- what the solver keeps
pub record Holds (known : List (List Lit)) (level : ℕ) (t : List Entry) : Type 0 where
  pub ok : TrailOk known t
  pub low : LowerClosed known level t
  pub all : (l : Lit) → Set t l → SetAt level t l

-- the literals of a clause but one, each once, after those that are there
abbrev pub added : List Lit → Lit → List Lit → List Lit
added out l [] = out
added out l (m ∷ c) = added (cond (same m l || has out m) out (out ++ (m ∷ []))) l c

-- while a conflict is analysed, over a list that is the chain's result as a set
pub record GoingSet (known : List (List Lit)) (level : ℕ) (t : List Entry) (conflict : ℕ) (d : List Lit) (pairs : List (ℕ × ℕ)) : Type 0 where
  pub whole : List Lit
  pub go : Going known level t conflict whole pairs
  pub same : Same whole d

pub record ToldSet (known : List (List Lit)) (level : ℕ) (t : List Entry) (conflict : ℕ) (d : List Lit) (pairs : List (ℕ × ℕ)) (u : Option Lit) : Type 0 where
  pub whole : List Lit
  pub told : Told known level t conflict whole pairs u
  pub same : Same whole d
