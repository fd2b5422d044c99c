-- The clause so far as marks by variable, a list of its literals of lower levels, and a count of those of the current level.
use Rattle.std.specs.Prelude.{◌≡◌, ℕ, ◌+◌, ◌/◌, ◌<◌, Bool, true, ◌&&◌, ◌||◌, cond, List, [], ◌∷◌, ◌++◌, nat_eq, slice_set}
use Rattle.prop.specs.Trues.{listed}
use Rattle.resolution_log.specs.Marks.{is_marked}
use Rattle.dense_trail.specs.Dense.{negation, level_of}

-- a literal does not join
abbrev pub is_noted : ℕ → List ℕ → ℕ → ℕ → Bool
is_noted epoch stamps but k = nat_eq k but || is_marked epoch stamps (k / 2)

abbrev pub stamp_one : ℕ → ℕ → List ℕ → ℕ → List ℕ
stamp_one epoch but stamps k = cond (is_noted epoch stamps but k) stamps (slice_set stamps (k / 2) epoch)

abbrev pub learn_one : ℕ → ℕ → ℕ → List ℕ → List ℕ → List ℕ → ℕ → List ℕ
learn_one epoch but level levels stamps learnt k = cond (is_noted epoch stamps but k) learnt (cond (nat_eq (level_of levels k) level) learnt (learnt ++ k ∷ []))

abbrev pub count_one : ℕ → ℕ → ℕ → List ℕ → List ℕ → ℕ → ℕ → ℕ
count_one epoch but level levels stamps count k = cond (is_noted epoch stamps but k) count (cond (nat_eq (level_of levels k) level) (count + 1) count)

-- after all literals of a clause but one
abbrev pub note_stamps : ℕ → ℕ → List ℕ → List ℕ → List ℕ
note_stamps epoch but stamps [] = stamps
note_stamps epoch but stamps (k ∷ ks) = note_stamps epoch but (stamp_one epoch but stamps k) ks

abbrev pub note_learnt : ℕ → ℕ → ℕ → List ℕ → List ℕ → List ℕ → List ℕ → List ℕ
note_learnt epoch but level levels stamps learnt [] = learnt
note_learnt epoch but level levels stamps learnt (k ∷ ks) = note_learnt epoch but level levels (stamp_one epoch but stamps k) (learn_one epoch but level levels stamps learnt k) ks

abbrev pub note_here : ℕ → ℕ → ℕ → List ℕ → List ℕ → ℕ → List ℕ → ℕ
note_here epoch but level levels stamps count [] = count
note_here epoch but level levels stamps count (k ∷ ks) = note_here epoch but level levels (stamp_one epoch but stamps k) (count_one epoch but level levels stamps count k) ks

-- whether a true literal's negation is in the clause, and of the current level
abbrev pub is_here : ℕ → List ℕ → ℕ → List ℕ → ℕ → Bool
is_here level levels epoch stamps k = is_marked epoch stamps (k / 2) && nat_eq (level_of levels k) level

abbrev pub counted : (ℕ → Bool) → List ℕ → ℕ
counted f [] = 0
counted f (k ∷ ks) = cond (f k) 1 0 + counted f ks

-- The marks are those of the clause whose literals have the codes that `has` tells, over the part of the trail that is
-- still to come. There are n codes.
pub record Noted (prefix levels : List ℕ) (level epoch : ℕ) (stamps learnt : List ℕ) (here' n : ℕ) (has : ℕ → Bool) : Type 0 where
  pub marks : (k : ℕ) → listed prefix k ≡ true → is_marked epoch stamps (k / 2) ≡ has (negation k)
  pub low_to : (z : ℕ) → listed learnt z ≡ true → (z < n) × (has z ≡ true) × (level_of levels z < level)
  pub low_from : (z : ℕ) → z < n → has z ≡ true → level_of levels z < level → listed learnt z ≡ true
  pub falsified : (z : ℕ) → z < n → has z ≡ true → listed prefix (negation z) ≡ true
  pub count : here' ≡ counted (is_here level levels epoch stamps) prefix
