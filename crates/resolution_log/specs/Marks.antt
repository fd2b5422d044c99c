-- The clause so far as marks: a code is in it where its stamp is the current epoch. Clearing is a new epoch.
use Rattle.std.specs.Prelude.{◌≡◌, ℕ, ◌+◌, ◌*◌, ◌≤◌, ◌<◌, Bool, true, false, not, ◌&&◌, ◌||◌, cond, List, [], ◌∷◌, ◌++◌, length, nat_eq, slice_index, slice_set, Option, Some, None}
use Rattle.prop.specs.declared.Lit.{Lit}
use Rattle.prop.specs.Trues.{listed}
use Rattle.prop.specs.Steps.{has, resolve}
use Rattle.resolution_log.specs.declared.Chain.{Chain}
use Rattle.resolution_log.specs.Chains.{chain_result}
use Rattle.resolution_log.specs.Codes.{code_of}

abbrev pub is_marked : ℕ → List ℕ → ℕ → Bool
is_marked epoch stamps k = nat_eq (slice_index stamps k) epoch

abbrev pub same_bool : Bool → Bool → Bool
same_bool true b = b
same_bool false b = not b

-- marks a code, unless it is the one left out
abbrev pub skips : ℕ → ℕ → List ℕ → ℕ → Bool
skips epoch but stamps k = nat_eq k but || is_marked epoch stamps k

abbrev pub mark_one : ℕ → ℕ → List ℕ → ℕ → List ℕ
mark_one epoch but stamps k = cond (skips epoch but stamps k) stamps (slice_set stamps k epoch)

abbrev pub note_one : ℕ → ℕ → List ℕ → List ℕ → ℕ → List ℕ
note_one epoch but stamps members k = cond (skips epoch but stamps k) members (members ++ k ∷ [])

-- the stamps after all codes of a row were marked, and the list of the codes that were
abbrev pub mark_all : ℕ → ℕ → List ℕ → List ℕ → List ℕ
mark_all epoch but stamps [] = stamps
mark_all epoch but stamps (k ∷ ks) = mark_all epoch but (mark_one epoch but stamps k) ks

abbrev pub note_all : ℕ → ℕ → List ℕ → List ℕ → List ℕ → List ℕ
note_all epoch but stamps members [] = members
note_all epoch but stamps members (k ∷ ks) = note_all epoch but (mark_one epoch but stamps k) (note_one epoch but stamps members k) ks

-- the marked codes of a list, each once, and the stamps with their marks taken away
abbrev pub gather : ℕ → List ℕ → List ℕ → List ℕ
gather epoch stamps [] = []
gather epoch stamps (k ∷ ks) = cond (is_marked epoch stamps k) (k ∷ gather epoch (slice_set stamps k 0) ks) (gather epoch stamps ks)

abbrev pub gathered : ℕ → List ℕ → List ℕ → List ℕ
gathered epoch stamps [] = stamps
gathered epoch stamps (k ∷ ks) = cond (is_marked epoch stamps k) (gathered epoch (slice_set stamps k 0) ks) (gathered epoch stamps ks)

-- one of the two ways to resolve: the clause so far has the code, and the row its complement
abbrev pub meets : ℕ → List ℕ → List ℕ → ℕ → ℕ → Bool
meets epoch stamps row code complement = is_marked epoch stamps code && listed row complement

-- whether exactly one of the two ways holds, on the variable with this number
abbrev pub ways_differ : ℕ → List ℕ → List ℕ → ℕ → ℕ → Bool
ways_differ epoch stamps row up down = not (same_bool (meets epoch stamps row up down) (meets epoch stamps row down up))

-- the code that the clause so far loses, and the one that is left out of the row
abbrev pub gone_code : ℕ → List ℕ → List ℕ → ℕ → ℕ
gone_code epoch stamps row number = cond (meets epoch stamps row (2 * number) (2 * number + 1)) (2 * number) (2 * number + 1)

abbrev pub kept_code : ℕ → List ℕ → List ℕ → ℕ → ℕ
kept_code epoch stamps row number = cond (meets epoch stamps row (2 * number) (2 * number + 1)) (2 * number + 1) (2 * number)

abbrev pub AtMost : ℕ → List ℕ → Type 0
AtMost n xs = (k : ℕ) → slice_index xs k ≤ n

-- the marks are those of a clause
pub record Sofar (vars : List ℕ) (epoch : ℕ) (stamps members : List ℕ) (c : List Lit) : Type 0 where
  pub shows : (l : Lit) → is_marked epoch stamps (code_of vars l) ≡ has c l
  pub kept : (k : ℕ) → is_marked epoch stamps k ≡ true → listed members k ≡ true
  pub within : (k : ℕ) → listed members k ≡ true → k < length stamps
  pub most : AtMost epoch stamps

-- what a step leaves
abbrev pub IsStep : Bool → List ℕ → ℕ → List ℕ → List ℕ → Option (List Lit) → Type 0
IsStep false vars epoch stamps members o = o ≡ None
IsStep true vars epoch stamps members o = (r : List Lit) × (o ≡ Some r) × Sofar vars epoch stamps members r
