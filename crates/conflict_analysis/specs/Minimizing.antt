-- Literals of a learned clause that the others imply are resolved away. A literal that went has no mark any more.
use Rattle.std.specs.Prelude.{◌≡◌, ℕ, ◌*◌, ◌/◌, ◌<◌, ◌≤◌, Bool, true, false, not, ◌&&◌, ◌||◌, cond, List, [], ◌∷◌, Option, Some, None, take, length, nat_eq, slice_index, slice_index_or}
use Rattle.prop.specs.Trues.{listed}
use Rattle.resolution_log.specs.Chains.{absent}
use Rattle.resolution_log.specs.Codes.{AllBelow}
use Rattle.resolution_log.specs.Marks.{is_marked}
use Rattle.clause_learning.specs.Trail.{TrailOk}
use Rattle.dense_trail.specs.declared.Trail.{Trail}
use Rattle.dense_trail.specs.Dense.{negation, known_of}
use Rattle.conflict_analysis.specs.Notes.{is_noted}
use Rattle.conflict_analysis.specs.Walk.{first_entries, IsTaught}

-- all literals of a row but one have marks
abbrev pub all_noted : ℕ → List ℕ → ℕ → List ℕ → Bool
all_noted epoch stamps but [] = true
all_noted epoch stamps but (k ∷ ks) = is_noted epoch stamps but k && all_noted epoch stamps but ks

-- a reason of the true literal `code`, where all its other literals have marks
abbrev pub reason_within : ℕ → List ℕ → List (List ℕ) → ℕ → Option ℕ → Option ℕ
reason_within epoch stamps rows code None = None
reason_within epoch stamps rows code (Some r) = cond (all_noted epoch stamps code (slice_index_or rows r [])) (Some r) None

abbrev pub is_some : Option ℕ → Bool
is_some None = false
is_some (Some r) = true

-- whether a literal of the clause is implied by others, where it is not the one that the clause makes true
abbrev pub is_implied : ℕ → List ℕ → List (List ℕ) → List (Option ℕ) → ℕ → ℕ → Bool
is_implied epoch stamps rows reasons uip z = not (nat_eq z uip) && is_some (reason_within epoch stamps rows (negation z) (slice_index_or reasons (z / 2) None))

-- all literals of a row but one are in the clause
abbrev pub all_in : List ℕ → ℕ → List ℕ → Bool
all_in clause but [] = true
all_in clause but (k ∷ ks) = (nat_eq k but || listed clause k) && all_in clause but ks

-- No literal of the clause is implied by the others, but maybe the one that it makes true: a reason of its negation has one
-- more literal that is not in the clause.
abbrev pub IsMinimal : List (List ℕ) → List (Option ℕ) → ℕ → List ℕ → Type 0
IsMinimal rows reasons uip clause = (z r : ℕ) → listed clause z ≡ true → (z ≡ uip → ⊥) → slice_index_or reasons (z / 2) None ≡ Some r → all_in clause (negation z) (slice_index_or rows r []) ≡ false

-- the literals that still have marks
abbrev pub kept : ℕ → List ℕ → List ℕ → List ℕ
kept epoch stamps [] = []
kept epoch stamps (z ∷ zs) = cond (is_marked epoch stamps (z / 2)) (z ∷ kept epoch stamps zs) (kept epoch stamps zs)

-- Among the first `left` literals of the trail those with marks are the negations of literals of the clause, and no step
-- of the chain so far cancels their variables.
pub record Minimizing (vars : List ℕ) (rows : List (List ℕ)) (t : Trail) (uip left epoch : ℕ) (stamps learnt : List ℕ) (pairs : List (ℕ × ℕ)) : Type 0 where
  pub ok : TrailOk (known_of vars rows) (first_entries vars t left)
  pub some : 0 < epoch
  pub there : (k : ℕ) → listed (take left t.codes.items) k ≡ true → is_marked epoch stamps (k / 2) ≡ true → listed learnt (negation k) ≡ true
  pub away : (k : ℕ) → listed (take left t.codes.items) k ≡ true → is_marked epoch stamps (k / 2) ≡ true → absent (slice_index vars (k / 2)) pairs ≡ true
  pub falsified : (z : ℕ) → listed learnt z ≡ true → (z ≡ uip → ⊥) → listed (take left t.codes.items) (negation z) ≡ true
  pub apart : (k : ℕ) → listed (take left t.codes.items) k ≡ true → k ≡ negation uip → ⊥
  pub within : left ≤ length t.codes.items
  pub small : AllBelow (2 * length vars) learnt

-- what was taught before is taught after
abbrev pub StaysTaught : List ℕ → List (List ℕ) → Trail → ℕ → ℕ → List ℕ → List (ℕ × ℕ) → List ℕ → List (ℕ × ℕ) → Type 0
StaysTaught vars rows t uip left clause pairs clause2 pairs2 = (level conflict : ℕ) → IsTaught vars rows t level conflict clause pairs (Some uip) left → IsTaught vars rows t level conflict clause2 pairs2 (Some uip) left
