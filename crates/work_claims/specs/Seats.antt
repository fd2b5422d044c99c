-- What clauses see of claims and of claimers.
use Rattle.std.specs.Prelude.{◌≡◌, ℕ, List, [], ◌∷◌, length, All}
use Rattle.atomic_table.specs.Seated.{TableId}
use Rattle.work_claims.specs.declared.knowledge.Hand.{Hand}
use Rattle.work_claims.specs.declared.knowledge.Terms.{Terms}
use Rattle.work_claims.specs.declared.words.Claims.{Claims}
use Rattle.work_claims.specs.declared.words.Claimer.{Claimer}
use Rattle.work_claims.specs.Hands.{fresh, both}

-- what the claimer knows
abbrev pub hand : Claimer → Hand
hand c = c.seat.me.0

-- what was fixed when the claims were made
abbrev pub terms : Claims → Terms
terms s = s.table.shared.key

abbrev pub IsOfTable : TableId → Claimer → Type 0
IsOfTable id c = c.seat.table_id ≡ id

-- a claimer of these claims
abbrev pub IsOf : Claims → Claimer → Type 0
IsOf s c = (c.seat.table_id ≡ s.table.shared.table_id) × ((hand c).total ≡ (terms s).total)

-- all the claimers of these claims
abbrev pub IsAllOf : Claims → List Claimer → Type 0
IsAllOf s cs = (length cs ≡ (terms s).workers) × All (IsOf s) cs

-- a claimer that was made just now
abbrev pub IsDealt : TableId → ℕ → Claimer → Type 0
IsDealt id total c = (c.seat.table_id ≡ id) × (hand c ≡ fresh total 1)

-- a hand that stands for all these claimers too
abbrev pub merged : Hand → List Claimer → Hand
merged v [] = v
merged v (c ∷ cs) = both (merged v cs) (hand c)
