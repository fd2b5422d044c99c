-- The rule of the two words: what holds between any two steps, and what a step tells.
use Rattle.std.specs.Prelude.{◌≡◌, ℕ, ◌+◌, ◌<◌, ◌≤◌, min, List, [], ◌∷◌}
use mathlib.Core.Option.{some}
use lib.ListN.{get_elem?}
use Rattle.atomic_table.specs.Table.{State, Me, Step}
use Rattle.work_claims.specs.declared.knowledge.Hand.{Hand}
use Rattle.work_claims.specs.declared.knowledge.Terms.{Terms}
use Rattle.work_claims.specs.Counts.{times, once_below, least, total_of, least_of, Among}
use Rattle.work_claims.specs.Hands.{spent, taken, with_report, with_answer}

-- One hand. Who stands for no claimer has handed all over
pub record Fits (k : Terms) (v : Hand) : Type 0 where
  pub idle : v.parts ≡ 0 → v ≡ spent
  pub told : 0 < v.parts → v.total ≡ k.total
  pub once : v.finishes ≤ v.parts
  pub own : Among v.reported v.given

-- The two words beside all hands
pub record Facts (k : Terms) (next lowest : ℕ) (views : List Hand) : Type 0 where
  pub small : k.total + k.workers < 4294967295
  pub parts : total_of (λ v. v.parts) views ≡ k.workers
  -- the numbers given to all claimers are the numbers below both `next` and the total, each given once
  pub given : (x : ℕ) → total_of (λ v. times x v.given) views ≡ once_below x (min next k.total)
  -- `next` is at most the total plus the number of finished claimers, and at the total or above where there is one
  pub room : next ≤ k.total + total_of (λ v. v.finishes) views
  pub ended : 0 < total_of (λ v. v.finishes) views → k.total ≤ next
  -- the second word is the least reported number, and not above any answer that a claimer had
  pub told : lowest ≡ least_of (λ v. least v.reported) views
  pub answered : lowest ≤ least_of (λ v. v.least) views
  pub each : (id : ℕ) (v : Hand) → get_elem? views id ≡ some v → Fits k v

pub record Kept (k : Terms) (s : State (Unit {0}) Hand) : Type 0 where
  pub next : ℕ
  pub lowest : ℕ
  pub words : s.words ≡ next ∷ lowest ∷ []
  pub facts : Facts k next lowest s.views

abbrev pub Takes : Step (Unit {0}) → Me (Unit {0}) Hand → ℕ → Me (Unit {0}) Hand → Type 0
Takes st v found w = (w.1 ≡ v.1) × (w.0 ≡ taken v.0 found)

abbrev pub Tells : Step (Unit {0}) → Me (Unit {0}) Hand → ℕ → Me (Unit {0}) Hand → Type 0
Tells st v found w = (w.1 ≡ v.1) × (w.0 ≡ with_report v.0 st.first)

abbrev pub Looks : Step (Unit {0}) → Me (Unit {0}) Hand → ℕ → Me (Unit {0}) Hand → Type 0
Looks st v found w = (w.1 ≡ v.1) × (w.0 ≡ with_answer v.0 found) × (found ≤ least v.0.reported) × (found ≤ v.0.least) × (found ≤ 4294967295)
