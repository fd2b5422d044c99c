-- What is known of a pair of labels, and what settling a pair of vertices makes.
use Rattle.std.specs.Prelude.{ℕ, ◌≡◌, List, All, Some, slice_get}
use Rattle.bv_term.specs.declared.term.TermId.{TermId}
use Rattle.bv_term.specs.declared.term.Term.TheVariants.{Constant}
use Rattle.bv_term.specs.WellFormed.{Table}
use Rattle.clause_learning.specs.Solve.{IsSpent}
use Rattle.reach_tree.specs.declared.vertex.VertexId.{VertexId}
use Rattle.reach_tree.specs.Trees.{vertex_at}
use Rattle.cover_engine.specs.Unwindings.{Unwound}
use Rattle.cover_engine.specs.Units.{after_cover, after_part}
use Rattle.pair_query.specs.Laws.{AllHold, IsStoreOf, pair_of}
use Rattle.refine.specs.Witnesses.{KeepsApart}
use Rattle.refine.specs.declared.answers.Settled.{Settled}
use Rattle.refine.specs.declared.answers.Settled.TheVariants.{Covered as DidCover, Apart as DidPart, Spent as DidSpend}
use Rattle.refine.specs.declared.settling.Decision.{Decision}
use Rattle.refine.specs.declared.settling.Decision.TheVariants.{Covered, Apart, Spent}

-- the term is a conjunct of the label
abbrev pub IsConjunct : List TermId → TermId → Type 0
IsConjunct label t = (k : ℕ) × (slice_get label k ≡ Some t)

-- each conjunct of the second label is one of the first
abbrev pub IsSubset : List TermId → List TermId → Type 0
IsSubset left right = All (IsConjunct left) right

-- a conjunct of the label is the term false
abbrev pub IsClosedLabel : Table → List TermId → Type 0
IsClosedLabel table label = (t : TermId) × IsConjunct label t × (slice_get table.terms t.0 ≡ Some (Constant 1 0))

-- the first label implies the second, or a store meets the first and not the second, or the budget is spent on the question
abbrev pub IsDecision : Table → List TermId → List TermId → ℕ → Decision → Type 0
IsDecision table left right learn Covered = (store : List ℕ) → IsStoreOf table store → AllHold table store left → AllHold table store right
IsDecision table left right learn (Apart store) = KeepsApart table left right store
IsDecision table left right learn (Spent log) = IsSpent (pair_of table left right) learn log

-- one unit was made, or the budget is spent on the question
abbrev pub IsPairSettled : Unwound → Unwound → VertexId → VertexId → ℕ → Settled → Type 0
IsPairSettled old new v w learn DidCover = new ≡ after_cover old v w
IsPairSettled old new v w learn DidPart = (store : List ℕ) × (new ≡ after_part old v w store)
IsPairSettled old new v w learn (DidSpend log) =
    (new ≡ old) × IsSpent (pair_of old.terms (vertex_at old.vertices v.0).label (vertex_at old.vertices w.0).label) learn log
