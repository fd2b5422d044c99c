-- What the formulas of a path's cuts mean.
use Rattle.std.specs.Prelude.{ℕ, ◌<◌, ◌≡◌, ◌↔◌, true, List, zero, suc, length, Some, slice_get, slice_index_or}
use Rattle.bv_term.specs.declared.term.TermId.{TermId}
use Rattle.bv_term.specs.WellFormed.{Table}
use Rattle.bv_term.specs.Values.{Holds}
use Rattle.prop.specs.declared.Lit.{Lit}
use Rattle.resolution_log.specs.declared.Chain.{Chain}
use Rattle.path_query.specs.declared.query.Bundle.{Bundle}
use Rattle.path_query.specs.declared.query.PathQuery.{PathQuery}
use Rattle.interpolants.specs.declared.items.Placed.{Placed}
use Rattle.interpolants.specs.Meanings.{Agree, HasBit, read}
use Rattle.interpolants.specs.Placings.{bits_of}
use Rattle.interpolants.specs.Rules.{cut_truth, is_before, is_behind}

-- each variable that occurs before and behind the edge is that of a bit
abbrev pub AreShared : List (List Lit) → ℕ → List Placed → Type 0
AreShared clauses edge bits = (x : ℕ) → is_before clauses edge x ≡ true → is_behind clauses edge x ≡ true → HasBit bits x

-- where each variable that occurs before and behind the edge is that of a bit: the term holds in a store exactly where all bits with one
-- variable agree and the last result's truth by the rules is true, the store giving each variable the value of its first bit
abbrev pub IsCutFormula : Table → List (List Lit) → List Chain → ℕ → List Placed → TermId → Type 0
IsCutFormula table clauses log edge bits t =
    AreShared clauses edge bits → (store : List ℕ)
    → (Holds table store t) ↔ (Agree bits store × (cut_truth clauses log edge (read bits store) ≡ true))

-- how many clauses stand before the cut of a number: none before the first, and all before the last
abbrev pub edge_of : PathQuery → ℕ → ℕ
edge_of q zero = 0
edge_of q (suc k) = slice_index_or q.starts (suc k) (length q.clauses)

-- the term is the formula of the cut of this number
abbrev pub IsFormulaAt : Table → PathQuery → List Chain → ℕ → TermId → Type 0
IsFormulaAt table q log k t =
    (bundles : List Bundle) → slice_get q.cuts k ≡ Some bundles → IsCutFormula table q.clauses log (edge_of q k) (bits_of bundles) t

-- each of the terms but the first and the last is the formula of its cut
abbrev pub AreCutFormulas : Table → PathQuery → List Chain → List TermId → Type 0
AreCutFormulas table q log fs =
    (k : ℕ) (t : TermId) → 0 < k → k < length q.starts → slice_get fs k ≡ Some t → IsFormulaAt table q log k t
