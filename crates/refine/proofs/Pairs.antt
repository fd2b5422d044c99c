-- A settled pair is a legal unit.
use Rattle.std.proofs.Common.{◌≡◌, ℕ, ◌<◌, ◌&&◌, Bool, true, false, not, List, length, refl, sym, ap, ◌∙◌, subst, arith, Some, slice_get, slice_index_or, suc, zero, [], ◌∷◌}
use Rattle.prop.specs.Logic.{all_hold}
use Rattle.prop.specs.Trues.{listed}
use Rattle.bv_term.specs.declared.term.TermId.{TermId}
use Rattle.bv_term.specs.declared.term.Term.TheVariants.{Constant}
use Rattle.bv_term.specs.WellFormed.{Table, IsTable}
use Rattle.bv_term.specs.Values.{Holds, IsStore, value}
use Rattle.term_laws.proofs.Made.{made}
use Rattle.c_graph.specs.Shape.{Flow, widths_of}
use Rattle.c_graph.specs.Steps.{IsWhole}
use Rattle.resolution_log.specs.declared.Chain.{Chain}
use Rattle.resolution_log.proofs.Refuting.{lean_refutes}
use Rattle.resolution_log.proofs.Results.{refutation_sound}
use Rattle.clause_learning.specs.Solve.{IsRefuted}
use Rattle.reach_tree.specs.declared.vertex.VertexId.{VertexId}
use Rattle.reach_tree.specs.Trees.{vertex_at}
use Rattle.cover_engine.specs.Unwindings.{Unwound, may_pair, may_settle, stays_apart}
use Rattle.cover_engine.specs.Units.{CanCover, CanPart, Legal}
use Rattle.pair_query.specs.Laws.{AllHold, AreBits, IsStoreOf, pair_of, store_read}
use Rattle.pair_query.proofs.Exact.{pair_exact, pair_read}
use Rattle.refine.specs.Decisions.{IsClosedLabel, IsConjunct, IsSubset}
use Rattle.refine.specs.Witnesses.{KeepsApart}

abbrev Implied : Table → List TermId → List TermId → Type 0
Implied table left right = (store : List ℕ) → IsStoreOf table store → AllHold table store left → AllHold table store right

get_at : (ts : List TermId) (k : ℕ) (t : TermId) → slice_get ts k ≡ Some t → (k < length ts) × (slice_index_or ts k t ≡ t)
get_at [] k t e = absurd cc
get_at (x ∷ ts) zero t e = (omega arith, cc)
get_at (x ∷ ts) (suc k) t e = let r = get_at ts k t e in (omega (arith, r.0), r.1)

holds_conjunct : (table : Table) (store : List ℕ) (label : List TermId) (t : TermId) → IsConjunct label t → AllHold table store label → Holds table store t
holds_conjunct table store label t c met =
    let g = get_at label c.0 t c.1 in
    subst (Holds table store) g.1 (met c.0 t g.0)

-- a label that has the other's conjuncts implies it
pub subset_implies : (table : Table) (left right : List TermId) → IsSubset left right → Implied table left right
subset_implies table left right s store of met = λ k d lt. holds_conjunct table store left (slice_index_or right k d) (s k d lt) met

-- a closed label implies each
pub closed_implies : (table : Table) (left right : List TermId) → IsTable table → IsClosedLabel table left → Implied table left right
closed_implies table left right is c store of met =
    let h : value table store c.0 ≡ 1 = holds_conjunct table store left c.0 c.1 met in
    let z : value table store c.0 ≡ 0 = (made table store c.0 (Constant 1 0) is c.2).value in
    absurd (omega (arith, h, z))

-- a refuted pair
pub refuted_implies : (table : Table) (left right : List TermId) (learn : ℕ) (log : List Chain) → IsTable table → AreBits table left → AreBits table right
    → IsRefuted (pair_of table left right) learn log → Implied table left right
refuted_implies table left right learn log is l r h =
    (pair_exact table left right is l r).0 (λ v all. refutation_sound (pair_of table left right) log (lean_refutes (pair_of table left right) log h.0) v all)

-- a satisfied one
pub satisfied_parts : (table : Table) (left right : List TermId) (trues : List ℕ) (store : List ℕ) → IsTable table → AreBits table left → AreBits table right
    → all_hold (listed trues) (pair_of table left right) ≡ true → store ≡ store_read table (listed trues) → KeepsApart table left right store
satisfied_parts table left right trues store is l r all e =
    let q = pair_read table left right (listed trues) is l r all in
    subst (KeepsApart table left right) (sym e) (record { store = q.0; meets = q.1; misses = q.2 })

-- stores of the table are those of the graph
to_table : (g : Flow) (table : Table) (store : List ℕ) → table.cells ≡ widths_of g.cells → IsWhole (widths_of g.cells) store → IsStoreOf table store
to_table g table store e w = record { fits = subst (λ (cs : List ℕ). IsStore cs store) (sym e) w.fits; whole = w.length ∙ ap length (sym e) }

to_graph : (g : Flow) (table : Table) (store : List ℕ) → table.cells ≡ widths_of g.cells → IsStoreOf table store → IsWhole (widths_of g.cells) store
to_graph g table store e w = record { length = w.whole ∙ ap length e; fits = subst (λ (cs : List ℕ). IsStore cs store) e w.fits }

both-left : (a b : Bool) → a && b ≡ true → a ≡ true
both-left true b e = refl
both-left false b e = absurd cc

pub may_be_pair : (u : Unwound) (v w : VertexId) → may_settle u v w ≡ true → may_pair u v w ≡ true
may_be_pair u v w e = both-left (may_pair u v w) (not (stays_apart u.apart u.vertices v w)) e

pub can_cover : (g : Flow) (u : Unwound) (v w : VertexId) (left right : List TermId) → Legal g u → v.0 < length u.vertices → w.0 < length u.vertices → may_settle u v w ≡ true
    → left ≡ (vertex_at u.vertices v.0).label → right ≡ (vertex_at u.vertices w.0).label → Implied u.terms left right → CanCover g u v w
can_cover g u v w left right legal lv lw may el er h = record {
  left = lv;
  right = lw;
  pair = may_be_pair u v w may;
  implies = λ store whole met.
      subst (AllHold u.terms store) er (h store (to_table g u.terms store legal.cells whole) (subst (AllHold u.terms store) (sym el) met));
}

pub can_part : (g : Flow) (u : Unwound) (v w : VertexId) (left right : List TermId) (store : List ℕ) → Legal g u → v.0 < length u.vertices → w.0 < length u.vertices
    → may_settle u v w ≡ true → left ≡ (vertex_at u.vertices v.0).label → right ≡ (vertex_at u.vertices w.0).label
    → KeepsApart u.terms left right store → CanPart g u v w store
can_part g u v w left right store legal lv lw may el er k = record {
  left = lv;
  right = lw;
  pair = may;
  whole = to_graph g u.terms store legal.cells k.store;
  meets = subst (AllHold u.terms store) el k.meets;
  misses = λ met. k.misses (subst (AllHold u.terms store) (sym er) met);
}
