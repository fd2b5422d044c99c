-- A chain is made from the leaf up.
use Rattle.std.proofs.Common.{◌≡◌, ℕ, ◌+◌, ◌-◌, ◌<◌, Bool, true, false, List, [], ◌∷◌, ◌++◌, length, refl, sym, ap, ◌∙◌, subst, arith, zero, suc, Option, Some, None, reverse, slice_index_or}
use Rattle.std.specs.Prelude.{All, Contains}
use Rattle.std.proofs.lemmas.List.{reverse-append, reverse-reverse}
use Rattle.bv_term.specs.declared.term.TermId.{TermId}
use Rattle.c_graph.specs.declared.graph.EdgeId.{EdgeId}
use Rattle.c_graph.specs.Shape.{HasWidth}
use Rattle.reach_tree.specs.declared.vertex.VertexId.{VertexId}
use Rattle.reach_tree.specs.declared.vertex.Vertex.{Vertex}
use Rattle.reach_tree.specs.Trees.{vertex_at}
use Rattle.needed_cells.specs.Reads.{OnlyNames, needed_along, needed_by_all, operations_of}
use Rattle.cover_engine.specs.Unwindings.{path_of, path_up}
use Rattle.cover_engine.specs.Units.{Links, NameNeeded, edges_to}
use Rattle.cover_engine.proofs.RefineLemmas.{path-more}
use Rattle.cover_engine.proofs.Subtrees.{path_none}
use Rattle.loop_journey.specs.declared.formula.Formula.{Formula}
use Rattle.loop_journey.specs.declared.formula.Formula.TheVariants.{Always, IsZero, Never}
use Rattle.loop_journey.specs.Loop.{is_followed, label_table, loop_flow, term_of}
use Rattle.loop_journey.specs.Chains.{Climbed, IsChain, follows_by}
use Rattle.loop_journey.proofs.Following.{follows, has_width, needs, only_names}

all_cons : (P : TermId → Type 0) (t : TermId) (ts : List TermId) → P t → All P ts → All P (t ∷ ts)
all_cons P t ts h all k d lt = elim k as (λ j. j < suc (length ts) → P (slice_index_or (t ∷ ts) j d)) [ zero ↦ (λ _. h) | suc j ↦ (λ l. all j d (omega (arith, l))) ] lt

all_none : (P : TermId → Type 0) → All P []
all_none P k d lt = absurd (omega (arith, lt))

-- at the leaf
pub at_leaf : (last : ℕ) (vs : List Vertex) (leaf : VertexId) (formulas : List TermId) → formulas ≡ term_of Never ∷ []
    → Climbed last vs leaf (length vs) leaf.0 formulas Never
at_leaf last vs leaf formulas is = record {
  under = [];
  later = [];
  path = refl;
  made = ap reverse is;
  terms = all_cons (λ t. HasWidth label_table t 1) (term_of Never) [] (has_width Never) (all_none (λ t. HasWidth label_table t 1));
  links = refl;
  names = (only_names Never [] (λ e. absurd (cc)), tt);
  needed = λ e. absurd (cc);
}

-- one vertex up
pub one_up : (last : ℕ) (vs : List Vertex) (leaf : VertexId) (left at : ℕ) (formulas more : List TermId) (below f : Formula) (p : VertexId) (e : EdgeId)
    → Climbed last vs leaf left at formulas below → 0 < left → Some p ≡ (vertex_at vs at).parent → (vertex_at vs at).by ≡ Some e
    → is_followed f e.0 below ≡ true → more ≡ formulas ++ term_of f ∷ [] → Climbed last vs leaf (left - 1) p.0 more f
one_up last vs leaf left at formulas more below f p e c lt parent by follow is =
    let along : needed_along (loop_flow last) (edges_to vs (at ∷ c.under)) ≡ needed_by_all (loop_flow last).terms (operations_of (loop_flow last).edges e.0) (needed_along (loop_flow last) (edges_to vs c.under)) = rw by refl in
    let needed' : f ≡ IsZero → Contains (needed_along (loop_flow last) (edges_to vs (at ∷ c.under))) 0 = λ z. subst (λ (cells : List ℕ). Contains cells 0) (sym along) (needs last e f below (needed_along (loop_flow last) (edges_to vs c.under)) follow c.needed z) in
    record {
      under = at ∷ c.under;
      later = term_of below ∷ c.later;
      path = path-more vs (reverse c.under) (reverse (at ∷ c.under)) (path_of vs leaf) left at p lt parent (reverse-append (at ∷ []) c.under) c.path;
      made = ap reverse is ∙ reverse-append formulas (term_of f ∷ []) ∙ ap (λ (ts : List TermId). term_of f ∷ ts) c.made;
      terms = all_cons (λ t. HasWidth label_table t 1) (term_of f) (term_of below ∷ c.later) (has_width f) c.terms;
      links = ((e, by, follows last e f below follow), c.links);
      names = (only_names f (needed_along (loop_flow last) (edges_to vs (at ∷ c.under))) needed', c.names);
      needed = needed';
    }

-- at the root
pub at_root : (last : ℕ) (vs : List Vertex) (leaf : VertexId) (left at : ℕ) (formulas : List TermId) → Climbed last vs leaf left at formulas Always
    → 0 < left → (vertex_at vs at).parent ≡ None → IsChain last vs leaf (reverse formulas)
at_root last vs leaf zero at formulas c lt none = absurd (omega (arith, lt))
at_root last vs leaf (suc left) at formulas c lt none =
    let down : reverse (path_of vs leaf) ≡ at ∷ c.under =
    ap reverse (sym c.path ∙ ap (λ (xs : List ℕ). reverse c.under ++ xs) (path_none vs left at none)) ∙ reverse-append (reverse c.under) (at ∷ []) ∙ ap (λ (xs : List ℕ). at ∷ xs) (reverse-reverse c.under) in
    subst (IsChain last vs leaf) (sym c.made) (record {
      terms = c.terms;
      first = refl;
      links = subst (λ (xs : List ℕ). Links (loop_flow last) label_table vs xs (term_of Always ∷ c.later)) (sym down) c.links;
      names = subst (λ (xs : List ℕ). NameNeeded (loop_flow last) label_table vs xs (term_of Always ∷ c.later)) (sym down) c.names;
    })

-- one vertex up by the edge that is there, if there is one
pub one_up_by : (last : ℕ) (vs : List Vertex) (leaf : VertexId) (left at : ℕ) (formulas more : List TermId) (below f : Formula) (p : VertexId) (o : Option EdgeId)
    → Climbed last vs leaf left at formulas below → 0 < left → Some p ≡ (vertex_at vs at).parent → (vertex_at vs at).by ≡ o
    → follows_by f o below ≡ true → more ≡ formulas ++ term_of f ∷ [] → Climbed last vs leaf (left - 1) p.0 more f
one_up_by last vs leaf left at formulas more below f p None c lt parent by follow is = absurd (cc)
one_up_by last vs leaf left at formulas more below f p (Some e) c lt parent by follow is = one_up last vs leaf left at formulas more below f p e c lt parent by follow is
