-- Errors and visits kept by a graph with joined chains, and by one graph after another.
use Rattle.std.proofs.Common.{Bool, true, false, if◌then◌else◌, Result, Ok, Err, IfOk, ◌≡◌, ◌⊎◌, inl, inr, List, [], ◌++◌, length, refl, sym, ap, ◌∙◌, subst, arith, slice_get, append_assoc, append-nil}
use Rattle.bv_term.specs.WellFormed.{Table}
use Rattle.c_graph.specs.declared.graph.Cell.{Cell}
use Rattle.c_graph.specs.declared.graph.Edge.{Edge}
use Rattle.c_graph.specs.declared.graph.LoopAt.{LoopAt}
use Rattle.c_graph.specs.declared.graph.Node.{Node}
use Rattle.c_graph.specs.declared.graph.NodeId.{NodeId}
use Rattle.c_graph.specs.Parts.{error_flow}
use Rattle.c_graph.specs.Shape.{Flow, IsFlow}
use Rattle.edge_chains.specs.Joining.{IsJoined}
use Rattle.edge_chains.specs.Made.{join_chains}
use Rattle.edge_chain_laws.specs.Keeping.{with_edges}
use Rattle.edge_chain_back_laws.proofs.Unjoining.{chain_paths_come_back}
use Rattle.join_laws.specs.Keeping.{KeepsErrors}
use Rattle.join_laws.specs.Visits.{KeepsStores, KeepsVisits}
use Rattle.join_laws.proofs.Errors.{chains_keep}
use Rattle.join_laws.proofs.Visits.{chains_keep_loops}
use Rattle.block_emission.specs.Whole.{is_flow, whole}
use Rattle.block_join.specs.Made as made
use Rattle.block_join.specs.Joined.{ChainsReturn, HasMore, IsChained, Stays}

pub weaken : {A : Type 0} → {E : Type 0} → (r : Result A E) (P Q : A → Type 0) → ((x : A) → P x → Q x) → IfOk r P → IfOk r Q
weaken (Ok x) P Q f h = f x h
weaken (Err e) P Q f h = tt

abbrev flow : List Node → List Edge → List Cell → Table → NodeId → List LoopAt → Flow
flow nodes edges cells terms entry loops = record { nodes = nodes; edges = edges; cells = cells; terms = terms; entry = entry; loops = loops }

-- the parts of a graph with other edges
same-parts : (g : Flow) (nodes : List Node) (joined : List Edge) (cells : List Cell) (terms : Table) (entry : NodeId) (loops : List LoopAt)
    → nodes ≡ g.nodes → cells ≡ g.cells → terms ≡ g.terms → entry ≡ g.entry → loops ≡ g.loops
    → flow nodes joined cells terms entry loops ≡ with_edges g joined
same-parts g nodes joined cells terms entry loops a b c d e =
    ap (λ (x : List Node). flow x joined cells terms entry loops) a
    ∙ ap (λ (x : List Cell). flow g.nodes joined x terms entry loops) b
    ∙ ap (λ (x : Table). flow g.nodes joined g.cells x entry loops) c
    ∙ ap (λ (x : NodeId). flow g.nodes joined g.cells g.terms x loops) d
    ∙ ap (λ (x : List LoopAt). flow g.nodes joined g.cells g.terms g.entry x) e

-- the graph that parts make is the one of these parts, or the one that stands where they make none
pub whole-cases : (g h : Flow) → h ≡ whole g → (h ≡ g) ⊎ (h ≡ error_flow)
whole-cases g h e = choose (is_flow g) refl
  where
    choose : (b : Bool) → is_flow g ≡ b → (h ≡ g) ⊎ (h ≡ error_flow)
    choose true t = inl (e ∙ ap (λ (b : Bool). if b then g else error_flow) t)
    choose false t = inr (e ∙ ap (λ (b : Bool). if b then g else error_flow) t)

-- the parts of a graph with its joined edges make the graph with joined chains
pub joined-made : (g : Flow) (nodes given : List Node) (edges joined : List Edge) (cells : List Cell) (terms : Table) (entry : NodeId) (loops places : List LoopAt)
    → given ≡ nodes → places ≡ loops → nodes ≡ g.nodes → edges ≡ g.edges → cells ≡ g.cells → terms ≡ g.terms → entry ≡ g.entry → loops ≡ g.loops
    → joined ≡ join_chains given edges entry places → whole (flow nodes joined cells terms entry loops) ≡ made.chained g
joined-made g nodes given edges joined cells terms entry loops places n l a o b c d e m =
    let all : joined ≡ join_chains g.nodes g.edges g.entry g.loops =
    m ∙ ap (λ (x : List Node). join_chains x edges entry places) (n ∙ a)
    ∙ ap (λ (x : List Edge). join_chains g.nodes x entry places) o
    ∙ ap (λ (x : NodeId). join_chains g.nodes g.edges x places) d
    ∙ ap (λ (x : List LoopAt). join_chains g.nodes g.edges g.entry x) (l ∙ e) in
    ap whole (same-parts g nodes joined cells terms entry loops a b c d e ∙ ap (with_edges g) all)

-- the graph of a graph's parts and joined edges
pub chained : (g h : Flow) (nodes : List Node) (edges joined : List Edge) (cells : List Cell) (terms : Table) (entry : NodeId) (loops : List LoopAt)
    → nodes ≡ g.nodes → edges ≡ g.edges → cells ≡ g.cells → terms ≡ g.terms → entry ≡ g.entry → loops ≡ g.loops
    → IsJoined nodes loops entry edges joined
    → (h ≡ record { nodes = nodes; edges = joined; cells = cells; terms = terms; entry = entry; loops = loops }) ⊎ (h ≡ error_flow)
    → IsChained g h ⊎ (h ≡ error_flow)
chained g h nodes edges joined cells terms entry loops a o b c d e is (inl made) =
    let one : IsJoined g.nodes loops entry edges joined = subst (λ (x : List Node). IsJoined x loops entry edges joined) a is in
    let two : IsJoined g.nodes g.loops entry edges joined = subst (λ (x : List LoopAt). IsJoined g.nodes x entry edges joined) e one in
    let at_entry : IsJoined g.nodes g.loops g.entry edges joined = subst (λ (x : NodeId). IsJoined g.nodes g.loops x edges joined) d two in
    let all : IsJoined g.nodes g.loops g.entry g.edges joined = subst (λ (x : List Edge). IsJoined g.nodes g.loops g.entry x joined) o at_entry in
    let whole : h ≡ with_edges g joined = made ∙ same-parts g nodes joined cells terms entry loops a b c d e in
    inl (joined, (all, whole))
chained g h nodes edges joined cells terms entry loops a o b c d e is (inr none) = inr none

-- the graph that stands where parts make none has no more than a node
no-more : (h : Flow) → HasMore h → h ≡ error_flow → ⊥
no-more h (inl some) is = omega (arith, some, ap (λ (x : Flow). length x.nodes) is)
no-more h (inr (inl some)) is = omega (arith, some, ap (λ (x : Flow). length x.edges) is)
no-more h (inr (inr some)) is = omega (arith, some, ap (λ (x : Flow). length x.cells) is)

pub chained-keeps : (g h : Flow) → IsChained g h ⊎ (h ≡ error_flow) → HasMore h → KeepsErrors g h
chained-keeps g h (inl (new, (is, whole))) more = subst (λ (x : Flow). KeepsErrors g x) (sym whole) (chains_keep g new is)
chained-keeps g h (inr none) more = absurd (no-more h more none)

pub chained-visits : (g h : Flow) → IsChained g h ⊎ (h ≡ error_flow) → HasMore h → KeepsStores g h
chained-visits g h (inl (new, (is, whole))) more = subst (λ (x : Flow). KeepsStores g x) (sym whole) (chains_keep_loops g new is)
chained-visits g h (inr none) more = absurd (no-more h more none)

pub stays-own : (g : Flow) → Stays g g
stays-own g = record { nodes = ([], sym (append-nil g.nodes)); cells = ([], sym (append-nil g.cells)); entry = refl; loops = refl }

pub chained-stays : (g h : Flow) → IsChained g h ⊎ (h ≡ error_flow) → HasMore h → Stays g h
chained-stays g h (inl (new, (is, whole))) more =
    let own = stays-own g in
    subst (λ (x : Flow). Stays g x) (sym whole) (record { nodes = own.nodes; cells = own.cells; entry = refl; loops = refl })
chained-stays g h (inr none) more = absurd (no-more h more none)

pub chained-back : (g h : Flow) → IsFlow g → IsChained g h ⊎ (h ≡ error_flow) → HasMore h → ChainsReturn g h
chained-back g h flow (inl (new, (is, whole))) more = subst (λ (x : Flow). ChainsReturn g x) (sym whole) (λ weight. chain_paths_come_back g new weight flow is)
chained-back g h flow (inr none) more = absurd (no-more h more none)

-- a graph keeps its own errors
pub keeps-own : (g : Flow) → KeepsErrors g g
keeps-own g draws kind at met = met

pub stores-own : (g : Flow) → KeepsStores g g
stores-own g draws k l after there run = run

-- one graph after another
pub stays-on : (g b h : Flow) → Stays g b → Stays b h → Stays g h
stays-on g b h first second =
    let (n, ns) = first.nodes in
    let (m, ms) = second.nodes in
    let (c, cs) = first.cells in
    let (d, ds) = second.cells in record {
      nodes = (n ++ m, ms ∙ ap (λ (x : List Node). x ++ m) ns ∙ append_assoc g.nodes n m);
      cells = (c ++ d, ds ∙ ap (λ (x : List Cell). x ++ d) cs ∙ append_assoc g.cells c d);
      entry = second.entry ∙ first.entry;
      loops = second.loops ∙ first.loops;
    }

pub stores-visit : (g h : Flow) → KeepsStores g h → KeepsVisits g h
stores-visit g h stores draws k l after there run = (after, (stores draws k l after there run, λ c lt needed. refl))

pub visits-on : (g b h : Flow) → b.loops ≡ g.loops → KeepsVisits g b → KeepsStores b h → KeepsVisits g h
visits-on g b h loops first second draws k l after there run =
    let (end, (mid, agree)) = first draws k l after there run in
    (end, (second draws k l end (ap (λ (x : List LoopAt). slice_get x k) loops ∙ there) mid, agree))

pub kept-on : (g b h : Flow) → KeepsErrors g b → KeepsErrors b h → KeepsErrors g h
kept-on g b h first second draws kind at met = second draws kind at (first draws kind at met)
