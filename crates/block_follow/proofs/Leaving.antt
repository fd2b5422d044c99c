-- Edges that leave a node, and cut points by number.
use Rattle.std.proofs.Common.{◌≡◌, ◌⊎◌, ◌<◌, ◌≤◌, ◌+◌, ℕ, true, List, length, get_or, slice_get, Some, inl, inr, refl, sym, ◌∙◌, subst, arith}
use Rattle.std.proofs.lemmas.Bool.{cases_lt}
use Rattle.std.proofs.lemmas.Option.{slice_get_read, slice_get_within}
use Rattle.c_graph.specs.declared.graph.Edge.{Edge}
use Rattle.c_graph.specs.declared.graph.EdgeId.{EdgeId}
use Rattle.c_graph.specs.declared.graph.Node.TheVariants.{Plain}
use Rattle.c_graph.specs.Shape.{Flow, IsFlow, outs}
use Rattle.c_graph.proofs.Keeping.{edge-fits}
use Rattle.block_rule.specs.Plans.{Plan, matters}
use Rattle.block_rule.specs.Blocked.{Begins, Keeps}
use Rattle.block_edges.specs.Exact.{HasKept}
use Rattle.block_steps.proofs.Leaving.{edge_id, leaving}
use Rattle.block_follow.specs.Following.{AreCopies, AreKept, AreMade, AreOver, AreWithin, Follows, IsKept, IsKeptEdge, IsOver, IsSame}

-- a node keeps its edges where each of its outs is kept
pub keeps-all : (g h : Flow) (plan : Plan) (v : ℕ) (ids : List EdgeId) → ids ≡ outs g (record { 0 = v }) → AreKept g h plan v ids → Keeps g h plan v
keeps-all g h plan v ids is kept k e there from m =
    let (j, at) = leaving g (record { 0 = v }) k e there from in
    kept j (edge_id k) (subst (λ (xs : List EdgeId). slice_get xs j ≡ Some (edge_id k)) (sym is) at) e there m

-- and has no others where all that lead from it are made of them
pub has-kept : (g h : Flow) (plan : Plan) (v from to : ℕ) (ids : List EdgeId) → ids ≡ outs g (record { 0 = v }) → AreKept g h plan v ids
    → AreMade g h plan v from to → AreWithin h v from to → HasKept g h plan v
has-kept g h plan v from to ids is kept made within = record {
  keeps = keeps-all g h plan v ids is kept;
  none_else = λ k e there leads. let (le, lt) = within k e there leads in made k le lt e there;
}

-- what holds of each listed number holds of all edges from the node
pub all-within : (h : Flow) (v from to : ℕ) (ids : List EdgeId) → ids ≡ outs h (record { 0 = v })
    → ((j : ℕ) (id : EdgeId) → slice_get ids j ≡ Some id → (from ≤ id.0) × (id.0 < to)) → AreWithin h v from to
all-within h v from to ids is within k e there leads =
    let (j, at) = leaving h (record { 0 = v }) k e there leads in
    within j (edge_id k) (subst (λ (xs : List EdgeId). slice_get xs j ≡ Some (edge_id k)) (sym is) at)

pub all-over : (h : Flow) (v : ℕ) (ids : List EdgeId) → ids ≡ outs h (record { 0 = v })
    → ((j : ℕ) (id : EdgeId) → slice_get ids j ≡ Some id → IsOver h v id.0) → AreOver h v
all-over h v ids is over k e there leads =
    let (j, at) = leaving h (record { 0 = v }) k e there leads in
    over j (edge_id k) (subst (λ (xs : List EdgeId). slice_get xs j ≡ Some (edge_id k)) (sym is) at) e there

pub kept-number : (g h : Flow) (plan : Plan) (v k : ℕ) (es : List Edge) (x : Edge) → es ≡ g.edges → k < length es → x ≡ get_or es k x
    → IsKeptEdge g h plan v x → IsKept g h plan v k
kept-number g h plan v k es x same lt is kept e there =
    let here : slice_get g.edges k ≡ Some x = subst (λ (xs : List Edge). slice_get xs k ≡ Some x) same (slice_get_read es (length es) k x refl lt is) in
    let both : Some x ≡ Some e = sym here ∙ there in
    let one : x ≡ e = cc in
    subst (λ (z : Edge). IsKeptEdge g h plan v z) one kept

pub kept-more : (g h : Flow) (plan : Plan) (v n : ℕ) (ids : List EdgeId) (id : EdgeId) → n < length ids → id ≡ get_or ids n id → IsKept g h plan v id.0
    → ((j : ℕ) (x : EdgeId) → j < n → slice_get ids j ≡ Some x → IsKept g h plan v x.0)
    → (j : ℕ) (x : EdgeId) → j < n + 1 → slice_get ids j ≡ Some x → IsKept g h plan v x.0
kept-more g h plan v n ids id lt is kept before j x less get = elim (cases_lt j n) [
  | inl a ↦ before j x a get
  | inr b ↦
      let e : n ≡ j = omega (arith, b, less) in
      let here : slice_get ids n ≡ Some id = slice_get_read ids (length ids) n id refl lt is in
      let there : slice_get ids n ≡ Some x = subst (λ (i : ℕ). slice_get ids i ≡ Some x) (sym e) get in
      let both : Some id ≡ Some x = sym here ∙ there in
      let one : id ≡ x = cc in
      subst (λ (z : EdgeId). IsKept g h plan v z.0) one kept
]

-- each cut point that matters begins a block or keeps its edges; no edge leads from a number past the nodes
pub blocks-all : (g h : Flow) (plan : Plan) (weight : ℕ → ℕ) (n : ℕ) → IsFlow g → n ≡ length g.nodes → ((v : ℕ) → v < n → Follows g h plan weight v)
    → (v : ℕ) → plan.cuts v ≡ true → matters plan v ≡ true → Begins g h plan v ⊎ Keeps g h plan v
blocks-all g h plan weight n flow is f v cut m = elim (cases_lt v n) [
  | inl lt ↦ elim (f v lt cut m).0 [ inl block ↦ inl block.begins | inr kept ↦ inr kept.keeps ]
  | inr ge ↦ inr
      (λ k e there from _.
      let fits : slice_get g.nodes e.from.0 ≡ Some Plain = (edge-fits g k e flow there).from in
      let within : e.from.0 < length g.nodes = slice_get_within g.nodes e.from.0 Plain fits in
      absurd (omega (arith, within, from, is, ge)))
]

pub follows-more : (g h : Flow) (plan : Plan) (weight : ℕ → ℕ) (n : ℕ) → Follows g h plan weight n → ((v : ℕ) → v < n → Follows g h plan weight v)
    → (v : ℕ) → v < n + 1 → Follows g h plan weight v
follows-more g h plan weight n here before v lt = elim (cases_lt v n) [
  | inl a ↦ before v a
  | inr b ↦ let e : n ≡ v = omega (arith, b, lt) in subst (λ (w : ℕ). Follows g h plan weight w) e here
]

-- edges that are copies of an edge of the graph are made of it
pub made-of : (g h : Flow) (plan : Plan) (v k from to : ℕ) (es : List Edge) (x : Edge) → es ≡ g.edges → k < length es → x ≡ get_or es k x
    → AreCopies g h plan v x from to → AreMade g h plan v from to
made-of g h plan v k from to es x same lt is copies i le less e there =
    let here : slice_get g.edges k ≡ Some x = subst (λ (xs : List Edge). slice_get xs k ≡ Some x) same (slice_get_read es (length es) k x refl lt is) in
    let (leads, alive, alike) = copies i le less in
    let (goal, are) = alike e there in
    (k, (x, here, leads, goal, alive, are))

pub made-more : (g h : Flow) (plan : Plan) (v from mid to : ℕ) → AreMade g h plan v from mid → AreMade g h plan v mid to → AreMade g h plan v from to
made-more g h plan v from mid to first second k le lt = elim (cases_lt k mid) [
  | inl less ↦ first k le less
  | inr more ↦ second k more lt
]

pub one-copy : (g h : Flow) (plan : Plan) (v at : ℕ) (f : Edge) → f.from.0 ≡ v → matters plan f.to.0 ≡ true → IsSame g h at f → AreCopies g h plan v f at (at + 1)
one-copy g h plan v at f leads alive same k le lt =
    let e : at ≡ k = omega (arith, le, lt) in
    (leads, alive, subst (λ (n : ℕ). IsSame g h n f) e same)
