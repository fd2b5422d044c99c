-- The node at which a function returns stands behind those of all its places.
use Rattle.std.proofs.Common.{◌≡◌, ◌⊎◌, inl, inr, ℕ, zero, suc, ◌+◌, ◌-◌, ◌<◌, Bool, true, false, List, [], ◌∷◌, length, sym, ap, ◌∙◌, subst, arith, Some, slice_get}
use Rattle.std.proofs.lemmas.List.{length-append}
use Rattle.bv_term.specs.WellFormed.{Table}
use Rattle.c_graph.specs.declared.graph.NodeId.{NodeId}
use Rattle.c_graph.specs.declared.graph.Node.{Node}
use Rattle.c_graph.specs.declared.graph.Edge.{Edge}
use Rattle.c_graph.specs.Functions.{FnFlow}
use Rattle.slot_code.specs.declared.flat.Instruction.{Instruction}
use Rattle.slot_code.specs.declared.flat.Instruction.TheVariants as i
use Rattle.c_terms.specs.declared.failing.Tests.{Tests}
use Rattle.c_terms.specs.declared.failing.Tests.TheVariants as t
use Rattle.code_moves.specs.Setting.{Setting}
use Rattle.cfg_build.specs.Steps.{checked_nodes, offset_of, Checked}
use Rattle.cfg_build.specs.Follows.{Plan, Follows, FirstFollow, PlacesFollow}
use Rattle.cfg_build.specs.Graphs.{GraphFollows}
use Rattle.code_flow_laws.proofs.Inside.{below-last}

module _ (p : Plan) (g : Setting) (table : Table) where
  one-node : (nodes : List Node) (x : Node) → nodes ≡ x ∷ [] → 0 < length nodes
  one-node nodes x e = let q : length nodes ≡ 1 = ap length e in omega (arith, q)

  some-tests : (at : ℕ) (tests : Tests) → 0 < length (checked_nodes at tests)
  some-tests at t.None = omega arith
  some-tests at (t.One f) = omega arith
  some-tests at (t.Two f k) = omega arith

  some-checked : (x : Instruction) (next : NodeId) (n : ℕ) (nodes : List Node) (edges : List Edge) → Checked g table x next n nodes edges → 0 < length nodes
  some-checked x next n nodes edges c = subst (λ (zs : List Node). 0 < length zs) (sym (c.behind).nodes_are) (some-tests (offset_of x) c.tests)

  some-node : (place : ℕ) (x : Instruction) (n : ℕ) (nodes : List Node) (edges : List Edge) → Follows p g table place x n nodes edges → 0 < length nodes
  some-node place (i.Fail kind at) n nodes edges h = one-node nodes _ h.0
  some-node place i.Stop n nodes edges h = one-node nodes _ h.0
  some-node place (i.Call at goal slot) n nodes edges h = one-node nodes _ h.nodes_are
  some-node place (i.Return slot) n nodes edges h = one-node nodes _ h.0
  some-node place (i.Jump skip) n nodes edges h = one-node nodes _ h.0
  some-node place (i.Turn at goal) n nodes edges h = one-node nodes _ h.0
  some-node place (i.SkipZero slot skip) n nodes edges h = one-node nodes _ h.nodes_are
  some-node place (i.SkipEqual slot v skip) n nodes edges h = one-node nodes _ h.nodes_are
  some-node place x n nodes edges h = some-checked _ _ n nodes edges h

  -- the number of a place's node is less than this one
  abbrev pub Below : ℕ → ℕ → Type 0
  Below place most = (m : ℕ) × (slice_get p.numbers place ≡ Some m) × (m < most)

  number-last : (k n i : ℕ) (nodes : List Node) (edges : List Edge) (h : FirstFollow p g table (suc k) n nodes edges) → (i < k → Below (p.range.entry + i) (n + length h.nodes_first)) → (i < k) ⊎ (i ≡ k) → Below (p.range.entry + i) (n + length nodes)
  number-last k n i nodes edges h earlier (inl before) =
      let r = earlier before in
      let len : length nodes ≡ length h.nodes_first + length h.nodes_second = ap length h.nodes_are ∙ length-append h.nodes_first h.nodes_second in
      (r.0, r.1, omega (arith, r.2, len))
  number-last k n i nodes edges h earlier (inr same) =
      let some = some-node (p.range.entry + k) h.second.instruction (n + length h.nodes_first) h.nodes_second h.edges_second h.second.follows in
      let len : length nodes ≡ length h.nodes_first + length h.nodes_second = ap length h.nodes_are ∙ length-append h.nodes_first h.nodes_second in
      subst (λ (j : ℕ). Below (p.range.entry + j) (n + length nodes)) (sym same) (n + length h.nodes_first, h.second.number, omega (arith, some, len))

  number-below : (k n i : ℕ) (nodes : List Node) (edges : List Edge) → FirstFollow p g table k n nodes edges → i < k → Below (p.range.entry + i) (n + length nodes)
  number-below zero n i nodes edges h less = absurd (omega (arith, less))
  number-below (suc k) n i nodes edges h less = number-last k n i nodes edges h (λ before. number-below k n i h.nodes_first h.edges_first h.first before) (below-last i k less)

  exit-behind : (n i : ℕ) (nodes : List Node) (edges : List Edge) → PlacesFollow p g table n nodes edges → i < p.range.end - p.range.entry → Below (p.range.entry + i) p.exit.0
  exit-behind n i nodes edges h less =
      let r = number-below (p.range.end - p.range.entry) n i h.nodes_first h.edges_first h.first less in
      let e : n + length h.nodes_first ≡ p.exit.0 = ap (λ (v : NodeId). v.0) h.second.0 in
      (r.0, r.1, omega (arith, r.2, e))

  pub exit-above : (b : Bool) (f : FnFlow) (i : ℕ) → GraphFollows b p g table f → i < p.range.end - p.range.entry → Below (p.range.entry + i) p.exit.0
  exit-above true f i h less = exit-behind (0 + length h.1.nodes_first) i h.1.nodes_second h.1.edges_second h.1.second less
  exit-above false f i h less = exit-behind 0 i f.nodes f.edges h.1 less
