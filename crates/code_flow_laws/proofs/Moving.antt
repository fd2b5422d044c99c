-- The moves of a run at the nodes of an instruction.
use Rattle.std.proofs.Common.{◌≡◌, ℕ, ◌+◌, ◌==◌, refl, sym, ap, ◌∙◌, subst, if◌then◌else◌, List, [], ◌∷◌, ◌++◌, Option, None, Some, slice_get, ℤ}
use Rattle.bv_term.specs.declared.term.TermId.{TermId}
use Rattle.bv_term.specs.WellFormed.{Table}
use Rattle.bv_term.specs.Values.{value}
use Rattle.c_graph.specs.declared.graph.NodeId.{NodeId}
use Rattle.c_graph.specs.declared.graph.EdgeId.{EdgeId}
use Rattle.c_graph.specs.declared.graph.Node.{Node}
use Rattle.c_graph.specs.declared.graph.Edge.{Edge}
use Rattle.c_graph.specs.declared.graph.Operation.{Operation}
use Rattle.c_graph.specs.declared.graph.Operation.TheVariants.{Assume}
use Rattle.c_graph.specs.Steps.{moment, operated_all, Leads}
use Rattle.c_graph.specs.Functions.{FnFlow, Flows}
use Rattle.cfg_build.specs.Steps.{node_id}
use Rattle.code_move_laws.specs.Paths.{Runs}
use Rattle.function_runs.specs.Runs.{Along, Move, Spot, spot, node_in, node_at, MovesBy, RunsBy}
use Rattle.code_flow_laws.proofs.Inside.{Inside}

pub nothing-more : {A : Type 0} (xs : List A) → xs ≡ xs ++ []
nothing-more [] = refl
nothing-more (x ∷ xs) = ap (λ ys. x ∷ ys) (nothing-more xs)

pub in-order : {A : Type 0} (xs ys zs : List A) → (xs ++ ys) ++ zs ≡ xs ++ (ys ++ zs)
in-order [] ys zs = refl
in-order (x ∷ xs) ys zs = ap (λ vs. x ∷ vs) (in-order xs ys zs)

-- ---- Moves one after the other

module _ (p : Flows) where
  -- some moves lead from the one spot to the other
  abbrev pub Moves : Spot → List ℤ → Spot → Type 0
  Moves s draws t = (moves : List Move) × RunsBy p moves s draws t

  pub stay : (s : Spot) → Moves s [] s
  stay s = ([], (refl, refl))

  runs-join : (moves more : List Move) (s t u : Spot) (d e : List ℤ) → RunsBy p moves s d t → RunsBy p more t e u → RunsBy p (moves ++ more) s (d ++ e) u
  runs-join [] more s t u d e (same, none) r =
      subst (λ (z : Spot). RunsBy p more z (d ++ e) u) (sym same) (subst (λ (ds : List ℤ). RunsBy p more t (ds ++ e) u) (sym none) r)
  runs-join (m ∷ moves) more s t u d e (mid, first, rest, split, move, run) r =
      (mid, first, rest ++ e, ap (λ (ds : List ℤ). ds ++ e) split ∙ in-order first rest e, move, runs-join moves more mid t u rest e run r)

  pub moves-join : (s t u : Spot) (d e : List ℤ) → Moves s d t → Moves t e u → Moves s (d ++ e) u
  moves-join s t u d e (moves, r) (more, q) = (moves ++ more, runs-join moves more s t u d e r q)

  pub one-move : (m : Move) (s t : Spot) (draws : List ℤ) → MovesBy p m s draws t → Moves s draws t
  one-move m s t draws h = (m ∷ [], (t, draws, [], nothing-more draws, h, (refl, refl)))

  -- a run stands at the first of these nodes, which are among those of its function's graph
  pub record Here (s : Spot) (n : ℕ) (nodes : List Node) (edges : List Edge) : Type 0 where
    pub graph : FnFlow
    pub is : slice_get p.graphs s.function ≡ Some graph
    pub inside : Inside n nodes edges graph.nodes graph.edges
    pub node : s.node ≡ node_id n

  -- an edge leads on from a spot with this node
  pub along : (s : Spot) (n : ℕ) (nodes : List Node) (edges : List Edge) (h : Here s n nodes edges) (v : NodeId) (store : List ℕ) (j : ℕ) (e : Edge) (draws : List ℤ) (after : List ℕ)
      → slice_get edges j ≡ Some e → e.from ≡ v → Leads p.terms e store draws after → Moves (spot s.function v s.returns store) draws (spot s.function e.to s.returns after)
  along s n nodes edges h v store j e draws after own from leads =
      let there = h.inside.edges_there j e own in
      let by : EdgeId = record { 0 = there.0 } in
      one-move (Along by) (spot s.function v s.returns store) (spot s.function e.to s.returns after) draws (h.graph, e, h.is, there.1, from, (after, leads, refl))

  pub node-there : (s : Spot) (n : ℕ) (nodes : List Node) (edges : List Edge) (h : Here s n nodes edges) (j : ℕ) (x : Node) (store : List ℕ) → slice_get nodes j ≡ Some x
      → node_at p (spot s.function (node_id (n + j)) s.returns store) ≡ Some x
  node-there s n nodes edges h j x store own = ap (λ (o : Option FnFlow). node_in o (node_id (n + j))) h.is ∙ h.inside.nodes_there j x own

  -- a run along edges of the list
  pub runs-along : (path : List ℕ) (s : Spot) (n : ℕ) (nodes : List Node) (edges : List Edge) (h : Here s n nodes edges) (v w : NodeId) (store after : List ℕ) (draws : List ℤ) → Runs p.terms edges path v store draws w after
      → Moves (spot s.function v s.returns store) draws (spot s.function w s.returns after)
  runs-along [] s n nodes edges h v w store after draws (to, same, none) =
      subst (λ (ds : List ℤ). Moves (spot s.function v s.returns store) ds (spot s.function w s.returns after)) (sym none)
      (subst (λ (c : List ℕ). Moves (spot s.function v s.returns store) [] (spot s.function w s.returns c)) same
      (subst (λ (u : NodeId). Moves (spot s.function v s.returns store) [] (spot s.function u s.returns store)) to (stay (spot s.function v s.returns store))))
  runs-along (k ∷ path) s n nodes edges h v w store after draws (e, own, from, way) =
      let (mid, first, rest, split, leads, more) = way in
      subst (λ (ds : List ℤ). Moves (spot s.function v s.returns store) ds (spot s.function w s.returns after)) (sym split)
      (moves-join (spot s.function v s.returns store) (spot s.function e.to s.returns mid) (spot s.function w s.returns after) first rest (along s n nodes edges h v store k e first mid own from leads)
      (runs-along path s n nodes edges h e.to w mid after rest more))

-- ---- A condition in a store

pub holds-on : (table : Table) (t : TermId) (ops : List Operation) (store : List ℕ) (draws : List ℤ) → value table store t ≡ 1
    → operated_all table (Assume t ∷ ops) (Some (moment store draws)) ≡ operated_all table ops (Some (moment store draws))
holds-on table t ops store draws e = ap (λ (v : ℕ). operated_all table ops (if v == 1 then Some (moment store draws) else None)) e
