-- Where a run over functions stands among the copies, move by move; with no call open it stands in main's.
use Rattle.std.proofs.Common.{◌≡◌, ℕ, ℤ, List, [], ◌∷◌, Option, None, Some, refl, sym, ap, ◌∙◌, subst, slice_get}
use Rattle.std.proofs.lemmas.Option.{none-some}
use Rattle.bv_term.specs.WellFormed.{Table}
use Rattle.c_graph.specs.declared.graph.NodeId.{NodeId}
use Rattle.c_graph.specs.declared.graph.EdgeId.{EdgeId}
use Rattle.c_graph.specs.declared.graph.Node.{Node}
use Rattle.c_graph.specs.declared.graph.Node.TheVariants.{Call}
use Rattle.c_graph.specs.declared.graph.Edge.{Edge}
use Rattle.c_graph.specs.declared.graph.Cell.{Cell}
use Rattle.c_graph.specs.Shape.{Flow, widths_of}
use Rattle.c_graph.specs.Steps.{IsWhole, Leads}
use Rattle.c_graph.specs.Functions.{FnFlow, Flows}
use Rattle.c_graph.specs.Runs.{RunsAlong}
use Rattle.function_runs.specs.Runs.{Along, Into, Back, Move, Return, Spot, return_to, spot, node_in, node_at, MovesBy, RunsBy}
use Rattle.call_inline.specs.declared.numbers.Copied.{Copied}
use Rattle.call_inline.specs.Inlining.{Among, IsInlining, edges_in, edges_of, entry_in, entry_of, nodes_in, nodes_of, step}
use Rattle.inline_visit_laws.specs.Spots.{InlinedSpotsFollow, main_node}

node-found : (o : Option FnFlow) (v : NodeId) (x : Node) → node_in o v ≡ Some x → slice_get (nodes_of o) v.0 ≡ Some x
node-found None v x h = absurd (none-some x h)
node-found (Some f) v x h = h

module _ (p : Flows) (g : Flow) (i : IsInlining p g) where
  -- the copy of main
  abbrev first : Copied
  first = (i.main).0

  -- the copy goes on where the innermost open call does, in a copy of the calling function, and so on; with no call open it is main's
  abbrev Chained : Copied → List Return → Type 0
  Chained c [] = c ≡ first
  Chained c (r ∷ rest) = (d : Copied) × Among i.copies d × (d.function ≡ r.function) × (c.back ≡ Some (i.number d r.node)) × Chained d rest

  -- a run stands in this copy
  record Stands (c : Copied) (s : Spot) : Type 0 where
    pub there : Among i.copies c
    pub function : c.function ≡ s.function
    pub chained : Chained c s.returns

  -- an edge of the graph goes from the spot in this copy to the other in some copy
  record Steps (c : Copied) (s : Spot) (draws : List ℤ) (t : Spot) : Type 0 where
    pub copy : Copied
    pub stands : Stands copy t
    pub edge : Edge
    pub is : Among g.edges edge
    pub from : edge.from ≡ i.number c s.node
    pub to : edge.to ≡ i.number copy t.node
    pub leads : Leads g.terms edge s.store draws t.store

  node-at : (c : Copied) (s : Spot) (x : Node) → c.function ≡ s.function → node_at p s ≡ Some x → slice_get (nodes_in p c.function) s.node.0 ≡ Some x
  node-at c s x same h = subst (λ (k : ℕ). slice_get (nodes_in p k) s.node.0 ≡ Some x) (sym same) (node-found (slice_get p.graphs s.function) s.node x h)

  along : (e : EdgeId) (c : Copied) (s t : Spot) (draws : List ℤ) → Stands c s → MovesBy p (Along e) s draws t → Steps c s draws t
  along e c s t draws h (f, edge, graph, own, from, (after, leads, is)) =
      let list : edges_in p c.function ≡ f.edges = ap (edges_in p) h.function ∙ ap edges_of graph in
      let among : Among (edges_in p c.function) edge = (e.0, subst (λ (es : List Edge). slice_get es e.0 ≡ Some edge) (sym list) own) in
      let mid : Spot = spot s.function edge.to s.returns after in
      subst (λ (z : Spot). Steps c s draws z) (sym is)
      (record {
        copy = c;
        stands = record { there = h.there; function = h.function; chained = h.chained };
        edge = record { from = i.number c edge.from; to = i.number c edge.to; ops = edge.ops };
        is = i.edges c edge h.there among;
        from = ap (i.number c) from;
        to = refl;
        leads = subst (λ (t : Table). Leads t edge s.store draws after) (sym i.terms) leads;
      })

  into : (c : Copied) (s t : Spot) (draws : List ℤ) → Stands c s → MovesBy p Into s draws t → Steps c s draws t
  into c s t draws h (callee, next, f, at, graph, none, is) =
      let (d, there, function, back, among) = i.calls c s.node callee next h.there (node-at c s (Call callee next) h.function at) in
      let mid : Spot = spot callee f.entry (return_to s.function next ∷ s.returns) s.store in
      let steps : Steps c s [] mid = record {
        copy = d;
        stands = record { there = there; function = function; chained = (c, h.there, h.function, back, h.chained) };
        edge = step (i.number c s.node) (i.number d (entry_in p callee));
        is = among;
        from = refl;
        to = ap (λ (o : Option FnFlow). i.number d (entry_of o)) graph;
        leads = refl;
      } in
      subst (λ (z : Spot). Steps c s draws z) (sym is) (subst (λ (zs : List ℤ). Steps c s zs mid) (sym none) steps)

  back : (c : Copied) (s t : Spot) (draws : List ℤ) → Stands c s → MovesBy p Back s draws t → Steps c s draws t
  back c s t draws h (r, rest, exit, open_calls, none, is) =
      let (d, there, function, goes, chained) = subst (Chained c) open_calls h.chained in
      let exit2 : slice_get p.exits c.function ≡ Some s.node = subst (λ (k : ℕ). slice_get p.exits k ≡ Some s.node) (sym h.function) exit in
      let mid : Spot = spot r.function r.node rest s.store in
      let steps : Steps c s [] mid = record {
        copy = d;
        stands = record { there = there; function = function; chained = chained };
        edge = step (i.number c s.node) (i.number d r.node);
        is = i.returns c s.node (i.number d r.node) h.there exit2 goes;
        from = refl;
        to = refl;
        leads = refl;
      } in
      subst (λ (z : Spot). Steps c s draws z) (sym is) (subst (λ (zs : List ℤ). Steps c s zs mid) (sym none) steps)

  one : (m : Move) (c : Copied) (s t : Spot) (draws : List ℤ) → Stands c s → MovesBy p m s draws t → Steps c s draws t
  one (Along e) c s t draws h m = along e c s t draws h m
  one Into c s t draws h m = into c s t draws h m
  one Back c s t draws h m = back c s t draws h m

  -- the moves of a run are the path of a run of the graph
  record Arrives (c : Copied) (s : Spot) (draws : List ℤ) (t : Spot) : Type 0 where
    pub copy : Copied
    pub stands : Stands copy t
    pub path : List EdgeId
    pub runs : RunsAlong g path (i.number c s.node) s.store draws (i.number copy t.node) t.store

  all : (moves : List Move) (c : Copied) (s t : Spot) (draws : List ℤ) → Stands c s → RunsBy p moves s draws t → Arrives c s draws t
  all [] c s t draws h (same, none) = subst (λ (z : Spot). Arrives c s draws z) same (record { copy = c; stands = h; path = []; runs = (refl, refl, none) })
  all (m ∷ moves) c s t draws h (mid, first, rest, split, move, run) =
      let o = one m c s mid first h move in
      let a = all moves o.copy mid t rest o.stands run in
      let tail : RunsAlong g a.path (o.edge).to mid.store rest (i.number a.copy t.node) t.store =
      subst (λ (v : NodeId). RunsAlong g a.path v mid.store rest (i.number a.copy t.node) t.store) (sym o.to) a.runs in
      record {
        copy = a.copy;
        stands = a.stands;
        path = record { 0 = o.is.0 } ∷ a.path;
        runs = (o.edge, o.is.1, o.from, (mid.store, first, rest, split, o.leads, tail));
      }

pub inlined-spots-follow : InlinedSpotsFollow
inlined-spots-follow p g i draws v store (f, moves, from, graph, whole, run) =
    let (c, there, function, none, entry) = i.main in
    let stands : Stands p g i c (spot p.main f.entry [] from) = record { there = (0, there); function = function; chained = refl } in
    let a = all p g i moves c (spot p.main f.entry [] from) (spot p.main v [] store) draws stands run in
    let begins : i.number c f.entry ≡ g.entry = sym (ap (λ (o : Option FnFlow). i.number c (entry_of o)) graph) ∙ sym entry in
    let at_main : RunsAlong g a.path (i.number c f.entry) from draws (main_node p g i v) store =
    subst (λ (d : Copied). RunsAlong g a.path (i.number c f.entry) from draws (i.number d v) store) (a.stands).chained a.runs in (
      a.path,
      from,
      subst (λ (cells : List Cell). IsWhole (widths_of cells) from) (sym i.cells) whole,
      subst (λ (w : NodeId). RunsAlong g a.path w from draws (main_node p g i v) store) begins at_main,
    )
