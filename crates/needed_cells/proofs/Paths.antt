-- Runs along edges from stores that agree on the cells that are needed.
use Rattle.std.proofs.Common.{◌≡◌, ◌∙◌, ℕ, ℤ, List, [], ◌∷◌, ◌++◌, length, zero, suc, refl, sym, ap, subst, Option, None, Some, slice_get}
use Rattle.c_graph.specs.declared.graph.NodeId.{NodeId}
use Rattle.c_graph.specs.declared.graph.EdgeId.{EdgeId}
use Rattle.c_graph.specs.declared.graph.Edge.{Edge}
use Rattle.c_graph.specs.declared.graph.Operation.{Operation}
use Rattle.c_graph.specs.Shape.{Flow}
use Rattle.c_graph.specs.Steps.{IsWhole, Moment, moment, operated_all}
use Rattle.c_graph.specs.Runs.{RunsAlong}
use Rattle.c_graph.proofs.Keeping.{edge-fits, leads-whole}
use Rattle.needed_cells.specs.Reads.{needed_along, needed_by_all, operations_of}
use Rattle.needed_cells.specs.Deciding.{AgreeOn, EdgesKeepWhole, GoAlike, NeededAlongDecides}
use Rattle.needed_cells.proofs.Operations.{all-alike}

operations-are : (es : List Edge) (k : ℕ) (edge : Edge) → slice_get es k ≡ Some edge → operations_of es k ≡ edge.ops
operations-are [] k edge g = absurd cc
operations-are (e ∷ es) zero edge g = let same : e ≡ edge = cc in ap (λ (x : Edge). x.ops) same
operations-are (e ∷ es) (suc k) edge g = operations-are es k edge g

-- where one goes on with no value left, the other does
record GoesOn (later : List ℕ) (store : List ℕ) (r : Option Moment) : Type 0 where
  to : List ℕ
  is : r ≡ Some (moment to [])
  long : length store ≡ length to
  agree : AgreeOn later store to

goes-on : (later store : List ℕ) (r : Option Moment) → GoAlike later (Some (moment store [])) r → GoesOn later store r
goes-on later store None h = absurd h
goes-on later store (Some n) h =
    record { to = n.store; is = ap (λ (zs : List ℤ). Some (moment n.store zs)) (sym h.inputs); long = h.long; agree = h.agree }

-- what ran from one store runs from the other
record Follows (g : Flow) (path behind : List EdgeId) (v : NodeId) (other : List ℕ) (draws : List ℤ) (w : NodeId) (after : List ℕ) : Type 0 where
  end : List ℕ
  run : RunsAlong g path v other draws w end
  agree : AgreeOn (needed_along g behind) after end

follow : (g : Flow) (path behind : List EdgeId) (v w : NodeId) (one other : List ℕ) (draws : List ℤ) (after : List ℕ) → length one ≡ length other
    → AgreeOn (needed_along g (path ++ behind)) one other → RunsAlong g path v one draws w after → Follows g path behind v other draws w after
follow g [] behind v w one other draws after e a (at, same, none) =
    record { end = other; run = (at, refl, none); agree = subst (λ (s : List ℕ). AgreeOn (needed_along g behind) s other) same a }
follow g (e ∷ path) behind v w one other draws after long a (edge, is, from, (mid, first, rest, split, leads, run)) =
    let later = needed_along g (path ++ behind) in
    let need : AgreeOn (needed_by_all g.terms edge.ops later) one other =
    subst (λ (os : List Operation). AgreeOn (needed_by_all g.terms os later) one other) (operations-are g.edges e.0 edge is) a in
    let both = all-alike g.terms edge.ops later (Some (moment one first)) (Some (moment other first)) (record { long = long; agree = need; inputs = refl }) in
    let next = goes-on later mid (operated_all g.terms edge.ops (Some (moment other first)))
    (subst (λ (r : Option Moment). GoAlike later r (operated_all g.terms edge.ops (Some (moment other first)))) leads both) in
    let rest-of = follow g path behind edge.to w mid next.to rest after next.long next.agree run in
    record { end = rest-of.end; run = (edge, is, from, (next.to, first, rest, split, next.is, rest-of.run)); agree = rest-of.agree }

pub needed_along_decides : NeededAlongDecides
needed_along_decides g path behind v w one other draws after p q a run =
    let f = follow g path behind v w one other draws after (p.length ∙ sym q.length) a run in (f.end, f.run, f.agree)

pub edges_keep_whole : EdgesKeepWhole
edges_keep_whole g e edge store draws after h is whole leads =
    let fits = edge-fits g e.0 edge h is in
    let from = subst (λ (ws : List ℕ). IsWhole ws store) (sym h.cells) whole in
    subst (λ (ws : List ℕ). IsWhole ws after) h.cells (leads-whole g.terms edge store draws after h.table fits.operations from leads)
