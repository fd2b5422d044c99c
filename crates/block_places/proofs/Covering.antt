-- Ways that cover all edges from a node, and operations that are moves.
use Rattle.std.proofs.Common.{◌≡◌, ℕ, ◌+◌, ◌<◌, ◌≤◌, List, [], ◌∷◌, ◌++◌, Some, zero, suc, length, ap, ◌∙◌, sym, arith, subst, slice_get, drop}
use Rattle.bv_term.specs.declared.term.TermId.{TermId}
use Rattle.c_graph.specs.declared.graph.NodeId.{NodeId}
use Rattle.c_graph.specs.declared.graph.Edge.{Edge}
use Rattle.c_graph.specs.declared.graph.EdgeId.{EdgeId}
use Rattle.c_graph.specs.declared.graph.Node.TheVariants.{Plain}
use Rattle.c_graph.specs.declared.graph.Operation.{Operation}
use Rattle.c_graph.specs.declared.graph.Operation.TheVariants.{SetAt}
use Rattle.c_graph.specs.Shape.{Flow, outs}
use Rattle.plan_tables.specs.Tables.{is_live_in, unit_at}
use Rattle.block_rule.specs.Plans.{Plan, AreMoves, ArePlaces, AreRegular, IsMove, IsPlace}
use Rattle.walk_states.specs.declared.known.Known.{Known}
use Rattle.walk_states.specs.declared.state.Place.{Place}
use Rattle.walk_states.specs.declared.state.Ways.{Ways}
use Rattle.walk_states.specs.declared.state.Ways.TheVariants.{Goes, Tested, Checked, Fails, Forks}
use Rattle.block_edges.specs.Exact.{AllLed, AreLed, Leaves}
use Rattle.walk_states.specs.Known.{on_unit, plan_of}
use Rattle.walk_states.specs.Walks.{place_of, places_of, ways_of}
use Rattle.block_places.specs.Covering.{AreCovered, AreLeading, IsTotal, Leads}
use Rattle.block_steps.proofs.Leaving.{edge_id, leaving}

pub front : (ops : List Operation) (op : Operation) → slice_get ops 0 ≡ Some op → ops ≡ op ∷ drop 1 ops
front [] op s = absurd (cc)
front (x ∷ ops) op s = let z : x ≡ op = cc in ap (λ (y : Operation). y ∷ ops) z

pub only : (ops : List Operation) (op : Operation) → length ops ≡ 1 → slice_get ops 0 ≡ Some op → ops ≡ op ∷ []
only [] op l s = absurd (cc)
only (x ∷ []) op l s = let z : x ≡ op = cc in ap (λ (y : Operation). y ∷ []) z
only (x ∷ y ∷ ops) op l s = absurd (omega (arith, l))

-- a move, and the moves behind it
pub moves-from : (plan : Plan) (n : ℕ) (ops : List Operation) (k : ℕ) (op : Operation) → slice_get ops k ≡ Some op → IsMove plan n op
    → AreMoves plan n (drop (suc k) ops) → AreMoves plan n (drop k ops)
moves-from plan n [] k op s is are = absurd (cc)
moves-from plan n (x ∷ ops) zero op s is are = let z : x ≡ op = cc in (subst (IsMove plan n) (sym z) is, are)
moves-from plan n (x ∷ ops) (suc k) op s is are = moves-from plan n ops k op s is are

-- a store into an array whose cells have one unit
pub array-moves : (known : Known) (n first m end : ℕ) → end ≡ first + m → end ≤ n
    → ((c : ℕ) → first ≤ c → c < end → unit_at known.units c ≡ unit_at known.units first)
    → (i t : TermId) → IsMove (plan_of known) n (SetAt first m i t)
array-moves known n first m end is le one i t = (
  omega (arith, is, le),
  λ v k lt live.
      let e : unit_at known.units (first + k) ≡ unit_at known.units first = one (first + k) (omega arith) (omega (arith, is, lt)) in
      sym (ap (on_unit (is_live_in known.live v)) e) ∙ live,
)

pub place-is : (g : Flow) (plan : Plan) (v : NodeId) (ways : Ways) (all : List EdgeId) → slice_get g.nodes v.0 ≡ Some Plain → all ≡ outs g v
    → AreCovered g ways all → AreRegular g plan (length g.cells) (ways_of g ways)
    → IsPlace g plan (length g.cells) (place_of g (record { node = v.0; ways = ways }))
place-is g plan v ways all plain is covered regular = record {
  plain = plain;
  covers = λ k e s f.
      let (j, t) = leaving g v k e s f in
      covered j (edge_id k) (subst (λ (xs : List EdgeId). slice_get xs j ≡ Some (edge_id k)) (sym is) t) e s;
  regular = regular;
}

pub more-places : (g : Flow) (plan : Plan) (n : ℕ) (ps : List Place) (p : Place) → ArePlaces g plan n (places_of g ps) → IsPlace g plan n (place_of g p)
    → ArePlaces g plan n (places_of g (ps ++ p ∷ []))
more-places g plan n [] p are is = (is, tt)
more-places g plan n (q ∷ ps) p are is = (are.0, more-places g plan n ps p are.1 is)

-- ways that are edges, and of which a run takes one
pub are-led : (g : Flow) (v : ℕ) (ways : Ways) → AreLeading g v ways → IsTotal g ways → AreLed g v (ways_of g ways)
are-led g v (Goes way) leads total = leads
are-led g v (Tested t way) leads total = leads
are-led g v (Checked t error u way) leads total = (leads.0, leads.1, total)
are-led g v (Fails t error u other) leads total = (leads.0, leads.1, total)
are-led g v (Forks t one u other) leads total = (leads.0, leads.1, total)

pub more-led : (g : Flow) (ps : List Place) (p : Place) → AllLed g (places_of g ps) → AreLed g p.node (ways_of g p.ways) → AllLed g (places_of g (ps ++ p ∷ []))
more-led g [] p are is = (is, tt)
more-led g (q ∷ ps) p are is = (are.0, more-led g ps p are.1 is)

-- an edge that leads from the node and is the way
pub leaves-by : (g : Flow) (v k : ℕ) (ops : List Operation) (to : ℕ) → (e : Edge) × ((slice_get g.edges k ≡ Some e) × (e.from.0 ≡ v)) → Leads g k ops to → Leaves g v ops to
leaves-by g v k ops to (e, (there, from)) is = (k, (e, there, from, is e there))
