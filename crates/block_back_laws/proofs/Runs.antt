-- A run of a graph of blocks, block by block.
use Rattle.std.proofs.Common.{◌≡◌, ℕ, ℤ, ◌+◌, ◌<◌, ◌≤◌, ◌^◌, ◌⊎◌, inl, inr, Bool, true, false, ◌&&◌, List, [], ◌∷◌, ◌++◌, Some, None, refl, sym, ap, ◌∙◌, subst, zero, suc, length, length-append, arith, All, slice_index, slice_get}
use Rattle.std.proofs.lemmas.Bool.{cases_Bool}
use Rattle.std.proofs.lemmas.Option.{slice_get_within}
use Rattle.bv_term.specs.WellFormed.{Table}
use Rattle.c_graph.specs.declared.graph.NodeId.{NodeId}
use Rattle.c_graph.specs.declared.graph.EdgeId.{EdgeId}
use Rattle.c_graph.specs.declared.graph.Edge.{Edge}
use Rattle.c_graph.specs.declared.graph.Node.{Node}
use Rattle.c_graph.specs.declared.graph.Node.TheVariants.{Plain, Error, End}
use Rattle.c_graph.specs.declared.graph.Cell.{Cell}
use Rattle.c_graph.specs.declared.graph.Operation.{Operation}
use Rattle.c_graph.specs.declared.graph.Operation.TheVariants.{Assume, Set, SetAt, Draw}
use Rattle.c_graph.specs.Chains.{source_of}
use Rattle.c_graph.specs.Shape.{Flow, IsFlow, OperationFits, widths_of}
use Rattle.c_graph.specs.Steps.{IsWhole, Moment, moment, operated_all}
use Rattle.c_graph.specs.Runs.{RunsAlong}
use Rattle.c_graph.proofs.Keeping.{edge-fits}
use Rattle.graph_walk_laws.proofs.Consuming.{taken, more_left}
use Rattle.block_rule.specs.Deeds.{Code, ran}
use Rattle.block_rule.specs.Plans.{Plan, matters, IsError}
use Rattle.block_rule.specs.Rule.{block_code}
use Rattle.block_rule.specs.Blocked.{Agree, plain_deeds, IsBlocked}
use Rattle.block_laws.proofs.Lists.{false-true}
use Rattle.block_laws.proofs.Reading.{SetsBelow, AllSetBelow}
use Rattle.block_laws.proofs.Moving.{Widths}
use Rattle.block_laws.proofs.Blocks.{Along, error-ends, both-true}
use Rattle.block_laws.proofs.Edges.{plain-operate, whole-after}
use Rattle.program_graphs.specs.Weighing.{cost_of}
use Rattle.block_edges.specs.Exact.{HasBlock, HasKept, HasNoMore}
use Rattle.block_edges.specs.Weights.{AreEnough, places_in}
use Rattle.block_back_laws.specs.Returning.{BlocksComeBack, BlockErrorsComeBack, BlockPathsComeBack}
use Rattle.block_back_laws.proofs.Here.{Reached, widths-long, step}
use Rattle.block_back_laws.proofs.Turns.{block-comes}
use Rattle.block_back_laws.proofs.Codes.{IsTail, deeds-do, follows-code}

-- runs with the values that are drawn, and with those that are still to be drawn

runs-of : (g : Flow) (path : List EdgeId) (v : NodeId) (m : Moment) (w : NodeId) (a : Moment) → Along g path v.0 m w.0 a → a.inputs ≡ [] → RunsAlong g path v m.store m.inputs w a.store
runs-of g [] v m w a run none =
    let F : ℕ → NodeId = λ k. record { 0 = k } in
    (ap F run.0, ap (λ (x : Moment). x.store) run.1, ap (λ (x : Moment). x.inputs) run.1 ∙ none)
runs-of g (k ∷ path) v m w a (e, there, from, (mid, go, run)) none =
    let F : ℕ → NodeId = λ k. record { 0 = k } in
    let (first, split, leads) = taken g.terms e.ops m mid go in
    (e, there, ap F from, (mid.store, first, mid.inputs, split, leads, runs-of g path e.to mid w a run none))

along-of : (g : Flow) (path : List EdgeId) (v : NodeId) (store : List ℕ) (draws : List ℤ) (w : NodeId) (after : List ℕ) → RunsAlong g path v store draws w after
    → Along g path v.0 (moment store draws) w.0 (moment after [])
along-of g [] v store draws w after (same, stays, none) =
    (ap (λ (x : NodeId). x.0) same, ap (λ (s : List ℕ). moment s draws) stays ∙ ap (moment after) none)
along-of g (k ∷ path) v store draws w after (e, there, from, (mid, first, later, split, leads, run)) =
    let go : operated_all g.terms e.ops (Some (moment store draws)) ≡ Some (moment mid later) =
    ap (λ (zs : List ℤ). operated_all g.terms e.ops (Some (moment store zs))) split ∙ more_left g.terms e.ops (moment store first) (moment mid []) later leads in
    (e, there, ap (λ (x : NodeId). x.0) from, (moment mid later, go, along-of g path e.to mid later w after run))

-- a run of a graph ends at a node of the graph
ends-there : (g : Flow) (path : List EdgeId) (v : ℕ) (m : Moment) (w : ℕ) (a : Moment) → IsFlow g → v < length g.nodes → Along g path v m w a → w < length g.nodes
ends-there g [] v m w a flow lt run = omega (arith, lt, run.0)
ends-there g (k ∷ path) v m w a flow lt (e, there, from, (mid, go, run)) = ends-there g path e.to.0 mid w a flow (edge-fits g k.0 e flow there).to run

-- nodes and cells that stand behind others

nodes-front : (xs ys : List Node) (k : ℕ) → k < length xs → slice_get (xs ++ ys) k ≡ slice_get xs k
nodes-front [] ys k lt = absurd (omega (arith, lt))
nodes-front (x ∷ xs) ys zero lt = refl
nodes-front (x ∷ xs) ys (suc k) lt = nodes-front xs ys k (omega (arith, lt))

widths-front : (xs ys : List Cell) (c : ℕ) → c < length xs → slice_index (widths_of (xs ++ ys)) c ≡ slice_index (widths_of xs) c
widths-front [] ys c lt = absurd (omega (arith, lt))
widths-front (x ∷ xs) ys zero lt = refl
widths-front (x ∷ xs) ys (suc c) lt = widths-front xs ys c (omega (arith, lt))

-- the first values of a store, one for each cell
abbrev front : List Cell → List ℕ → List ℕ
front [] s = []
front (x ∷ xs) [] = []
front (x ∷ xs) (v ∷ s) = v ∷ front xs s

front-long : (xs more : List Cell) (s : List ℕ) → length s ≡ length (widths_of (xs ++ more)) → length (front xs s) ≡ length (widths_of xs)
front-long [] more s long = refl
front-long (x ∷ xs) more [] long = absurd (omega (arith, long))
front-long (x ∷ xs) more (v ∷ s) long = ap suc (front-long xs more s (omega (arith, long)))

front-same : (xs : List Cell) (s : List ℕ) (c : ℕ) → c < length xs → slice_index (front xs s) c ≡ slice_index s c
front-same [] s c lt = absurd (omega (arith, lt))
front-same (x ∷ xs) [] c lt = refl
front-same (x ∷ xs) (v ∷ s) zero lt = refl
front-same (x ∷ xs) (v ∷ s) (suc c) lt = front-same xs s c (omega (arith, lt))

front-whole : (xs more : List Cell) (s : List ℕ) → IsWhole (widths_of (xs ++ more)) s → IsWhole (widths_of xs) (front xs s)
front-whole xs more s whole = record {
  length = front-long xs more s whole.length;
  fits = λ c lt.
      let there : c < length xs = omega (arith, lt, widths-long xs) in
      let more-there : c < length (widths_of (xs ++ more)) = omega (arith, there, widths-long (xs ++ more), length-append xs more) in
      let P : ℕ → ℕ → Type 0 = λ x w. x < 2 ^ w in
      subst (λ (x : ℕ). P x (slice_index (widths_of xs) c)) (sym (front-same xs s c there))
      (subst (λ (w : ℕ). P (slice_index s c) w) (widths-front xs more c there) (whole.fits c more-there));
}

-- operations that fit set cells that are there
fits-below : (table : Table) (n : ℕ) (ops : List Operation) → length table.cells ≡ n → All (OperationFits table) ops → AllSetBelow n ops
fits-below table n [] long fits = tt
fits-below table n (op ∷ ops) long fits =
    (one op (fits zero op (omega arith)), fits-below table n ops long (λ k x lt. fits (suc k) x (omega (arith, lt))))
  where
    one : (op : Operation) → OperationFits table op → SetsBelow n op
    one (Assume t) f = tt
    one (Set c t) f = (let z = f.0 in omega (arith, z, long))
    one (SetAt first k i t) f = (let z = f.0.1 in omega (arith, z, long))
    one (Draw c signed) f = (let z = f.0 in omega (arith, z, long))

-- what paths cost

cost-append : (edges : List Edge) (weight : ℕ → ℕ) (xs ys : List EdgeId) → cost_of edges weight (xs ++ ys) ≡ cost_of edges weight xs + cost_of edges weight ys
cost-append edges weight [] ys = omega arith
cost-append edges weight (k ∷ xs) ys = (let z = cost-append edges weight xs ys in omega (arith, z))

tail-shorter : (path all : List EdgeId) → IsTail path all → length path ≤ length all
tail-shorter path all (front, parts) = omega (arith, ap length parts, length-append front path)

tail-cheaper : (edges : List Edge) (weight : ℕ → ℕ) (path all : List EdgeId) → IsTail path all → cost_of edges weight path ≤ cost_of edges weight all
tail-cheaper edges weight path all (front, parts) = omega (arith, ap (cost_of edges weight) parts, cost-append edges weight front path)

source-is : (edges : List Edge) (k : ℕ) (e : Edge) → slice_get edges k ≡ Some e → source_of edges k ≡ e.from.0
source-is [] k e there = absurd (let z : None ≡ Some e = there in cc)
source-is (x ∷ edges) zero e there = (let z : x ≡ e = cc in ap (λ (y : Edge). y.from.0) z)
source-is (x ∷ edges) (suc k) e there = source-is edges k e there

module _ (g h : Flow) (plan : Plan) (flow : IsFlow g) (wide : IsFlow h) (is : IsBlocked g h plan) (more : HasNoMore g h plan) (m0 : Moment) (w : ℕ) (a : Moment) (error : IsError h w) where
  abbrev n : ℕ
  n = length g.cells

  abbrev many : ℕ
  many = length h.cells

  pub le : n ≤ many
  le = omega (arith, ap length is.cells.1, length-append g.cells is.cells.0)

  pub widths : Widths n g.terms h.terms
  widths c lt =
      ap (λ (ws : List ℕ). slice_index ws c) flow.cells ∙ sym (widths-front g.cells is.cells.0 c lt)
      ∙ ap (λ (xs : List Cell). slice_index (widths_of xs) c) (sym is.cells.1) ∙ ap (λ (ws : List ℕ). slice_index ws c) (sym wide.cells)

  whole-long : (s : List ℕ) → IsWhole h.terms.cells s → length s ≡ many
  whole-long s whole = whole.length ∙ ap length wide.cells ∙ widths-long h.cells

  -- a run of the graph from the entry
  abbrev Run : ℕ → Moment → Type 0
  Run to m = (path : List EdgeId) × Along g path g.entry.0 m0 to m

  -- so many edges are no more than some others, and what a path costs
  abbrev Spends : ℕ → List EdgeId → ℕ → Type 0
  Spends start path all = (weight : ℕ → ℕ) → AreEnough g h plan more weight → all ≤ start + cost_of h.edges weight path

  -- the run of the graph comes to the error, and what is left to draw is what the other run left
  abbrev Ended : ℕ → List EdgeId → Type 0
  Ended start path = (end : Moment) × ((run : Run w end) × (end.inputs ≡ a.inputs) × Spends start path (length run.0))

  -- runs along fewer edges than so many are followed
  abbrev Followed : ℕ → Type 0
  Followed fuel =
      (path : List EdgeId) (v : ℕ) (s m : Moment) → length path < fuel → Along h path v s w a → plan.cuts v ≡ true → matters plan v ≡ true → IsWhole h.terms.cells s.store
      → IsWhole g.terms.cells m.store → m.inputs ≡ s.inputs → Agree n (plan.live v) m.store s.store → (run : Run v m) → Ended (length run.0) path

  -- the node of a path's first edge weighs so much
  abbrev Pays : ℕ → ℕ → Type 0
  Pays v places = (weight : ℕ → ℕ) → AreEnough g h plan more weight → places ≤ weight v

  -- along an edge from a node, and the end of a path behind it
  spends-on : (k : EdgeId) (e : Edge) (path rest : List EdgeId) (v places start mid all : ℕ) → slice_get h.edges k.0 ≡ Some e → e.from.0 ≡ v → IsTail rest path → Pays v places
      → mid ≤ start + places → Spends mid rest all → Spends start (k ∷ path) all
  spends-on k e path rest v places start mid all there from tail pays few spends weight enough =
      let same : source_of h.edges k.0 ≡ v = source-is h.edges k.0 e there ∙ from in
      let first : weight (source_of h.edges k.0) ≡ weight v = ap weight same in
      let one = pays weight enough in
      let others = spends weight enough in
      let less = tail-cheaper h.edges weight rest path tail in
      omega (arith, first, one, others, less, few)

  -- errors of the graph are errors of the graph of blocks
  same-node : (k : ℕ) → k < length g.nodes → slice_get h.nodes k ≡ slice_get g.nodes k
  same-node k lt = ap (λ (xs : List Node). slice_get xs k) is.nodes.1 ∙ nodes-front g.nodes is.nodes.0 k lt

  error-there : (k : ℕ) → IsError g k → IsError h k
  error-there k (kind, (at, e)) = (kind, (at, same-node k (slice_get_within g.nodes k (Error kind at) e) ∙ e))

  by-block : (fuel : ℕ) → Followed fuel → (k : EdgeId) (path : List EdgeId) (v : ℕ) (s m : Moment) → length (k ∷ path) < suc fuel → Along h (k ∷ path) v s w a → matters plan v ≡ true
      → IsWhole h.terms.cells s.store → IsWhole g.terms.cells m.store → m.inputs ≡ s.inputs → Agree n (plan.live v) m.store s.store → (run : Run v m) → (block : HasBlock g h plan v)
      → Pays v (places_in g h plan v (inl block)) → Ended (length run.0) (k ∷ path)
  by-block fuel next k path v s m less (e, there, from, (mid, go, run)) alive whole whole2 same agree runs block pays =
      let begins = block.begins in
      let places : ℕ = length (begins.first ∷ begins.others) in
      let code : Code = block_code g.terms plan begins.first begins.others n in
      let (to, (end, went, whole3, (path2, tail, run2))) = follows-code h wide w a error code [] e path s (block.none_else k.0 e there from) (mid, (k.0, there), whole, go, run) in
      let ran-so : ran h.terms code (Some (moment s.store m.inputs)) ≡ Some (to, end) = ap (λ (zs : List ℤ). ran h.terms code (Some (moment s.store zs))) same ∙ went in
      let start : Along g runs.0 g.entry.0 m0 begins.first.node m = subst (λ (x : ℕ). Along g runs.0 g.entry.0 m0 x m) (sym begins.node) runs.1 in
      let reached = block-comes g h.terms plan many widths flow is.planned le g.entry.0 m0 (length runs.0 + places) begins.first begins.others begins.places block.ways s.store m (whole-long s.store whole)
      (runs.0, start, omega arith) whole2 (ap (matters plan) begins.node ∙ alive)
      (subst (λ (x : ℕ). Agree n (plan.live x) m.store s.store) (sym begins.node) agree) begins.sound to end ran-so in
      goes-on places to end path2 tail pays (tail-shorter path2 path tail) run2 whole3 reached
    where
      goes-on : (places to : ℕ) (end : Moment) (path2 : List EdgeId) → IsTail path2 path → Pays v places → length path2 ≤ length path → Along h path2 to end w a → IsWhole h.terms.cells end.store
          → Reached g h.terms plan many widths flow is.planned le g.entry.0 m0 (length runs.0 + places) to end → Ended (length runs.0) (k ∷ path)
      goes-on places to end path2 tail pays fewer run2 whole3 (m2, runs2, same2, inl err) =
          let (last, stays) = error-ends h path2 to end w a wide (error-there to err) run2 in
          let few : length runs2.0 ≤ length runs.0 + places = omega (arith, runs2.2) in (
            m2,
            (
              (runs2.0, subst (λ (x : ℕ). Along g runs2.0 g.entry.0 m0 x m2) last runs2.1),
              same2 ∙ ap (λ (x : Moment). x.inputs) stays,
              spends-on k e path path2 v places (length runs.0) (length runs2.0) (length runs2.0) there from tail pays few (λ weight enough. omega arith),
            ),
          )
      goes-on places to end path2 tail pays fewer run2 whole3 (m2, runs2, same2, inr (cut, alive2, agree2, whole4)) =
          let few : length runs2.0 ≤ length runs.0 + places = omega (arith, runs2.2) in
          let (last, (runs3, same3, spends)) = next path2 to end m2 (omega (arith, less, fewer)) run2 cut alive2 whole3 whole4 same2 agree2 (runs2.0, runs2.1) in
          (last, (runs3, same3, spends-on k e path path2 v places (length runs.0) (length runs2.0) (length runs3.0) there from tail pays few spends))

  by-kept : (fuel : ℕ) → Followed fuel → (k : EdgeId) (path : List EdgeId) (v : ℕ) (s m : Moment) → length (k ∷ path) < suc fuel → Along h (k ∷ path) v s w a → matters plan v ≡ true
      → IsWhole h.terms.cells s.store → IsWhole g.terms.cells m.store → m.inputs ≡ s.inputs → Agree n (plan.live v) m.store s.store → (run : Run v m) → HasKept g h plan v
      → Pays v 1 → Ended (length run.0) (k ∷ path)
  by-kept fuel next k path v s m less (e, there, from, (mid, go, run)) alive whole whole2 same agree runs kept pays =
      let (j, (f, there2, from2, goal, alive2, are)) = kept.none_else k.0 e there from in
      let fits = edge-fits h k.0 e wide there in
      let fits2 = edge-fits g j f flow there2 in
      let below = fits-below g.terms n f.ops (ap length flow.cells ∙ widths-long g.cells) fits2.operations in
      let go2 : operated_all g.terms f.ops (Some s) ≡ Some mid =
      sym (plain-operate g.terms h.terms n f.ops s widths below) ∙ deeds-do h.terms e.from e.ops (plain_deeds g.terms f.ops) s wide.table fits.operations are whole ∙ go in
      let long : n ≤ length s.store = omega (arith, le, whole-long s.store whole) in
      let (u, runs2, agree2, whole4) = step g h.terms plan many widths flow is.planned le g.entry.0 m0 (length runs.0 + 1) 0 v m s.inputs (runs.0, runs.1, omega arith) same whole2
      (reached-of (plan.reached v) (plan.alive v) alive) f.ops f.to.0 s.store mid (j, (f, there2, from2, (refl, refl))) alive2 below agree long go2 in
      let (cut, leads) = kept.keeps j f there2 from2 alive2 in
      let few : length runs2.0 ≤ length runs.0 + 1 = omega (arith, runs2.2) in
      let (last, (runs3, same3, spends)) = next path f.to.0 mid (moment u mid.inputs) (omega (arith, less)) (subst (λ (x : ℕ). Along h path x mid w a) (sym goal) run) cut alive2
      (whole-after h.terms e s mid wide.table fits.operations whole go) whole4 refl agree2 (runs2.0, runs2.1) in
      (last, (runs3, same3, spends-on k e path path v 1 (length runs.0) (length runs2.0) (length runs3.0) there from ([], refl) pays few spends))
    where
      reached-of : (x y : Bool) → (x && y) ≡ true → x ≡ true
      reached-of true y z = refl
      reached-of false y z = absurd (false-true z)

  by-either : (fuel : ℕ) → Followed fuel → (k : EdgeId) (path : List EdgeId) (v : ℕ) (s m : Moment) → length (k ∷ path) < suc fuel → Along h (k ∷ path) v s w a → matters plan v ≡ true
      → IsWhole h.terms.cells s.store → IsWhole g.terms.cells m.store → m.inputs ≡ s.inputs → Agree n (plan.live v) m.store s.store → (run : Run v m)
      → (either : HasBlock g h plan v ⊎ HasKept g h plan v) → Pays v (places_in g h plan v either) → Ended (length run.0) (k ∷ path)
  by-either fuel next k path v s m less run alive whole whole2 same agree runs (inl block) pays = by-block fuel next k path v s m less run alive whole whole2 same agree runs block pays
  by-either fuel next k path v s m less run alive whole whole2 same agree runs (inr kept) pays = by-kept fuel next k path v s m less run alive whole whole2 same agree runs kept pays

  followed : (fuel : ℕ) → Followed fuel
  followed zero path v s m less run cut alive whole whole2 same agree runs = absurd (omega (arith, less))
  followed (suc fuel) [] v s m less run cut alive whole whole2 same agree runs = (
    m,
    (
      (runs.0, subst (λ (x : ℕ). Along g runs.0 g.entry.0 m0 x m) run.0 runs.1),
      same ∙ ap (λ (x : Moment). x.inputs) run.1,
      λ weight enough. omega arith,
    ),
  )
  followed (suc fuel) (k ∷ path) v s m less run cut alive whole whole2 same agree runs =
      let inside : v < length g.nodes = ends-there g runs.0 g.entry.0 m0 v m flow flow.entry runs.1 in
      by-either fuel (followed fuel) k path v s m less run alive whole whole2 same agree runs (more.blocks v inside cut alive) (λ weight enough. enough v inside cut alive)

  -- where the entry does not matter, no run reaches an error
  end-error : (k : ℕ) → slice_get h.nodes k ≡ Some End → IsError h k → ⊥
  end-error k end (kind, (at, e)) = absurd (let z : Some End ≡ Some (Error kind at) = sym end ∙ e in cc)

  -- nothing leads from an end
  end-stops : (path : List EdgeId) (v : ℕ) (s : Moment) → slice_get h.nodes v ≡ Some End → Along h path v s w a → ⊥
  end-stops [] v s end run = end-error v end (subst (λ (x : ℕ). IsError h x) (sym run.0) error)
  end-stops (k ∷ path) v s end (e, there, from, rest) =
      let plain : slice_get h.nodes v ≡ Some Plain = ap (slice_get h.nodes) (sym from) ∙ (edge-fits h k.0 e wide there).from in
      absurd (let z : Some Plain ≡ Some End = sym plain ∙ end in cc)

  dead-entry : (path : List EdgeId) (s : Moment) → Along h path h.entry.0 s w a → matters plan g.entry.0 ≡ false → ⊥
  dead-entry [] s run off =
      let at-entry : IsError h g.entry.0 = subst (λ (x : ℕ). IsError h x) (sym run.0 ∙ ap (λ (x : NodeId). x.0) is.entry) error in
      let (kind, (at, e)) = at-entry in
      let alive = is.planned.errors g.entry.0 kind at (sym (same-node g.entry.0 flow.entry) ∙ e) in
      false-true (sym off ∙ both-true (plan.reached g.entry.0) (plan.alive g.entry.0) is.planned.entry alive)
  dead-entry (k ∷ path) s (e, there, from, (mid, go, run)) off = elim (more.dead k.0 e off there from) [
    | inl end ↦ end-stops path e.to.0 mid end run
    | inr same ↦ dead-entry path mid (subst (λ (x : ℕ). Along h path x mid w a) same run) off
  ]

  pub comes-back : (path : List EdgeId) (s : Moment) → Along h path h.entry.0 s w a → IsWhole h.terms.cells s.store → IsWhole g.terms.cells m0.store → m0.inputs ≡ s.inputs
      → ((c : ℕ) → c < n → slice_index m0.store c ≡ slice_index s.store c) → Ended 0 path
  comes-back path s run whole whole2 same agree = elim (cases_Bool (matters plan g.entry.0)) [
    | inl alive ↦
        followed (suc (length path)) path g.entry.0 s m0 (omega arith) (subst (λ (x : ℕ). Along h path x s w a) (ap (λ (x : NodeId). x.0) is.entry) run) is.planned.cut alive whole whole2 same
        (λ c lt y. agree c lt) ([], (refl, refl))
    | inr off ↦ absurd (dead-entry path s run off)
  ]

-- a run of the graph for one of the graph of blocks, no longer than that costs
abbrev Returns : (g h : Flow) (plan : Plan) → HasNoMore g h plan → List EdgeId → List ℤ → NodeId → Type 0
Returns g h plan more path draws v =
    (store : List ℕ) × ((path2 : List EdgeId) × ((end : List ℕ) × IsWhole (widths_of g.cells) store × RunsAlong g path2 g.entry store draws v end × (slice_get g.nodes v.0 ≡ slice_get h.nodes v.0)
    × ((weight : ℕ → ℕ) → AreEnough g h plan more weight → length path2 ≤ cost_of h.edges weight path)))

returns : (g h : Flow) (plan : Plan) (path : List EdgeId) (store : List ℕ) (draws : List ℤ) (v : NodeId) (after : List ℕ) → IsFlow g → IsFlow h → IsBlocked g h plan
    → (more : HasNoMore g h plan) → IsWhole (widths_of h.cells) store → RunsAlong h path h.entry store draws v after → IsError h v.0 → Returns g h plan more path draws v
returns g h plan path store draws v after flow wide is more whole run error =
    let whole-all : IsWhole (widths_of (g.cells ++ is.cells.0)) store = subst (λ (xs : List Cell). IsWhole (widths_of xs) store) is.cells.1 whole in
    let whole-front : IsWhole (widths_of g.cells) (front g.cells store) = front-whole g.cells is.cells.0 store whole-all in
    let (end, (runs, same, spends)) = comes-back g h plan flow wide is more (moment (front g.cells store) draws) v.0 (moment after []) error path (moment store draws)
    (along-of h path h.entry store draws v after run) (subst (λ (ws : List ℕ). IsWhole ws store) (sym wide.cells) whole)
    (subst (λ (ws : List ℕ). IsWhole ws (front g.cells store)) (sym flow.cells) whole-front) refl (λ c lt. front-same g.cells store c lt) in
    let there : v.0 < length g.nodes = ends-there g runs.0 g.entry.0 (moment (front g.cells store) draws) v.0 end flow flow.entry runs.1 in (
      front g.cells store,
      (
        runs.0,
        (
          end.store,
          whole-front,
          runs-of g runs.0 g.entry (moment (front g.cells store) draws) v end runs.1 same,
          sym (ap (λ (xs : List Node). slice_get xs v.0) is.nodes.1 ∙ nodes-front g.nodes is.nodes.0 v.0 there),
          λ weight enough. (let z = spends weight enough in omega (arith, z)),
        ),
      ),
    )

pub blocks_come_back : BlocksComeBack
blocks_come_back g h plan draws v after kind at flow wide is more (path, store, whole, run) error =
    let (store2, (path2, (end, whole2, run2, node, short))) = returns g h plan path store draws v after flow wide is more whole run (kind, (at, error)) in
    ((end, (path2, store2, whole2, run2)), node ∙ error)

pub block_errors_come_back : BlockErrorsComeBack
block_errors_come_back g h plan draws kind at flow wide is more (v, (after, run, error)) =
    let ((end, runs), same) = blocks_come_back g h plan draws v after kind at flow wide is more run error in
    (v, (end, runs, same))

pub block_paths_come_back : BlockPathsComeBack
block_paths_come_back g h plan flow wide is exact path draws kind at f =
    let (store2, (path2, (end, whole2, run2, node, short))) = returns g h plan path f.store draws f.last f.after flow wide is exact.more f.whole f.runs (kind, (at, f.error)) in (
      path2,
      (
        record { store = store2; last = f.last; after = end; whole = whole2; runs = run2; error = node ∙ f.error },
        short exact.weight exact.enough,
      ),
    )
