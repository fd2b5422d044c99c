-- Where a run of the graph stands among functions, edge by edge.
use Rattle.std.proofs.Common.{◌≡◌, ◌⊎◌, inl, inr, ℕ, ℤ, zero, suc, ◌<◌, List, [], ◌∷◌, length, Option, Some, None, refl, sym, ap, ◌∙◌, subst, arith, slice_get}
use Rattle.std.specs.List.{All}
use Rattle.std.proofs.lemmas.List.Elements.{All-head, All-tail}
use Rattle.std.proofs.lemmas.Option.{same_Some, none-some, slice_get_within}
use Rattle.bv_term.specs.WellFormed.{Table}
use Rattle.c_graph.specs.declared.graph.NodeId.{NodeId}
use Rattle.c_graph.specs.declared.graph.EdgeId.{EdgeId}
use Rattle.c_graph.specs.declared.graph.Node.{Node}
use Rattle.c_graph.specs.declared.graph.Node.TheVariants.{Error, Call}
use Rattle.c_graph.specs.declared.graph.Edge.{Edge}
use Rattle.c_graph.specs.declared.graph.Cell.{Cell}
use Rattle.c_graph.specs.Shape.{Flow, EdgeFits, IsNodeOf, widths_of}
use Rattle.c_graph.specs.Steps.{IsWhole, Leads, moment}
use Rattle.c_graph.specs.Functions.{CallFits, FnFlow, Flows, IsFnFlow, AreFlows}
use Rattle.c_graph.specs.Runs.{RunsAlong}
use Rattle.function_runs.specs.Runs.{Along, Into, Back, Move, Return, Spot, return_to, spot, node_in, node_at, MovesBy, RunsBy}
use Rattle.call_inline.specs.declared.numbers.Copied.{Copied}
use Rattle.call_inline.specs.Inlining.{Among, IsOwn, IsCall, IsReturn, IsInlining, edges_of, entry_of, nodes_in, nodes_of, step}
use Rattle.code_back_laws.proofs.Whole.{typed-errors-come-back}
use Rattle.inline_back_laws.specs.Back.{InlinedRunsComeBack, MetErrorsComeBack, InlinedErrorsComeBack}

all-there : {A : Type 0} (P : A → Type 0) (xs : List A) (k : ℕ) (x : A) → All P xs → slice_get xs k ≡ Some x → P x
all-there P [] k x h e = absurd (none-some x e)
all-there P (y ∷ ys) zero x h e = subst P (same_Some y x e) (All-head P y ys h)
all-there P (y ∷ ys) (suc k) x h e = all-there P ys k x (All-tail P y ys h) e

-- a function of the program, where some edge or node of it is there
there-edges : (o : Option FnFlow) (k : ℕ) (e : Edge) → slice_get (edges_of o) k ≡ Some e → (f : FnFlow) × (o ≡ Some f) × (slice_get f.edges k ≡ Some e)
there-edges None k e h = absurd (none-some e h)
there-edges (Some f) k e h = (f, refl, h)

there-nodes : (o : Option FnFlow) (k : ℕ) (x : Node) → slice_get (nodes_of o) k ≡ Some x → (f : FnFlow) × (o ≡ Some f) × (slice_get f.nodes k ≡ Some x)
there-nodes None k x h = absurd (none-some x h)
there-nodes (Some f) k x h = (f, refl, h)

function-there : {A : Type 0} (xs : List A) (k : ℕ) → k < length xs → (x : A) × (slice_get xs k ≡ Some x)
function-there [] k lt = absurd (omega (arith, lt))
function-there (x ∷ xs) zero lt = (x, refl)
function-there (x ∷ xs) (suc k) lt = function-there xs k (omega (arith, lt))

module _ (p : Flows) (g : Flow) (flows : AreFlows p) (i : IsInlining p g) where
  -- the copy goes on where the innermost open call does, in a copy of the calling function, and so on; main's goes on nowhere
  abbrev Chained : Copied → List Return → Type 0
  Chained c [] = c.back ≡ None
  Chained c (r ∷ rest) = (d : Copied) × Among i.copies d × (d.function ≡ r.function) × (c.back ≡ Some (i.number d r.node)) × IsNodeOf (nodes_in p d.function) r.node × Chained d rest

  -- a run stands at a node of this copy
  record Stands (c : Copied) (s : Spot) : Type 0 where
    pub there : Among i.copies c
    pub function : c.function ≡ s.function
    pub node : IsNodeOf (nodes_in p c.function) s.node
    pub chained : Chained c s.returns

  -- a move to where the edge leads
  record Moves (c : Copied) (s : Spot) (to : NodeId) (draws : List ℤ) (after : List ℕ) : Type 0 where
    pub move : Move
    pub copy : Copied
    pub next : Spot
    pub by : MovesBy p move s draws next
    pub stands : Stands copy next
    pub number : to ≡ i.number copy next.node
    pub store : next.store ≡ after

  -- the facts of the function of a copy
  facts : (k : ℕ) (f : FnFlow) → slice_get p.graphs k ≡ Some f → IsFnFlow (length p.graphs) p.terms f
  facts k f e = all-there (IsFnFlow (length p.graphs) p.terms) p.graphs k f flows.each e

  nodes-are : (k : ℕ) (f : FnFlow) → slice_get p.graphs k ≡ Some f → nodes_in p k ≡ f.nodes
  nodes-are k f e = ap nodes_of e

  along : (c : Copied) (s : Spot) (e : Edge) (draws : List ℤ) (after : List ℕ) → Stands c s → IsOwn p i.copies i.number c e → i.number c s.node ≡ e.from → Leads g.terms e s.store draws after → Moves c s e.to draws after
  along c s e draws after h o same leads =
      let f = there-edges (slice_get p.graphs c.function) o.there.0 o.own o.there.1 in
      let fits = all-there (EdgeFits (f.0).nodes p.terms) (f.0).edges o.there.0 o.own (facts c.function f.0 f.1).edges f.2 in
      let nodes = nodes-are c.function f.0 f.1 in
      let inside : IsNodeOf (nodes_in p c.function) (o.own).from =
      let lt = slice_get_within (f.0).nodes ((o.own).from).0 _ fits.from in subst (λ (ns : List Node). IsNodeOf ns (o.own).from) (sym nodes) lt in
      let node : s.node ≡ (o.own).from = (i.apart c c s.node (o.own).from h.there h.there h.node inside (same ∙ ap (λ (z : Edge). z.from) o.is)).1 in
      let lead : Leads p.terms o.own s.store draws after =
      subst (λ (t : Table). Leads t o.own s.store draws after) i.terms (subst (λ (z : Edge). Leads g.terms z s.store draws after) o.is leads) in
      record {
        move = Along (record { 0 = o.there.0 });
        copy = c;
        next = spot s.function (o.own).to s.returns after;
        by = (f.0, o.own, sym (ap (slice_get p.graphs) h.function) ∙ f.1, f.2, sym node, (after, lead, refl));
        stands = record { there = h.there; function = h.function; node = subst (λ (ns : List Node). IsNodeOf ns (o.own).to) (sym nodes) fits.to; chained = h.chained };
        number = ap (λ (z : Edge). z.to) o.is;
        store = refl;
      }

  -- an edge that does nothing draws nothing and leaves the store
  nothing-done : (e : Edge) (from to : NodeId) (store after : List ℕ) (draws : List ℤ) → e ≡ step from to → Leads g.terms e store draws after → (store ≡ after) × (draws ≡ [])
  nothing-done e from to store after draws is leads =
      let lead : Leads g.terms (step from to) store draws after = subst (λ (z : Edge). Leads g.terms z store draws after) is leads in
      let both : moment store draws ≡ moment after [] = same_Some (moment store draws) (moment after []) lead in
      (ap (λ m. m.store) both, ap (λ m. m.inputs) both)

  into : (c : Copied) (s : Spot) (e : Edge) (draws : List ℤ) (after : List ℕ) → Stands c s → IsCall p i.copies i.number c e → i.number c s.node ≡ e.from → Leads g.terms e s.store draws after → Moves c s e.to draws after
  into c s e draws after h o same leads =
      let done = nothing-done e _ _ s.store after draws o.is leads in
      let inside : IsNodeOf (nodes_in p c.function) o.node = slice_get_within (nodes_in p c.function) (o.node).0 _ o.there in
      let node : s.node ≡ o.node = (i.apart c c s.node o.node h.there h.there h.node inside (same ∙ ap (λ (z : Edge). z.from) o.is)).1 in
      let f = there-nodes (slice_get p.graphs c.function) (o.node).0 (Call o.callee o.next) o.there in
      let fits : CallFits (length p.graphs) f.0 (Call o.callee o.next) = all-there (CallFits (length p.graphs) f.0) (f.0).nodes (o.node).0 (Call o.callee o.next) (facts c.function f.0 f.1).calls f.2 in
      let called = function-there p.graphs o.callee fits.0 in
      let mine : slice_get p.graphs s.function ≡ Some f.0 = sym (ap (slice_get p.graphs) h.function) ∙ f.1 in
      let at : node_at p s ≡ Some (Call o.callee o.next) = ap (λ (q : Option FnFlow). node_in q s.node) mine ∙ ap (λ (v : NodeId). slice_get (f.0).nodes v.0) node ∙ f.2 in
      let callee : nodes_in p (o.copy).function ≡ (called.0).nodes = ap (nodes_in p) o.function ∙ nodes-are o.callee called.0 called.1 in
      let next : IsNodeOf (nodes_in p c.function) o.next = subst (λ (ns : List Node). IsNodeOf ns o.next) (sym (nodes-are c.function f.0 f.1)) fits.1 in
      record {
        move = Into;
        copy = o.copy;
        next = spot o.callee (called.0).entry (return_to s.function o.next ∷ s.returns) s.store;
        by = (o.callee, o.next, called.0, at, called.1, done.1, refl);
        stands = record {
          there = o.among;
          function = o.function;
          node = subst (λ (ns : List Node). IsNodeOf ns (called.0).entry) (sym callee) (facts o.callee called.0 called.1).entry;
          chained = (c, h.there, h.function, o.back, next, h.chained);
        };
        number = ap (λ (z : Edge). z.to) o.is ∙ ap (λ (q : Option FnFlow). i.number o.copy (entry_of q)) called.1;
        store = done.0;
      }

  exit-inside : (k : ℕ) (v : NodeId) → slice_get p.exits k ≡ Some v → IsNodeOf (nodes_in p k) v
  exit-inside k v e =
      let f = function-there p.graphs k (omega (arith, slice_get_within p.exits k v e, flows.exits)) in
      subst (λ (ns : List Node). IsNodeOf ns v) (sym (nodes-are k f.0 f.1)) (slice_get_within (f.0).nodes v.0 _ (flows.returns k f.0 v f.1 e))

  back-to : (c : Copied) (s : Spot) (e : Edge) (draws : List ℤ) (after : List ℕ) → Stands c s → (o : IsReturn p i.copies i.number c e) → s.node ≡ o.exit → (s.store ≡ after) × (draws ≡ []) → (returns : List Return) → s.returns ≡ returns → Chained c returns → Moves c s e.to draws after
  back-to c s e draws after h o node done [] is chained = absurd (none-some o.back (sym chained ∙ o.goes_on))
  back-to c s e draws after h o node done (r ∷ rest) is (d, among, function, back, there, chained) =
      let goes : i.number d r.node ≡ o.back = same_Some (i.number d r.node) o.back (sym back ∙ o.goes_on) in
      let exit : slice_get p.exits s.function ≡ Some s.node = sym (ap (slice_get p.exits) h.function) ∙ o.there ∙ ap (λ (v : NodeId). Some v) (sym node) in
      record {
        move = Back;
        copy = d;
        next = spot r.function r.node rest s.store;
        by = (r, rest, exit, is, done.1, refl);
        stands = record { there = among; function = function; node = there; chained = chained };
        number = ap (λ (z : Edge). z.to) o.is ∙ sym goes;
        store = done.0;
      }

  back : (c : Copied) (s : Spot) (e : Edge) (draws : List ℤ) (after : List ℕ) → Stands c s → IsReturn p i.copies i.number c e → i.number c s.node ≡ e.from → Leads g.terms e s.store draws after → Moves c s e.to draws after
  back c s e draws after h o same leads =
      let node : s.node ≡ o.exit = (i.apart c c s.node o.exit h.there h.there h.node (exit-inside c.function o.exit o.there) (same ∙ ap (λ (z : Edge). z.from) o.is)).1 in
      back-to c s e draws after h o node (nothing-done e _ _ s.store after draws o.is leads) s.returns refl h.chained

  -- the node from which an edge of a copy leads
  source : (c : Copied) (e : Edge) → IsOwn p i.copies i.number c e ⊎ (IsCall p i.copies i.number c e ⊎ IsReturn p i.copies i.number c e) → (v : NodeId) × IsNodeOf (nodes_in p c.function) v × (e.from ≡ i.number c v)
  source c e (inl o) =
      let f = there-edges (slice_get p.graphs c.function) o.there.0 o.own o.there.1 in
      let fits = all-there (EdgeFits (f.0).nodes p.terms) (f.0).edges o.there.0 o.own (facts c.function f.0 f.1).edges f.2 in
      let lt = slice_get_within (f.0).nodes ((o.own).from).0 _ fits.from in
      ((o.own).from, subst (λ (ns : List Node). IsNodeOf ns (o.own).from) (sym (nodes-are c.function f.0 f.1)) lt, ap (λ (z : Edge). z.from) o.is)
  source c e (inr (inl o)) = (o.node, slice_get_within (nodes_in p c.function) (o.node).0 _ o.there, ap (λ (z : Edge). z.from) o.is)
  source c e (inr (inr o)) = (o.exit, exit-inside c.function o.exit o.there, ap (λ (z : Edge). z.from) o.is)

  by-kind : (c : Copied) (s : Spot) (e : Edge) (draws : List ℤ) (after : List ℕ) → Stands c s → IsOwn p i.copies i.number c e ⊎ (IsCall p i.copies i.number c e ⊎ IsReturn p i.copies i.number c e) → i.number c s.node ≡ e.from → Leads g.terms e s.store draws after → Moves c s e.to draws after
  by-kind c s e draws after h (inl o) same leads = along c s e draws after h o same leads
  by-kind c s e draws after h (inr (inl o)) same leads = into c s e draws after h o same leads
  by-kind c s e draws after h (inr (inr o)) same leads = back c s e draws after h o same leads

  one : (c : Copied) (s : Spot) (e : Edge) (draws : List ℤ) (after : List ℕ) → Stands c s → Among g.edges e → e.from ≡ i.number c s.node → Leads g.terms e s.store draws after → Moves c s e.to draws after
  one c s e draws after h among from leads =
      let (d, there, kind) = i.only e among in
      let (v, inside, source_is) = source d e kind in
      let same : d ≡ c = (i.apart d c v s.node there h.there inside h.node (sym source_is ∙ from)).0 in
      by-kind c s e draws after h (subst (λ (z : Copied). IsOwn p i.copies i.number z e ⊎ (IsCall p i.copies i.number z e ⊎ IsReturn p i.copies i.number z e)) same kind) (sym from) leads

  -- the edges of a path are the moves of a run
  record Arrives (path : List EdgeId) (s : Spot) (draws : List ℤ) (w : NodeId) : Type 0 where
    pub moves : List Move
    pub copy : Copied
    pub last : Spot
    pub counts : length moves ≡ length path
    pub runs : RunsBy p moves s draws last
    pub stands : Stands copy last
    pub number : w ≡ i.number copy last.node

  all : (path : List EdgeId) (c : Copied) (s : Spot) (v w : NodeId) (store after : List ℕ) (draws : List ℤ) → Stands c s → v ≡ i.number c s.node → s.store ≡ store → RunsAlong g path v store draws w after → Arrives path s draws w
  all [] c s v w store after draws h number same (to, stores, none) = record { moves = []; copy = c; last = s; counts = refl; runs = (refl, none); stands = h; number = sym to ∙ number }
  all (e ∷ path) c s v w store after draws h number same (edge, there, from, (mid, first, rest, split, leads, more)) =
      let lead : Leads g.terms edge s.store first mid = subst (λ (x : List ℕ). Leads g.terms edge x first mid) (sym same) leads in
      let m = one c s edge first mid h (e.0, there) (from ∙ number) lead in
      let a = all path m.copy m.next edge.to w mid after rest m.stands m.number m.store more in
      record {
        moves = m.move ∷ a.moves;
        copy = a.copy;
        last = a.last;
        counts = ap suc a.counts;
        runs = (m.next, first, rest, split, m.by, a.runs);
        stands = a.stands;
        number = a.number;
      }

pub inlined-runs-come-back : InlinedRunsComeBack
inlined-runs-come-back p g path draws kind at flows i f =
    let (c, first, function, none, entry) = i.main in
    let main = function-there p.graphs p.main flows.main in
    let s : Spot = spot p.main (main.0).entry [] f.store in
    let nodes : nodes_in p c.function ≡ (main.0).nodes = ap (nodes_in p) function ∙ ap nodes_of main.1 in
    let is : IsFnFlow (length p.graphs) p.terms main.0 = all-there (IsFnFlow (length p.graphs) p.terms) p.graphs p.main main.0 flows.each main.1 in
    let stands : Stands p g flows i c (spot p.main (main.0).entry [] f.store) = record {
      there = (0, first);
      function = function;
      node = subst (λ (ns : List Node). IsNodeOf ns (main.0).entry) (sym nodes) is.entry;
      chained = none;
    } in
    let a = all p g flows i path c (spot p.main (main.0).entry [] f.store) g.entry f.last f.store f.after draws stands (entry ∙ ap (λ (o : Option FnFlow). i.number c (entry_of o)) main.1) refl f.runs in
    let error : slice_get (nodes_in p (a.copy).function) ((a.last).node).0 ≡ Some (Error kind at) =
    i.own_errors a.copy (a.last).node kind at (a.stands).there (a.stands).node (ap (λ (v : NodeId). slice_get g.nodes v.0) (sym a.number) ∙ f.error) in
    let t = there-nodes (slice_get p.graphs (a.copy).function) ((a.last).node).0 (Error kind at) error in
    let graph : slice_get p.graphs (a.last).function ≡ Some t.0 = sym (ap (slice_get p.graphs) (a.stands).function) ∙ t.1 in
    record {
      graph = main.0;
      moves = a.moves;
      store = f.store;
      last = a.last;
      main = main.1;
      whole = subst (λ (cs : List Cell). IsWhole (widths_of cs) f.store) i.cells f.whole;
      counts = a.counts;
      runs = a.runs;
      error = ap (λ (o : Option FnFlow). node_in o (a.last).node) graph ∙ t.2;
    }

pub met-errors-come-back : MetErrorsComeBack
met-errors-come-back p g draws kind at flows i (v, (after, (path, store, whole, runs), error)) =
    let f = inlined-runs-come-back p g path draws kind at flows i (record { store = store; last = v; after = after; whole = whole; runs = runs; error = error }) in
    (f.last, (f.graph, f.moves, f.store, f.main, f.whole, f.runs), f.error)

pub inlined-errors-come-back : InlinedErrorsComeBack
inlined-errors-come-back t order p g typed ordered flows follow i path inputs draws more turns kind at f enough begin =
    typed-errors-come-back t order p inputs draws more turns (length path) kind at typed ordered flows follow (inlined-runs-come-back p g path draws kind at flows i f) enough begin
