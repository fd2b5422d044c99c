-- One step of the machine, and its moves over the graphs.
use Rattle.std.proofs.Common.{◌≡◌, ◌⊎◌, inr, ℕ, ◌+◌, ◌<◌, ◌≤◌, Bool, true, false, if◌then◌else◌, refl, sym, ap, ◌∙◌, subst, arith, List, [], ◌∷◌, ◌++◌, length, Some, slice_get, ℤ, pos}
use Rattle.std.specs.Prelude.{take}
use Rattle.std.proofs.lemmas.Bool.{and_parts}
use Rattle.std.proofs.lemmas.Option.{same_Some}
use Rattle.lv_base.specs.declared.fault.ErrorKind.{ErrorKind}
use Rattle.lv_base.specs.Integers.{InAny}
use Rattle.bv_term.specs.WellFormed.{IsTable}
use Rattle.bv_term.specs.Numbers.{truth, complement_in}
use Rattle.c_run.specs.Run.{State, choose}
use Rattle.c_graph.specs.declared.graph.NodeId.{NodeId}
use Rattle.c_graph.specs.declared.graph.Node.{Node}
use Rattle.c_graph.specs.declared.graph.Node.TheVariants.{Error}
use Rattle.c_graph.specs.declared.graph.Edge.{Edge}
use Rattle.c_graph.specs.declared.graph.Operation.TheVariants.{Assume}
use Rattle.c_graph.specs.Shape.{widths_of}
use Rattle.c_graph.specs.Functions.{Flows}
use Rattle.slot_code.specs.declared.flat.Instruction.{Instruction}
use Rattle.slot_code.specs.declared.flat.Instruction.TheVariants as i
use Rattle.slot_code.specs.declared.reply.Ending.TheVariants as ending
use Rattle.slot_code.specs.Machine.{Machine, machine, Next, Goes, Over}
use Rattle.code_moves.specs.Setting.{Setting}
use Rattle.code_move_laws.specs.Mirrors.{IsLaid, Mirrors}
use Rattle.code_move_laws.specs.Steps.{IsPlain, acted}
use Rattle.code_move_laws.specs.Stepping.{Steps}
use Rattle.code_move_laws.specs.Ways.{objects_of, converting, graph_way}
use Rattle.code_move_laws.proofs.Following.{steps-run}
use Rattle.layout_laws.specs.Serve.{Serves}
use Rattle.slot_laws.specs.Laws.{IsShaped}
use Rattle.code_flow_laws.proofs.Ranging.{Range}
use Rattle.cfg_build.specs.Steps.{node_id, edge, Way, Fork}
use Rattle.cfg_build.specs.Fitting.{AreFit}
use Rattle.cfg_build.specs.Keeping.{is_inside, stays, is_own, filled_by, keeps}
use Rattle.cfg_build.specs.Follows.{Plan, Follows, Last, node_of}
use Rattle.cfg_build.specs.Graphs.{FirstGraphs}
use Rattle.function_runs.specs.Runs.{Spot, spot, node_at}
use Rattle.code_flow_laws.proofs.Inside.{PlaceIn}
use Rattle.code_flow_laws.proofs.Graphs.{IsNode, FunctionOf, function-of, place-of, is-node, plan}
use Rattle.code_flow_laws.proofs.Moving.{Moves, Here, stay, along, runs-along, node-there, holds-on, nothing-more}
use Rattle.code_flow_laws.proofs.Filling.{FilledIn, filled, goes-behind, checked}
use Rattle.code_flow_laws.proofs.Open.{Opened, opened-filled}

-- what a program's graphs are known to be
pub record Known (code : List Instruction) (numbers : List ℕ) (ranges : List Range) (g : Setting) (p : Flows) : Type 0 where
  pub follow : FirstGraphs code numbers ranges p.main g p.terms (length ranges) p.graphs p.exits
  pub table : IsTable p.terms
  pub cells : (p.terms).cells ≡ widths_of g.lay.cells
  pub laid : IsLaid g
  pub serves : (place : ℕ) (x : Instruction) → slice_get code place ≡ Some x → Serves g.model g.objects g.lay x
  pub shaped : (place : ℕ) (x : Instruction) → slice_get code place ≡ Some x → IsShaped (objects_of g) x
  pub fit : AreFit g.model (objects_of g) code
  pub short : (place : ℕ) → place ≤ length code → InAny (pos place)
  -- a call goes to the entry of a function of another number than main's, or of main itself
  pub entered : (place at goal slot : ℕ) → slice_get code place ≡ Some (i.Call at goal slot) → (k : ℕ) × (r : Range) × (slice_get ranges k ≡ Some r) × (r.entry ≡ goal) × (r.function ≡ k) × (r.entry < r.end)

module _ (code : List Instruction) (numbers : List ℕ) (ranges : List Range) (g : Setting) (p : Flows) (known : Known code numbers ranges g p) (inputs : List ℤ) where
  -- the machine stands at a place of a function's code, and the run at the node of that place
  pub record Stands (m : Machine) (s : Spot) : Type 0 where
    pub range : Range
    pub there : slice_get ranges s.function ≡ Some range
    pub inside : is_inside range m.place ≡ true
    pub node : IsNode numbers m.place s.node
    pub mirrors : Mirrors g m.slots (m.st).store s.store
    pub open_calls : Opened (length code) p.main numbers ranges m.slots range s.returns

  -- the machine goes on, and so does the run, or the code is at its end; the machine meets an error, and the run its node
  abbrev pub Comes : Machine → Spot → Next → Type 0
  Comes m s (Goes n) = (length code ≤ n.place) ⊎ ((t : Spot) × (draws : List ℤ) × Moves p s draws t × Stands n t × (take (n.st).taken inputs ≡ take (m.st).taken inputs ++ draws))
  Comes m s (Over (ending.Error kind at taken)) = (t : Spot) × Moves p s [] t × (node_at p t ≡ Some (Error kind at)) × (taken ≡ (m.st).taken)
  Comes m s (Over _) = Unit {0}

  -- ---- What stands at the machine's place

  module _ (m : Machine) (s : Spot) (h : Stands m s) (x : Instruction) (here : slice_get code m.place ≡ Some x) where
    abbrev pub function : FunctionOf code numbers ranges p.main g p.terms p.graphs p.exits s.function h.range
    function = function-of code numbers ranges p.main g p.terms p.graphs p.exits s.function h.range known.follow h.there

    abbrev pub the_plan : Plan
    the_plan = plan code numbers ranges p.main g p.terms h.range function.exit

    abbrev pub place : PlaceIn the_plan g p.terms m.place (function.graph).nodes (function.graph).edges
    place = place-of code numbers ranges p.main g p.terms p.graphs p.exits s.function h.range function m.place h.inside

    same : place.stands.instruction ≡ x
    same = same_Some place.stands.instruction x (sym place.stands.there ∙ here)

    pub follows : Follows the_plan g p.terms m.place x place.n place.nodes place.edges
    follows = subst (λ (y : Instruction). Follows the_plan g p.terms m.place y place.n place.nodes place.edges) same place.stands.follows

    kept : keeps h.range m.place x ≡ true
    kept = subst (λ (y : Instruction). keeps h.range m.place y ≡ true) same place.stands.kept

    pub in_range : stays h.range m.place x ≡ true
    in_range = (and_parts (stays h.range m.place x) (is_own h.range (filled_by x)) kept).0

    pub own : is_own h.range (filled_by x) ≡ true
    own = (and_parts (stays h.range m.place x) (is_own h.range (filled_by x)) kept).1

    pub at_place : Here p s place.n place.nodes place.edges
    at_place =
        let one : place.n ≡ h.node.0 = same_Some place.n h.node.0 (sym place.stands.number ∙ h.node.1) in
        record { graph = function.graph; is = function.graph_is; inside = place.inside; node = h.node.2 ∙ ap node_id (sym one) }

    from-here : (draws : List ℤ) (t : Spot) → Moves p (spot s.function (node_id place.n) s.returns s.store) draws t → Moves p s draws t
    from-here draws t moves = subst (λ (v : NodeId). Moves p (spot s.function v s.returns s.store) draws t) (sym at_place.node) moves

    -- the node of another place of the function
    pub node_there : (q : ℕ) → is_inside h.range q ≡ true → IsNode numbers q (node_of the_plan q)
    node_there q e = is-node code numbers ranges p.main g p.terms p.graphs p.exits s.function h.range function q e

    -- ---- An instruction with checks

    straight-next : IsPlain x → (next : Next) → Steps g p.terms inputs m s.store (node_of the_plan (m.place + 1)) place.n place.nodes place.edges next → FilledIn (filled_by x) m.slots next → Comes m s next
    straight-next plain (Goes n) (path, draws, after, to, took, runs, mirrors) fill =
        let moves = runs-along p path s place.n place.nodes place.edges at_place (node_id place.n) (node_of the_plan (m.place + 1)) s.store after draws runs in
        let inside : is_inside h.range (m.place + 1) ≡ true = sym (goes-behind h.range m.place x plain) ∙ in_range in
        let behind : m.place + 1 ≡ n.place = omega (arith, to) in
        let t : Spot = spot s.function (node_of the_plan (m.place + 1)) s.returns after in
        let stands : Stands n t = record {
          range = h.range;
          there = h.there;
          inside = subst (λ (q : ℕ). is_inside h.range q ≡ true) behind inside;
          node = subst (λ (q : ℕ). IsNode numbers q (node_of the_plan (m.place + 1))) behind (node_there (m.place + 1) inside);
          mirrors = mirrors;
          open_calls = opened-filled (length code) p.main numbers ranges (filled_by x) m.slots n.slots h.range s.returns own fill h.open_calls;
        } in
        inr (t, draws, from-here draws t moves, stands, took)
    straight-next plain (Over (ending.Error kind at taken)) (path, j, took, node, runs) fill =
        let t : Spot = spot s.function (node_id (place.n + j)) s.returns s.store in
        let moves = runs-along p path s place.n place.nodes place.edges at_place (node_id place.n) (node_id (place.n + j)) s.store s.store [] runs in
        (t, from-here [] t moves, node-there p s place.n place.nodes place.edges at_place j (Error kind at) s.store node, took)
    straight-next plain (Over ending.Ended) a fill = tt
    straight-next plain (Over ending.NoInput) a fill = tt
    straight-next plain (Over (ending.BadInput number)) a fill = tt
    straight-next plain (Over ending.Spent) a fill = tt

    pub straight : IsPlain x → Comes m s (acted g inputs x m)
    straight plain =
        straight-next plain (acted g inputs x m)
        (steps-run g inputs x m s.store known.laid (known.serves m.place x here) (known.shaped m.place x here) (known.fit m.place x here) plain h.mirrors p.terms (node_of the_plan (m.place + 1)) place.n place.nodes place.edges
        (checked the_plan g p.terms m.place place.n place.nodes place.edges x plain follows) known.table known.cells)
        (filled g.model (λ op kind a b. converting g.model op kind a b) inputs (graph_way g) x m.place m.slots m.st plain)

    -- ---- One way on

    pub way-moves : (to : NodeId) → Way to place.n place.nodes place.edges → Moves p s [] (spot s.function to s.returns s.store)
    way-moves to (nodes, edges) =
        subst (λ (v : NodeId). Moves p (spot s.function v s.returns s.store) [] (spot s.function to s.returns s.store)) (sym at_place.node)
        (along p s place.n place.nodes place.edges at_place (node_id place.n) s.store 0 (edge (node_id place.n) to []) [] s.store (ap (λ (es : List Edge). slice_get es 0) edges) refl refl)

    -- at another place, with the same slots and objects
    pub stands-at : (q : ℕ) (st : State) → st.store ≡ (m.st).store → is_inside h.range q ≡ true → Stands (machine q m.slots st) (spot s.function (node_of the_plan q) s.returns s.store)
    stands-at q st same_store inside = record {
      range = h.range;
      there = h.there;
      inside = inside;
      node = node_there q inside;
      mirrors = subst (λ (vs : List (List ℤ)). Mirrors g m.slots vs s.store) (sym same_store) h.mirrors;
      open_calls = h.open_calls;
    }

    pub goes-to : (q : ℕ) (st : State) → st.store ≡ (m.st).store → st.taken ≡ (m.st).taken → is_inside h.range q ≡ true → Moves p s [] (spot s.function (node_of the_plan q) s.returns s.store)
        → Comes m s (Goes (machine q m.slots st))
    goes-to q st same_store taken inside moves =
        inr (spot s.function (node_of the_plan q) s.returns s.store, [], moves, stands-at q st same_store inside, ap (λ (n : ℕ). take n inputs) taken ∙ nothing-more (take (m.st).taken inputs))

    pub goes-way : (q r : ℕ) (st : State) → q ≡ r → st.store ≡ (m.st).store → st.taken ≡ (m.st).taken → is_inside h.range q ≡ true → Way (node_of the_plan q) place.n place.nodes place.edges
        → Comes m s (Goes (machine r m.slots st))
    goes-way q r st e same_store taken inside way =
        subst (λ (z : ℕ). Comes m s (Goes (machine z m.slots st))) e (goes-to q st same_store taken inside (way-moves (node_of the_plan q) way))

    -- ---- Two ways on

    fork-moves : (f : List ℕ → ℕ) (to other : NodeId) (b : Bool) → Fork p.terms f to other place.n place.nodes place.edges → f s.store ≡ truth b → Moves p s [] (spot s.function (if b then to else other) s.returns s.store)
    fork-moves f to other true k e =
        subst (λ (v : NodeId). Moves p (spot s.function v s.returns s.store) [] (spot s.function to s.returns s.store)) (sym at_place.node)
        (along p s place.n place.nodes place.edges at_place (node_id place.n) s.store 0 (edge (node_id place.n) to (Assume k.test ∷ [])) [] s.store (ap (λ (es : List Edge). slice_get es 0) k.edges_are) refl
        (holds-on p.terms k.test [] s.store [] ((k.tells s.store).told ∙ e)))
    fork-moves f to other false k e =
        subst (λ (v : NodeId). Moves p (spot s.function v s.returns s.store) [] (spot s.function other s.returns s.store)) (sym at_place.node)
        (along p s place.n place.nodes place.edges at_place (node_id place.n) s.store 1 (edge (node_id place.n) other (Assume k.turned ∷ [])) [] s.store (ap (λ (es : List Edge). slice_get es 1) k.edges_are) refl
        (holds-on p.terms k.turned [] s.store [] ((k.turns s.store).told ∙ ap (complement_in 1) e)))

    -- of two places the one that the test tells
    pub goes-fork : (f : List ℕ → ℕ) (a c r q : ℕ) (b : Bool) → a ≡ r → c ≡ q → is_inside h.range a ≡ true → is_inside h.range c ≡ true
        → Fork p.terms f (node_of the_plan a) (node_of the_plan c) place.n place.nodes place.edges → f s.store ≡ truth b → Comes m s (Goes (machine (choose b r q) m.slots m.st))
    goes-fork f a c r q true ea ec ia ic k e = subst (λ (z : ℕ). Comes m s (Goes (machine z m.slots m.st))) ea (goes-to a m.st refl refl ia (fork-moves f (node_of the_plan a) (node_of the_plan c) true k e))
    goes-fork f a c r q false ea ec ia ic k e = subst (λ (z : ℕ). Comes m s (Goes (machine z m.slots m.st))) ec (goes-to c m.st refl refl ic (fork-moves f (node_of the_plan a) (node_of the_plan c) false k e))

    -- ---- An error

    pub node_here : (y : Node) → place.nodes ≡ y ∷ [] → node_at p s ≡ Some y
    node_here y nodes =
        let base : place.n + 0 ≡ place.n = omega arith in
        let is : node_at p (spot s.function (node_id (place.n + 0)) s.returns s.store) ≡ Some y = node-there p s place.n place.nodes place.edges at_place 0 y s.store (ap (λ (xs : List Node). slice_get xs 0) nodes) in
        let is2 : node_at p (spot s.function (node_id place.n) s.returns s.store) ≡ Some y = subst (λ (n : ℕ). node_at p (spot s.function (node_id n) s.returns s.store) ≡ Some y) base is in
        subst (λ (v : NodeId). node_at p (spot s.function v s.returns s.store) ≡ Some y) (sym at_place.node) is2

    pub fails : (kind : ErrorKind) (at : ℕ) → Last (Error kind at) place.n place.nodes place.edges → Comes m s (Over (ending.Error kind at (m.st).taken))
    fails kind at (nodes, edges) = (s, stay p s, node_here (Error kind at) nodes, refl)
