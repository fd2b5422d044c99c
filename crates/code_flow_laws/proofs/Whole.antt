-- The run of a program's code from where main begins.
use Rattle.std.proofs.Common.{◌≡◌, inl, inr, ℕ, zero, suc, ◌<◌, ◌≤◌, ◌==◌, nat_lt, nat_le, nat_eq, Bool, true, false, if◌then◌else◌, refl, sym, ap, ◌∙◌, subst, arith, List, [], ◌∷◌, ◌++◌, length, Some, slice_get, ℤ, pos}
use Rattle.std.specs.Prelude.{take}
use Rattle.std.proofs.lemmas.Int.{ints}
use Rattle.std.proofs.lemmas.Bool.{and_from, eqb-true, eq-eqb, lt-ltb, le-leb}
use Rattle.std.proofs.lemmas.Option.{same_Some}
use Rattle.lv_base.specs.declared.fault.ErrorKind.{ErrorKind}
use Rattle.lv_base.specs.Integers.{InAny}
use Rattle.c_typed.specs.Facts.{IsTyped}
use Rattle.c_typed.specs.Parts.{Parts, tree_of}
use Rattle.c_typed.specs.Tree.{Object}
use Rattle.c_graph.specs.declared.graph.NodeId.{NodeId}
use Rattle.c_graph.specs.declared.graph.Node.TheVariants.{Error}
use Rattle.c_graph.specs.declared.graph.Cell.{Cell}
use Rattle.c_graph.specs.declared.graph.Edge.{Edge}
use Rattle.c_graph.specs.Shape.{widths_of}
use Rattle.c_graph.specs.Steps.{IsWhole}
use Rattle.c_graph.specs.Functions.{Flows, AreFlows}
use Rattle.slot_code.specs.declared.flat.Instruction.{Instruction}
use Rattle.slot_code.specs.Slots.{get, slots_in}
use Rattle.slot_code.specs.Values.{Link, link_of}
use Rattle.slot_code.specs.Machine.{Machine, rank}
use Rattle.slot_laws.proofs.Lying.{put_same}
use Rattle.slot_laws.specs.Laws.{IsShaped, AreShaped}
use Rattle.slot_laws.proofs.Shaping.{shaped_code}
use Rattle.layout_laws.proofs.Serving.{cells_serve}
use Rattle.code_moves.specs.Setting.{Setting}
use Rattle.code_move_laws.specs.Doing.{Reaches}
use Rattle.code_move_laws.specs.Ways.{objects_of, converting}
use Rattle.code_move_laws.proofs.Laying.{laid}
use Rattle.code_move_laws.proofs.Operating.{deeds-are-done}
use Rattle.cfg_build.specs.Steps.{node_id, edge}
use Rattle.cfg_build.specs.Ranges.{AreRanges}
use Rattle.cfg_build.specs.Fitting.{IsEntry}
use Rattle.cfg_build.specs.Graphs.{GraphFollows, ProgramFollows, opens, program_code, program_setting}
use Rattle.function_runs.specs.Runs.{Spot, spot, node_at, RunsBy, FunctionsFail}
use Rattle.code_flow_laws.specs.Followed.{IsOpened, links_in, start_of, FlatErrorsFollow}
use Rattle.code_flow_laws.proofs.Inside.{inside-all, inside-first}
use Rattle.code_flow_laws.proofs.Ranging.{Range}
use Rattle.code_flow_laws.proofs.Graphs.{FunctionOf, function-of, plan, first-of, first_of, entry-of}
use Rattle.code_flow_laws.proofs.Moving.{Moves, Here, along, moves-join}
use Rattle.code_flow_laws.proofs.Stepping.{Known, Stands}
use Rattle.code_flow_laws.proofs.Walking.{walk-ends}

-- ---- Links and ranges

-- a function of this number has its code from a place on, and returns by a slot
pub record Ranged (ranges : List Range) (k entry slot : ℕ) : Type 0 where
  pub range : Range
  pub there : slice_get ranges k ≡ Some range
  pub number : range.function ≡ k
  pub begins : range.entry ≡ entry
  pub by : range.slot ≡ slot
  pub some : range.entry < range.end

entered-by : (end bound goal : ℕ) (ls : List Link) (ranges : List Range) → AreRanges end bound ls ranges → IsEntry ls goal
    → (k : ℕ) × (r : Range) × (slice_get ranges k ≡ Some r) × (r.entry ≡ goal) × (r.function ≡ k) × (r.entry < r.end)
entered-by end bound goal [] ranges a e = absurd e
entered-by end bound goal (l ∷ ls) ranges a (inl e) = (l.function, _, a.0.there, e, refl, a.0.some)
entered-by end bound goal (l ∷ ls) ranges a (inr e) = entered-by l.entry l.slot goal ls ranges a.1 e

ranged-first : (end bound function : ℕ) (x : Link) (xs : List Link) (l : Link) (ranges : List Range) → AreRanges end bound (x ∷ xs) ranges → (link_of function xs ≡ Some l → Ranged ranges function l.entry l.slot)
    → (b : Bool) → nat_eq x.function function ≡ b → (if b then Some x else link_of function xs) ≡ Some l → Ranged ranges function l.entry l.slot
ranged-first end bound function x xs l ranges a later true t found =
    let same : x ≡ l = cc in
    let number : x.function ≡ function = eqb-true x.function function t in
    subst (λ (z : Link). Ranged ranges function z.entry z.slot) same
    (subst (λ (k : ℕ). Ranged ranges k x.entry x.slot) number (record { range = _; there = a.0.there; number = refl; begins = refl; by = refl; some = a.0.some }))
ranged-first end bound function x xs l ranges a later false t found = later found

ranged-by : (end bound function : ℕ) (ls : List Link) (l : Link) (ranges : List Range) → AreRanges end bound ls ranges → link_of function ls ≡ Some l → Ranged ranges function l.entry l.slot
ranged-by end bound function [] l ranges a e = absurd cc
ranged-by end bound function (x ∷ xs) l ranges a e = ranged-first end bound function x xs l ranges a (λ found. ranged-by x.entry x.slot function xs l ranges a.1 found) (nat_eq x.function function) refl e

any-place : (n most : ℕ) → n ≤ most → most < 18446744073709551616 → InAny (pos n)
any-place n most le lt = (omega (arith, ints), omega (arith, ints, le, lt))

nothing-taken : (xs : List ℤ) → take 0 xs ≡ []
nothing-taken [] = refl
nothing-taken (x ∷ xs) = refl

-- ---- Shapes

shaped-at : (objects : List Object) (code : List Instruction) (place : ℕ) (x : Instruction) → AreShaped objects code → slice_get code place ≡ Some x → IsShaped objects x
shaped-at objects [] place x all e = absurd cc
shaped-at objects (y ∷ ys) zero x all e = let same : y ≡ x = same_Some y x e in subst (IsShaped objects) same all.0
shaped-at objects (y ∷ ys) (suc place) x all e = shaped-at objects ys place x all.1 e

-- ---- A program

module _ (t : Parts) (order : List ℕ) (p : Flows) (flows : AreFlows p) (follow : ProgramFollows t order p) (few : length (program_code t order) < 18446744073709551616) (typed : IsTyped (tree_of t)) where
  abbrev C : List Instruction
  C = program_code t order

  abbrev G : Setting
  G = program_setting t order

  cells : (p.terms).cells ≡ widths_of G.lay.cells
  cells = flows.cells ∙ ap (λ (cs : List Cell). widths_of cs) follow.cells

  known : Known C follow.numbers follow.ranges G p
  known = record {
    follow = follow.follow;
    table = flows.table;
    cells = cells;
    laid = laid t.objects t.model C (slots_in C) (omega arith) (subst (λ (cs : List Cell). length cs < 4294967296) follow.cells flows.few_cells);
    serves = (cells_serve t.objects t.model C (slots_in C) (omega arith)).0;
    shaped = λ place x e. shaped-at (objects_of G) C place x (shaped_code (tree_of t) order typed) e;
    fit = follow.fit;
    short = λ place le. any-place place (length C) le few;
    entered = λ place at goal slot e. entered-by (length C) (slots_in C) goal (links_in t order) follow.ranges follow.stand (follow.enters place at goal slot e);
  }

  module _ (l : Link) (link : link_of p.main (links_in t order) ≡ Some l) (m : Machine) (begins : m.place ≡ l.entry) (to_end : get m.slots l.slot ≡ pos (length C)) (opened : IsOpened G m) where
    abbrev ranged : Ranged follow.ranges p.main l.entry l.slot
    ranged = ranged-by (length C) (slots_in C) p.main (links_in t order) l follow.ranges follow.stand link

    abbrev main : FunctionOf C follow.numbers follow.ranges p.main G p.terms p.graphs p.exits p.main ranged.range
    main = function-of C follow.numbers follow.ranges p.main G p.terms p.graphs p.exits p.main ranged.range follow.follow ranged.there

    is-main : (ranged.range.function == p.main) ≡ true
    is-main = eq-eqb ranged.range.function p.main ranged.number

    opening : GraphFollows true (plan C follow.numbers follow.ranges p.main G p.terms ranged.range main.exit) G p.terms main.graph
    opening = subst (λ (b : Bool). GraphFollows b (plan C follow.numbers follow.ranges p.main G p.terms ranged.range main.exit) G p.terms main.graph) is-main main.follows

    abbrev begin : Spot
    begin = spot p.main (node_id 0) [] opened.store

    abbrev open_spot : Spot
    open_spot = spot p.main (node_id 1) [] opened.after

    here : Here p begin 0 opening.1.nodes_first opening.1.edges_first
    here = record {
      graph = main.graph;
      is = main.graph_is;
      inside = inside-first _ _ 0 (main.graph).nodes (main.graph).edges (main.graph).nodes (main.graph).edges opening.1 (inside-all (main.graph).nodes (main.graph).edges);
      node = refl;
    }

    opens-by : Moves p begin [] open_spot
    opens-by =
        let o = opening.1.first in
        along p begin 0 opening.1.nodes_first opening.1.edges_first here (node_id 0) opened.store 0 (edge (node_id 0) (node_id 1) o.ops) [] opened.after (ap (λ (es : List Edge). slice_get es 0) o.edges_are) refl
        (deeds-are-done p.terms o.ops (opens G (length G.objects)) opened.store [] opened.after [] o.does (subst (λ (W : List ℕ). Reaches W (opens G (length G.objects)) opened.store [] opened.after []) (sym cells) opened.reaches))

    first-number : slice_get follow.numbers m.place ≡ Some 1
    first-number =
        ap (slice_get follow.numbers) (begins ∙ sym ranged.begins)
        ∙ first-of C follow.numbers follow.ranges p.main G p.terms p.graphs p.exits p.main ranged.range main ranged.some
        ∙ ap (λ (b : Bool). Some (first_of b)) is-main

    -- where main begins, behind the opening
    stands : (inputs : List ℤ) → Stands C follow.numbers follow.ranges G p known inputs m open_spot
    stands inputs =
        let le : ranged.range.entry ≤ m.place = omega (arith, begins, ranged.begins) in
        let lt : m.place < ranged.range.end = omega (arith, begins, ranged.begins, ranged.some) in
        record {
          range = ranged.range;
          there = ranged.there;
          inside = and_from (nat_le ranged.range.entry m.place) (nat_lt m.place ranged.range.end) (le-leb ranged.range.entry m.place le) (lt-ltb m.place ranged.range.end lt);
          node = (1, first-number, refl);
          mirrors = opened.mirrors;
          open_calls = (ranged.there, ap (get m.slots) ranged.by ∙ to_end);
        }

    fails-in : (inputs draws : List ℤ) (u : Spot) (kind : ErrorKind) (at taken : ℕ) → Moves p open_spot draws u → node_at p u ≡ Some (Error kind at) → take taken inputs ≡ take 0 inputs ++ draws → FunctionsFail p (take taken inputs) kind at
    fails-in inputs draws u kind at taken moves node took =
        let drawn : take taken inputs ≡ draws = took ∙ ap (λ (xs : List ℤ). xs ++ draws) (nothing-taken inputs) in
        let (all, run) = moves-join p begin open_spot u [] draws opens-by moves in
        let from = subst (λ (v : NodeId). RunsBy p all (spot p.main v [] opened.store) draws u)
        (sym (entry-of C follow.numbers follow.ranges p.main G p.terms p.graphs p.exits p.main ranged.range main)) run in
        let whole : IsWhole (widths_of p.cells) opened.store = subst (λ (cs : List Cell). IsWhole (widths_of cs) opened.store) (sym follow.cells) opened.whole in
        subst (λ (ds : List ℤ). FunctionsFail p ds kind at) (sym drawn) (u, (main.graph, all, opened.store, main.graph_is, whole, from), node)

pub errors-follow : FlatErrorsFollow
errors-follow t order p slots inputs turns l kind at taken typed flows follow few link opened run =
    let m : Machine = start_of t order slots l turns in
    let (u, draws, moves, node, took) =
    walk-ends (program_code t order) follow.numbers follow.ranges (program_setting t order) p (known t order p flows follow few typed) inputs
    (rank t.model (λ op kind a b. converting t.model op kind a b) inputs (program_code t order) m) m (spot p.main (node_id 1) [] opened.after) kind at taken
    (stands t order p flows follow few typed l link m refl (put_same slots l.slot (pos (length (program_code t order)))) opened inputs) run in
    fails-in t order p flows follow few typed l link m refl (put_same slots l.slot (pos (length (program_code t order)))) opened inputs draws u kind at taken moves node took
