-- Where the code of main begins, behind the opening of its graph.
use Rattle.std.proofs.Common.{◌≡◌, inl, inr, ℕ, zero, suc, ◌<◌, ◌≤◌, ◌==◌, nat_lt, nat_le, nat_eq, Bool, true, false, if◌then◌else◌, refl, sym, ap, ◌∙◌, subst, arith, List, [], ◌∷◌, length, Some, slice_get, ℤ, pos}
use Rattle.std.proofs.lemmas.Int.{ints}
use Rattle.std.proofs.lemmas.Bool.{and_from, eqb-true, eq-eqb, lt-ltb, le-leb}
use Rattle.std.proofs.lemmas.Option.{same_Some}
use Rattle.lv_base.specs.Integers.{InAny}
use Rattle.c_typed.specs.Facts.{IsTyped}
use Rattle.c_typed.specs.Parts.{Parts, tree_of}
use Rattle.c_typed.specs.Tree.{Object}
use Rattle.c_graph.specs.declared.graph.EdgeId.{EdgeId}
use Rattle.c_graph.specs.declared.graph.Cell.{Cell}
use Rattle.c_graph.specs.declared.graph.Edge.{Edge}
use Rattle.c_graph.specs.Shape.{widths_of}
use Rattle.c_graph.specs.Functions.{Flows, AreFlows}
use Rattle.slot_code.specs.declared.flat.Instruction.{Instruction}
use Rattle.slot_code.specs.Slots.{get, slots_in}
use Rattle.slot_code.specs.Values.{Link, link_of}
use Rattle.slot_code.specs.Machine.{Machine}
use Rattle.slot_laws.specs.Laws.{IsShaped, AreShaped}
use Rattle.slot_laws.proofs.Shaping.{shaped_code}
use Rattle.layout_laws.proofs.Serving.{cells_serve}
use Rattle.code_moves.specs.Setting.{Setting}
use Rattle.code_move_laws.specs.Doing.{Reaches}
use Rattle.code_move_laws.specs.Ways.{objects_of}
use Rattle.code_move_laws.proofs.Laying.{laid}
use Rattle.code_move_laws.proofs.Operating.{deeds-are-done}
use Rattle.cfg_build.specs.Steps.{node_id, edge}
use Rattle.cfg_build.specs.Ranges.{AreRanges}
use Rattle.cfg_build.specs.Fitting.{IsEntry}
use Rattle.cfg_build.specs.Graphs.{GraphFollows, ProgramFollows, opens, program_code, program_setting}
use Rattle.function_runs.specs.Runs.{Along, spot, MovesBy}
use Rattle.code_flow_laws.specs.Followed.{IsOpened, links_in}
use Rattle.code_flow_laws.proofs.Inside.{inside-all, inside-first}
use Rattle.code_flow_laws.proofs.Ranging.{Range}
use Rattle.code_flow_laws.proofs.Graphs.{FunctionOf, function-of, plan, first-of, first_of, entry-of}
use Rattle.code_flow_laws.proofs.Stepping.{Known, Stands}

-- ---- Links and ranges

-- a function of this number has its code from a place on, and returns by a slot
pub record Ranged (ranges : List Range) (k entry slot : ℕ) : Type 0 where
  pub range : Range
  pub there : slice_get ranges k ≡ Some range
  pub number : range.function ≡ k
  pub begins : range.entry ≡ entry
  pub by : range.slot ≡ slot
  pub some : range.entry < range.end

entered-by : (end bound goal : ℕ) (ls : List Link) (ranges : List Range) → AreRanges end bound ls ranges → IsEntry ls goal
    → (k : ℕ) × (r : Range) × (slice_get ranges k ≡ Some r) × (r.entry ≡ goal) × (r.function ≡ k) × (r.entry < r.end)
entered-by end bound goal [] ranges a e = absurd e
entered-by end bound goal (l ∷ ls) ranges a (inl e) = (l.function, _, a.0.there, e, refl, a.0.some)
entered-by end bound goal (l ∷ ls) ranges a (inr e) = entered-by l.entry l.slot goal ls ranges a.1 e

ranged-first : (end bound function : ℕ) (x : Link) (xs : List Link) (l : Link) (ranges : List Range) → AreRanges end bound (x ∷ xs) ranges → (link_of function xs ≡ Some l → Ranged ranges function l.entry l.slot)
    → (b : Bool) → nat_eq x.function function ≡ b → (if b then Some x else link_of function xs) ≡ Some l → Ranged ranges function l.entry l.slot
ranged-first end bound function x xs l ranges a later true t found =
    let same : x ≡ l = cc in
    let number : x.function ≡ function = eqb-true x.function function t in
    subst (λ (z : Link). Ranged ranges function z.entry z.slot) same
    (subst (λ (k : ℕ). Ranged ranges k x.entry x.slot) number (record { range = _; there = a.0.there; number = refl; begins = refl; by = refl; some = a.0.some }))
ranged-first end bound function x xs l ranges a later false t found = later found

pub ranged-by : (end bound function : ℕ) (ls : List Link) (l : Link) (ranges : List Range) → AreRanges end bound ls ranges → link_of function ls ≡ Some l → Ranged ranges function l.entry l.slot
ranged-by end bound function [] l ranges a e = absurd cc
ranged-by end bound function (x ∷ xs) l ranges a e = ranged-first end bound function x xs l ranges a (λ found. ranged-by x.entry x.slot function xs l ranges a.1 found) (nat_eq x.function function) refl e

any-place : (n most : ℕ) → n ≤ most → most < 18446744073709551616 → InAny (pos n)
any-place n most le lt = (omega (arith, ints), omega (arith, ints, le, lt))

shaped-at : (objects : List Object) (code : List Instruction) (place : ℕ) (x : Instruction) → AreShaped objects code → slice_get code place ≡ Some x → IsShaped objects x
shaped-at objects [] place x all e = absurd cc
shaped-at objects (y ∷ ys) zero x all e = let same : y ≡ x = same_Some y x e in subst (IsShaped objects) same all.0
shaped-at objects (y ∷ ys) (suc place) x all e = shaped-at objects ys place x all.1 e

-- ---- A program

module _ (t : Parts) (order : List ℕ) (p : Flows) (flows : AreFlows p) (follow : ProgramFollows t order p) (typed : IsTyped (tree_of t)) where
  abbrev C : List Instruction
  C = program_code t order

  abbrev G : Setting
  G = program_setting t order

  cells : (p.terms).cells ≡ widths_of G.lay.cells
  cells = flows.cells ∙ ap (λ (cs : List Cell). widths_of cs) follow.cells

  pub known : Known C follow.numbers follow.ranges G p
  known = record {
    follow = follow.follow;
    table = flows.table;
    cells = cells;
    laid = laid t.objects t.model C (slots_in C) (omega arith) (subst (λ (cs : List Cell). length cs < 4294967296) follow.cells flows.few_cells);
    serves = (cells_serve t.objects t.model C (slots_in C) (omega arith)).0;
    shaped = λ place x e. shaped-at (objects_of G) C place x (shaped_code (tree_of t) order typed) e;
    fit = follow.fit;
    short = λ place le. any-place place (length C) le follow.short;
    entered = λ place at goal slot e. entered-by (length C) (slots_in C) goal (links_in t order) follow.ranges follow.stand (follow.enters place at goal slot e);
  }

  module _ (l : Link) (link : link_of p.main (links_in t order) ≡ Some l) where
    abbrev pub ranged : Ranged follow.ranges p.main l.entry l.slot
    ranged = ranged-by (length C) (slots_in C) p.main (links_in t order) l follow.ranges follow.stand link

    abbrev pub main : FunctionOf C follow.numbers follow.ranges p.main G p.terms p.graphs p.exits p.main ranged.range
    main = function-of C follow.numbers follow.ranges p.main G p.terms p.graphs p.exits p.main ranged.range follow.follow ranged.there

    is-main : (ranged.range.function == p.main) ≡ true
    is-main = eq-eqb ranged.range.function p.main ranged.number

    opening : GraphFollows true (plan C follow.numbers follow.ranges p.main G p.terms ranged.range main.exit) G p.terms main.graph
    opening = subst (λ (b : Bool). GraphFollows b (plan C follow.numbers follow.ranges p.main G p.terms ranged.range main.exit) G p.terms main.graph) is-main main.follows

    pub entry : (main.graph).entry ≡ node_id 0
    entry = entry-of C follow.numbers follow.ranges p.main G p.terms p.graphs p.exits p.main ranged.range main

    module _ (m : Machine) (opened : IsOpened G m) where
      -- the opening is a move
      pub opens-by : (e : EdgeId) × MovesBy p (Along e) (spot p.main (node_id 0) [] opened.store) [] (spot p.main (node_id 1) [] opened.after)
      opens-by =
          let o = opening.1.first in
          let inside = inside-first _ _ 0 (main.graph).nodes (main.graph).edges (main.graph).nodes (main.graph).edges opening.1 (inside-all (main.graph).nodes (main.graph).edges) in
          let there = inside.edges_there 0 (edge (node_id 0) (node_id 1) o.ops) (ap (λ (es : List Edge). slice_get es 0) o.edges_are) in (
            record { 0 = there.0 },
            (
              main.graph,
              edge (node_id 0) (node_id 1) o.ops,
              main.graph_is,
              there.1,
              refl,
              (
                opened.after,
                deeds-are-done p.terms o.ops (opens G (length G.objects)) opened.store [] opened.after [] o.does (subst (λ (W : List ℕ). Reaches W (opens G (length G.objects)) opened.store [] opened.after []) (sym cells) opened.reaches),
                refl,
              ),
            ),
          )

      first-number : m.place ≡ l.entry → slice_get follow.numbers m.place ≡ Some 1
      first-number begins =
          ap (slice_get follow.numbers) (begins ∙ sym ranged.begins)
          ∙ first-of C follow.numbers follow.ranges p.main G p.terms p.graphs p.exits p.main ranged.range main ranged.some
          ∙ ap (λ (b : Bool). Some (first_of b)) is-main

      -- where main begins, behind the opening
      pub stands : (inputs : List ℤ) → m.place ≡ l.entry → get m.slots l.slot ≡ pos (length C) → Stands C follow.numbers follow.ranges G p known inputs m (spot p.main (node_id 1) [] opened.after)
      stands inputs begins to_end =
          let le : ranged.range.entry ≤ m.place = omega (arith, begins, ranged.begins) in
          let lt : m.place < ranged.range.end = omega (arith, begins, ranged.begins, ranged.some) in
          record {
            range = ranged.range;
            there = ranged.there;
            inside = and_from (nat_le ranged.range.entry m.place) (nat_lt m.place ranged.range.end) (le-leb ranged.range.entry m.place le) (lt-ltb m.place ranged.range.end lt);
            node = (1, first-number begins, refl);
            mirrors = opened.mirrors;
            open_calls = (ranged.there, ap (get m.slots) ranged.by ∙ to_end);
          }
