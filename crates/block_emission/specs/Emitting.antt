-- The edges of one block, by the plan of its graph.
use Rattle.std.specs.Prelude.{ℕ, ◌+◌, nat_lt, max, Bool, true, false, if◌then◌else◌, length, List, [], ◌∷◌, ◌++◌, ◌==◌, Option, None, Some, is_none, slice_get}
use Rattle.bv_term.specs.declared.term.TermId.{TermId}
use Rattle.bv_term.specs.declared.term.Term.TheVariants as term
use Rattle.c_graph.specs.declared.graph.NodeId.{NodeId}
use Rattle.c_graph.specs.declared.graph.Operation.{Operation}
use Rattle.c_graph.specs.declared.graph.Operation.TheVariants.{Assume, Set, SetAt, Draw}
use Rattle.c_graph.specs.declared.graph.Edge.{Edge}
use Rattle.c_graph.specs.Shape.{Flow}
use Rattle.plan_tables.specs.Tables.{UnitTable, LiveRows, flag_at, is_live_in}
use Rattle.plan_tables.specs.Made.{unit_of}
use Rattle.block_plan.specs.declared.regular.Way.{Way}
use Rattle.block_plan.specs.declared.regular.Ways.{Ways}
use Rattle.block_plan.specs.declared.regular.Ways.TheVariants.{Kept, One, Two}
use Rattle.block_plan.specs.Plans as planned
use Rattle.block_plan.specs.Made.{draws, is_error_node, ways_at}
use Rattle.block_emission.specs.declared.terms.Test.{Test}
use Rattle.block_emission.specs.declared.terms.Test.TheVariants.{On, Under}
use Rattle.block_emission.specs.declared.draft.Waiting.{Waiting}
use Rattle.block_emission.specs.declared.blocking.Plan.{Plan}
use Rattle.block_emission.specs.Putting.{Sketch, with_free, with_used, with_checks, with_lost, put_in, select_in, read, width_of, operate, saved, add_to, wait, waits, leave_out, begin, arrive, assume_on, flush, leave}

-- what blocks are made from: a graph, the plan of its blocks, the units of its cells, and those that are read from each node on
pub record Scheme : Type 0 where
  pub graph : Flow
  pub blocks : planned.Plan
  pub units : UnitTable
  pub live : LiveRows

abbrev pub scheme_of : Plan → Scheme
scheme_of p = record { graph = p.graph.now; blocks = p.blocks.now; units = p.units.now; live = p.live.now }

-- ---- Operations under a guard

-- whether one of the places that wait may read a unit before it sets it
abbrev pub some_reads : LiveRows → ℕ → List Waiting → Bool
some_reads live unit [] = false
some_reads live unit (w ∷ ws) = if is_live_in live w.node.0 unit then true else some_reads live unit ws

-- whether a waiting place may read a cell before it sets it; where more than so many wait, each may
abbrev pub is_awaited : Scheme → Sketch → ℕ → Bool
is_awaited p d cell = if nat_lt 64 (length d.waiting) then true else some_reads p.live (unit_of p.units cell) d.waiting

-- the index, or where the guard is 0 one past the end
abbrev pub guarded_index : Sketch → (test : TermId) → ℕ → (index : TermId) → Sketch × TermId
guarded_index d test count index =
    let p = put_in d (term.Constant (width_of d.truths index) count) in
    select_in p.0 test index p.1

abbrev pub set_under : Sketch → (on cell : ℕ) → TermId → Sketch
set_under d on cell t =
    let p = read d on in
    let q = read p.0 cell in
    let r = select_in q.0 p.1 t q.1 in
    operate r.0 (Set cell r.1)

abbrev pub set_at_under : Sketch → (on first count : ℕ) → (index t : TermId) → Sketch
set_at_under d on first count index t =
    let p = read d on in
    let q = guarded_index p.0 p.1 count index in
    operate q.0 (SetAt first count q.1 t)

abbrev pub set : Scheme → Sketch → (on cell : ℕ) → TermId → Sketch
set p d on cell t = if is_awaited p d cell then set_under d on cell t else operate d (Set cell t)

abbrev pub set_at : Scheme → Sketch → (on first count : ℕ) → (index t : TermId) → Sketch
set_at p d on first count index t = if is_awaited p d first then set_at_under d on first count index t else operate d (SetAt first count index t)

-- a store goes through its guard where a place that waits may read what it sets
abbrev pub guarded : Scheme → Sketch → ℕ → Operation → Sketch
guarded p d on (Assume t) = operate d (Assume t)
guarded p d on (Set cell t) = set p d on cell t
guarded p d on (SetAt first count index t) = set_at p d on first count index t
guarded p d on (Draw cell signed) = operate d (Draw cell signed)

abbrev pub operation : Scheme → Sketch → Option ℕ → Operation → Sketch
operation p d None op = operate d op
operation p d (Some on) op = guarded p d on op

-- whether the operation of this number stands behind the test
abbrev pub is_behind : ℕ → Option TermId → Bool
is_behind n test = if nat_lt 0 n then true else is_none test

-- the operations behind a way's test, the first of these being number n
abbrev pub operations : Scheme → Sketch → Option ℕ → Option TermId → ℕ → List Operation → Sketch
operations p d guard test n [] = d
operations p d guard test n (op ∷ ops) = operations p (if is_behind n test then operation p d guard op else d) guard test (n + 1) ops

-- ---- Ways

-- the truth of a way behind a guard
abbrev pub under_by : Option ℕ → Option TermId → Test
under_by guard None = On guard
under_by guard (Some t) = Under guard t

abbrev pub under : Option ℕ → Way → Test
under guard way = under_by guard way.test

-- a node waits in a cell
abbrev pub wait_saved : Sketch → NodeId → Test → Sketch
wait_saved d to test = let p = saved d test in wait p.0 to (Some p.1)

-- a run goes on at a node that does not wait yet
abbrev pub lead_new : Scheme → Sketch → NodeId → (is_sure : Bool) → Test → Sketch
lead_new p d to is_sure test =
    if is_sure
    then (if flag_at p.blocks.cuts to.0 then wait_saved d to test else wait d to None)
    else wait_saved d to test

abbrev pub lead_by : Scheme → Sketch → NodeId → (is_sure : Bool) → Test → Option (Option ℕ) → Sketch
lead_by p d to is_sure test None = lead_new p d to is_sure test
lead_by p d to is_sure test (Some None) = d
lead_by p d to is_sure test (Some (Some cell)) = add_to d cell test

-- a run goes on at a node, under a test
abbrev pub lead : Scheme → Sketch → NodeId → (is_sure : Bool) → Test → Sketch
lead p d to is_sure test = if flag_at p.blocks.matters to.0 then lead_by p d to is_sure test (waits d.waiting to) else with_lost d true

-- a check: its cell says whether it failed
abbrev pub check : Sketch → Option ℕ → Way → Sketch
check d guard way = let p = saved d (under guard way) in with_checks p.0 (p.0.checks ++ record { cell = p.1; error = way.to } ∷ [])

-- before a draw it is known that the run is here
abbrev pub before_draw : Sketch → Option ℕ → Bool → Sketch × Option ℕ
before_draw d guard is_draw = if is_draw then (assume_on (flush d) guard, None) else (d, guard)

abbrev pub go_along : Scheme → Sketch → Option ℕ → Way → Edge → Sketch
go_along p d guard way e =
    let q = before_draw d guard (draws e) in
    lead p (operations p q.0 q.1 way.test 0 e.ops) way.to (is_none q.1) (On q.1)

abbrev pub go_by : Scheme → Sketch → Option ℕ → Way → Option Edge → Sketch
go_by p d guard way None = d
go_by p d guard way (Some e) = go_along p d guard way e

-- the operations of a way behind its test, and where it leads
abbrev pub go : Scheme → Sketch → Option ℕ → Way → Sketch
go p d guard way = go_by p d guard way (slice_get p.graph.edges way.edge.0)

-- a way behind a test: where it fails, the run is lost
abbrev pub go_tested : Scheme → Sketch → Option ℕ → Way → TermId → Sketch
go_tested p d guard way t = let q = saved d (Under guard t) in go p (with_lost q.0 true) (Some q.1) way

abbrev pub one_way_by : Scheme → Sketch → Option ℕ → Way → Option TermId → Sketch
one_way_by p d guard way None = go p d guard way
one_way_by p d guard way (Some t) = go_tested p d guard way t

abbrev pub one_way : Scheme → Sketch → Option ℕ → Way → Sketch
one_way p d guard way = one_way_by p d guard way way.test

abbrev pub is_error : Sketch → NodeId → Bool
is_error d v = is_error_node (slice_get d.nodes v.0)

abbrev pub check_both : Sketch → Option ℕ → (first second : Way) → Sketch
check_both d guard first second = check (check d guard first) guard second

abbrev pub check_and_go : Scheme → Sketch → Option ℕ → (failing passing : Way) → Sketch
check_and_go p d guard failing passing = go p (check d guard failing) guard passing

abbrev pub part : Scheme → Sketch → Option ℕ → (first second : Way) → Sketch
part p d guard first second = lead p (lead p d first.to false (under guard first)) second.to false (under guard second)

-- two ways, the first of which is a check
abbrev pub fail_first : Scheme → Sketch → Option ℕ → (first second : Way) → Sketch
fail_first p d guard first second = if is_error d second.to then check_both d guard first second else check_and_go p d guard first second

abbrev pub two_ways : Scheme → Sketch → Option ℕ → (first second : Way) → Sketch
two_ways p d guard first second =
    if is_error d first.to then fail_first p d guard first second else
    if is_error d second.to then check_and_go p d guard second first else part p d guard first second

-- ---- Places

abbrev pub ways_out : Scheme → Sketch → Option ℕ → Ways → Sketch
ways_out p d guard Kept = d
ways_out p d guard (One way) = one_way p d guard way
ways_out p d guard (Two first second) = two_ways p d guard first second

-- the ways out of a node
abbrev pub ways_from : Scheme → NodeId → Ways
ways_from p v = ways_at p.blocks.ways v

abbrev pub place_on : Scheme → Sketch → NodeId → Option ℕ → Sketch
place_on p d v guard = let q = arrive (leave_out d v) guard in ways_out p q.0 q.1 (ways_from p v)

abbrev pub place_by : Scheme → Sketch → NodeId → Option (Option ℕ) → Sketch
place_by p d v None = d
place_by p d v (Some guard) = place_on p d v guard

-- a place: its guard, its operations, and where it leads
abbrev pub place : Scheme → Sketch → NodeId → Sketch
place p d v = place_by p d v (waits d.waiting v)

-- the number of a place behind the first is free for branches
abbrev pub set_free : Sketch → (start v : NodeId) → Sketch
set_free d start v = if v.0 == start.0 then d else with_free d (d.free ++ v ∷ [])

abbrev pub places : Scheme → Sketch → NodeId → List NodeId → Sketch
places p d start [] = d
places p d start (v ∷ vs) = places p (set_free (place p d v) start v) start vs

abbrev pub count_used : Sketch → Sketch
count_used d = with_used d (max d.used d.taken)

abbrev pub block_from : Scheme → Sketch → NodeId → List NodeId → Sketch
block_from p d start vs = count_used (leave (flush (places p (begin d start) start vs)))

-- the edges of the block with these places, in order; the first is its cut point
abbrev pub block : Scheme → Sketch → List NodeId → Sketch
block p d [] = d
block p d (start ∷ rest) = block_from p d start (start ∷ rest)
