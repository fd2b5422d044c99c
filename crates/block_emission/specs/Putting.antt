-- The terms of guards, and the graph of blocks while it is made: each step as what it makes of what stood before.
use Rattle.std.specs.Prelude.{ℕ, suc, ◌+◌, ◌^◌, ◌-◌, ◌==◌, nat_lt, min, Bool, true, false, if◌then◌else◌, length, take, List, [], ◌∷◌, ◌++◌, Option, None, Some, slice_get, slice_index}
use Rattle.std.specs.List.{insert}
use Rattle.bv_term.specs.declared.term.TermId.{TermId}
use Rattle.bv_term.specs.declared.term.Term.{Term}
use Rattle.bv_term.specs.declared.term.Term.TheVariants as term
use Rattle.bv_term.specs.WellFormed.{Table, widths}
use Rattle.bv_term.specs.Keys.{put_of}
use Rattle.c_terms.specs.Fitting.{fits_in}
use Rattle.c_graph.specs.declared.graph.NodeId.{NodeId}
use Rattle.c_graph.specs.declared.graph.Node.{Node}
use Rattle.c_graph.specs.declared.graph.Node.TheVariants.{Plain}
use Rattle.c_graph.specs.declared.graph.Operation.{Operation}
use Rattle.c_graph.specs.declared.graph.Operation.TheVariants.{Assume, Set}
use Rattle.c_graph.specs.declared.graph.Edge.{Edge}
use Rattle.block_emission.specs.declared.terms.Truths.{Truths}
use Rattle.block_emission.specs.declared.terms.Test.{Test}
use Rattle.block_emission.specs.declared.terms.Test.TheVariants.{On, Under}
use Rattle.block_emission.specs.declared.draft.Check.{Check}
use Rattle.block_emission.specs.declared.draft.Waiting.{Waiting}
use Rattle.block_emission.specs.declared.draft.Draft.{Draft}

-- ---- Terms

abbrev pub truths_of : Table → Bool → Truths
truths_of terms sound = record { terms = terms; is_sound = sound }

-- a well-formed term is put as the table puts it
abbrev pub put_fit : Truths → Term → Truths × TermId
put_fit w t = let p = put_of w.terms t in (truths_of p.0 w.is_sound, p.1)

-- one that is not well formed is not put: number 0 stands in its place
abbrev pub put_unfit : Truths → Truths × TermId
put_unfit w = (truths_of w.terms false, record { 0 = 0 })

abbrev pub put : Truths → Term → Truths × TermId
put w t = if fits_in w.terms t then put_fit w t else put_unfit w

-- the width of a term, 1 past the end
abbrev pub width_of : Truths → TermId → ℕ
width_of w t = if nat_lt t.0 (length w.terms.terms) then slice_index (widths w.terms) t.0 else 1

abbrev pub complement : Truths → TermId → Truths × TermId
complement w t = put w (term.Not t)

abbrev pub either : Truths → (first second : TermId) → Truths × TermId
either w first second = put w (term.Or first second)

abbrev pub select : Truths → (test first second : TermId) → Truths × TermId
select w test first second = put w (term.Select test first second)

-- that a cell is 1, and a term
abbrev pub both : Truths → ℕ → TermId → Truths × TermId
both w cell t = let p = put w (term.Cell cell) in put p.0 (term.And p.1 t)

-- the truth as a term
abbrev pub term_of : Truths → Test → Truths × TermId
term_of w (On None) = put w (term.Constant 1 1)
term_of w (On (Some cell)) = put w (term.Cell cell)
term_of w (Under None t) = (w, t)
term_of w (Under (Some cell) t) = both w cell t

-- ---- What is made so far

-- the nodes, edges and terms of the graph that is made, and what the block that is made has so far
pub record Sketch : Type 0 where
  pub nodes : List Node
  pub edges : List Edge
  pub truths : Truths
  pub first : ℕ
  pub used : ℕ
  pub taken : ℕ
  pub free : List NodeId
  pub from : NodeId
  pub ops : List Operation
  pub checks : List Check
  pub waiting : List Waiting
  pub is_lost : Bool

abbrev pub sketch_of : Draft → Sketch
sketch_of d = record {
  nodes = d.nodes.items;
  edges = d.edges.items;
  truths = d.truths;
  first = d.first;
  used = d.used;
  taken = d.taken;
  free = d.free.items;
  from = d.from;
  ops = d.ops.items;
  checks = d.checks.items;
  waiting = d.waiting.items;
  is_lost = d.is_lost;
}

-- nothing of a block, behind these nodes
abbrev pub sketch_new : List Node → Truths → ℕ → Sketch
sketch_new nodes truths first = record {
  nodes = nodes;
  edges = [];
  truths = truths;
  first = first;
  used = 0;
  taken = 0;
  free = [];
  from = record { 0 = 0 };
  ops = [];
  checks = [];
  waiting = [];
  is_lost = false;
}

-- The same, but for one part.
abbrev pub with_nodes : Sketch → List Node → Sketch
with_nodes d x = record { nodes = x; edges = d.edges; truths = d.truths; first = d.first; used = d.used; taken = d.taken; free = d.free; from = d.from; ops = d.ops; checks = d.checks; waiting = d.waiting; is_lost = d.is_lost }

abbrev pub with_edges : Sketch → List Edge → Sketch
with_edges d x = record { nodes = d.nodes; edges = x; truths = d.truths; first = d.first; used = d.used; taken = d.taken; free = d.free; from = d.from; ops = d.ops; checks = d.checks; waiting = d.waiting; is_lost = d.is_lost }

abbrev pub with_truths : Sketch → Truths → Sketch
with_truths d x = record { nodes = d.nodes; edges = d.edges; truths = x; first = d.first; used = d.used; taken = d.taken; free = d.free; from = d.from; ops = d.ops; checks = d.checks; waiting = d.waiting; is_lost = d.is_lost }

abbrev pub with_used : Sketch → ℕ → Sketch
with_used d x = record { nodes = d.nodes; edges = d.edges; truths = d.truths; first = d.first; used = x; taken = d.taken; free = d.free; from = d.from; ops = d.ops; checks = d.checks; waiting = d.waiting; is_lost = d.is_lost }

abbrev pub with_taken : Sketch → ℕ → Sketch
with_taken d x = record { nodes = d.nodes; edges = d.edges; truths = d.truths; first = d.first; used = d.used; taken = x; free = d.free; from = d.from; ops = d.ops; checks = d.checks; waiting = d.waiting; is_lost = d.is_lost }

abbrev pub with_free : Sketch → List NodeId → Sketch
with_free d x = record { nodes = d.nodes; edges = d.edges; truths = d.truths; first = d.first; used = d.used; taken = d.taken; free = x; from = d.from; ops = d.ops; checks = d.checks; waiting = d.waiting; is_lost = d.is_lost }

abbrev pub with_from : Sketch → NodeId → Sketch
with_from d x = record { nodes = d.nodes; edges = d.edges; truths = d.truths; first = d.first; used = d.used; taken = d.taken; free = d.free; from = x; ops = d.ops; checks = d.checks; waiting = d.waiting; is_lost = d.is_lost }

abbrev pub with_ops : Sketch → List Operation → Sketch
with_ops d x = record { nodes = d.nodes; edges = d.edges; truths = d.truths; first = d.first; used = d.used; taken = d.taken; free = d.free; from = d.from; ops = x; checks = d.checks; waiting = d.waiting; is_lost = d.is_lost }

abbrev pub with_checks : Sketch → List Check → Sketch
with_checks d x = record { nodes = d.nodes; edges = d.edges; truths = d.truths; first = d.first; used = d.used; taken = d.taken; free = d.free; from = d.from; ops = d.ops; checks = x; waiting = d.waiting; is_lost = d.is_lost }

abbrev pub with_waiting : Sketch → List Waiting → Sketch
with_waiting d x = record { nodes = d.nodes; edges = d.edges; truths = d.truths; first = d.first; used = d.used; taken = d.taken; free = d.free; from = d.from; ops = d.ops; checks = d.checks; waiting = x; is_lost = d.is_lost }

abbrev pub with_lost : Sketch → Bool → Sketch
with_lost d x = record { nodes = d.nodes; edges = d.edges; truths = d.truths; first = d.first; used = d.used; taken = d.taken; free = d.free; from = d.from; ops = d.ops; checks = d.checks; waiting = d.waiting; is_lost = x }

-- nothing of a block that begins at this node
abbrev pub cleared : Sketch → NodeId → Sketch
cleared d start = record { nodes = d.nodes; edges = d.edges; truths = d.truths; first = d.first; used = d.used; taken = 0; free = []; from = start; ops = []; checks = []; waiting = []; is_lost = false }

-- ---- Terms of what is made

-- what is made, beside the terms that were put, and the number of the last of them
abbrev pub beside : Sketch → Truths × TermId → Sketch × TermId
beside d p = (with_truths d p.0, p.1)

abbrev pub put_in : Sketch → Term → Sketch × TermId
put_in d t = beside d (put d.truths t)

abbrev pub read : Sketch → ℕ → Sketch × TermId
read d cell = put_in d (term.Cell cell)

abbrev pub term_in : Sketch → Test → Sketch × TermId
term_in d test = beside d (term_of d.truths test)

abbrev pub complement_in : Sketch → TermId → Sketch × TermId
complement_in d t = beside d (complement d.truths t)

abbrev pub either_in : Sketch → (first second : TermId) → Sketch × TermId
either_in d first second = beside d (either d.truths first second)

abbrev pub select_in : Sketch → (test first second : TermId) → Sketch × TermId
select_in d test first second = beside d (select d.truths test first second)

-- ---- Cells, nodes, edges, operations

-- a saved cell of one bit
abbrev pub cell : Sketch → Sketch × ℕ
cell d = (with_taken d (min (d.taken + 1) (2 ^ 32 - 1)), min (d.first + d.taken) (2 ^ 32 - 1))

abbrev pub node_id : ℕ → NodeId
node_id n = record { 0 = n }

abbrev pub new_node : Sketch → Sketch × NodeId
new_node d = (with_nodes d (d.nodes ++ Plain ∷ []), node_id (length d.nodes))

-- the number of a place that the block took in, or a new node
abbrev pub node_by : Sketch → Option NodeId → Sketch × NodeId
node_by d None = new_node d
node_by d (Some v) = (with_free d (take (length d.free - 1) d.free), v)

-- the last of them
abbrev pub last_of : List NodeId → Option NodeId
last_of vs = slice_get vs (length vs - 1)

-- a node for a branch
abbrev pub node : Sketch → Sketch × NodeId
node d = node_by d (last_of d.free)

abbrev pub edge : Sketch → (from to : NodeId) → List Operation → Sketch
edge d from to ops = with_edges d (d.edges ++ record { from = from; to = to; ops = ops } ∷ [])

abbrev pub edge_if : Sketch → (from to : NodeId) → TermId → Sketch
edge_if d from to test = edge d from to (Assume test ∷ [])

abbrev pub operate : Sketch → Operation → Sketch
operate d op = with_ops d (d.ops ++ op ∷ [])

-- the operations so far become an edge to this node
abbrev pub close : Sketch → NodeId → Sketch
close d to = with_from (edge (with_ops d []) d.from to d.ops) to

-- a node at which the operations so far are done, if there are any
abbrev pub closed_node : Sketch → Sketch × NodeId
closed_node d = let p = node d in (close p.0 p.1, p.1)

-- a node at which the operations so far are done
abbrev pub branch_node : Sketch → Sketch × NodeId
branch_node d = if length d.ops == 0 then (d, d.from) else closed_node d

-- a test's truth in a cell of its own, which later operations don't change
abbrev pub saved : Sketch → Test → Sketch × ℕ
saved d test =
    let p = term_in d test in
    let c = cell p.0 in
    (operate c.0 (Set c.1 p.1), c.1)

-- ---- Places that wait

-- before how many of the places that wait a node stands
abbrev pub place_among : List Waiting → NodeId → ℕ
place_among [] v = 0
place_among (w ∷ ws) v = if nat_lt v.0 w.node.0 then 0 else suc (place_among ws v)

abbrev pub wait : Sketch → NodeId → Option ℕ → Sketch
wait d v guard = with_waiting d (insert d.waiting (place_among d.waiting v) (record { node = v; guard = guard }))

-- the guard of a place that waits
abbrev pub waits : List Waiting → NodeId → Option (Option ℕ)
waits [] v = None
waits (w ∷ ws) v = if w.node.0 == v.0 then Some w.guard else waits ws v

-- the places that wait, but for this one, which waits once
abbrev pub without : List Waiting → NodeId → List Waiting
without [] v = []
without (w ∷ ws) v = if w.node.0 == v.0 then ws else w ∷ without ws v

abbrev pub leave_out : Sketch → NodeId → Sketch
leave_out d v = with_waiting d (without d.waiting v)

-- one more way to a place that waits in a cell
abbrev pub add_to : Sketch → ℕ → Test → Sketch
add_to d cell test =
    let p = read d cell in
    let q = term_in p.0 test in
    let r = either_in q.0 p.1 q.1 in
    operate r.0 (Set cell r.1)

-- the block that begins at a node
abbrev pub begin : Sketch → NodeId → Sketch
begin d start = wait (cleared d start) start None

-- ---- Where runs may have been lost

abbrev pub assume_read : Sketch → ℕ → Sketch
assume_read d cell = let p = read d cell in operate p.0 (Assume p.1)

abbrev pub assume_cell : Sketch → Option ℕ → Sketch
assume_cell d None = d
assume_cell d (Some cell) = assume_read d cell

-- where a run may have been lost, it goes on only where the guard is 1
abbrev pub assume_on : Sketch → Option ℕ → Sketch
assume_on d guard = with_lost (if d.is_lost then assume_cell d guard else d) false

-- whether something else waits, or a run was lost with a check open
abbrev pub is_open : Sketch → Bool
is_open d =
    if length d.waiting == 0
    then (if d.is_lost then (if length d.checks == 0 then false else true) else false)
    else true

-- where it is neither, the run is surely here
abbrev pub arrive : Sketch → Option ℕ → Sketch × Option ℕ
arrive d guard = if is_open d then (d, guard) else (assume_on d guard, None)

-- ---- Checks

abbrev pub fail_either : Sketch → (failed others : TermId) → Sketch × Option TermId
fail_either d failed others = let q = either_in d failed others in (q.0, Some q.1)

-- a term that is 1 where this check failed or one of the others, if there are any
abbrev pub fail_with : Sketch × TermId → Option TermId → Sketch × Option TermId
fail_with p None = (p.0, Some p.1)
fail_with p (Some others) = fail_either p.0 p.1 others

-- a term that is 1 where one of the checks failed, if there are any
abbrev pub some_failed : Sketch → List Check → Sketch × Option TermId
some_failed d [] = (d, None)
some_failed d (c ∷ cs) = let p = some_failed d cs in fail_with (read p.0 c.cell) p.1

-- where the branch of a check leads if it did not fail: to the next check's error where that is the last one, else to the next branch
abbrev pub next_check : Sketch → Check → Bool → Sketch × NodeId
next_check d next is_last = if is_last then (d, next.error) else node d

-- the branch of one check, and the node of the next
abbrev pub check_step : Sketch → NodeId → (check next : Check) → (is_last : Bool) → Sketch × NodeId
check_step d from check next is_last =
    let p = read d check.cell in
    let q = next_check (edge_if p.0 from check.error p.1) next is_last in
    let r = complement_in q.0 p.1 in
    (edge_if r.0 from q.1 r.1, q.1)

abbrev pub no_check : List Check → Bool
no_check [] = true
no_check (c ∷ cs) = false

-- branches on the checks in their order, the last without a test
abbrev pub check_chain : Sketch → NodeId → List Check → Sketch
check_chain d from [] = d
check_chain d from (c ∷ []) = d
check_chain d from (c ∷ next ∷ cs) = let p = check_step d from c next (no_check cs) in check_chain p.0 p.1 (next ∷ cs)

-- a branch to a chain of more than one check
abbrev pub branch_chain : Sketch → NodeId → TermId → List Check → Sketch
branch_chain d from any checks = let p = node d in check_chain (edge_if p.0 from p.1 any) p.1 checks

abbrev pub branch_checks : Sketch → NodeId → TermId → List Check → Sketch
branch_checks d from any [] = branch_chain d from any []
branch_checks d from any (c ∷ []) = edge_if d from c.error any
branch_checks d from any (c ∷ next ∷ cs) = branch_chain d from any (c ∷ next ∷ cs)

abbrev pub go_unfailed : Sketch → TermId → Sketch
go_unfailed d any = let p = complement_in d any in operate p.0 (Assume p.1)

-- one branch for these checks
abbrev pub branch_on : Sketch → List Check → TermId → Sketch
branch_on d checks any = let p = branch_node d in go_unfailed (branch_checks p.0 p.1 any checks) any

-- if there are any
abbrev pub flush_by : Sketch → List Check → Option TermId → Sketch
flush_by d checks None = d
flush_by d checks (Some any) = branch_on d checks any

-- One branch for all checks that may have failed. The first in the order of places that did is the one that happened.
abbrev pub flush : Sketch → Sketch
flush d = let p = some_failed (with_checks d []) d.checks in flush_by p.0 d.checks p.1

-- ---- Ways out

abbrev pub close_under : Sketch → Waiting → Sketch
close_under d w = let p = term_in d (On w.guard) in close (operate p.0 (Assume p.1)) w.node

-- the last way out, without a test unless a side was lost
abbrev pub leave_last : Sketch → Waiting → Sketch
leave_last d w = if d.is_lost then close_under d w else close d w.node

-- a way out under a test, behind which the run goes on where it did not leave
abbrev pub leave_under : Sketch → Waiting → Sketch
leave_under d w =
    let p = term_in d (On w.guard) in
    let q = branch_node p.0 in
    let r = complement_in (edge_if q.0 q.1 w.node p.1) p.1 in
    operate r.0 (Assume r.1)

abbrev pub leave_one : Sketch → Waiting → Bool → Sketch
leave_one d w is_last = if is_last then leave_last d w else leave_under d w

abbrev pub none_waits : List Waiting → Bool
none_waits [] = true
none_waits (w ∷ ws) = false

abbrev pub leave_by : Sketch → List Waiting → Sketch
leave_by d [] = d
leave_by d (w ∷ ws) = leave_by (leave_one d w (none_waits ws)) ws

-- branches on the ways out in the order of their numbers
abbrev pub leave : Sketch → Sketch
leave d = leave_by (with_waiting d []) d.waiting
