-- Which places in a graph's edges a walk along a block's places comes to, where it comes to any.
use Rattle.std.specs.Prelude.{ℕ, ◌&&◌, nat_lt, Bool, true, false, if◌then◌else◌, List, [], ◌∷◌, drop, length, Option, None, Some, slice_get}
use Rattle.bv_term.specs.declared.term.TermId.{TermId}
use Rattle.bv_term.specs.WellFormed.{Table}
use Rattle.c_graph.specs.declared.graph.Operation.{Operation}
use Rattle.c_graph.specs.declared.graph.Edge.{Edge}
use Rattle.c_graph.specs.Shape.{Flow}
use Rattle.truth_terms.specs.Made as truths
use Rattle.block_rule.specs.Plans.{Plan}
use Rattle.block_rule.specs.Rule.{Wait, Bad, State, is_clear, is_none, is_sure, some_draw}
use Rattle.block_rule.specs.Rule as rule
use Rattle.block_steps.specs.declared.cursor.Cursor.{Cursor}
use Rattle.block_steps.specs.declared.cursor.Fork.{Fork}
use Rattle.block_steps.specs.declared.cursor.Side.{Side}
use Rattle.block_steps.specs.declared.tests.Test.{Test}
use Rattle.block_steps.specs.declared.tests.Test.TheVariants.{On, Under}
use Rattle.block_steps.specs.Made as steps
use Rattle.walk_states.specs.declared.state.Way.{Way}
use Rattle.walk_states.specs.declared.state.Ways.{Ways}
use Rattle.walk_states.specs.declared.state.Ways.TheVariants.{Goes, Tested, Checked, Fails, Forks}
use Rattle.walk_states.specs.declared.state.Place.{Place}
use Rattle.walk_states.specs.Walks.{moves_of}
use Rattle.walk_states.specs.Made.{Walked, guard_for}
use Rattle.walk_states.specs.Made as walk
use Rattle.block_walk.specs.declared.branches.Opened.{Opened}

-- what stands behind an answer, where there is one
abbrev pub behind : {A B : Type 0} → (A → Option B) → Option A → Option B
behind rest None = None
behind rest (Some x) = rest x

-- ---- Branches

-- the place behind the end of an edge at a node
abbrev pub ended : Flow → Cursor → (to : ℕ) → Option Cursor
ended h k to = steps.ends h k to

-- whether a term is the bit of a test
abbrev pub is_bit : Table → Flow → TermId → Test → Bool
is_bit old h term test = steps.is_test old h.terms term test

-- whether the second term is the complement of the first
abbrev pub is_other : Flow → (term other : TermId) → Bool
is_other h term other = truths.is_not h.terms other term

-- whether the edges of these two places are all that lead from the node
abbrev pub only_these : Flow → (node : ℕ) → (one other : Cursor) → Bool
only_these h node one other = steps.are_sides h node one.edge_at other.edge_at

-- nothing but that it goes on, where a truth holds
abbrev pub if_so : Bool → Option (Unit {0})
if_so true = Some tt
if_so false = None

-- the place behind the test of a side, where that is the complement of the first side's
abbrev pub second_of : Flow → (node : ℕ) → TermId → Cursor → Side → Option Cursor
second_of h node term one other = if is_other h term other.term && only_these h node one other.next then Some other.next else None

-- the place behind the test of a branch's second side
abbrev pub second_side : Flow → (node : ℕ) → TermId → (one end : Cursor) → Option Cursor
second_side h node term one end = behind (second_of h node term one) (steps.find_side h end node)

-- of the first side of a branch: the place behind the test of the second
abbrev pub passed_side : Table → Flow → Test → (to node : ℕ) → Side → Option Cursor
passed_side old h test to node one =
    if is_bit old h one.term test then behind (second_side h node one.term one.next) (ended h one.next to) else None

-- of a branch that was found: the place behind the test of its second side
abbrev pub passed_fork : Table → Flow → Test → (to : ℕ) → Fork → Option Cursor
passed_fork old h test to fork = behind (passed_side old h test to fork.node) (steps.find_side h fork.next fork.node)

-- a branch whose first side ends at a node: the place behind the test of its second side
abbrev pub passed : Table → Flow → Cursor → Test → (to : ℕ) → Option Cursor
passed old h k test to = behind (passed_fork old h test to) (steps.find_branch h k)

-- whether what follows holds of a part that was found
abbrev pub failing_behind : (TermId → Bool) → Option TermId → Bool
failing_behind rest None = false
failing_behind rest (Some next) = rest next

-- whether a term is 1 where one of the checks failed
abbrev pub is_some_failing : Table → TermId → List Bad → Bool
is_some_failing table term [] = false
is_some_failing table term (b ∷ []) = truths.is_cell_bit table term b.cell
is_some_failing table term (b ∷ c ∷ bs) = failing_behind (λ next. is_some_failing table next (c ∷ bs)) (truths.is_added table term b.cell)

-- branches on checks in their order, the last without a test
abbrev pub first_failing : Table → Flow → List Bad → Cursor → Option Cursor
first_failing old h [] k = None
first_failing old h (b ∷ []) k = ended h k b.error
first_failing old h (b ∷ c ∷ bs) k = behind (λ next. first_failing old h (c ∷ bs) next) (passed old h k (On (Some b.cell)) b.error)

-- the branch for checks: its node, its term, and the place behind the test of its first side
pub record Branch : Type 0 where
  pub node : ℕ
  pub term : TermId
  pub next : Cursor

-- a branch that was opened
abbrev pub branch_of : Opened → Branch
branch_of o = record { node = o.node; term = o.term; next = o.next }

-- the branch whose first side is on a term that is 1 where one of the checks failed
abbrev pub opened_side : Flow → List Bad → (node : ℕ) → Side → Option Branch
opened_side h bads node one = if is_some_failing h.terms one.term bads then Some (record { node = node; term = one.term; next = one.next }) else None

-- the branch that was found, where it is on the checks
abbrev pub opened_fork : Flow → List Bad → Fork → Option Branch
opened_fork h bads fork = behind (opened_side h bads fork.node) (steps.find_side h fork.next fork.node)

-- the branch for checks that may have failed, to which an edge leads
abbrev pub open_branch : Flow → List Bad → Cursor → Option Branch
open_branch h bads k = behind (opened_fork h bads) (steps.find_branch h k)

-- the place behind the branch that was opened
abbrev pub flushed_branch : Table → Flow → List Bad → Branch → Option Cursor
flushed_branch old h bads opened = behind (second_side h opened.node opened.term opened.next) (first_failing old h bads opened.next)

-- one branch for all checks that may have failed
abbrev pub flush : Table → Flow → List Bad → Cursor → Option Cursor
flush old h bads k = if is_none bads then Some k else behind (flushed_branch old h bads) (open_branch h bads k)

-- the place behind the branch that was opened, which has no second side
abbrev pub flushed_last : Table → Flow → List Bad → Branch → Option Cursor
flushed_last old h bads opened = if only_these h opened.node opened.next opened.next then first_failing old h bads opened.next else None

-- the branch for all checks that may have failed, behind which nothing waits
abbrev pub flush_last : Table → Flow → List Bad → Cursor → Option Cursor
flush_last old h bads k = if is_none bads then None else behind (flushed_last old h bads) (open_branch h bads k)

-- the place behind an Assume of a test
abbrev pub assumed : Table → Flow → Cursor → Test → Option Cursor
assumed old h k test = steps.assumes old h k test

-- where a run may have been lost, it goes on only where the guard is 1
abbrev pub certain : Table → Flow → Cursor → Bool → Option ℕ → Option Cursor
certain old h k false guard = Some k
certain old h k true None = Some k
certain old h k true (Some cell) = assumed old h k (On (Some cell))

-- the last way out, behind its guard where a run may have been lost
abbrev pub exit_behind : Table → Flow → Bool → Wait → Cursor → Option Cursor
exit_behind old h false exit k = ended h k exit.node
exit_behind old h true exit k = behind (λ next. ended h next exit.node) (assumed old h k (On exit.guard))

-- the last way out
abbrev pub last_exit : Table → Flow → Plan → Bool → Wait → Cursor → Option Cursor
last_exit old h plan lost exit k = if plan.cuts exit.node then exit_behind old h lost exit k else None

-- the places that wait at the end
abbrev pub leave : Table → Flow → Plan → Bool → List Wait → Cursor → Option Cursor
leave old h plan lost [] k = None
leave old h plan lost (w ∷ []) k = last_exit old h plan lost w k
leave old h plan lost (w ∷ v ∷ ws) k =
    if plan.cuts w.node then behind (λ next. leave old h plan lost (v ∷ ws) next) (passed old h k (On w.guard) w.node) else None

-- the end of a block: the checks that may have failed, and the places that wait
abbrev pub close : Table → Flow → Plan → Bool → List Bad → List Wait → Cursor → Option Cursor
close old h plan lost bads waiting k =
    if is_none waiting then flush_last old h bads k else behind (leave old h plan lost waiting) (flush old h bads k)

-- ---- Places

-- the place behind operations, each through its guard
abbrev pub moved_over : Table → Flow → Plan → List Wait → Cursor → Option ℕ → List Operation → Option Cursor
moved_over old h plan waiting k guard [] = Some k
moved_over old h plan waiting k guard (op ∷ ops) =
    behind (λ next. moved_over old h plan waiting next guard ops) (steps.stores old h k (guard_for plan waiting guard op) op)

-- the place behind operations from a number on
abbrev pub moved : Table → Flow → Plan → List Wait → Cursor → Option ℕ → List Operation → (skip : ℕ) → Option Cursor
moved old h plan waiting k guard ops skip =
    if nat_lt (length ops) skip then None else moved_over old h plan waiting k guard (drop skip ops)

-- the place behind the operations of an edge from a number on
abbrev pub moves_on : Flow → Flow → Plan → List Wait → Cursor → Option ℕ → (skip : ℕ) → Edge → Option Cursor
moves_on g h plan waiting k guard skip e = moved g.terms h plan waiting k guard e.ops skip

-- the place behind the operations of a way
abbrev pub moves : Flow → Flow → Plan → List Wait → Cursor → Option ℕ → Way → Option Cursor
moves g h plan waiting k guard way = behind (moves_on g h plan waiting k guard way.skip) (slice_get g.edges way.edge_at)

-- whether a way draws a value
abbrev pub draws : Flow → Way → Bool
draws g way = some_draw (moves_of g way)

-- where a way leads from the place behind its operations
abbrev pub goes_from : Flow → Flow → Plan → State → Option ℕ → Way → Cursor → Option Walked
goes_from g h plan state guard way k = walk.leads g.terms h plan (record { state = state; cursor = k }) way.to (is_sure guard) (On guard)

-- a way without a draw
abbrev pub goes_on : Flow → Flow → Plan → Walked → Option ℕ → Way → Option Walked
goes_on g h plan w guard way = behind (goes_from g h plan w.state guard way) (moves g h plan w.state.waiting w.cursor guard way)

-- a way that draws a value, from where the run surely is
abbrev pub drawn_behind : Flow → Flow → Plan → State → Way → Cursor → Option Walked
drawn_behind g h plan state way k = behind (goes_from g h plan (rule.clear state) None way) (moves g h plan state.waiting k None way)

-- a way that draws a value, behind the branch for checks
abbrev pub drawn_flushed : Flow → Flow → Plan → State → Option ℕ → Way → Cursor → Option Walked
drawn_flushed g h plan state guard way k = behind (drawn_behind g h plan state way) (certain g.terms h k state.lost guard)

-- a way that draws a value
abbrev pub drawn : Flow → Flow → Plan → Walked → Option ℕ → Way → Option Walked
drawn g h plan w guard way =
    if is_none w.state.waiting then behind (drawn_flushed g h plan w.state guard way) (flush g.terms h w.state.bads w.cursor) else None

-- a way behind its test
abbrev pub goes : Flow → Flow → Plan → Walked → Option ℕ → Way → Option Walked
goes g h plan w guard way = if draws g way then drawn g h plan w guard way else goes_on g h plan w guard way

-- a way behind a test
abbrev pub tested : Flow → Flow → Plan → Walked → Option ℕ → TermId → Way → Option Walked
tested g h plan w guard test way =
    behind (λ there. goes g h plan there (Some w.state.next) way) (walk.saved g.terms h w (Under guard test))

-- an error behind a test, and a way
abbrev pub checks : Flow → Flow → Plan → Walked → Option ℕ → TermId → (error : ℕ) → Way → Option Walked
checks g h plan w guard fails error way = behind (λ there. goes g h plan there guard way) (walk.checked g.terms h w error (Under guard fails))

-- two errors behind tests
abbrev pub both_fail : Flow → Flow → Walked → Option ℕ → TermId → ℕ → TermId → ℕ → Option Walked
both_fail g h w guard fails error others other =
    behind (λ there. walk.checked g.terms h there other (Under guard others)) (walk.checked g.terms h w error (Under guard fails))

-- two ways that do nothing behind their tests
abbrev pub forks : Flow → Flow → Plan → Walked → Option ℕ → TermId → ℕ → TermId → ℕ → Option Walked
forks g h plan w guard test one others other =
    behind (λ there. walk.leads g.terms h plan there other false (Under guard others)) (walk.leads g.terms h plan w one false (Under guard test))

-- the ways out of a place under its guard
abbrev pub outwards : Flow → Flow → Plan → Walked → Option ℕ → Ways → Option Walked
outwards g h plan w guard (Goes way) = goes g h plan w guard way
outwards g h plan w guard (Tested test way) = tested g h plan w guard test way
outwards g h plan w guard (Checked fails error passes way) = checks g h plan w guard fails error way
outwards g h plan w guard (Fails fails error others other) = both_fail g h w guard fails error others other
outwards g h plan w guard (Forks test one others other) = forks g h plan w guard test one others other

-- a place that no longer waits
abbrev pub arrived : Walked → (node : ℕ) → Walked
arrived w node = record { state = rule.left w.state node; cursor = w.cursor }

-- the ways out of a place at which the run surely is
abbrev pub from_sure : Flow → Flow → Plan → State → Ways → Cursor → Option Walked
from_sure g h plan state ways k = outwards g h plan (record { state = rule.found_sure state; cursor = k }) None ways

-- a place at which the run surely is
abbrev pub at_sure_place : Flow → Flow → Plan → Walked → Option ℕ → Ways → Option Walked
at_sure_place g h plan w guard ways = behind (from_sure g h plan w.state ways) (certain g.terms h w.cursor w.state.lost guard)

-- a place under its guard
abbrev pub at_place : Flow → Flow → Plan → Walked → Option ℕ → Ways → Option Walked
at_place g h plan w guard ways = if is_clear w.state then at_sure_place g h plan w guard ways else outwards g h plan w guard ways

-- a place
abbrev pub placed : Flow → Flow → Plan → Walked → Place → Option Walked
placed g h plan w place = behind (λ guard. at_place g h plan (arrived w place.node) guard place.ways) (rule.found w.state.waiting place.node)

-- all places, and the end of the block
abbrev pub all_placed : Flow → Flow → Plan → Walked → List Place → Option Cursor
all_placed g h plan w [] = close g.terms h plan w.state.lost w.state.bads w.state.waiting w.cursor
all_placed g h plan w (place ∷ places) = behind (λ there. all_placed g h plan there places) (placed g h plan w place)

-- at its first place a run surely is
abbrev pub started : (node next : ℕ) → Cursor → Walked
started node next k = record { state = rule.start node next; cursor = k }

-- the code of a block from a place in the edges on, the first saved cell having this number
abbrev pub block : Flow → Flow → Plan → List Place → (next : ℕ) → Cursor → Option Cursor
block g h plan [] next k = None
block g h plan (place ∷ places) next k = all_placed g h plan (started place.node next k) (place ∷ places)
