-- Where a place leads to on a walk: the state and the place in the edges behind it, where the graph has what the rule says.
use Rattle.std.specs.Prelude.{ℕ, ◌+◌, ◌==◌, ◌&&◌, Bool, not, Option, None, Some, List, if◌then◌else◌}
use Rattle.bv_term.specs.WellFormed.{Table}
use Rattle.c_graph.specs.declared.graph.Operation.{Operation}
use Rattle.c_graph.specs.declared.graph.Operation.TheVariants.{Assume, Set, SetAt, Draw}
use Rattle.c_graph.specs.Shape.{Flow}
use Rattle.block_rule.specs.Plans.{Plan, matters}
use Rattle.block_rule.specs.Rule.{Wait, State, found, through, with_bad, with_place, with_saved, with_sure}
use Rattle.block_rule.specs.Rule as rule
use Rattle.block_steps.specs.declared.cursor.Cursor.{Cursor}
use Rattle.block_steps.specs.declared.tests.Test.{Test}
use Rattle.block_steps.specs.Made as steps
use Rattle.walk_states.specs.declared.state.Walk.{Walk}
use Rattle.walk_states.specs.Walks.{state_of}

-- a walk as far as it went: the rule's state, and the place in the edges
pub record Walked : Type 0 where
  pub state : State
  pub cursor : Cursor

-- a walk, as far as it went
abbrev pub walk_of : Walk → Walked
walk_of w = record { state = state_of w; cursor = w.cursor }

-- the guard through which an operation goes
abbrev pub guard_for : Plan → List Wait → Option ℕ → Operation → Option ℕ
guard_for plan waiting guard (Assume t) = guard
guard_for plan waiting guard (Set c t) = through plan waiting guard c
guard_for plan waiting guard (SetAt first n i t) = through plan waiting guard first
guard_for plan waiting guard (Draw c signed) = guard

-- one more, where 32 bits hold it
abbrev pub next_of : ℕ → Option ℕ
next_of number = if number == 4294967295 then None else Some (number + 1)

-- a state at the place that was found
abbrev pub stands : State → Option Cursor → Option Walked
stands st None = None
stands st (Some cursor) = Some (record { state = st; cursor = cursor })

-- a state at a place, where one more cell has a number
abbrev pub counts : State → Cursor → Option ℕ → Option Walked
counts st cursor None = None
counts st cursor (Some next) = Some (record { state = st; cursor = cursor })

-- a state with one more saved cell than so many, at the place that was found
abbrev pub numbered : ℕ → State → Option Cursor → Option Walked
numbered next st None = None
numbered next st (Some cursor) = counts st cursor (next_of next)

-- a place that waits under a guard gets one more way
abbrev pub added : Table → Flow → Walked → ℕ → Test → Option Walked
added old h w cell test = stands w.state (steps.adds old h w.cursor cell test)

-- a place waits under a guard of its own
abbrev pub entered : Table → Flow → Walked → ℕ → Test → Option Walked
entered old h w to test = numbered w.state.next (with_place w.state to) (steps.sets old h w.cursor w.state.next test)

-- a place waits surely
abbrev pub surely : Walked → ℕ → Walked
surely w to = record { state = with_sure w.state to; cursor = w.cursor }

-- a place that did not wait does now
abbrev pub begun : Table → Flow → Plan → Walked → ℕ → Bool → Test → Option Walked
begun old h plan w to sure test = if sure && not (plan.cuts to) then Some (surely w to) else entered old h w to test

-- a run goes on at a place that waits already
abbrev pub waits_more : Table → Flow → Walked → Test → Option ℕ → Option Walked
waits_more old h w test None = Some w
waits_more old h w test (Some cell) = added old h w cell test

-- a run goes on at a place that matters, which waits already or does not
abbrev pub waits_at : Table → Flow → Plan → Walked → ℕ → Bool → Test → Option (Option ℕ) → Option Walked
waits_at old h plan w to sure test (Some guard) = waits_more old h w test guard
waits_at old h plan w to sure test None = begun old h plan w to sure test

-- a run goes on at a place that matters
abbrev pub waits : Table → Flow → Plan → Walked → ℕ → Bool → Test → Option Walked
waits old h plan w to sure test = waits_at old h plan w to sure test (found w.state.waiting to)

-- a run may be lost
abbrev pub losing : Walked → Walked
losing w = record { state = rule.losing w.state; cursor = w.cursor }

-- a run goes on at a node
abbrev pub leads : Table → Flow → Plan → Walked → ℕ → Bool → Test → Option Walked
leads old h plan w to sure test = if matters plan to then waits old h plan w to sure test else Some (losing w)

-- a check under a test: its cell says whether it failed
abbrev pub checked : Table → Flow → Walked → ℕ → Test → Option Walked
checked old h w error test = numbered w.state.next (with_bad w.state error) (steps.sets old h w.cursor w.state.next test)

-- the guard of a place and a test go into a cell of their own
abbrev pub saved : Table → Flow → Walked → Test → Option Walked
saved old h w test = numbered w.state.next (with_saved w.state) (steps.sets old h w.cursor w.state.next test)
