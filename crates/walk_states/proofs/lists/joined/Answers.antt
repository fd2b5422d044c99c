use Rattle.std.proofs.Common.{get_or, None}
use Rattle.std.proofs.lemmas.Option.{slice_get-get_or}
use Rattle.walk_states.specs.declared.state.Waiting.{Waiting}
use Rattle.walk_states.proofs.Waits.{joined-step}
use Rattle.walk_states.proofs.lists.joined.Goals as goal

pub loop-number-preserved : goal.loop-number-preserved
loop-number-preserved c =
    let none : Waiting = record { node = 0; guard = None } in
    let n = c.loop-number.number in
    let ws = c.args.waiting.now in
    joined-step ws c.loop-number.more.items c.push.new.self.items _ n (get_or ws n none) (slice_get-get_or ws n none c.loop-number-test.true)
    c.in_ok-push.ensures.items c.loop-number.invariant
