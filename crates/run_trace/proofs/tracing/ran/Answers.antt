use Rattle.std.proofs.Common.{rules, ◌≡◌, length, ap, pos, arith}
use Rattle.std.specs.Prelude.{option_map}
use Rattle.slot_code.specs.Slots.{put}
use Rattle.slot_values.specs.Seen.{link_of}
use Rattle.slot_board.specs.Boards.{state_of}
use Rattle.run_trace.specs.Runs.{slots_for}
use Rattle.run_trace.proofs.Whole.{main_followed}
use Rattle.run_trace.proofs.tracing.ran.Goals as goal

pub enter-requires : goal.enter-requires
enter-requires c = let wanted = ap (λ o. slots_for c.args.code.now (option_map link_of o)) c.in-Some.is in omega (arith, wanted, c.requires.slots)

pub trace_from-requires-clause-slots : goal.trace_from-requires-clause-slots
trace_from-requires-clause-slots c = let wanted = ap (λ o. slots_for c.args.code.now (option_map link_of o)) c.in-Some.is in omega (arith, wanted, c.requires.slots, c.enter.ensures.size)

pub returns : goal.returns
returns c =
    let slots : c.enter.new.board.slots.items ≡ put c.args.board.now.slots.items c.in-Some.link.slot (pos (length c.args.code.now)) = search rules in
    main_followed c.trace_from.result c.args.model c.args.code.now c.args.link c.in-Some.link c.args.inputs.now c.args.board.now.slots.items c.enter.new.board.slots.items (state_of c.args.board.now) (state_of c.enter.new.board)
    c.args.trail.now c.trace_from.new.trail c.in-Some.is c.trace_from.ensures slots c.enter.ensures.state
