use Rattle.std.proofs.Common.{rules, ◌≡◌, ◌<◌, sym, ap, ◌∙◌, Some, length, arith}
use Rattle.std.proofs.lemmas.Option.{slice_get_past}
use Rattle.std.specs.Prelude.{slice_get}
use Rattle.std.specs.Option.{option_copied}
use Rattle.slot_board.specs.Boards.{state_of}
use Rattle.slot_machine.proofs.Fitting.{may_act}
use Rattle.run_trace.proofs.Places.{stands}
use Rattle.run_trace.proofs.Following.{follows_behind}
use Rattle.run_trace.proofs.Boards.{over_followed, goal_followed, next_followed, goal_ranked, next_ranked}
use Rattle.run_trace.proofs.stepping.trace_from.Goals as goal

pub follow-requires-clause-slots : goal.follow-requires-clause-slots
follow-requires-clause-slots c =
    let at : slice_get c.args.code.now c.steps.place ≡ Some c.in-Some.instruction.now = sym c.instruction_at.ensures ∙ ap option_copied c.in-Some.is in
    (may_act c.args.code.now c.steps.place c.in-Some.instruction.now c.args.board.now.slots.items c.steps.board.slots.items c.args.board.now.store.items c.steps.board.store.items at c.requires.slots c.requires.sizes c.steps.invariant.1).0

pub follow-requires-clause-sizes : goal.follow-requires-clause-sizes
follow-requires-clause-sizes c =
    let at : slice_get c.args.code.now c.steps.place ≡ Some c.in-Some.instruction.now = sym c.instruction_at.ensures ∙ ap option_copied c.in-Some.is in
    (may_act c.args.code.now c.steps.place c.in-Some.instruction.now c.args.board.now.slots.items c.steps.board.slots.items c.args.board.now.store.items c.steps.board.store.items at c.requires.slots c.requires.sizes c.steps.invariant.1).1

pub overflow_add-place : goal.overflow_add-place
overflow_add-place c =
    let at : slice_get c.args.code.now c.steps.place ≡ Some c.in-Some.instruction.now = sym c.instruction_at.ensures ∙ ap option_copied c.in-Some.is in
    let low : c.steps.place < length c.args.code.now = stands c.args.code.now c.steps.place c.in-Some.instruction.now at in search rules

pub steps-smaller-in-Next : goal.steps-smaller-in-Next
steps-smaller-in-Next c =
    let at : slice_get c.args.code.now c.steps.place ≡ Some c.in-Some.instruction.now = sym c.instruction_at.ensures ∙ ap option_copied c.in-Some.is in
    next_ranked c.args.model c.args.inputs.now c.args.code.now c.steps.place c.in-Some.instruction.now c.steps.board c.follow.new.board c.steps.trail c.follow.new.trail at _ c.in_ok-follow.ensures.next c.in_ok-follow.ensures.told c.in-Next.is

pub steps-preserved-in-Next : goal.steps-preserved-in-Next
steps-preserved-in-Next c =
    let at : slice_get c.args.code.now c.steps.place ≡ Some c.in-Some.instruction.now = sym c.instruction_at.ensures ∙ ap option_copied c.in-Some.is in
    (next_followed c.args.model c.args.inputs.now c.args.code.now c.steps.place c.in-Some.instruction.now c.steps.board c.follow.new.board c.steps.trail c.follow.new.trail at _ c.in_ok-follow.ensures.next c.in_ok-follow.ensures.told c.in-Next.is ∙ c.steps.invariant.0, c.follow.ensures.kept ∙ c.steps.invariant.1)

pub steps-smaller : goal.steps-smaller
steps-smaller c =
    let at : slice_get c.args.code.now c.steps.place ≡ Some c.in-Some.instruction.now = sym c.instruction_at.ensures ∙ ap option_copied c.in-Some.is in
    goal_ranked c.args.model c.args.inputs.now c.args.code.now c.steps.place c.in-Some.instruction.now c.steps.board c.follow.new.board c.steps.trail c.follow.new.trail at _ c.in_ok-follow.ensures.next c.in_ok-follow.ensures.told c.in-Goes.goal c.in-Goes.is

pub steps-preserved : goal.steps-preserved
steps-preserved c =
    let at : slice_get c.args.code.now c.steps.place ≡ Some c.in-Some.instruction.now = sym c.instruction_at.ensures ∙ ap option_copied c.in-Some.is in
    (goal_followed c.args.model c.args.inputs.now c.args.code.now c.steps.place c.in-Some.instruction.now c.steps.board c.follow.new.board c.steps.trail c.follow.new.trail at _ c.in_ok-follow.ensures.next c.in_ok-follow.ensures.told c.in-Goes.goal c.in-Goes.is ∙ c.steps.invariant.0, c.follow.ensures.kept ∙ c.steps.invariant.1)

pub returns-then-goal-code : goal.returns-then-goal-code
returns-then-goal-code c =
    let at : slice_get c.args.code.now c.steps.place ≡ Some c.in-Some.instruction.now = sym c.instruction_at.ensures ∙ ap option_copied c.in-Some.is in
    follows_behind c.args.model c.args.inputs.now c.args.code.now c.in-Goes.goal c.follow.new.board.slots.items (state_of c.follow.new.board) c.follow.new.trail (slice_get_past c.args.code.now c.in-Goes.goal (omega arith))
    ∙ goal_followed c.args.model c.args.inputs.now c.args.code.now c.steps.place c.in-Some.instruction.now c.steps.board c.follow.new.board c.steps.trail c.follow.new.trail at _ c.in_ok-follow.ensures.next c.in_ok-follow.ensures.told c.in-Goes.goal c.in-Goes.is ∙ c.steps.invariant.0

pub returns-in_default : goal.returns-in_default
returns-in_default c =
    follows_behind c.args.model c.args.inputs.now c.args.code.now c.steps.place c.steps.board.slots.items (state_of c.steps.board) c.steps.trail (sym c.instruction_at.ensures ∙ ap option_copied c.in_default.is) ∙ c.steps.invariant.0

pub returns-in-Over : goal.returns-in-Over
returns-in-Over c =
    let at : slice_get c.args.code.now c.steps.place ≡ Some c.in-Some.instruction.now = sym c.instruction_at.ensures ∙ ap option_copied c.in-Some.is in
    over_followed c.args.model c.args.inputs.now c.args.code.now c.steps.place c.in-Some.instruction.now c.steps.board c.follow.new.board c.steps.trail c.follow.new.trail at _ c.in_ok-follow.ensures.next c.in_ok-follow.ensures.told c.in-Over.ending c.in-Over.is ∙ c.steps.invariant.0
