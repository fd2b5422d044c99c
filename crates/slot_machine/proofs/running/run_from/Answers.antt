use Rattle.std.proofs.Common.{◌≡◌, sym, ap, ◌∙◌, Some, suc, ◌+◌, arith}
use Rattle.std.proofs.lemmas.Option.{slice_get_past}
use Rattle.std.specs.Prelude.{slice_get}
use Rattle.std.specs.Option.{option_copied}
use Rattle.typed_range_laws.specs.Guards as guards
use Rattle.slot_code.specs.Machine as flat
use Rattle.slot_board.specs.Boards.{state_of}
use Rattle.slot_machine.proofs.Fitting.{may_act}
use Rattle.slot_machine.proofs.Stepping.{runs_on, runs_over, runs_behind, rank_falls}
use Rattle.slot_machine.proofs.running.run_from.Goals as goal

pub act-requires-clause-slots : goal.act-requires-clause-slots
act-requires-clause-slots c =
    let at : slice_get c.args.code.now c.steps.place ≡ Some c.in-Some.instruction.now = sym c.instruction_at.ensures ∙ ap option_copied c.in-Some.is in
    (may_act c.args.code.now c.steps.place c.in-Some.instruction.now c.args.board.now.slots.items c.steps.board.slots.items c.args.board.now.store.items c.steps.board.store.items at c.requires.slots c.requires.sizes c.steps.invariant.1).0

pub act-requires-clause-sizes : goal.act-requires-clause-sizes
act-requires-clause-sizes c =
    let at : slice_get c.args.code.now c.steps.place ≡ Some c.in-Some.instruction.now = sym c.instruction_at.ensures ∙ ap option_copied c.in-Some.is in
    (may_act c.args.code.now c.steps.place c.in-Some.instruction.now c.args.board.now.slots.items c.steps.board.slots.items c.args.board.now.store.items c.steps.board.store.items at c.requires.slots c.requires.sizes c.steps.invariant.1).1

pub steps-smaller-in-Next : goal.steps-smaller-in-Next
steps-smaller-in-Next c =
    let at : slice_get c.args.code.now c.steps.place ≡ Some c.in-Some.instruction.now = sym c.instruction_at.ensures ∙ ap option_copied c.in-Some.is in
    let next : c.steps.place + 1 ≡ suc c.steps.place = omega arith in
    rank_falls c.args.model (λ op kind x y. guards.guarded c.args.model op kind x y) c.args.inputs.now c.args.code.now c.steps.place c.in-Some.instruction.now c.steps.board.slots.items (state_of c.steps.board) (flat.machine (c.steps.place + 1) c.act.new.self.slots.items (state_of c.act.new.self)) at (ap (λ p. flat.Goes (flat.machine p c.act.new.self.slots.items (state_of c.act.new.self))) next ∙ c.in-Next.ensures.next)

pub steps-preserved-in-Next : goal.steps-preserved-in-Next
steps-preserved-in-Next c =
    let at : slice_get c.args.code.now c.steps.place ≡ Some c.in-Some.instruction.now = sym c.instruction_at.ensures ∙ ap option_copied c.in-Some.is in
    let next : c.steps.place + 1 ≡ suc c.steps.place = omega arith in
    (runs_on c.args.model (λ op kind x y. guards.guarded c.args.model op kind x y) c.args.inputs.now c.args.code.now c.steps.place c.in-Some.instruction.now c.steps.board.slots.items (state_of c.steps.board) (flat.machine (c.steps.place + 1) c.act.new.self.slots.items (state_of c.act.new.self)) at (ap (λ p. flat.Goes (flat.machine p c.act.new.self.slots.items (state_of c.act.new.self))) next ∙ c.in-Next.ensures.next) ∙ c.steps.invariant.0, c.act.ensures.kept ∙ c.steps.invariant.1)

pub steps-smaller : goal.steps-smaller
steps-smaller c =
    let at : slice_get c.args.code.now c.steps.place ≡ Some c.in-Some.instruction.now = sym c.instruction_at.ensures ∙ ap option_copied c.in-Some.is in
    rank_falls c.args.model (λ op kind x y. guards.guarded c.args.model op kind x y) c.args.inputs.now c.args.code.now c.steps.place c.in-Some.instruction.now c.steps.board.slots.items (state_of c.steps.board) (flat.machine c.in-Goes.goal c.act.new.self.slots.items (state_of c.act.new.self)) at c.in-Goes.ensures.next

pub steps-preserved : goal.steps-preserved
steps-preserved c =
    let at : slice_get c.args.code.now c.steps.place ≡ Some c.in-Some.instruction.now = sym c.instruction_at.ensures ∙ ap option_copied c.in-Some.is in
    (runs_on c.args.model (λ op kind x y. guards.guarded c.args.model op kind x y) c.args.inputs.now c.args.code.now c.steps.place c.in-Some.instruction.now c.steps.board.slots.items (state_of c.steps.board) (flat.machine c.in-Goes.goal c.act.new.self.slots.items (state_of c.act.new.self)) at c.in-Goes.ensures.next ∙ c.steps.invariant.0, c.act.ensures.kept ∙ c.steps.invariant.1)

pub returns-then-goal-code-clause-run : goal.returns-then-goal-code-clause-run
returns-then-goal-code-clause-run c =
    let at : slice_get c.args.code.now c.steps.place ≡ Some c.in-Some.instruction.now = sym c.instruction_at.ensures ∙ ap option_copied c.in-Some.is in
    runs_behind c.args.model (λ op kind x y. guards.guarded c.args.model op kind x y) c.args.inputs.now c.args.code.now c.in-Goes.goal c.act.new.self.slots.items (state_of c.act.new.self) (slice_get_past c.args.code.now c.in-Goes.goal (omega arith))
    ∙ runs_on c.args.model (λ op kind x y. guards.guarded c.args.model op kind x y) c.args.inputs.now c.args.code.now c.steps.place c.in-Some.instruction.now c.steps.board.slots.items (state_of c.steps.board) (flat.machine c.in-Goes.goal c.act.new.self.slots.items (state_of c.act.new.self)) at c.in-Goes.ensures.next ∙ c.steps.invariant.0

pub returns-in-Over-clause-run : goal.returns-in-Over-clause-run
returns-in-Over-clause-run c =
    let at : slice_get c.args.code.now c.steps.place ≡ Some c.in-Some.instruction.now = sym c.instruction_at.ensures ∙ ap option_copied c.in-Some.is in
    runs_over c.args.model (λ op kind x y. guards.guarded c.args.model op kind x y) c.args.inputs.now c.args.code.now c.steps.place c.in-Some.instruction.now c.steps.board.slots.items (state_of c.steps.board) c.in-Over.ending at c.in-Over.ensures.next ∙ c.steps.invariant.0
