-- One instruction of a run that is followed, on a board.
use Rattle.std.proofs.Common.{◌≡◌, ℕ, suc, ◌+◌, ◌<◌, List, Some, slice_get, refl, sym, ap, ◌∙◌, arith, ℤ}
use Rattle.lv_base.specs.declared.kind.Model.{Model}
use Rattle.typed_range_laws.specs.Guards.{guarded}
use Rattle.slot_code.specs.declared.flat.Instruction.{Instruction}
use Rattle.slot_code.specs.declared.reply.Ending.{Ending}
use Rattle.slot_code.specs.Machine.{Machine, machine, Goes, rank}
use Rattle.slot_board.specs.declared.board.Board.{Board}
use Rattle.slot_board.specs.declared.step.Step.{Step}
use Rattle.slot_board.specs.declared.step.Step.TheVariants as step
use Rattle.slot_board.specs.Boards.{state_of, next_of, act_of}
use Rattle.slot_machine.proofs.Stepping.{rank_falls}
use Rattle.run_events.specs.declared.trail.Trail.{Trail}
use Rattle.run_events.specs.Told.{operands_of, at_place, step_told}
use Rattle.run_trace.specs.Runs.{followed, follow_from}
use Rattle.run_trace.proofs.Following.{follows_on, follows_over}

module _ (model : Model) (inputs : List ℤ) (code : List Instruction) where
  abbrev on : ℕ → Board → Machine
  on place b = machine place b.slots.items (state_of b)

  abbrev ranked : ℕ → Board → ℕ
  ranked place b = rank model (λ op kind x y. guarded model op kind x y) inputs code (on place b)

  -- what was told at an instruction
  abbrev told_at : ℕ → Instruction → Board → Board → Step → Trail → Trail
  told_at place x old new s t = step_told s x new.slots.items new.store.items (at_place t place (operands_of old.slots.items old.store.items x))

  module _ (place : ℕ) (x : Instruction) (old new : Board) (t t1 : Trail) (at : slice_get code place ≡ Some x) (s : Step) (leads : next_of place s new ≡ act_of model inputs x place old) (tells : t1 ≡ told_at place x old new s t) where
    pub over_followed : (e : Ending) → s ≡ step.Over e → followed e t1 ≡ follow_from model inputs code (on place old) t
    over_followed e is =
        follows_over model inputs code place x old.slots.items (state_of old) t e t1 at (ap (λ z. next_of place z new) (sym is) ∙ leads) (tells ∙ ap (λ z. told_at place x old new z t) is)

    pub goal_followed : (goal : ℕ) → s ≡ step.Goes goal → follow_from model inputs code (on goal new) t1 ≡ follow_from model inputs code (on place old) t
    goal_followed goal is =
        follows_on model inputs code place x old.slots.items (state_of old) t (on goal new) (at_place t place (operands_of old.slots.items old.store.items x)) t1 at (ap (λ z. next_of place z new) (sym is) ∙ leads) refl
        (tells ∙ ap (λ z. told_at place x old new z t) is)

    pub next_followed : s ≡ step.Next → follow_from model inputs code (on (place + 1) new) t1 ≡ follow_from model inputs code (on place old) t
    next_followed is =
        let behind : place + 1 ≡ suc place = omega arith in
        follows_on model inputs code place x old.slots.items (state_of old) t (on (place + 1) new) (at_place t place (operands_of old.slots.items old.store.items x)) t1 at
        (ap (λ p. Goes (on p new)) behind ∙ ap (λ z. next_of place z new) (sym is) ∙ leads) refl (tells ∙ ap (λ z. told_at place x old new z t) is)

    pub goal_ranked : (goal : ℕ) → s ≡ step.Goes goal → ranked goal new < ranked place old
    goal_ranked goal is = rank_falls model (λ op kind a b. guarded model op kind a b) inputs code place x old.slots.items (state_of old) (on goal new) at (ap (λ z. next_of place z new) (sym is) ∙ leads)

    pub next_ranked : s ≡ step.Next → ranked (place + 1) new < ranked place old
    next_ranked is =
        let behind : place + 1 ≡ suc place = omega arith in
        rank_falls model (λ op kind a b. guarded model op kind a b) inputs code place x old.slots.items (state_of old) (on (place + 1) new) at (ap (λ p. Goes (on p new)) behind ∙ ap (λ z. next_of place z new) (sym is) ∙ leads)
