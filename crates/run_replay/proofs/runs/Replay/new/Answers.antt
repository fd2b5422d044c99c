use Rattle.std.proofs.Common.{sym, ap, subst}
use Rattle.c_typed.specs.Parts.{tree_of}
use Rattle.slot_code.specs.Programs.{Code}
use Rattle.slot_compiler.specs.Seen.{code_of}
use Rattle.slot_laws.specs.Laws.{AreShaped}
use Rattle.slot_laws.proofs.Shaping.{shaped_code}
use Rattle.run_replay.specs.Replays.{forgetful}
use Rattle.run_replay.proofs.Whole.{replays_new}
use Rattle.run_replay.proofs.runs.Replay.new.Goals as goal

pub new-requires-clause-shaped : goal.new-requires-clause-shaped
new-requires-clause-shaped c =
    subst (AreShaped (tree_of c.typed-typed.result.now).objects) (sym (ap (λ (z : Code). z.instructions) c.in_ok-code.ensures))
    (shaped_code (tree_of c.typed-typed.result.now) c.order.result.now c.functions.ensures.typed)

pub returns : goal.returns
returns c =
    replays_new c.typed-typed.result.now c.args.examined.now.typed c.order.result.now c.args.examined.now.order c.functions.result.now (code_of c.in_ok-code.code) c.in_ok-entry.entry c.in_ok-machine.machine
    c.typed-typed.ensures.value c.order.ensures.value c.functions.ensures.value c.functions.ensures.typed c.order.ensures.examined.ordered c.in_ok-code.ensures c.in_ok-entry.ensures (ap forgetful c.in_ok-machine.ensures)
