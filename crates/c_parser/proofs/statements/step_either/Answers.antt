use Rattle.std.proofs.Common.{Option, sym, subst}
use Rattle.parse_machine.specs.Contexts as m
use Rattle.parse_values.specs.ModeView.{Gives, fork}
use Rattle.c_parser.proofs.OtherLemmas.{either_else}
use Rattle.c_parser.proofs.statements.step_either.Goals as goal

pub returns-in_default : goal.returns-in_default
returns-in_default c =
    let P : Option m.Mode → Type 0 = λ o. Gives c.fork_value-in_default.result o in
    let w = c.in_default in
    subst P (sym (either_else c.args.names.now c.args.t c.args.at (fork c.args.f.value) c.args.offsets.items w.not-Name w.not-Type w.not-Storage w.not-Const w.not-Attribute w.not-Enum w.not-Extension)) c.fork_value-in_default.ensures
