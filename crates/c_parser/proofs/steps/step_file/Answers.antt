use Rattle.std.proofs.Common.{Option, sym, subst}
use Rattle.parse_machine.specs.Contexts as m
use Rattle.parse_values.specs.ModeView.{Gives}
use Rattle.c_parser.proofs.OtherLemmas.{file_else}
use Rattle.c_parser.proofs.steps.step_file.Goals as goal

pub returns-in_default : goal.returns-in_default
returns-in_default c =
    let P : Option m.Mode → Type 0 = λ o. Gives c.begin_item.result o in
    subst P (sym (file_else c.args.names.now c.args.t c.args.at c.in_default.not-Semicolon c.in_default.not-End)) c.begin_item.ensures
