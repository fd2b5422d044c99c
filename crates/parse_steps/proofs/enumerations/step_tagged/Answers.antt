use Rattle.std.proofs.Common.{Option, sym, subst}
use Rattle.parse_machine.specs.Contexts as m
use Rattle.parse_stack.specs.View as v
use Rattle.parse_values.specs.ModeView.{Gives}
use Rattle.parse_steps.proofs.ElseLemmas.{tagged_else}
use Rattle.parse_steps.proofs.enumerations.step_tagged.Goals as goal

pub returns-in_default : goal.returns-in_default
returns-in_default c =
    let P : Option m.Mode → Type 0 = λ o. Gives c.only_tag-in_default.result o in
    subst P (sym (tagged_else c.args.names.now c.args.t c.args.at c.args.x c.args.n c.args.y (v.spoken c.args.s) (v.around c.args.w.value) c.in_default.not-Open)) c.only_tag-in_default.ensures
