use Rattle.std.proofs.Common.{Option, sym, subst}
use Rattle.parse_machine.specs.Contexts as m
use Rattle.parse_stack.specs.View as v
use Rattle.parse_values.specs.ModeView.{Gives}
use Rattle.parse_steps.proofs.ElseLemmas.{parameters_else}
use Rattle.parse_steps.proofs.declarations.step_parameters.Goals as goal

pub returns-in_default : goal.returns-in_default
returns-in_default c =
    let P : Option m.Mode → Type 0 = λ o. Gives c.first_parameter-in_default.result o in
    subst P (sym (parameters_else c.args.names.now c.args.t c.args.at (v.declared c.args.d.value) c.args.a c.in_default.not-Close c.in_default.not-Type)) c.first_parameter-in_default.ensures
