use Rattle.std.proofs.Common.{Option, sym, subst}
use Rattle.c_tree.specs.declared.symbol.Symbol.{Symbol}
use Rattle.parse_machine.specs.Contexts as m
use Rattle.parse_machine.specs.Expressions as ex
use Rattle.parse_stack.specs.View as v
use Rattle.parse_values.specs.ModeView.{Gives}
use Rattle.parse_values.proofs.ElseLemmas.{maybe_else}
use Rattle.parse_values.proofs.values.step_maybe.Goals as goal

pub returns-in-Close : goal.returns-in-Close
returns-in-Close c =
    let P : Symbol → Type 0 = λ t. Gives c.nothing_close.result (ex.step_maybe c.args.names.now t c.args.at (v.inner c.args.k)) in
    subst P (sym c.in-Close.is) (c.nothing_close.ensures c.args.names.now)

pub returns-in_default : goal.returns-in_default
returns-in_default c =
    let P : Option m.Mode → Type 0 = λ o. Gives c.step_operand.result o in
    subst P (sym (maybe_else c.args.names.now c.args.t c.args.at (v.inner c.args.k) c.in_default.not-Close c.in_default.not-Semicolon)) c.step_operand.ensures
