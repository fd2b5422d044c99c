use Rattle.std.proofs.Common.{Option, sym, subst}
use Rattle.c_tree.specs.View.{attributes_of}
use Rattle.parse_machine.specs.Declarations as de
use Rattle.parse_stack.specs.View as v
use Rattle.parse_values.specs.ModeView.{GivesTurn}
use Rattle.c_parser.proofs.OtherLemmas.{label_else}
use Rattle.c_parser.proofs.statements.step_label.Goals as goal

pub returns-in_default-clause-gives : goal.returns-in_default-clause-gives
returns-in_default-clause-gives c =
    let P : Option de.Turn → Type 0 = λ o. GivesTurn c.begin_labelled.result c.begin_labelled.new.names o in
    subst P (sym (label_else c.args.names.now c.args.t c.args.at c.args.n c.args.x c.args.b (attributes_of c.args.attributes.items) (v.outer c.args.o) c.in_default.not-Attribute)) c.begin_labelled.ensures.gives
