use Rattle.c_parser.proofs.TurnLemmas.{kept_gives}
use Rattle.c_parser.proofs.steps.next.Goals as goal

pub returns-in-Attribute-clause-gives : goal.returns-in-Attribute-clause-gives
returns-in-Attribute-clause-gives c = rw c.in-Attribute.is (kept_gives c.step_attribute.result c.args.names.now _ c.step_attribute.ensures)

pub returns-in-Skipped-clause-gives : goal.returns-in-Skipped-clause-gives
returns-in-Skipped-clause-gives c = rw c.in-Skipped.is (kept_gives c.step_skipped.result c.args.names.now _ c.step_skipped.ensures)
