use Rattle.std.proofs.Common.{ap, ◌∙◌}
use Rattle.c_typed.specs.View.{steps_of}
use Rattle.slot_statements.specs.Seen.{measure_of, marks_of}
use Rattle.slot_compiler.proofs.Building.{body_gives}
use Rattle.slot_compiler.proofs.bodies.body_steps.Goals as goal

pub returns : goal.returns
returns c =
    body_gives c.args.scene.now c.args.model c.args.kind c.args.slot c.in_ok-next.field-0 c.args.place c.in_ok-end.end (steps_of c.args.body.now) c.in_ok-labels.labels (measure_of c.in_ok-measure.measure) c.steps_code.result
    c.in_ok-next.ensures.value c.in_ok-measure.ensures c.in_ok-end.ensures.value (c.in_ok-labels.ensures ∙ ap marks_of c.deref.ensures.value) c.steps_code.ensures
