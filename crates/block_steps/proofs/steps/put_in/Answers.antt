use Rattle.std.proofs.Common.{rules, ◌≡◌, ◌<◌, length}
use Rattle.c_graph.specs.declared.graph.Operation.TheVariants.{Set}
use Rattle.block_rule.specs.Deeds.{Sets}
use Rattle.block_steps.proofs.Places.{does}
use Rattle.block_steps.proofs.steps.put_in.Goals as goal

pub returns-clause-means : goal.returns-clause-means
returns-clause-means c = λ f code means m.
    let (there, behind) = c.requires in
    let same : c.args.found ≡ c.args.cell = search rules in
    let lt : c.args.cell < length c.args.graph.now.cells = search rules in
    does c.args.graph.now c.args.cursor c.args.next (Set c.args.found c.args.term) (Sets c.args.cell f) code there behind (same, means) lt m
