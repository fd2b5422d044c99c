use Rattle.std.proofs.Common.{subst}
use Rattle.std.specs.Prelude.{Some}
use Rattle.c_tree.specs.Tree.{Items}
use Rattle.c_tree.specs.Denotes.{tree_of}
use Rattle.block_join.specs.Living.{live_at}
use Rattle.request_answers.specs.Witnessed.{IsTextOf}
use Rattle.request_answers.proofs.Readings.{same_tree}
use Rattle.request_answers.proofs.witnessing.with_witness.Goals as goal

pub returns-in-Ok-clause-text : goal.returns-in-Ok-clause-text
returns-in-Ok-clause-text c = λ read h.
    let text : IsTextOf (Some c.in-Some.name.now) c.args.source.now read c.args.model c.args.graph.now (live_at c.args.live.now) c.args.stamp c.args.told c.with_text.result =
    subst (λ (x : Items). IsTextOf (Some c.in-Some.name.now) c.args.source.now x c.args.model c.args.graph.now (live_at c.args.live.now) c.args.stamp c.args.told c.with_text.result)
    (same_tree c.args.model c.args.source.now (tree_of c.in-Ok.unit) read c.in-Ok.ensures.tree h) c.with_text.ensures.text in
    rw c.in-Some.is text
