use Rattle.cover_engine.proofs.RefineLemmas.{labels-end}
use Rattle.cover_engine.proofs.refinement.new_labels.Goals as goal

pub returns : goal.returns
returns c =
    labels-end c.args.tree.now.terms c.args.tree.now.vertices c.loop-place.labels.items _ _ c.args.formulas.now c.loop-place.place c.loop-place-test.false c.loop-place.invariant
