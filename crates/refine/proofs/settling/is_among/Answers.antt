use Rattle.std.proofs.lemmas.List.Elements.{All-more}
use Rattle.c_graph.proofs.Checking.{All-seen}
use Rattle.refine.specs.Decisions.{IsConjunct}
use Rattle.refine.proofs.settling.is_among.Goals as goal

pub loop-conjunct-preserved : goal.loop-conjunct-preserved
loop-conjunct-preserved c =
    All-more (IsConjunct c.args.left.now) c.args.right.now c.loop-conjunct.conjunct-index (record { 0 = 0 }) c.loop-conjunct-test.true c.loop-conjunct.invariant
    (c.has.ensures c.if-not-has.false)

pub returns : goal.returns
returns c = λ is. All-seen (IsConjunct c.args.left.now) c.args.right.now c.loop-conjunct.conjunct-index c.loop-conjunct-test.false c.loop-conjunct.invariant
