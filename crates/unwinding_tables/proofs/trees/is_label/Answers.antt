use Rattle.std.proofs.lemmas.List.Elements.{All-more}
use Rattle.bv_term.specs.declared.term.TermId.{TermId}
use Rattle.c_graph.specs.Shape.{HasWidth}
use Rattle.c_graph.proofs.Checking.{All-seen}
use Rattle.unwinding_tables.proofs.trees.is_label.Goals as goal

pub loop-conjunct-preserved : goal.loop-conjunct-preserved
loop-conjunct-preserved c =
    All-more (λ (t : TermId). HasWidth c.args.terms.now t 1) c.args.label.now c.loop-conjunct.conjunct-index _ c.loop-conjunct-test.true c.loop-conjunct.invariant
    (c.is_bit.ensures c.if-not-is_bit.false)

pub returns : goal.returns
returns c = λ _. All-seen (λ (t : TermId). HasWidth c.args.terms.now t 1) c.args.label.now c.loop-conjunct.conjunct-index c.loop-conjunct-test.false c.loop-conjunct.invariant
