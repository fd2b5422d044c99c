use Rattle.std.proofs.Common.{arith, refl, sym}
use Rattle.block_follow.specs.Made as made
use Rattle.block_follow.proofs.Deciding.{begin-end, begin-more, begin-not, begin-short, same-more}
use Rattle.block_follow.proofs.Growing.{prefix}
use Rattle.block_follow.proofs.growth.more_terms.Goals as goal

pub loop-number-preserved : goal.loop-number-preserved
loop-number-preserved c = (
  same-more c.args.old.now.terms c.args.new.now.terms c.loop-number.number c.get.result c.get-in-loop-number.result c.get.ensures c.get-in-loop-number.ensures
      (c.if-not-same_term.ensures.tells refl) c.loop-number.invariant.0,
  begin-more made.same_term c.args.old.now.terms c.args.new.now.terms c.loop-number.number c.get.result c.get-in-loop-number.result c.get.ensures c.get-in-loop-number.ensures
      (sym c.if-not-same_term.ensures.made) c.loop-number.invariant.1,
)

pub returns-then-count-clause-made : goal.returns-then-count-clause-made
returns-then-count-clause-made c =
    begin-short made.same_term c.args.old.now.terms c.args.new.now.terms (omega (arith, c.if-count.true, c.count.ensures.value, c.count-2.ensures.value))

pub returns-then-not-same_term-clause-made : goal.returns-then-not-same_term-clause-made
returns-then-not-same_term-clause-made c =
    begin-not made.same_term c.args.old.now.terms c.args.new.now.terms c.loop-number.number c.get.result c.get-in-loop-number.result c.get.ensures c.get-in-loop-number.ensures
    (sym c.if-not-same_term.ensures.made)

pub returns-clause-tells : goal.returns-clause-tells
returns-clause-tells c = λ t.
    prefix c.args.old.now.terms c.args.new.now.terms (omega (arith, c.if-count.false, c.count.ensures.value, c.count-2.ensures.value))
    (λ k lt. c.loop-number.invariant.0 k (omega (arith, lt, c.loop-number-test.false, c.count-number-end.ensures.value)))

pub returns-clause-made : goal.returns-clause-made
returns-clause-made c =
    begin-end made.same_term c.args.old.now.terms c.args.new.now.terms c.loop-number.number
    (omega (arith, c.loop-number-test.false, c.count-number-end.ensures.value)) c.loop-number.invariant.1
