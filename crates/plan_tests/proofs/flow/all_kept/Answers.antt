use Rattle.std.proofs.Common.{rules, ◌≡◌, ◌<◌, ◌≤◌, ◌+◌, ◌/◌, arith, refl, sym}
use Rattle.plan_tests.specs.Flow.{IsWordKept}
use Rattle.plan_tests.specs.Made as made
use Rattle.plan_tests.proofs.Covering.{all_words}
use Rattle.plan_tests.proofs.Deciding.{below-all, below-more, below-not, from-none}
use Rattle.plan_tests.proofs.Passing.{one_more}
use Rattle.plan_tests.proofs.flow.all_kept.Goals as goal

pub loop-number-init : goal.loop-number-init
loop-number-init c = (λ n lt. absurd (omega (arith, lt)), from-none (made.is_word_kept c.args.known.now c.args.from c.args.ops.now c.args.to) 0)

pub loop-number-preserved : goal.loop-number-preserved
loop-number-preserved c = (
  one_more (IsWordKept c.args.known.now c.args.from c.args.ops.now c.args.to) c.loop-number.number (c.if-not-is_word_kept.ensures.tells refl)
      c.loop-number.invariant.0,
  below-more (made.is_word_kept c.args.known.now c.args.from c.args.ops.now c.args.to) c.loop-number.number
      (sym c.if-not-is_word_kept.ensures.made) c.loop-number.invariant.1,
)

pub returns-then-not-is_word_kept-clause-made : goal.returns-then-not-is_word_kept-clause-made
returns-then-not-is_word_kept-clause-made c =
    let lt : c.loop-number.number < c.args.count / 64 + 1 = search rules in
    below-not (made.is_word_kept c.args.known.now c.args.from c.args.ops.now c.args.to) (c.args.count / 64 + 1) c.loop-number.number lt
    (sym c.if-not-is_word_kept.ensures.made)

pub returns-clause-tells : goal.returns-clause-tells
returns-clause-tells c y =
    let past : c.args.count / 64 + 1 ≤ c.loop-number.number = search rules in
    all_words c.args.known.now c.args.from c.args.ops.now c.args.to c.args.count (λ n lt. c.loop-number.invariant.0 n (omega (arith, lt, past)))

pub returns-clause-made : goal.returns-clause-made
returns-clause-made c =
    let end : c.loop-number.number ≡ c.args.count / 64 + 1 = search rules in
    below-all (made.is_word_kept c.args.known.now c.args.from c.args.ops.now c.args.to) (c.args.count / 64 + 1) c.loop-number.number end c.loop-number.invariant.1
