use Rattle.std.proofs.Common.{rules, ◌≡◌, ◌<◌, ◌+◌, ◌*◌, ◌%◌, arith, refl, sym, subst}
use Rattle.plan_tests.specs.Flow.{IsKept}
use Rattle.plan_tests.specs.Made as made
use Rattle.plan_tests.proofs.Deciding.{below-all, below-more, below-not, from-none}
use Rattle.plan_tests.proofs.Passing.{one_more}
use Rattle.plan_tests.proofs.flow.are_bits_kept.Goals as goal

pub loop-bit-init : goal.loop-bit-init
loop-bit-init c =
    (λ b lt. absurd (omega (arith, lt)), from-none (λ bit. made.is_kept c.args.known.now c.args.from c.args.ops.now c.args.to (c.args.number * 64 + bit)) 0)

pub loop-bit-preserved : goal.loop-bit-preserved
loop-bit-preserved c = (
  one_more (λ b. IsKept c.args.known.now c.args.from c.args.ops.now c.args.to (c.args.number * 64 + b)) c.loop-bit.bit (c.if-not-is_kept.ensures.tells refl)
      c.loop-bit.invariant.0,
  below-more (λ bit. made.is_kept c.args.known.now c.args.from c.args.ops.now c.args.to (c.args.number * 64 + bit)) c.loop-bit.bit
      (sym c.if-not-is_kept.ensures.made) c.loop-bit.invariant.1,
)

pub returns-then-not-is_kept-clause-made : goal.returns-then-not-is_kept-clause-made
returns-then-not-is_kept-clause-made c =
    below-not (λ bit. made.is_kept c.args.known.now c.args.from c.args.ops.now c.args.to (c.args.number * 64 + bit)) 64 c.loop-bit.bit c.loop-bit-test.true
    (sym c.if-not-is_kept.ensures.made)

pub returns-clause-tells : goal.returns-clause-tells
returns-clause-tells c y u e =
    let end : c.loop-bit.bit ≡ 64 = search rules in
    let lt : u % 64 < c.loop-bit.bit = omega (arith, end) in
    let same : c.args.number * 64 + u % 64 ≡ u = omega (arith, e) in
    subst (IsKept c.args.known.now c.args.from c.args.ops.now c.args.to) same (c.loop-bit.invariant.0 (u % 64) lt)

pub returns-clause-made : goal.returns-clause-made
returns-clause-made c =
    let end : c.loop-bit.bit ≡ 64 = search rules in
    below-all (λ bit. made.is_kept c.args.known.now c.args.from c.args.ops.now c.args.to (c.args.number * 64 + bit)) 64 c.loop-bit.bit end c.loop-bit.invariant.1
