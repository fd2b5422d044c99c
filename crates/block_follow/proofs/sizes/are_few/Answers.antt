use Rattle.std.proofs.Common.{arith, add-one, ap, ◌≡◌, ◌+◌, ◌-◌, ◌≤◌, ◌<◌, ℕ, slice_index}
use Rattle.std.proofs.lemmas.Bool.{le-leb, lt-leb}
use Rattle.program_graphs.specs.Weighing.{total}
use Rattle.block_follow.specs.Made as made
use Rattle.block_follow.proofs.Deciding.{few-end, few-more, few-not}
use Rattle.block_follow.proofs.sizes.are_few.Goals as goal

pub loop-number-init : goal.loop-number-init
loop-number-init c =
    let all : c.args.count ≡ c.args.count - 0 = omega arith in
    (omega arith, omega arith, omega arith, ap (λ (n : ℕ). made.few_from c.args.sizes.now c.args.most n 0 0) all)

pub loop-number-preserved : goal.loop-number-preserved
loop-number-preserved c =
    let weight : ℕ → ℕ = slice_index c.args.sizes.now in
    let n = c.loop-number.number in
    let step : total weight (n + 1) ≡ weight n + total weight n = ap (total weight) (add-one n) in
    let room : weight n ≤ c.args.most - c.loop-number.sum = omega (arith, c.if-size-most.false, c.size_at-size.ensures) in
    let more : c.loop-number.sum + c.size_at-size.result ≡ c.loop-number.sum + weight n = omega (arith, c.size_at-size.ensures) in (
      omega (arith, step, c.size_at-size.ensures, c.loop-number.invariant.0),
      omega (arith, c.if-size-most.false, c.loop-number.invariant.1),
      omega (arith, c.loop-number-test.true),
      few-more c.args.sizes.now c.args.most c.args.count n c.loop-number.sum (c.loop-number.sum + c.size_at-size.result)
          (made.are_few c.args.sizes.now c.args.count c.args.most) c.loop-number-test.true (le-leb (weight n) (c.args.most - c.loop-number.sum) room) more
          c.loop-number.invariant.3,
    )

pub returns-then-size-most-clause-made : goal.returns-then-size-most-clause-made
returns-then-size-most-clause-made c =
    let weight : ℕ → ℕ = slice_index c.args.sizes.now in
    let n = c.loop-number.number in
    let full : c.args.most - c.loop-number.sum < weight n = omega (arith, c.if-size-most.true, c.size_at-size.ensures) in
    few-not c.args.sizes.now c.args.most c.args.count n c.loop-number.sum (made.are_few c.args.sizes.now c.args.count c.args.most)
    c.loop-number-test.true (lt-leb (weight n) (c.args.most - c.loop-number.sum) full) c.loop-number.invariant.3

pub returns-clause-tells : goal.returns-clause-tells
returns-clause-tells c = λ t.
    let weight : ℕ → ℕ = slice_index c.args.sizes.now in
    let end : c.loop-number.number ≡ c.args.count = omega (arith, c.loop-number.invariant.2, c.loop-number-test.false) in
    let all : total weight c.loop-number.number ≡ total weight c.args.count = ap (total weight) end in
    omega (arith, all, c.loop-number.invariant.0, c.loop-number.invariant.1)

pub returns-clause-made : goal.returns-clause-made
returns-clause-made c =
    few-end c.args.sizes.now c.args.most c.args.count c.loop-number.number c.loop-number.sum (made.are_few c.args.sizes.now c.args.count c.args.most)
    (omega (arith, c.loop-number-test.false)) c.loop-number.invariant.3
