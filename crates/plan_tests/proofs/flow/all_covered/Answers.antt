use Rattle.std.proofs.Common.{rules, ◌≡◌, ◌≤◌, ℕ, get_or, length, refl, Some, slice_get, sym}
use Rattle.std.proofs.lemmas.Option.{slice_get-get_or}
use Rattle.plan_tests.specs.Flow.{IsCovered}
use Rattle.plan_tests.specs.Made as made
use Rattle.plan_tests.proofs.Deciding.{all-end, all-more}
use Rattle.plan_tests.proofs.Passing.{all_passed, one_passed}
use Rattle.plan_tests.proofs.flow.all_covered.Goals as goal

pub loop-number-preserved : goal.loop-number-preserved
loop-number-preserved c =
    let x : ℕ = get_or c.args.units.now c.loop-number.number 0 in
    let there : slice_get c.args.units.now c.loop-number.number ≡ Some x = slice_get-get_or c.args.units.now c.loop-number.number 0 c.loop-number-test.true in (
      one_passed c.args.units.now (λ k u. IsCovered c.args.known.now c.args.node c.args.before.now u) c.loop-number.number x there (c.if-not-is_covered.ensures.tells refl) c.loop-number.invariant.0,
      all-more (made.is_covered c.args.known.now c.args.node c.args.before.now) c.args.units.now c.loop-number.number x there (sym c.if-not-is_covered.ensures.made) c.loop-number.invariant.1,
    )

pub returns-clause-tells : goal.returns-clause-tells
returns-clause-tells c y =
    let past : length c.args.units.now ≤ c.loop-number.number = search rules in
    all_passed c.args.units.now (λ k u. IsCovered c.args.known.now c.args.node c.args.before.now u) c.loop-number.number past c.loop-number.invariant.0

pub returns-clause-made : goal.returns-clause-made
returns-clause-made c =
    let past : length c.args.units.now ≤ c.loop-number.number = search rules in
    all-end (made.is_covered c.args.known.now c.args.node c.args.before.now) c.args.units.now c.loop-number.number past c.loop-number.invariant.1
