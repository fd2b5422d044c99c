use Rattle.std.proofs.Common.{rules, ◌≡◌, ◌≤◌, ℕ, get_or, length, Some, slice_get, sym, true}
use Rattle.std.proofs.lemmas.Option.{slice_get-get_or}
use Rattle.walk_states.specs.Known.{has_unit}
use Rattle.plan_tests.specs.Made as made
use Rattle.plan_tests.proofs.Deciding.{all-end, all-more}
use Rattle.plan_tests.proofs.Passing.{all_passed, one_passed}
use Rattle.plan_tests.proofs.reads.includes.Goals as goal

pub loop-number-preserved : goal.loop-number-preserved
loop-number-preserved c =
    let x : ℕ = get_or c.args.units.now c.loop-number.number 0 in
    let there : slice_get c.args.units.now c.loop-number.number ≡ Some x = slice_get-get_or c.args.units.now c.loop-number.number 0 c.loop-number-test.true in (
      one_passed c.args.units.now (λ k u. has_unit c.args.list.now u ≡ true) c.loop-number.number x there (sym c.if-not-has.ensures) c.loop-number.invariant.0,
      all-more (made.has c.args.list.now) c.args.units.now c.loop-number.number x there (sym c.if-not-has.ensures) c.loop-number.invariant.1,
    )

pub returns-clause-tells : goal.returns-clause-tells
returns-clause-tells c y =
    let past : length c.args.units.now ≤ c.loop-number.number = search rules in
    all_passed c.args.units.now (λ k u. has_unit c.args.list.now u ≡ true) c.loop-number.number past c.loop-number.invariant.0

pub returns-clause-made : goal.returns-clause-made
returns-clause-made c =
    let past : length c.args.units.now ≤ c.loop-number.number = search rules in
    all-end (made.has c.args.list.now) c.args.units.now c.loop-number.number past c.loop-number.invariant.1
