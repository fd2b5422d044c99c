use Rattle.std.proofs.Common.{rules, ◌≡◌, ◌≤◌, length, refl, Some, slice_get, sym}
use Rattle.bv_term.specs.declared.term.Term.{Term}
use Rattle.walk_states.specs.Known.{plan_of}
use Rattle.plan_tests.specs.Reads.{IsRead}
use Rattle.plan_tests.specs.Made as made
use Rattle.plan_tests.proofs.Deciding.{at-end, first-more, first-not}
use Rattle.plan_tests.proofs.Passing.{all_passed, one_passed}
use Rattle.plan_tests.proofs.reads.are_reads.Goals as goal

pub loop-number-preserved : goal.loop-number-preserved
loop-number-preserved c =
    let x : Term = c.get.result in
    let there : slice_get c.args.terms.now.terms c.loop-number.number ≡ Some x = c.get.ensures in (
      one_passed c.args.terms.now.terms (IsRead (plan_of c.args.known.now)) c.loop-number.number x there (c.if-not-is_read.ensures.tells refl) c.loop-number.invariant.0,
      first-more (made.is_read c.args.known.now) c.args.terms.now.terms c.loop-number.number x there (sym c.if-not-is_read.ensures.made) c.loop-number.invariant.1,
    )

pub returns-then-not-is_read-clause-made : goal.returns-then-not-is_read-clause-made
returns-then-not-is_read-clause-made c =
    let x : Term = c.get.result in
    let there : slice_get c.args.terms.now.terms c.loop-number.number ≡ Some x = c.get.ensures in
    first-not (made.is_read c.args.known.now) c.args.terms.now.terms c.loop-number.number x there (sym c.if-not-is_read.ensures.made)

pub returns-clause-tells : goal.returns-clause-tells
returns-clause-tells c y =
    let past : length c.args.terms.now.terms ≤ c.loop-number.number = search rules in
    all_passed c.args.terms.now.terms (IsRead (plan_of c.args.known.now)) c.loop-number.number past c.loop-number.invariant.0

pub returns-clause-made : goal.returns-clause-made
returns-clause-made c =
    let past : length c.args.terms.now.terms ≤ c.loop-number.number = search rules in
    at-end (made.is_read c.args.known.now) 0 c.args.terms.now.terms c.loop-number.number past c.loop-number.invariant.1
