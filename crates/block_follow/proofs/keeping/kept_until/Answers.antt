use Rattle.std.proofs.Common.{rules, ◌≡◌, ◌≤◌, get_or, length, Some, slice_get, sym}
use Rattle.std.proofs.lemmas.Option.{slice_get-get_or}
use Rattle.c_graph.specs.declared.graph.EdgeId.{EdgeId}
use Rattle.walk_states.specs.Known.{plan_of}
use Rattle.plan_tests.proofs.Passing.{all_passed, one_passed}
use Rattle.block_follow.specs.Following.{IsKept}
use Rattle.block_follow.specs.Made as made
use Rattle.block_follow.proofs.Deciding.{kept-end, kept-more, kept-not, made-on}
use Rattle.block_follow.proofs.keeping.kept_until.Goals as goal

pub loop-number-preserved : goal.loop-number-preserved
loop-number-preserved c =
    let g = c.args.old.now in
    let h = c.args.new.now in
    let plan = plan_of c.args.known.now in
    let id : EdgeId = get_or c.args.outs.now c.loop-number.number (record { 0 = 0 }) in
    let there : slice_get c.args.outs.now c.loop-number.number ≡ Some id =
    slice_get-get_or c.args.outs.now c.loop-number.number (record { 0 = 0 }) c.loop-number-test.true in (
      one_passed c.args.outs.now (λ k (id : EdgeId). IsKept g h plan c.args.node id.0) c.loop-number.number id there c.in-Some.ensures.kept
          c.loop-number.invariant.0,
      made-on g h plan c.args.node c.args.first c.loop-number.at c.in-Some.next c.loop-number.invariant.1 c.in-Some.ensures.made,
      kept-more g h c.args.known.now c.args.node c.loop-number.at c.in-Some.next c.args.outs.now c.loop-number.number id
          (made.kept_until g h c.args.known.now c.args.node c.args.first c.args.outs.now) there (sym c.in-Some.ensures.one) c.loop-number.invariant.2,
    )

pub returns-clause-kept : goal.returns-clause-kept
returns-clause-kept c =
    let past : length c.args.outs.now ≤ c.loop-number.number = search rules in
    all_passed c.args.outs.now (λ k (id : EdgeId). IsKept c.args.old.now c.args.new.now (plan_of c.args.known.now) c.args.node id.0) c.loop-number.number past
    c.loop-number.invariant.0

pub returns-in_default-clause-one : goal.returns-in_default-clause-one
returns-in_default-clause-one c =
    let id : EdgeId = get_or c.args.outs.now c.loop-number.number (record { 0 = 0 }) in
    let there : slice_get c.args.outs.now c.loop-number.number ≡ Some id =
    slice_get-get_or c.args.outs.now c.loop-number.number (record { 0 = 0 }) c.loop-number-test.true in
    kept-not c.args.old.now c.args.new.now c.args.known.now c.args.node c.loop-number.at c.args.outs.now c.loop-number.number id
    (made.kept_until c.args.old.now c.args.new.now c.args.known.now c.args.node c.args.first c.args.outs.now) there (sym c.in_default.ensures.one)
    c.loop-number.invariant.2

pub returns-clause-one : goal.returns-clause-one
returns-clause-one c =
    let past : length c.args.outs.now ≤ c.loop-number.number = search rules in
    kept-end c.args.old.now c.args.new.now c.args.known.now c.args.node c.loop-number.at c.args.outs.now c.loop-number.number
    (made.kept_until c.args.old.now c.args.new.now c.args.known.now c.args.node c.args.first c.args.outs.now) past c.loop-number.invariant.2
