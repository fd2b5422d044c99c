use Rattle.std.proofs.Common.{◌∙◌, ◌+◌, ◌<◌, arith, drop, get_or, length, Option}
use Rattle.std.proofs.lemmas.Option.{slice_get-get_or}
use Rattle.std.proofs.lemmas.Result.{err_from_is_err_and}
use Rattle.block_steps.specs.declared.cursor.Cursor.{Cursor}
use Rattle.walk_states.specs.declared.state.Failing.{Failing}
use Rattle.walk_states.specs.Walks.{bads_of}
use Rattle.block_walk.specs.Made as made
use Rattle.block_walk.proofs.Branching.{first-on}
use Rattle.block_walk.proofs.Going.{behind-some, first-go, first-stop, first-out, told-as, told-behind}
use Rattle.block_walk.proofs.branches.first_failing.Goals as goal

pub loop-number-preserved : goal.loop-number-preserved
loop-number-preserved c =
    let none : Failing = record { cell = 0; error = 0 } in
    let n = c.loop-number.number in
    let bs = c.args.bads.now in
    let b : Failing = get_or bs n none in
    let lt : n + 1 < length bs = omega (arith, c.if-number-bads.false, c.loop-number-test.true) in
    let rest : Cursor → Option Cursor = λ next. made.first_failing c.args.old.now.terms c.args.new.now (bads_of (drop (n + 1) bs)) next in (
      first-on c.args.new.now bs n b c.args.cursor c.loop-number.at c.in_ok-at.at (slice_get-get_or bs n none c.loop-number-test.true) lt
          c.in_ok-at.ensures.means c.loop-number.invariant.0,
      c.loop-number.invariant.1
          ∙ first-go c.args.old.now.terms c.args.new.now bs n b c.loop-number.at (slice_get-get_or bs n none c.loop-number-test.true) lt
          ∙ behind-some rest _ _ c.in_ok-at.ensures.made,
    )

pub returns-then-number-bads-clause-made : goal.returns-then-number-bads-clause-made
returns-then-number-bads-clause-made c =
    let none : Failing = record { cell = 0; error = 0 } in
    let n = c.loop-number.number in
    let bs = c.args.bads.now in
    told-as _ c.ended.result _ _
    (c.loop-number.invariant.1
    ∙ first-stop c.args.old.now.terms c.args.new.now bs n (get_or bs n none) c.loop-number.at (slice_get-get_or bs n none c.loop-number-test.true)
    (omega (arith, c.if-number-bads.true)))
    c.ended.ensures.made

pub returns-in_err-at-clause-made : goal.returns-in_err-at-clause-made
returns-in_err-at-clause-made c =
    let none : Failing = record { cell = 0; error = 0 } in
    let n = c.loop-number.number in
    let bs = c.args.bads.now in
    let b : Failing = get_or bs n none in
    let lt : n + 1 < length bs = omega (arith, c.if-number-bads.false, c.loop-number-test.true) in
    let rest : Cursor → Option Cursor = λ next. made.first_failing c.args.old.now.terms c.args.new.now (bads_of (drop (n + 1) bs)) next in
    let p = err_from_is_err_and c.from_residual.result c.from_residual.ensures.1 in
    rw (p.1, p.2)
    (told-behind (λ (k : Cursor). k) (λ (k : Cursor). k) _ rest _ _
    (c.loop-number.invariant.1
    ∙ first-go c.args.old.now.terms c.args.new.now bs n b c.loop-number.at (slice_get-get_or bs n none c.loop-number-test.true) lt)
    c.in_err-at.ensures.made)

pub returns-clause-made : goal.returns-clause-made
returns-clause-made c =
    c.loop-number.invariant.1
    ∙ first-out c.args.old.now.terms c.args.new.now c.args.bads.now c.loop-number.number c.loop-number.at (omega (arith, c.loop-number-test.false))
