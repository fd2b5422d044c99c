use Rattle.std.proofs.Common.{arith, get_or, ◌≡◌, ◌∙◌, ◌+◌, ◌<◌, Bool, true, false, None, Option, ap, sym, drop, length, if◌then◌else◌}
use Rattle.std.proofs.lemmas.Option.{slice_get-get_or}
use Rattle.std.proofs.lemmas.Result.{err_from_is_err_and}
use Rattle.block_steps.specs.declared.cursor.Cursor.{Cursor}
use Rattle.block_steps.specs.declared.tests.Test.TheVariants.{On}
use Rattle.walk_states.specs.Known.{plan_of}
use Rattle.walk_states.specs.Walks.{waits_of}
use Rattle.walk_states.specs.declared.state.Waiting.{Waiting}
use Rattle.block_walk.specs.Made as made
use Rattle.block_walk.proofs.Branching.{exit-on}
use Rattle.block_walk.proofs.Going.{behind-some, leave-go, leave-stop, leave-out, told-as, told-behind}
use Rattle.block_walk.proofs.branches.leave.Goals as goal

pub loop-number-preserved : goal.loop-number-preserved
loop-number-preserved c =
    let none : Waiting = record { node = 0; guard = None } in
    let n = c.loop-number.number in
    let ws = c.args.waiting.now in
    let w : Waiting = get_or ws n none in
    let old = c.args.old.now.terms in
    let h = c.args.new.now in
    let plan = plan_of c.args.known.now in
    let at = c.loop-number.at in
    let lt : n + 1 < length ws = omega (arith, c.if-number-waiting.false, c.loop-number-test.true) in
    let cut : plan.cuts w.node ≡ true = sym c.is_cut.ensures ∙ c.if-not-is_cut.false in
    let rest : Cursor → Option Cursor = λ next. made.leave old h plan c.args.lost (waits_of (drop (n + 1) ws)) next in (
      exit-on h plan c.args.lost ws n w c.args.cursor at c.in_ok-at.at
          (slice_get-get_or ws n none c.loop-number-test.true) lt cut c.in_ok-at.ensures.means
          c.loop-number.invariant.0,
      c.loop-number.invariant.1 ∙ leave-go old h plan c.args.lost ws n w at (slice_get-get_or ws n none c.loop-number-test.true) lt
          ∙ ap (λ (b : Bool). if b then made.behind rest (made.passed old h at (On w.guard) w.node) else None) cut
          ∙ behind-some rest _ _ c.in_ok-at.ensures.made,
    )

pub returns-then-number-waiting-clause-made : goal.returns-then-number-waiting-clause-made
returns-then-number-waiting-clause-made c =
    let none : Waiting = record { node = 0; guard = None } in
    let n = c.loop-number.number in
    let ws = c.args.waiting.now in
    told-as _ c.last_exit.result _ _
    (c.loop-number.invariant.1
    ∙ leave-stop c.args.old.now.terms c.args.new.now (plan_of c.args.known.now) c.args.lost ws n (get_or ws n none) c.loop-number.at
    (slice_get-get_or ws n none c.loop-number-test.true) (omega (arith, c.if-number-waiting.true)))
    c.last_exit.ensures.made

pub returns-then-not-is_cut-clause-made : goal.returns-then-not-is_cut-clause-made
returns-then-not-is_cut-clause-made c =
    let none : Waiting = record { node = 0; guard = None } in
    let n = c.loop-number.number in
    let ws = c.args.waiting.now in
    let w : Waiting = get_or ws n none in
    let old = c.args.old.now.terms in
    let h = c.args.new.now in
    let plan = plan_of c.args.known.now in
    let at = c.loop-number.at in
    let lt : n + 1 < length ws = omega (arith, c.if-number-waiting.false, c.loop-number-test.true) in
    let cut : plan.cuts w.node ≡ false = sym c.is_cut.ensures ∙ c.if-not-is_cut.true in
    let rest : Cursor → Option Cursor = λ next. made.leave old h plan c.args.lost (waits_of (drop (n + 1) ws)) next in
    c.loop-number.invariant.1 ∙ leave-go old h plan c.args.lost ws n w at (slice_get-get_or ws n none c.loop-number-test.true) lt
    ∙ ap (λ (b : Bool). if b then made.behind rest (made.passed old h at (On w.guard) w.node) else None) cut

pub returns-in_err-at-clause-made : goal.returns-in_err-at-clause-made
returns-in_err-at-clause-made c =
    let none : Waiting = record { node = 0; guard = None } in
    let n = c.loop-number.number in
    let ws = c.args.waiting.now in
    let w : Waiting = get_or ws n none in
    let old = c.args.old.now.terms in
    let h = c.args.new.now in
    let plan = plan_of c.args.known.now in
    let at = c.loop-number.at in
    let lt : n + 1 < length ws = omega (arith, c.if-number-waiting.false, c.loop-number-test.true) in
    let cut : plan.cuts w.node ≡ true = sym c.is_cut.ensures ∙ c.if-not-is_cut.false in
    let rest : Cursor → Option Cursor = λ next. made.leave old h plan c.args.lost (waits_of (drop (n + 1) ws)) next in
    let p = err_from_is_err_and c.from_residual.result c.from_residual.ensures.1 in
    rw (p.1, p.2)
    (told-behind (λ (k : Cursor). k) (λ (k : Cursor). k) _ rest _ _
    (c.loop-number.invariant.1 ∙ leave-go old h plan c.args.lost ws n w at (slice_get-get_or ws n none c.loop-number-test.true) lt
    ∙ ap (λ (b : Bool). if b then made.behind rest (made.passed old h at (On w.guard) w.node) else None) cut)
    c.in_err-at.ensures.made)

pub returns-clause-made : goal.returns-clause-made
returns-clause-made c =
    c.loop-number.invariant.1
    ∙ leave-out c.args.old.now.terms c.args.new.now (plan_of c.args.known.now) c.args.lost c.args.waiting.now c.loop-number.number c.loop-number.at
    (omega (arith, c.loop-number-test.false))
