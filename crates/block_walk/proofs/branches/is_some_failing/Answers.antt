use Rattle.std.proofs.Common.{rules, Bool, ◌≡◌, ◌∙◌, ◌+◌, ◌<◌, ap, arith, drop, get_or, length, sym, None}
use Rattle.std.proofs.lemmas.Option.{slice_get-get_or}
use Rattle.bv_term.specs.declared.term.TermId.{TermId}
use Rattle.truth_terms.specs.Made as truths
use Rattle.walk_states.specs.declared.state.Failing.{Failing}
use Rattle.walk_states.specs.Walks.{bads_of}
use Rattle.block_walk.specs.Made as made
use Rattle.block_walk.proofs.Branching.{bit-step, bit-last}
use Rattle.block_walk.proofs.Going.{failing-go, failing-stop, failing-out}
use Rattle.block_walk.proofs.branches.is_some_failing.Goals as goal

pub loop-number-preserved : goal.loop-number-preserved
loop-number-preserved c =
    let none : Failing = record { cell = 0; error = 0 } in
    let n = c.loop-number.number in
    let bs = c.args.bads.now in
    let b : Failing = get_or bs n none in
    let lt : n + 1 < length bs = omega (arith, c.if-number-bads.false, c.loop-number-test.true) in
    let rest : TermId → Bool = λ next. made.is_some_failing c.args.terms.now next (bads_of (drop (n + 1) bs)) in (
      bit-step c.args.terms.now c.args.term c.loop-number.at c.in-Some.next bs n b (slice_get-get_or bs n none c.loop-number-test.true)
          c.in-Some.ensures.means c.loop-number.invariant.0,
      c.loop-number.invariant.1 ∙ failing-go c.args.terms.now c.loop-number.at bs n b (slice_get-get_or bs n none c.loop-number-test.true) lt
          ∙ ap (made.failing_behind rest) (sym c.in-Some.ensures.made),
    )

pub returns-then-number-bads-clause-means : goal.returns-then-number-bads-clause-means
returns-then-number-bads-clause-means c = λ yes.
    let none : Failing = record { cell = 0; error = 0 } in
    let n = c.loop-number.number in
    let bs = c.args.bads.now in
    bit-last c.args.terms.now c.args.term c.loop-number.at bs n (get_or bs n none) (slice_get-get_or bs n none c.loop-number-test.true)
    (omega (arith, c.if-number-bads.true)) (c.is_cell_bit.ensures.means yes) c.loop-number.invariant.0

pub returns-then-number-bads-clause-made : goal.returns-then-number-bads-clause-made
returns-then-number-bads-clause-made c =
    let none : Failing = record { cell = 0; error = 0 } in
    let n = c.loop-number.number in
    let bs = c.args.bads.now in
    c.is_cell_bit.ensures.made
    ∙ sym
    (c.loop-number.invariant.1
    ∙ failing-stop c.args.terms.now c.loop-number.at bs n (get_or bs n none) (slice_get-get_or bs n none c.loop-number-test.true)
    (omega (arith, c.if-number-bads.true)))

pub returns-in_default-clause-made : goal.returns-in_default-clause-made
returns-in_default-clause-made c =
    let none : Failing = record { cell = 0; error = 0 } in
    let n = c.loop-number.number in
    let bs = c.args.bads.now in
    let b : Failing = get_or bs n none in
    let lt : n + 1 < length bs = omega (arith, c.if-number-bads.false, c.loop-number-test.true) in
    let rest : TermId → Bool = λ next. made.is_some_failing c.args.terms.now next (bads_of (drop (n + 1) bs)) in
    let e : truths.is_added c.args.terms.now c.loop-number.at b.cell ≡ None = search rules in
    sym
    (c.loop-number.invariant.1 ∙ failing-go c.args.terms.now c.loop-number.at bs n b (slice_get-get_or bs n none c.loop-number-test.true) lt
    ∙ ap (made.failing_behind rest) e)

pub returns-clause-made : goal.returns-clause-made
returns-clause-made c =
    sym
    (c.loop-number.invariant.1
    ∙ failing-out c.args.terms.now c.loop-number.at c.args.bads.now c.loop-number.number (omega (arith, c.loop-number-test.false)))
