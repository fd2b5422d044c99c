use Rattle.std.proofs.Common.{◌≡◌, ◌∙◌, ◌+◌, ◌&&◌, true, false, ap, sym, get_or, drop, arith}
use Rattle.std.proofs.lemmas.Option.{slice_get-get_or}
use Rattle.c_graph.specs.declared.graph.EdgeId.{EdgeId}
use Rattle.block_steps.specs.Made as made
use Rattle.block_steps.proofs.Among.{among-all, among-none, among-step}
use Rattle.block_steps.proofs.sides.are_among.Goals as goal

pub returns-then-not-is_either-clause-made : goal.returns-then-not-is_either-clause-made
returns-then-not-is_either-clause-made c =
    let none : EdgeId = record { 0 = 0 } in
    let ns = c.args.numbers.now in
    let n = c.loop-number.number in
    let x : EdgeId = get_or ns n none in
    let b : made.is_either x.0 c.args.one c.args.other ≡ false = sym c.is_either.ensures.made ∙ c.if-not-is_either.true in
    sym
    (c.loop-number.invariant ∙ among-step ns n c.args.one c.args.other x (slice_get-get_or ns n none c.loop-number-test.true)
    ∙ ap (λ t. t && made.are_among (drop (n + 1) ns) c.args.one c.args.other) b)

pub loop-number-preserved : goal.loop-number-preserved
loop-number-preserved c =
    let none : EdgeId = record { 0 = 0 } in
    let ns = c.args.numbers.now in
    let n = c.loop-number.number in
    let x : EdgeId = get_or ns n none in
    let b : made.is_either x.0 c.args.one c.args.other ≡ true = sym c.is_either.ensures.made ∙ c.if-not-is_either.false in
    c.loop-number.invariant ∙ among-step ns n c.args.one c.args.other x (slice_get-get_or ns n none c.loop-number-test.true)
    ∙ ap (λ t. t && made.are_among (drop (n + 1) ns) c.args.one c.args.other) b

pub returns-clause-means : goal.returns-clause-means
returns-clause-means c = λ t.
    let ns = c.args.numbers.now in
    among-all ns c.args.one c.args.other
    (c.loop-number.invariant ∙ among-none ns c.loop-number.number c.args.one c.args.other (omega (arith, c.loop-number-test.false)))

pub returns-clause-made : goal.returns-clause-made
returns-clause-made c =
    let ns = c.args.numbers.now in
    sym (c.loop-number.invariant ∙ among-none ns c.loop-number.number c.args.one c.args.other (omega (arith, c.loop-number-test.false)))
