use Rattle.std.proofs.Common.{rules, ◌≡◌, ◌≤◌, Some, get_or, length, slice_get, sym, ◌∙◌}
use Rattle.std.proofs.lemmas.Option.{slice_get-get_or}
use Rattle.bv_term.specs.declared.term.TermId.{TermId}
use Rattle.c_graph.specs.declared.graph.Operation.{Operation}
use Rattle.c_graph.specs.declared.graph.Operation.TheVariants.{Assume}
use Rattle.plan_tests.specs.Made as made
use Rattle.plan_tests.proofs.Covering.{killed}
use Rattle.plan_tests.proofs.Deciding.{any-end, any-more, any-yes}
use Rattle.plan_tests.proofs.flow.is_killed.Goals as goal

pub loop-number-preserved : goal.loop-number-preserved
loop-number-preserved c =
    let first : TermId = record { 0 = 0 } in
    let op : Operation = get_or c.args.ops.now c.loop-number.number (Assume first) in
    let there : slice_get c.args.ops.now c.loop-number.number ≡ Some op =
    slice_get-get_or c.args.ops.now c.loop-number.number (Assume first) c.loop-number-test.true in
    any-more (made.kills c.args.units.now c.args.unit) c.args.ops.now c.loop-number.number op there (sym c.kills.ensures.made ∙ c.if-kills.false) c.loop-number.invariant

pub returns-then-kills-clause-tells : goal.returns-then-kills-clause-tells
returns-then-kills-clause-tells c y =
    let first : TermId = record { 0 = 0 } in
    let op : Operation = get_or c.args.ops.now c.loop-number.number (Assume first) in
    let there : slice_get c.args.ops.now c.loop-number.number ≡ Some op =
    slice_get-get_or c.args.ops.now c.loop-number.number (Assume first) c.loop-number-test.true in
    killed c.args.units.now c.args.ops.now c.loop-number.number op c.args.unit there (c.kills.ensures.tells c.if-kills.true)

pub returns-then-kills-clause-made : goal.returns-then-kills-clause-made
returns-then-kills-clause-made c =
    let first : TermId = record { 0 = 0 } in
    let op : Operation = get_or c.args.ops.now c.loop-number.number (Assume first) in
    let there : slice_get c.args.ops.now c.loop-number.number ≡ Some op =
    slice_get-get_or c.args.ops.now c.loop-number.number (Assume first) c.loop-number-test.true in
    any-yes (made.kills c.args.units.now c.args.unit) c.args.ops.now c.loop-number.number op there (sym c.kills.ensures.made ∙ c.if-kills.true)

pub returns-clause-made : goal.returns-clause-made
returns-clause-made c =
    let past : length c.args.ops.now ≤ c.loop-number.number = search rules in
    any-end (made.kills c.args.units.now c.args.unit) c.args.ops.now c.loop-number.number past c.loop-number.invariant
