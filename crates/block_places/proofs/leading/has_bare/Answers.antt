use Rattle.std.proofs.Common.{rules, ◌≡◌, ◌≤◌, ◌∙◌, length, sym, get_or, Some, slice_get}
use Rattle.std.proofs.lemmas.Option.{slice_get-get_or}
use Rattle.c_graph.specs.declared.graph.EdgeId.{EdgeId}
use Rattle.block_places.specs.Made as made
use Rattle.block_places.proofs.Deciding.{any-end, any-more, any-yes}
use Rattle.block_places.proofs.leading.has_bare.Goals as goal

pub loop-number-preserved : goal.loop-number-preserved
loop-number-preserved c =
    let id : EdgeId = get_or c.args.outs.now c.loop-number.number (record { 0 = 0 }) in
    let there : slice_get c.args.outs.now c.loop-number.number ≡ Some id =
    slice_get-get_or c.args.outs.now c.loop-number.number (record { 0 = 0 }) c.loop-number-test.true in
    any-more (λ (id : EdgeId). made.is_bare_from c.args.graph.now c.args.node id.0 c.args.test c.args.to) c.args.outs.now c.loop-number.number id there
    (sym c.is_bare_from.ensures.made ∙ c.if-is_bare_from.false) c.loop-number.invariant

pub returns-then-is_bare_from-clause-made : goal.returns-then-is_bare_from-clause-made
returns-then-is_bare_from-clause-made c =
    let id : EdgeId = get_or c.args.outs.now c.loop-number.number (record { 0 = 0 }) in
    let there : slice_get c.args.outs.now c.loop-number.number ≡ Some id =
    slice_get-get_or c.args.outs.now c.loop-number.number (record { 0 = 0 }) c.loop-number-test.true in
    any-yes (λ (id : EdgeId). made.is_bare_from c.args.graph.now c.args.node id.0 c.args.test c.args.to) c.args.outs.now c.loop-number.number id there
    (sym c.is_bare_from.ensures.made ∙ c.if-is_bare_from.true)

pub returns-clause-made : goal.returns-clause-made
returns-clause-made c =
    let past : length c.args.outs.now ≤ c.loop-number.number = search rules in
    any-end (λ (id : EdgeId). made.is_bare_from c.args.graph.now c.args.node id.0 c.args.test c.args.to) c.args.outs.now c.loop-number.number past c.loop-number.invariant
