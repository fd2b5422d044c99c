use Rattle.std.proofs.Common.{rules, ◌≡◌, ◌≤◌, length, refl, sym, get_or, Some, slice_get}
use Rattle.std.proofs.lemmas.Option.{slice_get-get_or}
use Rattle.c_graph.specs.declared.graph.EdgeId.{EdgeId}
use Rattle.block_places.specs.Covering.{IsCovered}
use Rattle.block_places.specs.Made as made
use Rattle.block_places.proofs.Deciding.{all-end, all-more, all_passed, one_passed}
use Rattle.block_places.proofs.edges.are_covered.Goals as goal

pub loop-number-preserved : goal.loop-number-preserved
loop-number-preserved c =
    let id : EdgeId = get_or c.args.outs.now c.loop-number.number (record { 0 = 0 }) in
    let there : slice_get c.args.outs.now c.loop-number.number ≡ Some id =
    slice_get-get_or c.args.outs.now c.loop-number.number (record { 0 = 0 }) c.loop-number-test.true in (
      one_passed c.args.outs.now (λ k (id : EdgeId). IsCovered c.args.graph.now c.args.ways id.0) c.loop-number.number id there
          (c.if-not-is_covered.ensures.tells refl) c.loop-number.invariant.0,
      all-more (λ (id : EdgeId). made.is_covered c.args.graph.now c.args.ways id.0) c.args.outs.now c.loop-number.number id there
          (sym c.if-not-is_covered.ensures.made) c.loop-number.invariant.1,
    )

pub returns-clause-tells : goal.returns-clause-tells
returns-clause-tells c y =
    let past : length c.args.outs.now ≤ c.loop-number.number = search rules in
    all_passed c.args.outs.now (λ k (id : EdgeId). IsCovered c.args.graph.now c.args.ways id.0) c.loop-number.number past c.loop-number.invariant.0

pub returns-clause-made : goal.returns-clause-made
returns-clause-made c =
    let past : length c.args.outs.now ≤ c.loop-number.number = search rules in
    all-end (λ (id : EdgeId). made.is_covered c.args.graph.now c.args.ways id.0) c.args.outs.now c.loop-number.number past c.loop-number.invariant.1
