use Rattle.std.proofs.Common.{rules, ◌≡◌, suc, length}
use Rattle.code_layout.proofs.Adding.{firsts-more, cells-more}
use Rattle.code_layout.proofs.layout.add_elements.Goals as goal

pub loop-object-preserved : goal.loop-object-preserved
loop-object-preserved c =
    let first : c.in-Ok.first ≡ length c.loop-object.cells.items = search rules in
    let next : c.in-Some.next ≡ suc c.loop-object.number = search rules in
    record {
      firsts = firsts-more c.args.objects.now c.object-item.result c.loop-object.object-index _ _ c.in-Ok.first _ _ _ c.loop-object.cells.items _ c.loop-object-test.true c.object-item.is first c.in_ok-push.ensures.items c.in_ok-add_object.ensures c.loop-object.invariant.firsts;
      cells = cells-more c.args.model c.args.objects.now c.object-item.result c.loop-object.object-index _ c.loop-object.number _ c.loop-object.cells.items _ _ c.loop-object-test.true c.object-item.is c.width.ensures.width next c.in_ok-add_object.ensures c.loop-object.invariant.cells;
    }
