use Rattle.std.proofs.Common.{◌∙◌, ap, List}
use Rattle.c_graph.specs.declared.store.Named.{Named}
use Rattle.c_graph.specs.Stores.{kept_for}
use Rattle.c_graph.proofs.Kept.{values-more}
use Rattle.c_graph.proofs.store.Store.values.Goals as goal

pub loop-cell-preserved : goal.loop-cell-preserved
loop-cell-preserved c = values-more c.self.inside.named.items c.loop-cell.values.items c.push.new.self.items _ c.loop-cell.cell c.self.inside.cells c.kept.result c.loop-cell-test.true c.in_ok-push.ensures.items
    (c.kept.ensures ∙ ap (λ (ns : List Named). kept_for ns c.loop-cell.cell) c.deref.ensures.value) c.loop-cell.invariant
