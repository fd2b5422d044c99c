use Rattle.std.proofs.Common.{◌∙◌, ap, List}
use Rattle.c_graph.specs.declared.store.Named.{Named}
use Rattle.c_graph.specs.Stores.{kept_for}
use Rattle.c_graph.proofs.Kept.{value-of}
use Rattle.c_graph.proofs.store.Store.value.Goals as goal

pub returns : goal.returns
returns c = value-of c.self.inside.named.items c.self.inside.cells c.args.cell c.kept.result c.args.self.now c.self.view_is c.requires
    (c.kept.ensures ∙ ap (λ (ns : List Named). kept_for ns c.args.cell) c.deref.ensures.value)
