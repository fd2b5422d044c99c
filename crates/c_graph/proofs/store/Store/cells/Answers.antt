use Rattle.std.proofs.Common.{sym, ◌∙◌, ap, length}
use Rattle.c_graph.proofs.Kept.{length-values_from}
use Rattle.c_graph.proofs.store.Store.cells.Goals as goal

pub returns : goal.returns
returns c = sym (length-values_from c.self.inside.named.items 0 c.self.inside.cells) ∙ ap length c.self.view_is
