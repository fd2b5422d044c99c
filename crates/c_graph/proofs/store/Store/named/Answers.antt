use Rattle.std.proofs.Common.{◌≡◌, ◌∙◌, ap, length, List, ℕ, sym}
use Rattle.c_graph.specs.declared.store.Named.{Named}
use Rattle.c_graph.specs.Stores.{values_from}
use Rattle.c_graph.proofs.Kept.{length-values_from}
use Rattle.c_graph.proofs.store.Store.named.Goals as goal

pub returns : goal.returns
returns c =
    let l : length c.args.self.now ≡ c.self.inside.cells = sym (ap length c.self.view_is) ∙ length-values_from c.self.inside.named.items 0 c.self.inside.cells in
    ap (λ (n : ℕ). values_from c.deref.result.now 0 n) l ∙ ap (λ (ns : List Named). values_from ns 0 c.self.inside.cells) c.deref.ensures.value ∙ c.self.view_is
