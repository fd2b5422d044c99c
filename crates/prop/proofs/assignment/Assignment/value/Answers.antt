use Rattle.std.proofs.Common.{◌≡◌, ◌∙◌, ap}
use Rattle.prop.specs.Trues.{listed}
use Rattle.prop.proofs.Trues.{listed_searched}
use Rattle.prop.proofs.assignment.Assignment.value.Goals as goal

pub returns : goal.returns
returns c =
    let h = listed_searched c.deref.result.now c.args.var c.binary_search.result c.binary_search.ensures.position (rw c.deref.ensures.value c.self.invariant) in
    let e : c.deref.result.now ≡ c.args.self.now = c.deref.ensures.value ∙ c.self.view_is in
    c.is_ok.ensures.value ∙ h ∙ ap (λ xs. listed xs c.args.var) e
