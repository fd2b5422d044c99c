use Rattle.std.proofs.Common.{◌≡◌, ◌≤◌, ◌∙◌, ℕ, List, ap, subst, arith}
use Rattle.c_graph.specs.Functions.{FnFlow}
use Rattle.call_inline.specs.Sizes.{AreSettled, size_in}
use Rattle.call_inline.proofs.Sizing.{few-copies}
use Rattle.call_inline.proofs.inlining.inline.Goals as goal

pub returns-clause-few : goal.returns-clause-few
returns-clause-few c =
    let p = c.args.graphs.now in
    let sizes : List ℕ = c.in_ok-sizes.sizes.items in
    let settled : AreSettled p.graphs sizes = subst (λ (gs : List FnFlow). AreSettled gs sizes) c.graphs.ensures.value c.in_ok-sizes.ensures.settled in
    let is : c.known-size.result ≡ size_in sizes p.main =
    c.known-size.ensures ∙ ap (λ (ss : List ℕ). size_in ss c.main.result) c.deref.ensures.value ∙ ap (size_in sizes) c.main.ensures.value in
    let most : c.known-size.result ≤ 65536 = omega (arith, c.if-size-gt-MOST_NODES.false) in
    few-copies p.graphs sizes settled p.main (omega (arith, is, most))
