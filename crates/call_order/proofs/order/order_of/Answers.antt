use Rattle.std.proofs.Common.{ℕ, List, subst, sym, ap, ◌∙◌}
use Rattle.call_order.specs.Order.{IsOrder}
use Rattle.call_order.specs.Peel as p
use Rattle.call_order.specs.Seen.{graph_of}
use Rattle.call_order.proofs.Peeling.{orders_found}
use Rattle.call_order.proofs.order.order_of.Goals as goal

pub returns-clause-order : goal.returns-clause-order
returns-clause-order c =
    subst (λ (z : List ℕ). IsOrder (graph_of c.args.calls.now) z)
    (sym (c.order_in.ensures ∙ ap (λ (z : p.Taking). z.order) (c.in_ok-finish.ensures ∙ ap (p.finished (graph_of c.args.calls.now)) c.in_ok-taking.ensures)))
    (orders_found (graph_of c.args.calls.now) c.deref.result.now c.requires.bounded c.requires.acyclic)

pub returns-clause-made : goal.returns-clause-made
returns-clause-made c =
    c.order_in.ensures ∙ (ap (λ (z : p.Taking). z.order) (c.in_ok-finish.ensures ∙ ap (p.finished (graph_of c.args.calls.now)) c.in_ok-taking.ensures)
    ∙ ap (p.order_of (graph_of c.args.calls.now)) (c.deref.ensures.value ∙ c.in_ok-guess.ensures.order))
