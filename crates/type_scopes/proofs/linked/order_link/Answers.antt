use Rattle.type_scopes.specs.Chains as chain
use Rattle.type_scopes.proofs.Chaining.{links_to}
use Rattle.type_scopes.proofs.linked.order_link.Goals as goal

pub returns : goal.returns
returns c = links_to chain.by_order c.args.rows.now c.args.older c.args.span c.link_to.result c.order_before-near.result c.order_behind.result c.order_before-near.ensures c.order_behind.ensures c.link_to.ensures.older c.link_to.ensures.reach
