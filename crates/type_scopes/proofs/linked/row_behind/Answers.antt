use Rattle.std.proofs.Common.{subst, length}
use Rattle.type_scopes.specs.Chains as chain
use Rattle.type_scopes.proofs.linked.row_behind.Goals as goal

pub returns-clause-name : goal.returns-clause-name
returns-clause-name c = subst (λ s. chain.LinksTo chain.by_name c.args.rows.now c.args.older s c.name_link-name.result) c.name_span.ensures c.name_link-name.ensures

pub returns-clause-order : goal.returns-clause-order
returns-clause-order c = subst (λ s. chain.LinksTo chain.by_order c.args.rows.now (length c.args.rows.now) s c.order_link-order.result) c.order_span.ensures c.order_link-order.ensures
