use Rattle.type_scopes.specs.Chains as chain
use Rattle.type_scopes.proofs.Chaining.{links_to}
use Rattle.type_scopes.proofs.linked.name_link.Goals as goal

pub returns : goal.returns
returns c = links_to chain.by_name c.args.rows.now c.args.older c.args.span c.link_to.result c.name_before-near.result c.name_behind.result c.name_before-near.ensures c.name_behind.ensures c.link_to.ensures.older c.link_to.ensures.reach
