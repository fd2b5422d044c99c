use Rattle.edge_chain_back_laws.proofs.Unjoining.{own_paths_come_back}
use Rattle.block_join.proofs.Keeping.{chained-back, chained-keeps, chained-stays, chained-visits, keeps-own, stays-own, stores-own}
use Rattle.block_join.proofs.chains.with_chains.Goals as goal

pub returns-then-has_more-clause-stays : goal.returns-then-has_more-clause-stays
returns-then-has_more-clause-stays c = chained-stays c.args.graph c.in_ok-joined.joined c.in_ok-joined.ensures.joined (c.has_more.ensures.more c.if-has_more.true)

pub returns-then-has_more-clause-visits : goal.returns-then-has_more-clause-visits
returns-then-has_more-clause-visits c = chained-visits c.args.graph c.in_ok-joined.joined c.in_ok-joined.ensures.joined (c.has_more.ensures.more c.if-has_more.true)

pub returns-else-has_more-clause-stays : goal.returns-else-has_more-clause-stays
returns-else-has_more-clause-stays c = stays-own c.args.graph

pub returns-else-has_more-clause-visits : goal.returns-else-has_more-clause-visits
returns-else-has_more-clause-visits c = stores-own c.args.graph

pub returns-then-has_more-clause-keeps : goal.returns-then-has_more-clause-keeps
returns-then-has_more-clause-keeps c = chained-keeps c.args.graph c.in_ok-joined.joined c.in_ok-joined.ensures.joined (c.has_more.ensures.more c.if-has_more.true)

pub returns-then-has_more-clause-back : goal.returns-then-has_more-clause-back
returns-then-has_more-clause-back c =
    chained-back c.args.graph c.in_ok-joined.joined c.entry-entry.ensures.flow c.in_ok-joined.ensures.joined (c.has_more.ensures.more c.if-has_more.true)

pub returns-else-has_more-clause-keeps : goal.returns-else-has_more-clause-keeps
returns-else-has_more-clause-keeps c = keeps-own c.args.graph

pub returns-else-has_more-clause-back : goal.returns-else-has_more-clause-back
returns-else-has_more-clause-back c = λ weight. own_paths_come_back c.args.graph weight c.entry-entry.ensures.flow
