use Rattle.std.proofs.Common.{sym, arith, ◌-◌, length}
use Rattle.std.proofs.lemmas.Bool.{ltb-true}
use Rattle.type_scopes.specs.Chains as chain
use Rattle.type_scopes.proofs.Chaining.{before_is}
use Rattle.type_scopes.proofs.linked.order_before.Goals as goal

pub returns-in-Some : goal.returns-in-Some
returns-in-Some c = before_is chain.by_order c.args.rows.now c.args.left c.in-Some.row.now (omega (arith, c.if-left-eq0.false)) (ltb-true (c.args.left - 1) (length c.args.rows.now) (sym c.in-Some.ensures.lookup.0)) c.in-Some.ensures.lookup.1
