use Rattle.std.proofs.Common.{arith}
use Rattle.call_order.proofs.Arms.{apart_step, apart_stop}
use Rattle.call_order.proofs.confirmed.all_apart.Goals as goal

pub returns-then-not-own_apart : goal.returns-then-not-own_apart
returns-then-not-own_apart c =
    apart_stop c.args.parts.now c.args.at c.args.calls.now c.loop-i.i c.index-calls-i.result c.deref.result.now c.part_at-part.result c.own_apart.result _
    (omega arith) c.index-calls-i.is c.deref.ensures.value c.part_at-part.ensures c.own_apart.ensures c.loop-i.invariant c.if-not-own_apart.true

pub loop-i-preserved : goal.loop-i-preserved
loop-i-preserved c =
    apart_step c.args.parts.now c.args.at c.args.calls.now c.loop-i.i c.index-calls-i.result c.deref.result.now c.part_at-part.result c.own_apart.result _
    (omega arith) c.index-calls-i.is c.deref.ensures.value c.part_at-part.ensures c.own_apart.ensures c.loop-i.invariant c.if-not-own_apart.false
