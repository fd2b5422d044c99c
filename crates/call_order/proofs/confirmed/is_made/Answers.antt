use Rattle.call_order.proofs.Arms.{made_arm}
use Rattle.call_order.proofs.confirmed.is_made.Goals as goal

pub returns-then-i-calls : goal.returns-then-i-calls
returns-then-i-calls c =
    made_arm c.args.calls.now c.args.caller c.index-calls-i.result c.deref.result.now c.args.call.at c.args.call.to c.has_call.result
    c.if-i-calls.true c.index-calls-i.is c.deref.ensures.value c.has_call.ensures
