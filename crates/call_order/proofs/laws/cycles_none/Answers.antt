use Rattle.call_order.proofs.Leading.{cycles_none}
use Rattle.call_order.proofs.laws.cycles_none.Goals as goal

pub returns : goal.returns
returns c = cycles_none
