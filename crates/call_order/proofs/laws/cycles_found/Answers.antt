use Rattle.call_order.proofs.Leading.{cycles_found}
use Rattle.call_order.proofs.laws.cycles_found.Goals as goal

pub returns : goal.returns
returns c = cycles_found
