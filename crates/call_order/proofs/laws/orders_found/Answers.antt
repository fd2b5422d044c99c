use Rattle.call_order.proofs.Peeling.{orders_found}
use Rattle.call_order.proofs.laws.orders_found.Goals as goal

pub returns : goal.returns
returns c = orders_found
