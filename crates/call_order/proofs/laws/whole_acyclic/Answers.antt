use Rattle.call_order.proofs.Peeling.{whole_acyclic}
use Rattle.call_order.proofs.laws.whole_acyclic.Goals as goal

pub returns : goal.returns
returns c = whole_acyclic
