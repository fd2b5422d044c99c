use Rattle.call_order.proofs.Leading.{cycles_broken}
use Rattle.call_order.proofs.laws.cycles_broken.Goals as goal

pub returns : goal.returns
returns c = cycles_broken
