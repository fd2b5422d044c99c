use Rattle.run_replay.proofs.Orders.{orders_agree}
use Rattle.run_replay.proofs.laws.orders_agree.Goals as goal

pub returns : goal.returns
returns c = orders_agree
