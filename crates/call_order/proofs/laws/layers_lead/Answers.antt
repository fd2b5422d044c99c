use Rattle.call_order.proofs.Leading.{layers_lead}
use Rattle.call_order.proofs.laws.layers_lead.Goals as goal

pub returns : goal.returns
returns c = layers_lead
