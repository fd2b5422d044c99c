use Rattle.unwinding_laws.proofs.Chains.{chains_refine}
use Rattle.unwinding_laws.proofs.chains_refine.Goals as goal

pub returns : goal.returns
returns c = chains_refine
