use Rattle.typedef_names.proofs.ChainLemmas.{IsOnWay}
use Rattle.typedef_names.proofs.names.Names.has.Given as goal

abbrev pub invariant-chain : goal.invariant-chain
invariant-chain l = IsOnWay l.bytes l.self-inside.entries.items l.left

abbrev pub decreases-chain : goal.decreases-chain
decreases-chain l = l.left
