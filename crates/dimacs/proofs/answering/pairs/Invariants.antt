use Rattle.std.proofs.Common.{◌≡◌, min, take}
use Rattle.clause_learning.specs.Solve.{pairs_of}
use Rattle.dimacs.proofs.answering.pairs.Given as goal

abbrev pub invariant-loop-chain : goal.invariant-loop-chain
invariant-loop-chain l = l.pairs ≡ min (pairs_of (take l.chain-index l.chains)) 18446744073709551615
