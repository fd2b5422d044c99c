use Rattle.std.proofs.Common.{◌≡◌, drop}
use Rattle.interpolants.specs.Sources.{chain_low, pairs_low}
use Rattle.interpolants.proofs.cone.low_of_chain.Given as goal

abbrev pub invariant-loop-pair : goal.invariant-loop-pair
invariant-loop-pair l = pairs_low l.clauses l.lows l.low (drop l.pair-index l.chain.pairs) ≡ chain_low l.clauses l.lows l.chain
