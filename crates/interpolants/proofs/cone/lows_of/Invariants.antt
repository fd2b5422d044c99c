use Rattle.std.proofs.Common.{◌≡◌, [], drop, length}
use Rattle.interpolants.specs.Sources.{lows_after}
use Rattle.interpolants.proofs.cone.lows_of.Given as goal

abbrev pub invariant-loop-chain : goal.invariant-loop-chain
invariant-loop-chain l = record {
  long : length l.lows.items ≡ l.chain-index;
  told : lows_after l.clauses l.lows.items (drop l.chain-index l.chains) ≡ lows_after l.clauses [] l.chains;
}
