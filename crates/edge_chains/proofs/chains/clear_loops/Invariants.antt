use Rattle.std.proofs.Common.{◌≡◌, drop}
use Rattle.edge_chains.specs.Made as made
use Rattle.edge_chains.proofs.chains.clear_loops.Given as goal

abbrev pub invariant-loop-number : goal.invariant-loop-number
invariant-loop-number l = made.clear_loops l.flags.items (drop l.number l.loops) ≡ made.clear_loops l.fn.flags.items l.loops
