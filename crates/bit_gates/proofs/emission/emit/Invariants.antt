use Rattle.std.proofs.Common.{◌≡◌, ◌+◌, take, ◌++◌}
use Rattle.bit_gates.specs.Net.{net_clauses}
use Rattle.bit_gates.proofs.emission.emit.Given as goal

abbrev pub invariant-loop-def : goal.invariant-loop-def
invariant-loop-def l = (l.var ≡ l.net.start + l.def-index)
    × (l.clauses ≡ l.initial.clauses ++ net_clauses l.net.start (take l.def-index l.def-items))
