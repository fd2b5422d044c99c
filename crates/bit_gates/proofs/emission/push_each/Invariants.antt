use Rattle.std.proofs.Common.{◌≡◌, map, take, ◌++◌}
use Rattle.bit_gates.proofs.emission.push_each.Given as goal

abbrev pub invariant-loop-c : goal.invariant-loop-c
invariant-loop-c l = l.clauses ≡ l.initial.clauses ++ map (λ c. c.now) (take l.c-index l.list)
