use Rattle.std.proofs.Common.{◌≡◌, ℕ, ◌<◌, List, [], take}
use Rattle.prop.specs.declared.Lit.{Lit}
use Rattle.prop.specs.Steps.{In}
use Rattle.plain_solver.proofs.engine.find_empty.Given as goal

abbrev pub invariant-loop-number : goal.invariant-loop-number
invariant-loop-number l = (c : List Lit) → In (take l.number l.clauses) c → c ≡ [] → ⊥
