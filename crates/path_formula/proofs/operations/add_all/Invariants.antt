use Rattle.bit_blast.specs.Held.{IsOver}
use Rattle.path_formula.proofs.Adding.{Rest}
use Rattle.path_formula.proofs.operations.add_all.Given as goal

abbrev pub invariant-loop-number : goal.invariant-loop-number
invariant-loop-number l =
    IsOver l.terms l.bits
    × Rest l.terms l.initial.bits l.bits l.ops l.kept l.number l.initial.clauses l.clauses l.initial.draws.items l.draws.items
