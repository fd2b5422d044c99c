use Rattle.bit_blast.specs.Held.{IsOver}
use Rattle.pair_query.proofs.Blasting.{Rest}
use Rattle.pair_query.proofs.asking.blast_each.Given as goal

abbrev pub invariant-loop-conjunct : goal.invariant-loop-conjunct
invariant-loop-conjunct l =
    IsOver l.terms l.bits × Rest l.terms l.fn.bits l.bits l.label l.conjunct-index l.fn.clauses l.clauses l.lits.items
