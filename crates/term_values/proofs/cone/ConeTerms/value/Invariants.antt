use Rattle.bv_term.specs.declared.term.TermId.{TermId}
use Rattle.bv_term.specs.WellFormed.{Table}
use Rattle.bv_term.specs.Values.{IsStore}
use Rattle.term_values.specs.Cones.{IsConeOf}
use Rattle.term_values.proofs.Reading.{AreKnown}
use Rattle.term_values.proofs.cone.ConeTerms.value.Given as goal

abbrev pub invariant-loop-number : goal.invariant-loop-number
invariant-loop-number l =
    (table : Table) (term : TermId) → IsConeOf table term l.self → IsStore table.cells l.store → AreKnown table l.self l.store l.number l.known.items
