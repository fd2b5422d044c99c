use Rattle.std.proofs.Common.{◌≡◌, ◌++◌}
use Rattle.witness_expressions.specs.Names.{named}
use Rattle.witness_expressions.specs.Expressions.{conjoined, row_at, rows_of}
use Rattle.witness_expressions.specs.Pieces.{parts_left, terms_weight}
use Rattle.witness_expressions.proofs.conjunction.put_parts.Given as goal

abbrev pub invariant-loop-term : goal.invariant-loop-term
invariant-loop-term l =
    let rows = rows_of (named l.spellings l.cells) l.terms.terms in
    conjoined l.text.items (parts_left rows l.left.items) ≡ conjoined l.fn.text.items (row_at rows l.fn.formula).parts

abbrev pub decreases-loop-term : goal.decreases-loop-term
decreases-loop-term l = terms_weight l.left.items
