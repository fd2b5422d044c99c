use Rattle.std.proofs.Common.{◌≡◌, ◌++◌}
use Rattle.witness_expressions.specs.Names.{named}
use Rattle.witness_expressions.specs.Expressions.{row_at, rows_of}
use Rattle.witness_expressions.specs.Pieces.{pieces_text, pieces_weight}
use Rattle.witness_expressions.proofs.part.put_text.Given as goal

abbrev pub invariant-loop-piece : goal.invariant-loop-piece
invariant-loop-piece l =
    let rows = rows_of (named l.spellings l.cells) l.terms.terms in
    l.text.items ++ pieces_text rows l.pieces.items ≡ l.fn.text.items ++ (row_at rows l.fn.term).text

abbrev pub decreases-loop-piece : goal.decreases-loop-piece
decreases-loop-piece l = pieces_weight l.pieces.items
