use Rattle.witness_expressions.specs.Names.{named}
use Rattle.witness_expressions.specs.Expressions.{rows_of}
use Rattle.witness_expressions.proofs.Steps.{popped_text, popped_weight}
use Rattle.witness_expressions.proofs.part.put_text.Goals as goal

pub loop-piece-smaller : goal.loop-piece-smaller
loop-piece-smaller c = popped_weight _ c.loop-piece.pieces.items c.pop.new.self.items c.in-Some.piece c.in-Some.ensures.items c.in_ok-put_piece.ensures.falls

pub loop-piece-preserved : goal.loop-piece-preserved
loop-piece-preserved c =
    popped_text (rows_of (named c.args.spellings.now c.args.cells.now) c.args.terms.now.terms) c.loop-piece.text.items _ _ c.loop-piece.pieces.items c.pop.new.self.items c.in-Some.piece c.in-Some.ensures.items c.in_ok-put_piece.ensures.kept c.loop-piece.invariant
