use Rattle.witness_expressions.specs.Names.{named}
use Rattle.witness_expressions.specs.Expressions.{rows_of}
use Rattle.witness_expressions.proofs.Steps.{popped_parts, popped_terms}
use Rattle.witness_expressions.proofs.conjunction.put_parts.Goals as goal

pub loop-term-smaller : goal.loop-term-smaller
loop-term-smaller c = popped_terms _ c.loop-term.left.items c.pop.new.self.items c.in-Some.term c.in-Some.ensures.items c.in_ok-put_formula.ensures.falls

pub loop-term-preserved : goal.loop-term-preserved
loop-term-preserved c =
    popped_parts (rows_of (named c.args.spellings.now c.args.cells.now) c.args.terms.now.terms) c.loop-term.text.items _ _ c.loop-term.left.items c.pop.new.self.items c.in-Some.term c.in-Some.ensures.items c.in_ok-put_formula.ensures.kept c.loop-term.invariant
