use Rattle.invariant_map.proofs.Joins.{and_bits, and_told}
use Rattle.invariant_map.proofs.joining.put_and.Goals as goal

pub returns-clause-bit : goal.returns-clause-bit
returns-clause-bit c = and_bits _ _ _ _ _ c.put_term.ensures.table c.put_term.ensures.extends c.put_term.ensures.named c.requires.left

pub returns-clause-holds : goal.returns-clause-holds
returns-clause-holds c = and_told _ _ _ _ _ c.put_term.ensures.table c.put_term.ensures.extends c.put_term.ensures.named c.requires.left c.requires.right
