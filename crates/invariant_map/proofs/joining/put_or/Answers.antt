use Rattle.invariant_map.proofs.Joins.{or_bits, or_told}
use Rattle.invariant_map.proofs.joining.put_or.Goals as goal

pub returns-clause-bit : goal.returns-clause-bit
returns-clause-bit c = or_bits _ _ _ _ _ c.put_term.ensures.table c.put_term.ensures.extends c.put_term.ensures.named c.requires.left

pub returns-clause-holds : goal.returns-clause-holds
returns-clause-holds c = or_told _ _ _ _ _ c.put_term.ensures.table c.put_term.ensures.extends c.put_term.ensures.named c.requires.left c.requires.right
