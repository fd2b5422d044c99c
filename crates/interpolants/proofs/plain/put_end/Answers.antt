use Rattle.std.proofs.Common.{arith}
use Rattle.formula_diagrams.proofs.Putting.{end-bits}
use Rattle.interpolants.proofs.Settling.{end-truth, end-untruth}
use Rattle.interpolants.proofs.plain.put_end.Goals as goal

pub returns-then-value-clause-bit : goal.returns-then-value-clause-bit
returns-then-value-clause-bit c = end-bits _ _ 1 (omega arith) c.put_term.ensures.table c.put_term.ensures.named

pub returns-else-value-clause-bit : goal.returns-else-value-clause-bit
returns-else-value-clause-bit c = end-bits _ _ 0 (omega arith) c.put_term-else-value.ensures.table c.put_term-else-value.ensures.named

pub returns-then-value-clause-truth : goal.returns-then-value-clause-truth
returns-then-value-clause-truth c = end-truth _ _ _ c.if-value.true c.put_term.ensures.table c.put_term.ensures.named

pub returns-else-value-clause-truth : goal.returns-else-value-clause-truth
returns-else-value-clause-truth c =
    end-untruth _ _ _ c.if-value.false c.put_term-else-value.ensures.table c.put_term-else-value.ensures.named
