use Rattle.formula_diagrams.specs.Truths.{is_set}
use Rattle.formula_diagrams.proofs.Putting.{fits-bit, bit-result}
use Rattle.interpolants.proofs.Bits.{bits-of-truth}
use Rattle.interpolants.proofs.plain.put_bit.Goals as goal

pub put_term-requires-2 : goal.put_term-requires-2
put_term-requires-2 c = fits-bit _ _ _ _ c.requires c.in_ok-cell.ensures.extends c.in_ok-cell.ensures.table c.in_ok-cell.ensures.named

pub returns-clause-bit : goal.returns-clause-bit
returns-clause-bit c =
    bits-of-truth _ _ (λ store. is_set store c.args.bit)
    (bit-result _ _ _ _ _ c.in_ok-cell.ensures.table c.in_ok-cell.ensures.named c.put_term-2.ensures.table c.put_term-2.ensures.extends c.put_term-2.ensures.named)

pub returns-clause-truth : goal.returns-clause-truth
returns-clause-truth c =
    bit-result _ _ _ _ _ c.in_ok-cell.ensures.table c.in_ok-cell.ensures.named c.put_term-2.ensures.table c.put_term-2.ensures.extends c.put_term-2.ensures.named
