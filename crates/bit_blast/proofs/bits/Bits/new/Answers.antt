use Rattle.std.proofs.Common.{List, ap, map, length, sym, ◌∙◌}
use Rattle.prop.specs.declared.Lit.{Lit}
use Rattle.std.specs.Prelude.{None}
use Rattle.bit_blast.proofs.Over.{over-from, fresh-widths}
use Rattle.bit_blast.proofs.bits.Bits.new.Goals as goal

pub returns-in-Ok-clause-over : goal.returns-in-Ok-clause-over
returns-in-Ok-clause-over c table e =
    over-from table c.in-Ok.next None c.in-Ok.all c.new-in-Ok.result c.new-in-Ok.ensures
    (ap (λ (t : List (List Lit)). map length t) c.in-Ok.ensures.cells ∙ (fresh-widths c.above_clauses-free.result c.args.cells.now ∙ sym e))
