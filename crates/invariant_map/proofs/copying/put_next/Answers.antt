use Rattle.std.proofs.Common.{sym, ◌∙◌}
use Rattle.invariant_map.proofs.Copies.{operands_copied}
use Rattle.invariant_map.proofs.copying.put_next.Goals as goal

pub put_copy-requires-clause-copies : goal.put_copy-requires-clause-copies
put_copy-requires-clause-copies c =
    operands_copied c.args.from.now c.args.terms.now c.args.marks.now c.args.places.now.items c.args.number c.count-count.ensures.table c.requires.places c.requires.closed
    (sym c.is_at.ensures ∙ c.if-is_at.true) c.requires.copies
