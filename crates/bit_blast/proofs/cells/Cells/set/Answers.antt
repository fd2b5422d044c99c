use Rattle.std.proofs.Common.{ap, arith, length}
use Rattle.prop.proofs.Pieces.{length-pieces}
use Rattle.bit_blast.proofs.cells.Cells.set.Goals as goal

pub overwrite-requires-clause-there : goal.overwrite-requires-clause-there
overwrite-requires-clause-there c =
    let h = length-pieces 0 c.self.inside.ends.items c.self.inside.lits.items in
    let e = ap length c.self.view_is in
    omega (arith, h, e, c.requires.there, ap length c.deref.ensures.value)
