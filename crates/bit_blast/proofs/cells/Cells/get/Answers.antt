use Rattle.std.proofs.Common.{ap, arith, length}
use Rattle.prop.proofs.Pieces.{length-pieces}
use Rattle.bit_blast.proofs.Steps.{cell-past}
use Rattle.bit_blast.proofs.cells.Cells.get.Goals as goal

pub returns-else-cell-len : goal.returns-else-cell-len
returns-else-cell-len c =
    let h = length-pieces 0 c.self.inside.ends.items c.self.inside.lits.items in
    let e = ap length c.self.view_is in
    cell-past c.args.self.now c.args.cell (omega (arith, h, e, c.len.ensures, c.self.inside.ends.ok.0, c.if-cell-len.false))
