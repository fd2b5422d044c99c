use Rattle.std.proofs.Common.{ap, arith, length}
use Rattle.prop.proofs.Pieces.{length-pieces}
use Rattle.bit_blast.proofs.cells.Cells.len.Goals as goal

pub returns : goal.returns
returns c =
    let h = length-pieces 0 c.self.inside.ends.items c.self.inside.lits.items in
    let e = ap length c.self.view_is in
    omega (arith, h, e, c.len.ensures, c.self.inside.ends.ok.0)
