use Rattle.std.proofs.Common.{◌+◌, ◌<◌, map, arith, ◌∙◌, length}
use Rattle.bit_blast.proofs.Flat.{range-more}
use Rattle.bit_blast.proofs.cells.some_cells.Goals as goal

pub loop-i-preserved : goal.loop-i-preserved
loop-i-preserved c =
    let lt : c.args.first + c.loop-i.i < length c.args.cells.now = omega (arith, c.loop-i-test.true, c.requires) in
    range-more c.args.cells.now (map (λ c. c.items) c.loop-i.outs.items) (map (λ c. c.items) c.push_cell.new.cells.items) c.args.first c.loop-i.i c.in_ok-cell.cell.items
    lt c.loop-i.invariant (c.in_ok-cell.ensures ∙ c.get.ensures) c.in_ok-push_cell.ensures
