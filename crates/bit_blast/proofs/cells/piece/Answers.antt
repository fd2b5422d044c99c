use Rattle.std.proofs.Common.{rules, arith, ◌≤◌, length, get_or, sym}
use Rattle.prop.proofs.Pieces.{rising_at}
use Rattle.bit_blast.proofs.Flat.{cell-piece}
use Rattle.bit_blast.proofs.cells.piece.Goals as goal

pub slice_bounds-result-count : goal.slice_bounds-result-count
slice_bounds-result-count c = let h = rising_at 0 c.args.ends.now (length c.args.lits.now) c.requires.rising c.args.cell c.requires.there in omega (arith, h.0, c.start-from.ensures)

pub slice_bounds-result-start : goal.slice_bounds-result-start
slice_bounds-result-start c =
    let h = rising_at 0 c.args.ends.now (length c.args.lits.now) c.requires.rising c.args.cell c.requires.there in
    let a : c.start-from.result ≤ get_or c.args.ends.now c.args.cell 0 = omega (arith, h.0, c.start-from.ensures) in
    let b : get_or c.args.ends.now c.args.cell 0 ≤ length c.args.lits.now = h.1 in
    search rules

pub slice_bounds-result-end : goal.slice_bounds-result-end
slice_bounds-result-end c =
    let h = rising_at 0 c.args.ends.now (length c.args.lits.now) c.requires.rising c.args.cell c.requires.there in
    let a : c.start-from.result ≤ get_or c.args.ends.now c.args.cell 0 = omega (arith, h.0, c.start-from.ensures) in
    let b : get_or c.args.ends.now c.args.cell 0 ≤ length c.args.lits.now = h.1 in
    search rules

pub returns : goal.returns
returns c = let h = cell-piece 0 c.args.ends.now c.args.lits.now c.args.cell c.requires.there in rw c.start-from.ensures (sym h)

pub offset_bounds-lits-from : goal.offset_bounds-lits-from
offset_bounds-lits-from c =
    let h = rising_at 0 c.args.ends.now (length c.args.lits.now) c.requires.rising c.args.cell c.requires.there in
    let a : c.start-from.result ≤ length c.args.lits.now = omega (arith, h.0, h.1, c.start-from.ensures) in
    search (rules, arith)
