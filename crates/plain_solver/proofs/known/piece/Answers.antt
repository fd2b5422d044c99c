use Rattle.std.proofs.Common.{rules, arith, ◌≤◌, length, get_or}
use Rattle.prop.proofs.Pieces.{rising_at, piece_at}
use Rattle.plain_solver.proofs.known.piece.Goals as goal

pub slice_bounds-result-count : goal.slice_bounds-result-count
slice_bounds-result-count c = let h = rising_at 0 c.args.ends.now (length c.args.items.now) c.requires.rising c.args.at c.requires.at in omega (arith, h.0, c.start_of_piece-start.ensures)

pub slice_bounds-result-start : goal.slice_bounds-result-start
slice_bounds-result-start c =
    let h = rising_at 0 c.args.ends.now (length c.args.items.now) c.requires.rising c.args.at c.requires.at in
    let a : c.start_of_piece-start.result ≤ get_or c.args.ends.now c.args.at 0 = omega (arith, h.0, c.start_of_piece-start.ensures) in
    let b : get_or c.args.ends.now c.args.at 0 ≤ length c.args.items.now = h.1 in
    search rules

pub slice_bounds-result-end : goal.slice_bounds-result-end
slice_bounds-result-end c =
    let h = rising_at 0 c.args.ends.now (length c.args.items.now) c.requires.rising c.args.at c.requires.at in
    let a : c.start_of_piece-start.result ≤ get_or c.args.ends.now c.args.at 0 = omega (arith, h.0, c.start_of_piece-start.ensures) in
    let b : get_or c.args.ends.now c.args.at 0 ≤ length c.args.items.now = h.1 in
    search rules

pub returns : goal.returns
returns c = let h = piece_at 0 c.args.ends.now c.args.items.now c.args.at c.requires.at in rw c.start_of_piece-start.ensures h

pub offset_bounds-items-start : goal.offset_bounds-items-start
offset_bounds-items-start c =
    let h = rising_at 0 c.args.ends.now (length c.args.items.now) c.requires.rising c.args.at c.requires.at in
    omega (arith, h.0, h.1, c.start_of_piece-start.ensures)
