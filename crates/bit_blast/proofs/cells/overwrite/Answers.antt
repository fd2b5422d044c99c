use Rattle.std.proofs.Common.{rules, ◌≡◌, arith, ◌≤◌, ◌-◌, length, take, drop, get_or, ◌∙◌}
use Rattle.std.proofs.lemmas.List.{length-drop, length-take-le}
use Rattle.prop.proofs.Pieces.{rising_at}
use Rattle.bit_blast.proofs.Flat.{overwritten}
use Rattle.bit_blast.proofs.cells.overwrite.Goals as goal

pub offset_bounds-lits-from : goal.offset_bounds-lits-from
offset_bounds-lits-from c =
    let h = rising_at 0 c.args.ends.now (length c.args.lits.now) c.requires.rising c.args.cell c.requires.there in
    let a : c.start-from.result ≤ length c.args.lits.now = omega (arith, h.0, h.1, c.start-from.ensures) in
    search (rules, arith)

pub slice_bounds-copy_from_slice-count : goal.slice_bounds-copy_from_slice-count
slice_bounds-copy_from_slice-count c =
    let h = rising_at 0 c.args.ends.now (length c.args.lits.now) c.requires.rising c.args.cell c.requires.there in
    omega (arith, h.0, c.start-from.ensures)

pub slice_bounds-copy_from_slice-start : goal.slice_bounds-copy_from_slice-start
slice_bounds-copy_from_slice-start c =
    let h = rising_at 0 c.args.ends.now (length c.args.lits.now) c.requires.rising c.args.cell c.requires.there in
    let a : c.start-from.result ≤ get_or c.args.ends.now c.args.cell 0 = omega (arith, h.0, c.start-from.ensures) in
    let b : get_or c.args.ends.now c.args.cell 0 ≤ length c.args.lits.now = h.1 in
    search rules

pub slice_bounds-copy_from_slice-end : goal.slice_bounds-copy_from_slice-end
slice_bounds-copy_from_slice-end c =
    let h = rising_at 0 c.args.ends.now (length c.args.lits.now) c.requires.rising c.args.cell c.requires.there in
    let a : c.start-from.result ≤ get_or c.args.ends.now c.args.cell 0 = omega (arith, h.0, c.start-from.ensures) in
    let b : get_or c.args.ends.now c.args.cell 0 ≤ length c.args.lits.now = h.1 in
    search rules

pub copy_from_slice-requires : goal.copy_from_slice-requires
copy_from_slice-requires c =
    let xs = c.args.lits.now in
    let from = c.start-from.result in
    let end = get_or c.args.ends.now c.args.cell 0 in
    let h = rising_at 0 c.args.ends.now (length xs) c.requires.rising c.args.cell c.requires.there in
    let o = overwritten c.args.ends.now xs c.args.to.now c.args.cell c.requires.rising c.requires.there c.requires.many in
    let d : length (drop from xs) ≡ length xs - from = length-drop from xs in
    let t : length (take (end - from) (drop from xs)) ≡ end - from = length-take-le (end - from) (drop from xs) (omega (arith, d, h.0, h.1, c.start-from.ensures)) in
    let n : end - from ≡ length c.args.to.now = omega (arith, o.0, c.start-from.ensures) in
    t ∙ n

pub returns-clause-cells : goal.returns-clause-cells
returns-clause-cells c =
    let o = overwritten c.args.ends.now c.args.lits.now c.args.to.now c.args.cell c.requires.rising c.requires.there c.requires.many in
    rw (c.start-from.ensures, c.copy_from_slice.ensures.after) o.1
