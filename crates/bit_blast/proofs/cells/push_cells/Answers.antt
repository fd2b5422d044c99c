use Rattle.std.proofs.Common.{rules, ◌≡◌, ◌+◌, ◌++◌, length, get_or, arith, refl}
use Rattle.prop.specs.Pieces.{pieces}
use Rattle.bit_blast.specs.Held.{fresh_cells, sum_of}
use Rattle.bit_blast.proofs.Steps.{sum_more}
use Rattle.bit_blast.proofs.Flat.{cells-step, sum-at}
use Rattle.bit_blast.proofs.cells.push_cells.Goals as goal

pub push_fresh-requires : goal.push_fresh-requires
push_fresh-requires c =
    let h = sum-at c.loop-i.next c.loop-i.i (c.args.first + sum_of c.args.widths.now) c.args.widths.now c.loop-i-test.true c.loop-i.invariant.2 in
    omega (arith, h, c.requires.room)

pub overflow_add-next : goal.overflow_add-next
overflow_add-next c =
    let h = sum-at c.loop-i.next c.loop-i.i (c.args.first + sum_of c.args.widths.now) c.args.widths.now c.loop-i-test.true c.loop-i.invariant.2 in
    omega (arith, h, c.requires.room)

pub loop-i-preserved : goal.loop-i-preserved
loop-i-preserved c =
    let ws = c.args.widths.now in
    let w = get_or ws c.loop-i.i 0 in
    let e : c.len.result ≡ length c.push_fresh.new.lits.items = search rules in
    let s = cells-step c.loop-i.next w c.loop-i.i c.len.result ws c.loop-i.ends.items c.push_end.new.ends.items c.loop-i.lits.items c.push_fresh.new.lits.items
    (pieces 0 c.args.ends.now.items c.args.lits.now.items ++ fresh_cells c.args.first ws) c.loop-i-test.true refl c.loop-i.invariant.0 c.loop-i.invariant.1
    c.in_ok-push_fresh.ensures e c.in_ok-push_end.ensures in
    (s.0, s.1, sum_more c.loop-i.next w c.loop-i.i (c.args.first + sum_of ws) ws c.loop-i-test.true refl c.loop-i.invariant.2)
