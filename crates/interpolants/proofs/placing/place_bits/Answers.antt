use Rattle.interpolants.proofs.Rows.{rows-more, rows-whole}
use Rattle.interpolants.proofs.placing.place_bits.Goals as goal

pub loop-bit-init : goal.loop-bit-init
loop-bit-init c = record {
  placing = c.new-bits.ensures.placing;
  bits = λ cells all. c.new-bits.ensures.bits cells;
  added = c.new-bits.ensures.none;
}

pub loop-bit-preserved : goal.loop-bit-preserved
loop-bit-preserved c = record {
  placing = c.in_ok-place_row.ensures.placing c.loop-bit.invariant.placing;
  bits = λ cells all. c.in_ok-place_row.ensures.bits cells all (c.loop-bit.invariant.bits cells all);
  added = rows-more c.args.bundles.now c.loop-bit.bit _ _ c.loop-bit.invariant.added c.in_ok-place_row.ensures.added;
}

pub returns-clause-same : goal.returns-clause-same
returns-clause-same c =
    λ cells widths all.
    rows-whole cells c.args.bundles.now c.widest-bit-end.result c.loop-bit.bit c.loop-bit.bits.bits.items widths all c.widest-bit-end.ensures
    c.loop-bit-test.false c.loop-bit.invariant.added
