use Rattle.std.proofs.Common.{◌≡◌, ◌+◌, ◌-◌, ◌<◌, Some, length, slice_get, refl, sym, subst, arith}
use Rattle.std.proofs.lemmas.Option.{slice_get_read}
use Rattle.path_query.specs.Facts.{IsBundle}
use Rattle.interpolants.proofs.Rows.{row-more, row-none}
use Rattle.interpolants.proofs.placing.place_row.Goals as goal

pub loop-back-init : goal.loop-back-init
loop-back-init c = record {
  placing = λ h. h;
  bits = λ cells all h. h;
  added = row-none c.args.bundles.now (length c.args.bundles.now - 0) c.args.bit c.args.bits.now.bits.items (omega arith);
}

pub loop-back-preserved : goal.loop-back-preserved
loop-back-preserved c =
    let n = length c.args.bundles.now in
    let lt : c.loop-back.back < length c.args.bundles.now = c.loop-back-test.true in
    let b = c.index-bundles-bundles.result in
    let at : slice_get c.args.bundles.now (n - 1 - c.loop-back.back) ≡ Some b =
    slice_get_read c.args.bundles.now _ (n - 1 - c.loop-back.back) b refl (omega (arith, lt)) c.index-bundles-bundles.is in
    record {
      placing = λ h. c.in_ok-place_bit.ensures.placing (c.loop-back.invariant.placing h);
      bits = λ cells all h.
          c.place_bit.ensures.bits cells
          (subst (IsBundle cells) (sym c.index-bundles-bundles.is) (all (n - 1 - c.loop-back.back) b (omega (arith, lt))))
          (c.loop-back.invariant.bits cells all h);
      added = row-more c.args.bundles.now (n - c.loop-back.back) (n - 1 - c.loop-back.back) (n - (c.loop-back.back + 1)) c.args.bit b c.args.bits.now.bits.items _ _
          at (omega (arith, lt)) (omega (arith, lt)) c.loop-back.invariant.added c.in_ok-place_bit.ensures.added;
    }
