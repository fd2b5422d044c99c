use Rattle.std.proofs.Common.{◌≡◌, ◌+◌, ◌-◌, ◌/◌, ℕ, arith, subst, sym, suc, drop}
use Rattle.c_graph.specs.Stores.{kept_for}
use Rattle.c_graph.proofs.Halving.{passed-over, above-from}
use Rattle.c_graph.proofs.store.first_from.Goals as goal

pub loop-low-preserved-then-named-middle : goal.loop-low-preserved-then-named-middle
loop-low-preserved-then-named-middle c =
    let m : ℕ = c.loop-low.low + (c.loop-low.high - c.loop-low.low) / 2 in
    let e : m + 1 ≡ suc m = omega arith in
    let P : ℕ → Type 0 = λ k. kept_for c.args.named.now c.args.cell ≡ kept_for (drop k c.args.named.now) c.args.cell in (
      omega (arith, c.loop-low-test.true),
      c.loop-low.invariant.1,
      subst P (sym e) (passed-over 0 c.args.named.now m (record { cell = 0; value = 0 }) c.args.cell c.requires (omega (arith, c.loop-low-test.true, c.loop-low.invariant.1)) c.if-named-middle.true),
      c.loop-low.invariant.3,
    )

pub loop-low-preserved : goal.loop-low-preserved
loop-low-preserved c =
    let m : ℕ = c.loop-low.low + (c.loop-low.high - c.loop-low.low) / 2 in (
      omega (arith, c.loop-low-test.true),
      omega (arith, c.loop-low-test.true, c.loop-low.invariant.1),
      c.loop-low.invariant.2,
      above-from c.args.named.now m (record { cell = 0; value = 0 }) c.args.cell c.requires (omega (arith, c.loop-low-test.true, c.loop-low.invariant.1)) c.if-named-middle.false,
    )
