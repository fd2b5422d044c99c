use Rattle.std.proofs.Common.{◌≡◌, ◌<◌, ℕ, ◌+◌, Bool, true, false, List, length, take, set, slice_index, slice_index_or, arith, sym, subst, ap}
use Rattle.std.proofs.lemmas.List.{length-set}
use Rattle.prop.specs.Trues.{listed}
use Rattle.resolution_log.proofs.Dense.{marks-more, marks-same}
use Rattle.resolution_log.proofs.numbering.mark_each.Goals.{then-at-marks, else-at-marks}
use Rattle.resolution_log.proofs.numbering.mark_each.Goals as goal

pub loop-var-preserved : goal.loop-var-preserved
loop-var-preserved c =
    let P : List Bool → Type 0 = λ m. (v : ℕ) → v < length m → listed (take (c.loop-var.var-index + 1) c.args.vars.now) v ≡ true → slice_index_or m v false ≡ true in
    elim c.if-at-marks.branch [
      | then-at-marks w ↦ subst P (sym w.marks-is)
          (λ v lt l. marks-more c.loop-var.marks c.args.vars.now c.loop-var.var-index c.loop-var-test.true c.loop-var.invariant w.if-at-marks.true v
          (omega (arith, lt, length-set c.loop-var.marks (slice_index c.args.vars.now c.loop-var.var-index) true)) l)
      | else-at-marks w ↦ subst P (sym w.marks-is) (marks-same c.loop-var.marks c.args.vars.now c.loop-var.var-index c.loop-var-test.true c.loop-var.invariant w.if-at-marks.false)
    ]
