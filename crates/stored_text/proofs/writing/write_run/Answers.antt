use Rattle.std.proofs.Common.{rules, ℕ, List, ap, drop, get_or, pos, ◌++◌, ◌+◌, ◌∙◌, SFits}
use Rattle.std.specs.Int.{w128}
use Rattle.std.proofs.lemmas.Int.{to_z-of_z}
use Rattle.stored_text.specs.RunText.{lines_text, run_text}
use Rattle.stored_text.proofs.Written.{one_more}
use Rattle.stored_text.proofs.writing.write_run.Goals as goal

-- src/writing.rt:37:5
pub loop-value-preserved : goal.loop-value-preserved
loop-value-preserved c =
    let next = one_more c.loop-value.file.items (run_text c.args.values.now) c.args.values.now c.loop-value.value-index (search rules) c.loop-value.invariant.rest c.loop-value.invariant.short in
    let fits : SFits w128 (get_or c.args.values.now c.loop-value.value-index (pos 0)) = search rules in
    let new = simp (to_z-of_z, fits) at c.in_ok-push_line.ensures in
    record {
      rest = ap (λ (l : List ℕ). l ++ lines_text (drop (c.loop-value.value-index + 1) c.args.values.now)) new ∙ next.0;
      short = next.1;
    }
