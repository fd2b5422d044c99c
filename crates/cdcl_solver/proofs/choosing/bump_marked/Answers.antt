use Rattle.std.proofs.Common.{arith, ◌≡◌, ◌∙◌, ◌<◌, ◌/◌, length, true, sym}
use Rattle.std.proofs.lemmas.Grind.{get_or_default_zero}
use Rattle.resolution_log.proofs.Places.{listed_at}
use Rattle.dense_trail.specs.Dense.{is_true}
use Rattle.dense_trail.proofs.CodeLaws.{half_below}
use Rattle.dense_trail.proofs.ValueLaws.{true_below}
use Rattle.cdcl_solver.proofs.choosing.bump_marked.Goals as goal

pub index-requires-in-loop-at : goal.index-requires-in-loop-at
index-requires-in-loop-at c =
    let t = c.args.trail.now in
    let code = c.index.result.now in
    let lt : c.loop-at.at < length t.codes.items = omega (arith, c.loop-at-test.true, c.len-at-end.ensures, t.codes.ok.0) in
    let h : is_true t.truth.items code ≡ true = t.valued code ∙ listed_at t.codes.items code c.loop-at.at lt (sym (c.index.ensures ∙ get_or_default_zero t.codes.items c.loop-at.at code lt)) in
    let b = true_below t.truth.items code h in
    let f = half_below code (length t.levels.items) (omega (arith, b, t.wide)) in
    omega (arith, f, c.requires.stamps, c.args.notes.now.stamps.ok.0)

pub bump-requires : goal.bump-requires
bump-requires c =
    let t = c.args.trail.now in
    let code = c.index.result.now in
    let lt : c.loop-at.at < length t.codes.items = omega (arith, c.loop-at-test.true, c.len-at-end.ensures, t.codes.ok.0) in
    let h : is_true t.truth.items code ≡ true = t.valued code ∙ listed_at t.codes.items code c.loop-at.at lt (sym (c.index.ensures ∙ get_or_default_zero t.codes.items c.loop-at.at code lt)) in
    let b = true_below t.truth.items code h in
    let f = half_below code (length t.levels.items) (omega (arith, b, t.wide)) in
    omega (arith, f, c.requires.ordered, c.loop-at.invariant)
