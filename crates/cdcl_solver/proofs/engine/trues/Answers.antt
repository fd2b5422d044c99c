use Rattle.std.proofs.Common.{arith, ◌≡◌, ℕ, ◌<◌, ◌/◌, length, subst, refl, get_or, ap, sym, ◌∙◌, true}
use Rattle.prop.specs.Trues.{listed}
use Rattle.resolution_log.proofs.Places.{listed_at}
use Rattle.dense_trail.specs.Dense.{is_true}
use Rattle.dense_trail.proofs.CodeLaws.{half_below}
use Rattle.dense_trail.proofs.ValueLaws.{true_below}
use Rattle.cdcl_solver.proofs.engine.trues.Goals as goal

pub bounds-vars-code : goal.bounds-vars-code
bounds-vars-code c =
    let t = c.args.trail.now in
    let code = get_or c.as_slice-code-items.result.now c.loop-code.code-index 0 in
    let h : is_true t.truth.items code ≡ true = t.valued code ∙ subst (λ w. listed w code ≡ true) c.as_slice-code-items.ensures.value (listed_at c.as_slice-code-items.result.now code c.loop-code.code-index c.loop-code-test.true refl) in
    let lt = true_below t.truth.items code h in
    half_below code (length c.args.vars.now) (omega (arith, lt, t.wide, c.requires))
