-- What an inductive map tells of runs over functions.
use Rattle.std.proofs.Common.{[], inl, inr, refl, subst, arith}
use Rattle.lv_base.specs.declared.fault.ErrorKind.TheVariants.{Reach}
use Rattle.c_graph.specs.Shape.{Flow}
use Rattle.c_graph.specs.Steps.{IsWhole}
use Rattle.c_graph.specs.Runs.{Formulas, IsInductive}
use Rattle.c_graph.specs.Parts.{error_flow}
use Rattle.c_graph.proofs.Keeping.{inductive_means_safe}
use Rattle.inline_laws.specs.Following.{InlinedMapMeansSafe}
use Rattle.inline_laws.proofs.Copies.{inlined_runs_follow}

-- the graph that is an error at its entry has no inductive map
error-unsafe : (m : Formulas) → IsInductive error_flow m → ⊥
error-unsafe m i =
    let whole : IsWhole [] [] = record { length = refl; fits = λ k lt. absurd (omega (arith, lt)) } in
    i.errors error_flow.entry Reach 0 [] refl whole (i.entry [] whole)

pub inlined_map_means_safe : InlinedMapMeansSafe
inlined_map_means_safe p g m draws kind at flow made i fails = elim made [
  | inl is ↦
      let (v, rest) = inlined_runs_follow p g draws kind at is fails in
      let (after, run, error) = rest in
      inductive_means_safe g m draws v kind at after flow i run error
  | inr e ↦ error-unsafe m (subst (λ (h : Flow). IsInductive h m) e i)
]
