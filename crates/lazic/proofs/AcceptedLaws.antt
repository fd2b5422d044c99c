-- Sources that nothing refuses break no rule, and one that breaks none is refused for its cells alone.
use Rattle.std.proofs.Common.{inl, inr, ◌⊎◌, ◌≡◌, ℕ, List, [], ◌∷◌, refl, ◌∙◌, ap}
use Rattle.std.specs.Prelude.{Option, Some, None}
use Rattle.lv_base.specs.declared.kind.Model.{Model}
use Rattle.lv_base.specs.declared.fail.SourceFail.{SourceFail}
use Rattle.lv_base.specs.declared.fail.SourceFail.TheVariants as fail
use Rattle.c_tree.specs.Tree.{Items}
use Rattle.c_run.specs.Breaking.{Broken, first_broken}
use Rattle.c_meaning.specs.Good.{Good, or_control}
use Rattle.c_meaning.specs.Jumps.{control_faults}
use Rattle.c_meaning.specs.Program.{functions_of, env_of}
use Rattle.source_refusals.specs.declared.cells.Passed.{Passed}
use Rattle.source_refusals.specs.Cells.{passed}
use Rattle.source_refusals.specs.Refusals as first
use Rattle.source_checks.specs.Refusals.{fault_of, control_refusal, or_else, source_refusal}
use Rattle.elaboration_laws.proofs.Limits.{no_broken, none_broken}

either_none : (a b : Option SourceFail) → or_else a b ≡ None → (a ≡ None) × (b ≡ None)
either_none None b h = (refl, h)
either_none (Some f) b h = cc

no_fault : (o : Option Broken) → fault_of o ≡ None → o ≡ None
no_fault None h = refl
no_fault (Some b) h = cc

abbrev control : Items → Model → List Broken
control tree model = control_faults (env_of tree model) (functions_of (env_of tree model) tree)

abbrev typing : Items → Model → List Broken
typing tree model = first.faults_in (env_of tree model) model tree

pub good_of : (tree : Items) (model : Model) → source_refusal tree model ≡ None → Good tree model
good_of tree model h =
    let env = env_of tree model in
    let parts = either_none (first.refusal tree model) (control_refusal tree model) h in
    let no_typing : typing tree model ≡ [] = none_broken (typing tree model) (no_broken (first_broken (typing tree model)) (passed 0 env.objects) parts.0) in
    let no_control : control tree model ≡ [] = none_broken (control tree model) (no_fault (first_broken (control tree model)) parts.1) in
    ap (λ bs. or_control bs (control tree model)) no_typing ∙ no_control

-- ---- what a source that breaks no rule is refused for

-- for nothing, or for its cells
abbrev pub IsOverOrNone : Option SourceFail → Type 0
IsOverOrNone o = (o ≡ None) ⊎ ((count : ℕ) × (o ≡ Some (fail.Over 4 count)))

both_empty : (bs cs : List Broken) → or_control bs cs ≡ [] → (bs ≡ []) × (cs ≡ [])
both_empty [] cs h = (refl, h)
both_empty (b ∷ bs) cs h = cc

cells_alone : (p : Option Passed) → IsOverOrNone (first.refused None p)
cells_alone None = inl refl
cells_alone (Some p) = inr (p.count, refl)

pub over_or_none : (tree : Items) (model : Model) → Good tree model → IsOverOrNone (source_refusal tree model)
over_or_none tree model good =
    let env = env_of tree model in
    let parts = both_empty (typing tree model) (control tree model) good in
    let refuses : first.refusal tree model ≡ first.refused None (passed 0 env.objects) = ap (λ bs. first.refused (first_broken bs) (passed 0 env.objects)) parts.0 in
    let free : control_refusal tree model ≡ None = ap (λ bs. fault_of (first_broken bs)) parts.1 in
    by_cells (first.refused None (passed 0 env.objects)) refuses free (cells_alone (passed 0 env.objects))
  where
    by_cells : (o : Option SourceFail) → first.refusal tree model ≡ o → control_refusal tree model ≡ None → IsOverOrNone o → IsOverOrNone (source_refusal tree model)
    by_cells o refuses free (inl none) = inl (ap (λ q. or_else q (control_refusal tree model)) (refuses ∙ none) ∙ free)
    by_cells o refuses free (inr over) = inr (over.0, ap (λ q. or_else q (control_refusal tree model)) (refuses ∙ over.1))
