-- What is accepted breaks no rule, and what is not is refused for the first of them.
use Rattle.std.proofs.Common.{◌≡◌, ◌⊎◌, inl, inr, List, [], None, Some, refl, ap, sym, ◌∙◌}
use Rattle.lv_base.specs.declared.kind.Model.{Model}
use Rattle.lv_base.specs.declared.fail.SourceFail.{SourceFail}
use Rattle.lv_base.specs.declared.fail.SourceFail.TheVariants as fail
use Rattle.c_tree.specs.Tree.{Items}
use Rattle.c_run.specs.Breaking.{Broken, first_broken}
use Rattle.c_meaning.specs.Good.{Good, or_control}
use Rattle.c_meaning.specs.Jumps.{control_faults}
use Rattle.c_meaning.specs.Program.{functions_of, env_of}
use Rattle.c_typed.specs.Tree.{Program}
use Rattle.c_typed.specs.Rules.{broken}
use Rattle.c_rules.specs.Refusals.{IsRefused}
use Rattle.source_refusals.specs.Cells.{passed}
use Rattle.source_refusals.specs.Refusals.{refusal, faults_in}
use Rattle.elaboration_laws.proofs.Limits.{no_broken, none_broken}
use Rattle.source_checks.specs.Refusals.{fault_of, control_refusal, or_else, source_refusal}

abbrev control : Items → Model → List Broken
control items model = control_faults (env_of items model) (functions_of (env_of items model) items)

typing_none : (items : Items) (model : Model) → refusal items model ≡ None → faults_in (env_of items model) model items ≡ []
typing_none items model h =
    let env = env_of items model in
    none_broken (faults_in env model items) (no_broken (first_broken (faults_in env model items)) (passed 0 env.objects) h)

pub good_from : (items : Items) (model : Model) (program : Program) → refusal items model ≡ None → broken program ≡ control items model → broken program ≡ [] → Good items model
good_from items model program h c b = ap (λ bs. or_control bs (control items model)) (typing_none items model h) ∙ sym c ∙ b

-- nothing refuses it
pub free_from : (items : Items) (model : Model) (program : Program) → refusal items model ≡ None → broken program ≡ control items model → broken program ≡ [] → source_refusal items model ≡ None
free_from items model program h c b = ap (λ o. or_else o (control_refusal items model)) h ∙ ap (λ bs. fault_of (first_broken bs)) (sym c ∙ b)

-- a refusal by the rules of labels, jumps, effects and calls
pub refused_from : (items : Items) (model : Model) (program : Program) (f : SourceFail) → refusal items model ≡ None → broken program ≡ control items model → IsRefused program f → (f ≡ fail.Memory) ⊎ (source_refusal items model ≡ Some f)
refused_from items model program (fail.Fault f at) h c r =
    inr (ap (λ o. or_else o (control_refusal items model)) h ∙ ap (λ bs. fault_of (first_broken bs)) (sym c) ∙ ap fault_of r)
refused_from items model program (fail.Over limit count) h c r = absurd r
refused_from items model program fail.Memory h c r = inl refl

-- one before them
pub refused_before : (items : Items) (model : Model) (f : SourceFail) → refusal items model ≡ Some f → source_refusal items model ≡ Some f
refused_before items model f h = ap (λ o. or_else o (control_refusal items model)) h
