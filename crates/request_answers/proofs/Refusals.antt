-- What a refusal can be.
use Rattle.std.proofs.Common.{inl, inr, ◌⊎◌, ◌≡◌, ◌∙◌, ap, sym, subst, ℕ, List}
use Rattle.std.specs.Prelude.{Err}
use Rattle.lv_base.specs.declared.kind.Model.{Model}
use Rattle.lv_base.specs.declared.fail.SourceFail.{SourceFail}
use Rattle.lv_base.specs.declared.fail.SourceFail.TheVariants as source
use Rattle.c_typed.specs.Tree.{Program}
use Rattle.c_graph.specs.Shape.{Flow}
use Rattle.verdicts.specs.declared.verdict.Verdict.{Verdict}
use Rattle.verdicts.specs.declared.verdict.Verdict.TheVariants.{Faulty, Over, ReadFault, NoMemory}
use Rattle.source_verdicts.specs.Verified.{IsVerified}
use Rattle.source_reading.specs.Reading.{source_read}
use Rattle.request_answers.specs.Answers.{IsRefused, refused_for, limit_for}
use Rattle.request_answers.specs.Answers.IsRefused.{unread, over, no_memory}

-- the answers to a source that is refused
abbrev pub IsRefusal : Verdict → Type 0
IsRefusal (Faulty fault place) = Unit {0}
IsRefusal (Over number count) = Unit {0}
IsRefusal NoMemory = Unit {0}
IsRefusal _ = ⊥

refused_is : (bytes : List ℕ) (e : SourceFail) → IsRefusal (refused_for bytes e)
refused_is bytes (source.Fault fault at) = tt
refused_is bytes (source.Over number count) = tt
refused_is bytes source.Memory = tt

limit_is : (e : SourceFail) → IsRefusal (limit_for e)
limit_is (source.Fault fault at) = tt
limit_is (source.Over number count) = tt
limit_is source.Memory = tt

pub refusal_is : (model : Model) (bytes : List ℕ) (v : Verdict) → IsRefused model bytes v → IsRefusal v
refusal_is model bytes v (unread e read is) = subst IsRefusal (sym is) (refused_is bytes e)
refusal_is model bytes v (over t e replay big is) = subst IsRefusal (sym is) (limit_is e)
refusal_is model bytes v (no_memory is) = subst IsRefusal (sym is) tt

-- none of them is a read fault
pub refusal_no_fault : (model : Model) (bytes : List ℕ) (v : Verdict) → IsRefused model bytes v → v ≡ ReadFault → ⊥
refusal_no_fault model bytes v r e = subst IsRefusal e (refusal_is model bytes v r)

pub verdict_no_fault : (p : Program) (g : Flow) (bytes : List ℕ) (model : Model) (units learn : ℕ) (v : Verdict) → IsVerified p g bytes model units learn v → v ≡ ReadFault → ⊥
verdict_no_fault p g bytes model units learn v is e = subst (IsVerified p g bytes model units learn) e is

-- what is not read is refused
pub refused_by : (model : Model) (bytes : List ℕ) (e : SourceFail) (v : Verdict) → v ≡ refused_for bytes e → (e ≡ source.Memory) ⊎ (source_read model bytes ≡ Err e) → IsRefused model bytes v
refused_by model bytes e v is (inl m) = no_memory (is ∙ ap (refused_for bytes) m)
refused_by model bytes e v is (inr r) = unread e r is
