-- Answers to verifications.
use Rattle.std.proofs.Common.{◌≡◌, ◌∙◌, sym, subst, ℕ, List}
use Rattle.lv_base.specs.declared.kind.Model.{Model}
use Rattle.c_typed.specs.Parts.{tree_of}
use Rattle.verdicts.specs.declared.verdict.Verdict.{Verdict}
use Rattle.verdicts.specs.declared.verdict.Verdict.TheVariants.{Safe, Unsafe, Accepted}
use Rattle.source_verdicts.proofs.Accepting.{written_is_accepted}
use Rattle.request_answers.specs.Answers.{IsVerifyAnswer}
use Rattle.request_answers.specs.Answers.IsVerifyAnswer.{too_long, refused, verified, read_failed, no_memory}
use Rattle.request_answers.specs.Laws.{SafeIsProved, UnsafeReaches, IsCertified}
use Rattle.request_answers.proofs.Refusals.{refusal_is}
use Rattle.request_answers.proofs.Certified.{certified, secure_by}

-- without a read fault, under any count of faults
pub verify_more : (more : Type 0) (model : Model) (units learn : ℕ) (source : List ℕ) (v : Verdict) → IsVerifyAnswer ⊥ model units learn source v → IsVerifyAnswer more model units learn source v
verify_more more model units learn source v (too_long h is) = too_long h is
verify_more more model units learn source v (refused l h) = refused l h
verify_more more model units learn source v (verified t g has is) = verified t g has is
verify_more more model units learn source v (read_failed h is) = absurd h
verify_more more model units learn source v (no_memory is) = no_memory is

-- of a source that is that of the file
pub verify_behind : (more : Type 0) (model : Model) (units learn : ℕ) (source bytes : List ℕ) (v : Verdict) → bytes ≡ source → IsVerifyAnswer ⊥ model units learn bytes v → IsVerifyAnswer more model units learn source v
verify_behind more model units learn source bytes v e h = subst (λ (x : List ℕ). IsVerifyAnswer more model units learn x v) e (verify_more more model units learn bytes v h)

pub safe_proved : SafeIsProved
safe_proved before behind model units learn source text (too_long h is) = absurd (cc)
safe_proved before behind model units learn source text (refused l r) = absurd (refusal_is model source (Safe text) r)
safe_proved before behind model units learn source text (verified t g has is) =
    (has.replay.tree, has.replay.read, secure_by model source (tree_of t) g has.replay has.stands is.proved.is.safe, (tree_of t, g, has.replay.runs, has.stands, has.flow, is, written_is_accepted g source model text is.proved))
safe_proved before behind model units learn source text (read_failed h is) = absurd (cc)
safe_proved before behind model units learn source text (no_memory is) = absurd (cc)

pub unsafe_reached : UnsafeReaches
unsafe_reached before behind model units learn source kind place values text (too_long h is) = absurd (cc)
unsafe_reached before behind model units learn source kind place values text (refused l r) = absurd (refusal_is model source (Unsafe kind place values text) r)
unsafe_reached before behind model units learn source kind place values text (verified t g has is) =
    let meets = is.0 in
    (has.replay.tree, has.replay.read, (meets.at, meets.is_at, record { turns = meets.turns; ends = sym (has.replay.runs meets.turns values) ∙ meets.ends }))
unsafe_reached before behind model units learn source kind place values text (read_failed h is) = absurd (cc)
unsafe_reached before behind model units learn source kind place values text (no_memory is) = absurd (cc)

-- ---- With the source certified

pub safe_certified : (rose : Type 0) (model : Model) (units learn : ℕ) (source text : List ℕ) → IsVerifyAnswer rose model units learn source (Safe text) → IsCertified model source
safe_certified rose model units learn source text (too_long h is) = absurd (cc)
safe_certified rose model units learn source text (refused l r) = absurd (refusal_is model source (Safe text) r)
safe_certified rose model units learn source text (verified t g has is) = certified model source (tree_of t) g has.replay has.stands has.flow is.proved.is.safe
safe_certified rose model units learn source text (read_failed h is) = absurd (cc)
safe_certified rose model units learn source text (no_memory is) = absurd (cc)

-- no verification accepts
pub verify_not_accepted : (rose : Type 0) (model : Model) (units learn : ℕ) (source : List ℕ) → IsVerifyAnswer rose model units learn source Accepted → ⊥
verify_not_accepted rose model units learn source (too_long h is) = cc
verify_not_accepted rose model units learn source (refused l r) = refusal_is model source Accepted r
verify_not_accepted rose model units learn source (verified t g has is) = is
verify_not_accepted rose model units learn source (read_failed h is) = cc
verify_not_accepted rose model units learn source (no_memory is) = cc
