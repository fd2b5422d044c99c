-- Answers to checks.
use Rattle.std.proofs.Common.{inl, inr, ◌≡◌, ◌≤◌, subst, ℕ, List, length, ℤ, arith}
use Rattle.lv_outside.specs.Counts.{Rose}
use Rattle.lv_base.specs.declared.kind.Model.{Model}
use Rattle.lv_base.specs.declared.fault.ErrorKind.{ErrorKind}
use Rattle.lv_base.specs.declared.place.Place.{Place}
use Rattle.verdicts.specs.declared.verdict.Verdict.{Verdict}
use Rattle.verdicts.specs.declared.verdict.Verdict.TheVariants.{Safe, Unsafe, Accepted}
use Rattle.c_typed.specs.Parts.{Parts, tree_of}
use Rattle.c_graph.specs.Shape.{Flow}
use Rattle.cert_verdicts.specs.Judged.{IsJudged}
use Rattle.request_answers.specs.Answers.{HasGraph, IsCheckAnswer}
use Rattle.request_answers.specs.Answers.IsCheckAnswer.{too_long, refused, long_cert, judged, read_failed, no_memory}
use Rattle.request_answers.specs.Laws.{AcceptedIsCertified, IsCertified}
use Rattle.request_answers.proofs.Refusals.{refusal_is}
use Rattle.request_answers.proofs.Judgements.{judged_accepted, judgement_is}
use Rattle.request_answers.proofs.Certified.{certified, secure_by}

pub rose_more : (old mid new : ℕ) → old ≤ mid → Rose mid new → Rose old new
rose_more old mid new less (inl rose) = inl (omega arith)
rose_more old mid new less (inr most) = inr most

-- under a greater count of faults
check_more : (rose more : Type 0) → (rose → more) → (model : Model) (source file : List ℕ) (v : Verdict) → IsCheckAnswer rose model source file v → IsCheckAnswer more model source file v
check_more rose more f model source file v (too_long h is) = too_long h is
check_more rose more f model source file v (refused l h) = refused l h
check_more rose more f model source file v (long_cert t g h k is) = long_cert t g h k is
check_more rose more f model source file v (judged t g h few j) = judged t g h few j
check_more rose more f model source file v (read_failed h is) = read_failed (f h) is
check_more rose more f model source file v (no_memory is) = no_memory is

-- of a source and a certificate that are those of the files, behind a read
pub check_behind : (old mid new : ℕ) → old ≤ mid → (model : Model) (source bytes file given : List ℕ) (v : Verdict) → bytes ≡ source → given ≡ file → IsCheckAnswer (Rose mid new) model bytes given v → IsCheckAnswer (Rose old new) model source file v
check_behind old mid new less model source bytes file given v e f h =
    subst (λ (x : List ℕ). IsCheckAnswer (Rose old new) model x file v) e
    (subst (λ (x : List ℕ). IsCheckAnswer (Rose old new) model bytes x v) f
    (check_more (Rose mid new) (Rose old new) (rose_more old mid new less) model bytes given v h))

pub check_judged : (rose : Type 0) (t : Parts) (g : Flow) (model : Model) (source bytes file : List ℕ) (v : Verdict) → HasGraph model source t g → length file ≤ 67108864 → bytes ≡ file → IsJudged g source model bytes v → IsCheckAnswer rose model source file v
check_judged rose t g model source bytes file v has few e j = judged t g has few (subst (λ (x : List ℕ). IsJudged g source model x v) e j)

pub accepted_certified : AcceptedIsCertified
accepted_certified before behind model source bytes (too_long h is) = absurd (cc)
accepted_certified before behind model source bytes (refused l r) = absurd (refusal_is model source Accepted r)
accepted_certified before behind model source bytes (long_cert t g h k is) = absurd (cc)
accepted_certified before behind model source bytes (judged t g has few j) =
    let found = judged_accepted g source model bytes j in
    (has.replay.tree, has.replay.read, secure_by model source (tree_of t) g has.replay has.stands found.2.safe, (tree_of t, g, has.replay.runs, has.stands, has.flow, found))
accepted_certified before behind model source bytes (read_failed h is) = absurd (cc)
accepted_certified before behind model source bytes (no_memory is) = absurd (cc)

-- ---- With the source certified

pub check_certified : (rose : Type 0) (model : Model) (source bytes : List ℕ) → IsCheckAnswer rose model source bytes Accepted → IsCertified model source
check_certified rose model source bytes (too_long h is) = absurd (cc)
check_certified rose model source bytes (refused l r) = absurd (refusal_is model source Accepted r)
check_certified rose model source bytes (long_cert t g h k is) = absurd (cc)
check_certified rose model source bytes (judged t g has few j) =
    let (cert, read, is) = judged_accepted g source model bytes j in
    certified model source (tree_of t) g has.replay has.stands has.flow is.safe
check_certified rose model source bytes (read_failed h is) = absurd (cc)
check_certified rose model source bytes (no_memory is) = absurd (cc)

-- no check is answered by the text of a certificate
pub check_not_safe : (rose : Type 0) (model : Model) (source cert text : List ℕ) → IsCheckAnswer rose model source cert (Safe text) → ⊥
check_not_safe rose model source cert text (too_long h is) = cc
check_not_safe rose model source cert text (refused l r) = refusal_is model source (Safe text) r
check_not_safe rose model source cert text (long_cert t g h k is) = cc
check_not_safe rose model source cert text (judged t g has few j) = judgement_is g source model cert (Safe text) j
check_not_safe rose model source cert text (read_failed h is) = cc
check_not_safe rose model source cert text (no_memory is) = cc

-- or by values
pub check_not_unsafe :
    (rose : Type 0) (model : Model) (source cert : List ℕ) (kind : ErrorKind) (place : Place) (values : List ℤ) (text : List ℕ)
    → IsCheckAnswer rose model source cert (Unsafe kind place values text) → ⊥
check_not_unsafe rose model source cert kind place values text (too_long h is) = cc
check_not_unsafe rose model source cert kind place values text (refused l r) = refusal_is model source (Unsafe kind place values text) r
check_not_unsafe rose model source cert kind place values text (long_cert t g h k is) = cc
check_not_unsafe rose model source cert kind place values text (judged t g has few j) = judgement_is g source model cert (Unsafe kind place values text) j
check_not_unsafe rose model source cert kind place values text (read_failed h is) = cc
check_not_unsafe rose model source cert kind place values text (no_memory is) = cc
