-- Which verdicts come with the status 0.
use Rattle.std.proofs.Common.{◌≡◌, ◌⊎◌, inl, inr, refl, subst, ℕ, List}
use Rattle.lv_base.specs.declared.kind.Model.{Model}
use Rattle.lv_outside.specs.Counts.{Rose}
use Rattle.task_gen.specs.Generated.{generated}
use Rattle.request_words.specs.Asked.{Check, Verify, Generate, plain_learn, plain_model, plain_units}
use Rattle.verdicts.specs.Lines.{status_of}
use Rattle.verdicts.specs.declared.verdict.Verdict.{Verdict}
use Rattle.verdicts.specs.declared.verdict.Verdict.TheVariants.{Safe, Unsafe, OutOfUnits, OutOfLearn, Accepted, Rejected, Faulty, Over, ReadFault, NoMemory}
use Rattle.request_answers.specs.Answers.{IsCheckAnswer, IsVerifyAnswer}
use Rattle.request_answers.specs.Laws.{IsCertified, ZeroIsCertified}
use Rattle.request_answers.proofs.Checks.{check_certified, check_not_safe}
use Rattle.request_answers.proofs.Verifications.{safe_certified, verify_not_accepted}

-- the verdicts with the status 0
zero_verdict : (v : Verdict) → status_of v ≡ 0 → ((text : List ℕ) × (v ≡ Safe text)) ⊎ (v ≡ Accepted)
zero_verdict (Safe text) e = inl (text, refl)
zero_verdict Accepted e = inr refl
zero_verdict (Unsafe kind place values text) e = absurd (cc)
zero_verdict (OutOfUnits n) e = absurd (cc)
zero_verdict (OutOfLearn n) e = absurd (cc)
zero_verdict (Rejected rejection) e = absurd (cc)
zero_verdict (Faulty fault place) e = absurd (cc)
zero_verdict (Over number count) e = absurd (cc)
zero_verdict ReadFault e = absurd (cc)
zero_verdict NoMemory e = absurd (cc)

check_zero : (rose : Type 0) (model : Model) (source cert : List ℕ) (v : Verdict) → IsCheckAnswer rose model source cert v → ((text : List ℕ) × (v ≡ Safe text)) ⊎ (v ≡ Accepted) → IsCertified model source
check_zero rose model source cert v h (inl safe) = absurd (check_not_safe rose model source cert safe.0 (subst (λ (x : Verdict). IsCheckAnswer rose model source cert x) safe.1 h))
check_zero rose model source cert v h (inr accepted) = check_certified rose model source cert (subst (λ (x : Verdict). IsCheckAnswer rose model source cert x) accepted h)

verify_zero : (rose : Type 0) (model : Model) (units learn : ℕ) (source : List ℕ) (v : Verdict) → IsVerifyAnswer rose model units learn source v → ((text : List ℕ) × (v ≡ Safe text)) ⊎ (v ≡ Accepted) → IsCertified model source
verify_zero rose model units learn source v h (inl safe) = safe_certified rose model units learn source safe.0 (subst (λ (x : Verdict). IsVerifyAnswer rose model units learn source x) safe.1 h)
verify_zero rose model units learn source v h (inr accepted) = absurd (verify_not_accepted rose model units learn source (subst (λ (x : Verdict). IsVerifyAnswer rose model units learn source x) accepted h))

pub zero_certified : ZeroIsCertified
zero_certified before behind (Check c) file v h e = check_zero (Rose before behind) c.model (file c.source) (file c.cert) v h (zero_verdict v e)
zero_certified before behind (Verify w) file v h e = verify_zero (Rose before behind) w.model w.units w.learn (file w.source) v h (zero_verdict v e)
zero_certified before behind (Generate seed) file v h e = verify_zero ⊥ plain_model plain_units plain_learn (generated seed) v h (zero_verdict v e)
