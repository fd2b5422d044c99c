-- What is told of a verdict means what the verdict means.
use Rattle.std.proofs.Common.{◌≡◌, ◌≢◌, ◌⊎◌, ◌∙◌, inl, inr, sym, ap, subst, ℕ, ◌==◌, Bool, true, false, if◌then◌else◌, List, ◌++◌, ℤ}
use Rattle.std.specs.Prelude.{◌||◌, Option, None}
use Rattle.lv_outside.specs.Bytes.{GrewByFront}
use Rattle.lv_outside.specs.Counts.{Rose}
use Rattle.lv_base.specs.declared.kind.Model.{Model}
use Rattle.lv_base.specs.declared.place.Place.{Place}
use Rattle.lv_base.specs.declared.fault.ErrorKind.{ErrorKind}
use Rattle.task_gen.specs.Generated.{generated}
use Rattle.request_words.specs.Asked.{Asked, Check, Verify, Generate, IsApart, plain_learn, plain_model, plain_units}
use Rattle.verdicts.specs.Lines.{status_of, text_of}
use Rattle.verdicts.specs.declared.verdict.Verdict.{Verdict}
use Rattle.verdicts.specs.declared.verdict.Verdict.TheVariants as verdict
use Rattle.request_answers.specs.Answers.{IsAnswer, IsKnown, IsVerifyAnswer}
use Rattle.request_answers.specs.Printed.{text_for}
use Rattle.request_answers.specs.Stored.{IsOther, IsStored, IsUntouched, file_for, witness_file}
use Rattle.request_answers.specs.Witnessed.{IsWitnessed, has_witness}
use Rattle.source_witnesses.specs.declared.stamp.Stamp.{Stamp}
use Rattle.request_answers.specs.Laws.{IsCertified, IsCertifiedFor}
use Rattle.request_answers.proofs.Checks.{check_not_unsafe}
use Rattle.request_answers.proofs.Zero.{zero_certified}
use Rattle.request_answers.proofs.Verifications.{unsafe_reached, verify_more}
use Rattle.lazic.specs.declared.report.Kept.{Kept}
use Rattle.lazic.specs.declared.report.Kept.TheVariants as kept
use Rattle.lazic.specs.Told.{ToldOf, kept_in, kept_when}
use Rattle.lazic.specs.Headline.{Headline, IsSecureIn, IsSecureFor, IsReachedFor, IsReachedIn}
use Rattle.lazic.proofs.MeaningLaws.{read_tree}

zero_told : (status : ℕ) (v : Verdict) → (status ≡ 14) ⊎ ((status ≡ 15) ⊎ (status ≡ status_of v)) → status ≡ 0 → status_of v ≡ 0
zero_told status v (inl e) z = absurd (let both : 14 ≡ 0 = sym e ∙ z in cc)
zero_told status v (inr (inl e)) z = absurd (let both : 15 ≡ 0 = sym e ∙ z in cc)
zero_told status v (inr (inr e)) z = sym e ∙ z

-- a verdict of which values are kept
abbrev IsUnsafe : Verdict → List ℤ → Type 0
IsUnsafe v values = (kind : ErrorKind) × (place : Place) × (text : List ℕ) × (v ≡ verdict.Unsafe kind place values text)

kept_verdict : (v : Verdict) (values : List ℤ) → kept_in v ≡ kept.Unsafe values → IsUnsafe v values
kept_verdict (verdict.Unsafe kind place given text) values e = let same : given ≡ values = cc in (kind, place, text, ap (λ (vs : List ℤ). verdict.Unsafe kind place vs text) same)
kept_verdict (verdict.Safe text) values e = absurd (cc)
kept_verdict (verdict.Over number count) values e = absurd (cc)
kept_verdict (verdict.OutOfUnits n) values e = absurd (cc)
kept_verdict (verdict.OutOfLearn n) values e = absurd (cc)
kept_verdict verdict.Accepted values e = absurd (cc)
kept_verdict (verdict.Rejected r) values e = absurd (cc)
kept_verdict (verdict.Faulty fault place) values e = absurd (cc)
kept_verdict verdict.ReadFault values e = absurd (cc)
kept_verdict verdict.NoMemory values e = absurd (cc)

kept_by : (b : Bool) (v : Verdict) (values : List ℤ) → (if b then kept.Nothing else kept_in v) ≡ kept.Unsafe values → IsUnsafe v values
kept_by true v values e = absurd (cc)
kept_by false v values e = kept_verdict v values e

-- ---- the source breaks no rule, passes no limit, and is secure

secure_in : (model : Model) (source : List ℕ) → IsCertified model source → IsSecureIn model source
secure_in model source c =
    let r = read_tree model source c.replay.tree c.replay.read in
    record { tree = c.replay.tree; has = r.0; accepted = r.1; secure = c.secure }

secure_for : (asked : Asked) (file : List ℕ → List ℕ) → IsCertifiedFor asked file → IsSecureFor asked file
secure_for (Check c) file h = secure_in c.model (file c.source) h
secure_for (Verify w) file h = secure_in w.model (file w.source) h
secure_for (Generate seed) file h = secure_in plain_model (generated seed) h

-- ---- the values that are kept

reached_in : (before behind : ℕ) (model : Model) (units learn : ℕ) (source : List ℕ) (v : Verdict) (values : List ℤ) → IsVerifyAnswer (Rose before behind) model units learn source v → IsUnsafe v values → IsReachedIn model source values
reached_in before behind model units learn source v values h u =
    let r = unsafe_reached before behind model units learn source u.0 u.1 values u.2 (subst (λ (x : Verdict). IsVerifyAnswer (Rose before behind) model units learn source x) u.3 h) in
    let t = read_tree model source r.0 r.1 in
    record { tree = r.0; has = t.0; accepted = t.1; kind = u.0; at = r.2.0; reaches = r.2.2 }

reached : (before behind : ℕ) (asked : Asked) (file : List ℕ → List ℕ) (v : Verdict) (values : List ℤ) → IsAnswer (Rose before behind) asked file v → IsUnsafe v values → IsReachedFor asked file values
reached before behind (Check c) file v values h u =
    check_not_unsafe (Rose before behind) c.model (file c.source) (file c.cert) u.0 u.1 values u.2 (subst (λ (x : Verdict). IsAnswer (Rose before behind) (Check c) file x) u.3 h)
reached before behind (Verify w) file v values h u = reached_in before behind w.model w.units w.learn (file w.source) v values h u
reached before behind (Generate seed) file v values h u =
    reached_in before behind plain_model plain_units plain_learn (generated seed) v values (verify_more (Rose before behind) plain_model plain_units plain_learn (generated seed) v h) u

pub told_means :
    (files_told text_told write_rose put_rose : Type 0) (before behind : ℕ) (stamp : Stamp) (asked : Asked) (old new : List ℕ → List ℕ) (text_before text_after : List ℕ) (status : ℕ) (k : Kept)
    → ToldOf files_told text_told (Rose before behind) write_rose put_rose old new text_before text_after status k stamp asked → Headline files_told asked old status k
told_means files_told text_told write_rose put_rose before behind stamp asked old new text_before text_after status k (v, (w, t)) = record {
  secure = λ f z. secure_for asked old (zero_certified before behind asked old v (t.answer f) (zero_told status v t.told z));
  safe = λ f z. zero_certified before behind asked old v (t.answer f) (zero_told status v t.told z);
  unsafe = λ f values e. reached before behind asked old v values (t.answer f) (kept_by ((status == 14) || (status == 15)) v values (sym t.keeps ∙ e));
}

-- what is told of a verdict, where the status that is reported is the one that was told
pub told_as :
    (files_told text_told read_rose write_rose put_rose : Type 0) (stamp : Stamp) (asked : Asked) (old new : List ℕ → List ℕ) (text_before text_after : List ℕ) (status told : ℕ) (k : Kept) (v : Verdict) (w : Option (List ℕ))
    → status ≡ told → k ≡ kept_when told v → (IsKnown files_told asked → IsAnswer read_rose asked old v)
    → (IsKnown files_told asked → IsWitnessed asked old stamp v w) → (has_witness v ≡ false → w ≡ None)
    → (v ≡ verdict.ReadFault → read_rose) → (told ≡ 14) ⊎ ((told ≡ 15) ⊎ (told ≡ status_of v)) → (told ≡ 14 → write_rose ⊎ put_rose)
    → (text_told → told ≢ 14 → text_after ≡ text_before ++ (if told == 15 then text_of verdict.NoMemory else text_for asked v))
    → (text_told → told ≡ 14 → (text_after ≡ text_before) ⊎ (GrewByFront text_before text_after (text_for asked v) ⊎ GrewByFront text_before text_after (text_of verdict.NoMemory)))
    → IsApart asked → (files_told → told ≢ 14 → told ≢ 15 → IsApart asked → IsStored new (file_for asked v))
    → (files_told → told ≢ 14 → told ≢ 15 → IsStored new (witness_file asked w))
    → (files_told → IsApart asked → IsUntouched old new (witness_file asked w) ⊎ IsStored new (file_for asked v))
    → ((n : List ℕ) → IsOther (file_for asked v) n → IsOther (witness_file asked w) n → new n ≡ old n)
    → ToldOf files_told text_told read_rose write_rose put_rose old new text_before text_after status k stamp asked
told_as files_told text_told read_rose write_rose put_rose stamp asked old new text_before text_after status told k v w e kept answer witnessed silent fault is rose printed cut apart stored written ordered others =
    subst (λ (n : ℕ). ToldOf files_told text_told read_rose write_rose put_rose old new text_before text_after n k stamp asked) (sym e) (
      v,
      (
        w,
        record {
          answer = answer;
          witnessed = witnessed;
          silent = silent;
          told = is;
          keeps = kept;
          read_fault = fault;
          fault = rose;
          printed = printed;
          cut = cut;
          stored = λ f a b. stored f a b apart;
          written = written;
          ordered = λ f. ordered f apart;
          others = others;
        },
      ),
    )
