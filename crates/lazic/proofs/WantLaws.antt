-- What is told where memory ran out over the words, whatever they ask for.
use Rattle.std.proofs.Common.{◌≡◌, ◌≢◌, ◌⊎◌, ◌∙◌, inl, inr, refl, sym, ap, subst, ℕ, ◌==◌, Bool, true, false, if◌then◌else◌, List, ◌++◌}
use Rattle.std.specs.Prelude.{◌||◌, Option, Some, None}
use Rattle.lv_outside.specs.Bytes.{GrewByFront}
use Rattle.request_words.specs.Asked.{Asked, Check, Verify, Generate}
use Rattle.verdicts.specs.Lines.{text_of}
use Rattle.verdicts.specs.declared.verdict.Verdict.TheVariants.{NoMemory}
use Rattle.request_answers.specs.Answers.{IsAnswer}
use Rattle.request_answers.specs.Answers.IsCheckAnswer.{no_memory as unchecked}
use Rattle.request_answers.specs.Answers.IsVerifyAnswer.{no_memory as unverified}
use Rattle.request_answers.specs.Printed.{text_for}
use Rattle.request_answers.specs.Stored.{File, IsStored, IsUntouched, both_named, file_for, witness_file}
use Rattle.request_answers.specs.Witnessed.{IsWitnessed, IsWitnessBy, named_for}
use Rattle.source_witnesses.specs.declared.stamp.Stamp.{Stamp}
use Rattle.lazic.specs.declared.report.Kept.{Kept}
use Rattle.lazic.specs.declared.report.Kept.TheVariants as kept
use Rattle.lazic.specs.Outcome.{text_of as line_of}
use Rattle.lazic.specs.Report.{Ends}
use Rattle.lazic.specs.Told.{ToldOf, kept_when}
use Rattle.lazic.specs.declared.outcome.Outcome.{Outcome}
use Rattle.lazic.specs.declared.outcome.Outcome.TheVariants as outcome

wants : (rose : Type 0) (asked : Asked) (file : List ℕ → List ℕ) → IsAnswer rose asked file NoMemory
wants rose (Check c) file = unchecked refl
wants rose (Verify w) file = unverified refl
wants rose (Generate seed) file = unverified refl

-- there is no witness
unwitnessed : (asked : Asked) (file : List ℕ → List ℕ) (stamp : Stamp) → IsWitnessed asked file stamp NoMemory None
unwitnessed (Check c) file stamp = refl
unwitnessed (Verify w) file stamp = by_name (named_for w.witness w.source)
  where
    by_name : (name : Option (List ℕ)) → IsWitnessBy name w.model (file w.source) stamp NoMemory None
    by_name None = refl
    by_name (Some name) = refl
unwitnessed (Generate seed) file stamp = refl

-- and no file
no_file : (asked : Asked) → file_for asked NoMemory ≡ None
no_file (Check c) = refl
no_file (Verify w) = refl
no_file (Generate seed) = refl

unnamed : (name : Option (List ℕ)) → both_named name None ≡ None
unnamed None = refl
unnamed (Some name) = refl

no_witness : (asked : Asked) → witness_file asked None ≡ None
no_witness (Check c) = refl
no_witness (Verify w) = unnamed w.witness
no_witness (Generate seed) = refl

same_text : (asked : Asked) → text_for asked NoMemory ≡ text_of NoMemory
same_text (Check c) = refl
same_text (Verify w) = refl
same_text (Generate seed) = refl

keeps_nothing : (status : ℕ) → (status ≡ 14) ⊎ (status ≡ 15) → kept.Nothing ≡ kept_when status NoMemory
keeps_nothing status has = sym (nothing ((status == 14) || (status == 15)))
  where
    nothing : (b : Bool) → (if b then kept.Nothing else kept.Nothing) ≡ kept.Nothing
    nothing true = refl
    nothing false = refl

printed_text : (b : Bool) (asked : Asked) → (if b then text_of NoMemory else text_for asked NoMemory) ≡ text_of NoMemory
printed_text true asked = refl
printed_text false asked = same_text asked

pub want_told :
    (files_told text_told read_rose write_rose put_rose : Type 0) (stamp : Stamp) (asked : Asked) (old new : List ℕ → List ℕ) (text_before text_after : List ℕ) (status : ℕ) (k : Kept)
    → (status ≡ 14) ⊎ (status ≡ 15) → k ≡ kept.Nothing → (status ≡ 14 → put_rose) → (text_told → status ≢ 14 → text_after ≡ text_before ++ text_of NoMemory)
    → (text_told → status ≡ 14 → GrewByFront text_before text_after (text_of NoMemory)) → ((n : List ℕ) → new n ≡ old n)
    → ToldOf files_told text_told read_rose write_rose put_rose old new text_before text_after status k stamp asked
want_told files_told text_told read_rose write_rose put_rose stamp asked old new text_before text_after status k has nothing put printed cut same = (
  NoMemory,
  (
    None,
    record {
      answer = λ known. wants read_rose asked old;
      witnessed = λ known. unwitnessed asked old stamp;
      silent = λ none. refl;
      told = elim has [ inl e ↦ inl e | inr e ↦ inr (inl e) ];
      keeps = nothing ∙ keeps_nothing status has;
      read_fault = λ e. absurd cc;
      fault = λ e. inr (put e);
      printed = λ t other. printed t other ∙ ap (λ (xs : List ℕ). text_before ++ xs) (sym (printed_text (status == 15) asked));
      cut = λ t e. inr (inr (cut t e));
      stored = λ t a b. subst (λ (f : File). IsStored new f) (sym (no_file asked)) tt;
      written = λ t a b. subst (λ (f : File). IsStored new f) (sym (no_witness asked)) tt;
      ordered = λ t. inl (subst (λ (f : File). IsUntouched old new f) (sym (no_witness asked)) tt);
      others = λ n a b. same n;
    },
  ),
)

same_line : (b : Bool) → (if b then line_of outcome.NoMemory else line_of outcome.NoMemory) ≡ line_of outcome.NoMemory
same_line true = refl
same_line false = refl

pub want_ends :
    (read_rose put_rose files_told text_told : Type 0) (right : Outcome) (before after : List ℕ) (status : ℕ) (k : Kept)
    → (status ≡ 14) ⊎ (status ≡ 15) → (status ≡ 14 → put_rose) → (text_told → status ≢ 14 → after ≡ before ++ line_of outcome.NoMemory)
    → (text_told → status ≡ 14 → GrewByFront before after (line_of outcome.NoMemory)) → Ends read_rose put_rose files_told text_told right before after status k
want_ends read_rose put_rose files_told text_told right before after status k has put printed cut = record {
  answer = outcome.NoMemory;
  cause = tt;
  told = elim has [ inl e ↦ inl e | inr e ↦ inr (inl e) ];
  put = put;
  grown = λ t other. printed t other ∙ ap (λ (xs : List ℕ). before ++ xs) (sym (same_line (status == 15)));
  cut = λ t e. inl (cut t e);
}
