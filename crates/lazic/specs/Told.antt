-- What is told of a check or of a verification.
use Rattle.std.specs.Prelude.{ℕ, ℤ, ◌≡◌, ◌≢◌, ◌⊎◌, ◌++◌, ◌==◌, ◌||◌, List, false, if◌then◌else◌, Option, Some, None}
use Rattle.lv_outside.specs.Bytes.{GrewByFront}
use Rattle.request_words.specs.Asked.{Asked, asked_of}
use Rattle.verdicts.specs.Lines.{status_of, text_of}
use Rattle.verdicts.specs.declared.verdict.Verdict.{Verdict}
use Rattle.verdicts.specs.declared.verdict.Verdict.TheVariants as verdict
use Rattle.request_answers.specs.Answers.{IsAnswer, IsKnown}
use Rattle.request_answers.specs.Printed.{text_for}
use Rattle.request_answers.specs.Stored.{IsOther, IsStored, IsUntouched, file_for, witness_file}
use Rattle.request_answers.specs.Witnessed.{IsWitnessed, has_witness}
use Rattle.source_witnesses.specs.declared.stamp.Stamp.{Stamp}
use Rattle.lazic.specs.Words.{Wanted, request_of}
use Rattle.lazic.specs.declared.report.Kept.{Kept}
use Rattle.lazic.specs.declared.report.Kept.TheVariants.{Nothing, Safe, Unsafe, Limited}

-- what is kept of a verdict
abbrev pub kept_in : Verdict → Kept
kept_in (verdict.Safe text) = Safe text
kept_in (verdict.Unsafe kind place values text) = Unsafe values
kept_in (verdict.Over number count) = Limited number count
kept_in (verdict.OutOfUnits units) = Nothing
kept_in (verdict.OutOfLearn learn) = Nothing
kept_in verdict.Accepted = Nothing
kept_in (verdict.Rejected rejection) = Nothing
kept_in (verdict.Faulty fault place) = Nothing
kept_in verdict.ReadFault = Nothing
kept_in verdict.NoMemory = Nothing

-- nothing is kept where a write or a put failed or memory ran out
abbrev pub kept_when : ℕ → Verdict → Kept
kept_when status v = if (status == 14) || (status == 15) then Nothing else kept_in v

-- the moment and the bytes of chance with which a witness is made
abbrev pub stamp_of : ℤ → List ℕ → Stamp
stamp_of moment random = record { moment = moment; random = random }

-- The status, what is kept, the text and the files go with this verdict on what is asked, and with this witness of it. The witness is
-- written only where the certificate or the run is whole.
pub record IsTold (files_told text_told read_rose write_rose put_rose : Type 0) (stamp : Stamp) (asked : Asked) (before after : List ℕ → List ℕ) (text_before text_after : List ℕ) (status : ℕ) (kept : Kept) (v : Verdict) (witness : Option (List ℕ)) : Type 0 where
  pub answer : IsKnown files_told asked → IsAnswer read_rose asked before v
  pub witnessed : IsKnown files_told asked → IsWitnessed asked before stamp v witness
  pub silent : has_witness v ≡ false → witness ≡ None
  pub told : (status ≡ 14) ⊎ ((status ≡ 15) ⊎ (status ≡ status_of v))
  pub keeps : kept ≡ kept_when status v
  pub read_fault : v ≡ verdict.ReadFault → read_rose
  pub fault : status ≡ 14 → write_rose ⊎ put_rose
  pub printed : text_told → status ≢ 14 → text_after ≡ text_before ++ (if status == 15 then text_of verdict.NoMemory else text_for asked v)
  pub cut : text_told → status ≡ 14 → (text_after ≡ text_before) ⊎ (GrewByFront text_before text_after (text_for asked v) ⊎ GrewByFront text_before text_after (text_of verdict.NoMemory))
  pub stored : files_told → status ≢ 14 → status ≢ 15 → IsStored after (file_for asked v)
  pub written : files_told → status ≢ 14 → status ≢ 15 → IsStored after (witness_file asked witness)
  pub ordered : files_told → IsUntouched before after (witness_file asked witness) ⊎ IsStored after (file_for asked v)
  pub others : (n : List ℕ) → IsOther (file_for asked v) n → IsOther (witness_file asked witness) n → after n ≡ before n

-- so it is of some verdict and some witness
abbrev pub ToldOf : (files_told text_told read_rose write_rose put_rose : Type 0) → (before after : List ℕ → List ℕ) → (text_before text_after : List ℕ) → (status : ℕ) → (kept : Kept) → Stamp → Asked → Type 0
ToldOf files_told text_told read_rose write_rose put_rose before after text_before text_after status kept stamp asked =
    (v : Verdict) × ((witness : Option (List ℕ)) × IsTold files_told text_told read_rose write_rose put_rose stamp asked before after text_before text_after status kept v witness)

-- words that ask for a replay ask for no check and no verification
abbrev pub RequestsDiffer : Type 0
RequestsDiffer = (words : List (List ℕ)) (wanted : Wanted) → request_of words ≡ Some wanted → asked_of words ≡ None
