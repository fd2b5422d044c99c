-- What a report says of an answer.
use Rattle.std.specs.Prelude.{ℕ, ◌≡◌, ◌≢◌, ◌⊎◌, ◌++◌, List, ◌==◌, if◌then◌else◌}
use Rattle.lv_outside.specs.Bytes.{GrewByFront}
use Rattle.lazic.specs.Answer.{IsCaused}
use Rattle.lazic.specs.Meaning.{Means}
use Rattle.lazic.specs.Outcome.{status_of, text_of}
use Rattle.lazic.specs.declared.outcome.Outcome.{Outcome}
use Rattle.lazic.specs.declared.outcome.Outcome.TheVariants.{Usage, ReadFault, Over, Faulty, BadRun, Reached, Ended, OutOfTurns, NeedsMore, BadValue, NoMemory}
use Rattle.lazic.specs.declared.report.Kept.{Kept}
use Rattle.lazic.specs.declared.report.Kept.TheVariants.{Nothing, Unsafe, Limited}

abbrev pub kept_of : Outcome → Kept
kept_of (Reached kind place values) = Unsafe values
kept_of (Over number count) = Limited number count
kept_of Usage = Nothing
kept_of ReadFault = Nothing
kept_of (Faulty fault place) = Nothing
kept_of (BadRun at) = Nothing
kept_of (OutOfTurns turns) = Nothing
kept_of Ended = Nothing
kept_of NeedsMore = Nothing
kept_of (BadValue i) = Nothing
kept_of NoMemory = Nothing

-- the status of a read fault, of a failed print, or of want of memory
abbrev pub IsFree : ℕ → Type 0
IsFree status = (status ≡ 13) ⊎ ((status ≡ 14) ⊎ (status ≡ 15))

-- the line that goes with a status, where this is the right answer
abbrev pub told_text : ℕ → Outcome → List ℕ
told_text status right = if status == 13 then text_of ReadFault else if status == 15 then text_of NoMemory else text_of right

-- the status and what is kept are those of the answer that is meant
abbrev pub MeansReport : List (List ℕ) → (List ℕ → List ℕ) → ℕ → Kept → Type 0
MeansReport words file status kept = (answer : Outcome) × Means words file answer × (status ≡ status_of answer) × (kept ≡ kept_of answer)

-- How each run ends, whether or not the files and the text are told: an answer that has its cause gives the status and what is kept, and its
-- line stands behind the text that was there. Or that line was put in part alone (status 14), or could not be made (status 15).
pub record Ends (read_rose put_rose files_told text_told : Type 0) (right : Outcome) (before after : List ℕ) (status : ℕ) (kept : Kept) : Type 0 where
  pub answer : Outcome
  pub cause : IsCaused read_rose files_told right answer
  pub told : (status ≡ 14) ⊎ ((status ≡ 15) ⊎ ((status ≡ status_of answer) × (kept ≡ kept_of answer)))
  pub put : status ≡ 14 → put_rose
  pub grown : text_told → status ≢ 14 → after ≡ before ++ (if status == 15 then text_of NoMemory else text_of answer)
  pub cut : text_told → status ≡ 14 → GrewByFront before after (text_of answer) ⊎ GrewByFront before after (text_of NoMemory)
