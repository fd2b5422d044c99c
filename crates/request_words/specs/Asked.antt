-- What words ask for.
use Rattle.std.specs.Prelude.{ℕ, ◌≡◌, List, [], ◌∷◌, Bool, false, ◌||◌, if◌then◌else◌, Option, Some, None, codes}
use Rattle.std.specs.Str.{bytes_eq}
use Rattle.lv_base.specs.declared.kind.Model.{Model}
use Rattle.lv_base.specs.declared.kind.Model.TheVariants.{Ilp32}
use Rattle.request_words.specs.declared.options.Choice.{Choice}
use Rattle.request_words.specs.declared.commands.Command.TheVariants as command
use Rattle.request_words.specs.Values.{seed_of}
use Rattle.request_words.specs.Words.{Given, nothing_given, with_words}

-- The check of the certificate in one file against the source in another one.
pub record Checking : Type 0 where
  pub source : List ℕ
  pub cert : List ℕ
  pub model : Model
  pub workers : ℕ

-- The verification of a source, and where its certificate, its run or its witness is to be written.
pub record Verifying : Type 0 where
  pub source : List ℕ
  pub model : Model
  pub units : ℕ
  pub learn : ℕ
  pub workers : ℕ
  pub cert : Option (List ℕ)
  pub run : Option (List ℕ)
  pub witness : Option (List ℕ)

pub data Asked : Type 0 where
  Check : Checking → Asked
  Verify : Verifying → Asked
  Generate : ℕ → Asked

-- ---- Where an option is not given

abbrev pub plain_model : Model
plain_model = Ilp32

abbrev pub plain_units : ℕ
plain_units = 100000

abbrev pub plain_learn : ℕ
plain_learn = 1000000

abbrev pub model_or : Option Model → Model
model_or None = plain_model
model_or (Some model) = model

abbrev pub number_or : ℕ → Option ℕ → ℕ
number_or n None = n
number_or n (Some m) = m

-- ---- Checks

abbrev pub check_at : Given → Option (List ℕ) → Option (List ℕ) → Option Choice → Option Asked
check_at given (Some source) (Some cert) None = Some (Check (record { source = source; cert = cert; model = model_or given.model; workers = number_or 1 given.workers }))
check_at given _ _ _ = None

-- there are both names, and each option has its value
abbrev pub check_by : Option Given → Option Asked
check_by None = None
check_by (Some given) = check_at given given.first given.second given.awaited

-- ---- Verifications

abbrev pub is_named : List ℕ → Option (List ℕ) → Bool
is_named name None = false
is_named name (Some other) = bytes_eq name other

abbrev pub is_named_in : Option (List ℕ) → Option (List ℕ) → Bool
is_named_in None other = false
is_named_in (Some name) other = is_named name other

-- two of the source and of the files to be written have one name
abbrev pub has_twice : List ℕ → Option (List ℕ) → Option (List ℕ) → Option (List ℕ) → Bool
has_twice source cert run witness =
    is_named source cert || (is_named source run || (is_named source witness || (is_named_in cert run || (is_named_in cert witness || is_named_in run witness))))

abbrev pub verify_with : Given → List ℕ → Option Asked
verify_with given source =
    Some (Verify (record {
      source = source;
      model = model_or given.model;
      units = number_or plain_units given.units;
      learn = number_or plain_learn given.learn;
      workers = number_or 1 given.workers;
      cert = given.cert;
      run = given.run;
      witness = given.witness;
    }))

abbrev pub verify_of : Given → List ℕ → Option Asked
verify_of given source = if has_twice source given.cert given.run given.witness then None else verify_with given source

abbrev pub verify_at : Given → Option (List ℕ) → Option (List ℕ) → Option Choice → Option Asked
verify_at given (Some source) None None = verify_of given source
verify_at given _ _ _ = None

-- there is one name, each option has its value, and the names differ
abbrev pub verify_by : Option Given → Option Asked
verify_by None = None
verify_by (Some given) = verify_at given given.first given.second given.awaited

-- ---- Sources of seeds

abbrev pub generate_at : Option ℕ → Option Asked
generate_at None = None
generate_at (Some seed) = Some (Generate seed)

-- of two names that there may be, the first alone, which is the seed
abbrev pub seed_at : Option (List ℕ) → Option (List ℕ) → Option Asked
seed_at (Some seed) None = generate_at (seed_of seed)
seed_at _ _ = None

-- one word is the seed, and there is no option
abbrev pub generate_by : List (List ℕ) → Option Asked
generate_by (seed ∷ []) = generate_at (seed_of seed)
generate_by _ = None

-- ---- Words

-- The word `check` or `verify`, and behind it names and options in any order; or the word `generate`, and a seed.
abbrev pub asked_of : List (List ℕ) → Option Asked
asked_of [] = None
asked_of (word ∷ words) =
    if bytes_eq word (codes "check") then check_by (with_words command.Check (Some nothing_given) words) else
    if bytes_eq word (codes "verify") then verify_by (with_words command.Verify (Some nothing_given) words) else
    if bytes_eq word (codes "generate") then generate_by words else None

-- ---- Names of files

-- a witness is written to another file than a certificate or a run
abbrev pub IsApart : Asked → Type 0
IsApart (Check c) = Unit {0}
IsApart (Verify w) = (is_named_in w.cert w.witness ≡ false) × (is_named_in w.run w.witness ≡ false)
IsApart (Generate seed) = Unit {0}

abbrev pub NamesAreApart : Type 0
NamesAreApart = (words : List (List ℕ)) (asked : Asked) → asked_of words ≡ Some asked → IsApart asked
