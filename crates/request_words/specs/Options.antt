-- Options by their names.
use Rattle.std.specs.Prelude.{ℕ, List, ◌==◌, nat_lt, length, if◌then◌else◌, Option, Some, None, codes}
use Rattle.std.specs.List.{position_or_len, before_first, after_first}
use Rattle.std.specs.Str.{bytes_eq}
use Rattle.request_words.specs.declared.options.Choice.{Choice}
use Rattle.request_words.specs.declared.options.Choice.TheVariants.{OfModel, OfUnits, OfLearn, OfWorkers, OfTurns, OfCert, OfRun, OfWitness}

abbrev pub choice_named : List ℕ → Option Choice
choice_named word =
    if bytes_eq word (codes "--model") then Some OfModel else
    if bytes_eq word (codes "--workers") then Some OfWorkers else
    if bytes_eq word (codes "--turns") then Some OfTurns else
    if bytes_eq word (codes "--units") then Some OfUnits else
    if bytes_eq word (codes "--learn") then Some OfLearn else
    if bytes_eq word (codes "--cert") then Some OfCert else
    if bytes_eq word (codes "--run") then Some OfRun else
    if bytes_eq word (codes "--witness") then Some OfWitness else None

abbrev pub with_value_behind : List ℕ → Option Choice → Option (Choice × List ℕ)
with_value_behind value None = None
with_value_behind value (Some choice) = Some (choice, value)

-- the option that stands before the first `=`, with what stands behind it
abbrev pub joined_of : List ℕ → Option (Choice × List ℕ)
joined_of word =
    if nat_lt (position_or_len (λ b. b == 61) word) (length word)
    then with_value_behind (after_first (λ b. b == 61) word) (choice_named (before_first (λ b. b == 61) word)) else None
