-- One word after the other.
use Rattle.std.specs.Prelude.{ℕ, List, [], ◌∷◌, if◌then◌else◌, Bool, true, false, Option, Some, None}
use Rattle.std.specs.Option.{option_map}
use Rattle.lv_base.specs.declared.kind.Model.{Model}
use Rattle.request_words.specs.declared.options.Choice.{Choice}
use Rattle.request_words.specs.declared.options.Choice.TheVariants.{OfModel, OfUnits, OfLearn, OfWorkers, OfTurns, OfCert, OfRun, OfWitness}
use Rattle.request_words.specs.declared.commands.Command.{Command}
use Rattle.request_words.specs.declared.commands.Command.TheVariants.{Check, Verify, Replay, Generate}
use Rattle.request_words.specs.Values.{is_name_of, model_of, number_of}
use Rattle.request_words.specs.Options.{choice_named, joined_of}

-- What the words gave so far, and the option whose value is the next word.
pub record Given : Type 0 where
  pub first : Option (List ℕ)
  pub second : Option (List ℕ)
  pub model : Option Model
  pub units : Option ℕ
  pub learn : Option ℕ
  pub workers : Option ℕ
  pub turns : Option ℕ
  pub cert : Option (List ℕ)
  pub run : Option (List ℕ)
  pub witness : Option (List ℕ)
  pub awaited : Option Choice

abbrev pub nothing_given : Given
nothing_given = record { first = None; second = None; model = None; units = None; learn = None; workers = None; turns = None; cert = None; run = None; witness = None; awaited = None }

-- the value of an option, which stands at most once
abbrev pub with_model : Given → Option Model → Option Model → Option Given
with_model given None (Some model) = Some (record given { model = Some model; awaited = None })
with_model given _ _ = None

abbrev pub with_units : Given → Option ℕ → Option ℕ → Option Given
with_units given None (Some n) = Some (record given { units = Some n; awaited = None })
with_units given _ _ = None

abbrev pub with_learn : Given → Option ℕ → Option ℕ → Option Given
with_learn given None (Some n) = Some (record given { learn = Some n; awaited = None })
with_learn given _ _ = None

abbrev pub with_workers : Given → Option ℕ → Option ℕ → Option Given
with_workers given None (Some n) = Some (record given { workers = Some n; awaited = None })
with_workers given _ _ = None

abbrev pub with_turns : Given → Option ℕ → Option ℕ → Option Given
with_turns given None (Some n) = Some (record given { turns = Some n; awaited = None })
with_turns given _ _ = None

-- the name of a file that an option gives
abbrev pub name_once : Option (List ℕ) → List ℕ → Option (List ℕ)
name_once None name = if is_name_of name then Some name else None
name_once (Some other) name = None

abbrev pub with_cert : Given → List ℕ → Given
with_cert given name = record given { cert = Some name; awaited = None }

abbrev pub with_run : Given → List ℕ → Given
with_run given name = record given { run = Some name; awaited = None }

abbrev pub with_witness : Given → List ℕ → Given
with_witness given name = record given { witness = Some name; awaited = None }

abbrev pub with_value : Given → Choice → List ℕ → Option Given
with_value given OfModel value = with_model given given.model (model_of value)
with_value given OfUnits value = with_units given given.units (number_of 10000000 value)
with_value given OfLearn value = with_learn given given.learn (number_of 100000000 value)
with_value given OfWorkers value = with_workers given given.workers (number_of 64 value)
with_value given OfTurns value = with_turns given given.turns (number_of 1000000000 value)
with_value given OfCert value = option_map (with_cert given) (name_once given.cert value)
with_value given OfRun value = option_map (with_run given) (name_once given.run value)
with_value given OfWitness value = option_map (with_witness given) (name_once given.witness value)

-- the options of a command
abbrev pub is_option : Command → Choice → Bool
is_option Verify OfModel = true
is_option Verify OfUnits = true
is_option Verify OfLearn = true
is_option Verify OfWorkers = true
is_option Verify OfCert = true
is_option Verify OfRun = true
is_option Verify OfWitness = true
is_option Verify OfTurns = false
is_option Replay OfModel = true
is_option Replay OfTurns = true
is_option Replay OfUnits = false
is_option Replay OfLearn = false
is_option Replay OfWorkers = false
is_option Replay OfCert = false
is_option Replay OfRun = false
is_option Replay OfWitness = false
is_option Check OfModel = true
is_option Check OfWorkers = true
is_option Check OfTurns = false
is_option Check OfUnits = false
is_option Check OfLearn = false
is_option Check OfCert = false
is_option Check OfRun = false
is_option Check OfWitness = false
is_option Generate choice = false

-- an option of the command, whose value is the next word
abbrev pub awaiting : Command → Given → Choice → Option Given
awaiting command given choice = if is_option command choice then Some (record given { awaited = Some choice }) else None

abbrev pub chosen_in : Command → Given → Choice → List ℕ → Option Given
chosen_in command given choice value = if is_option command choice then with_value given choice value else None

-- a positional word, and no third
abbrev pub with_name_at : Given → Option (List ℕ) → Option (List ℕ) → List ℕ → Option Given
with_name_at given None second word = Some (record given { first = Some word; awaited = None })
with_name_at given (Some first) None word = Some (record given { second = Some word; awaited = None })
with_name_at given (Some first) (Some second) word = None

abbrev pub with_name : Given → List ℕ → Option Given
with_name given word = if is_name_of word then with_name_at given given.first given.second word else None

-- an option with its value in one word, or a name
abbrev pub with_joined : Command → Given → List ℕ → Option (Choice × List ℕ) → Option Given
with_joined command given word None = with_name given word
with_joined command given word (Some joined) = chosen_in command given joined.0 joined.1

-- a word that is not the value of the option before it
abbrev pub with_free : Command → Given → List ℕ → Option Choice → Option Given
with_free command given word None = with_joined command given word (joined_of word)
with_free command given word (Some choice) = awaiting command given choice

abbrev pub with_word_at : Command → Given → Option Choice → List ℕ → Option Given
with_word_at command given None word = with_free command given word (choice_named word)
with_word_at command given (Some choice) word = with_value given choice word

abbrev pub with_word : Command → Given → List ℕ → Option Given
with_word command given word = with_word_at command given given.awaited word

abbrev pub with_words : Command → Option Given → List (List ℕ) → Option Given
with_words command given [] = given
with_words command None (word ∷ words) = None
with_words command (Some given) (word ∷ words) = with_words command (with_word command given word) words
