-- What a parse of a command's words holds, as names and options with their texts.
use Rattle.std.proofs.Common.{◌≡◌, ℕ, List, [], ◌∷◌, map, Bool, true, false, Option, Some, None, codes, refl}
use Rattle.clap.specs.declared.builder.action.ArgAction.TheVariants.{Set}
use Rattle.clap.specs.declared.builder.value_parser.ValueParser.TheVariants as parser
use Rattle.clap.specs.declared.parser.matches.ValueSource.TheVariants.{CommandLine}
use Rattle.clap.specs.Walk.{Held, Row, Rule, Text, Waiting, Walk, idle, option, reading_by}
use Rattle.clap.specs.Simple.{Shape, built, new_shape}
use Rattle.request_words.specs.declared.options.Choice.{Choice}
use Rattle.request_words.specs.declared.options.Choice.TheVariants.{OfModel, OfUnits, OfLearn, OfWorkers, OfTurns, OfCert, OfRun, OfWitness}
use Rattle.request_words.specs.declared.commands.Command.{Command}
use Rattle.request_words.specs.declared.commands.Command.TheVariants.{Check, Verify, Replay, Generate}
use Rattle.request_words.specs.Apps.{app_for}

-- a name by its place, or an option
pub data Slot : Type 0 where
  first : Slot
  second : Slot
  of : Choice → Slot

abbrev pub choice_id : Choice → Text
choice_id OfModel = codes "model"
choice_id OfUnits = codes "units"
choice_id OfLearn = codes "learn"
choice_id OfWorkers = codes "workers"
choice_id OfTurns = codes "turns"
choice_id OfCert = codes "cert"
choice_id OfRun = codes "run"
choice_id OfWitness = codes "witness"

abbrev pub id_of : Slot → Text
id_of first = codes "source"
id_of second = codes "second"
id_of (of choice) = choice_id choice

abbrev pub long_name : Slot → Option Text
long_name first = None
long_name second = None
long_name (of choice) = Some (choice_id choice)

abbrev pub index_of : Slot → Option ℕ
index_of first = Some 1
index_of second = Some 2
index_of (of choice) = None

abbrev pub is_wanted : Slot → Bool
is_wanted first = true
is_wanted second = true
is_wanted (of choice) = false

-- the rule of a slot, once the command is built
abbrev pub rule : Slot → Rule
rule slot = record {
  id = id_of slot;
  long = long_name slot;
  aliases = [];
  short = None;
  short_aliases = [];
  index = index_of slot;
  action = Some Set;
  range = Some (record { start_inclusive = 1; end_inclusive = 1 });
  value_names = 0;
  defaults = [];
  missing = [];
  trailing_var_arg = false;
  parser = Some parser.String;
  ignore_case = false;
  required = is_wanted slot;
  is_simple = true;
  is_free = true;
}

abbrev pub slots : Command → List Slot
slots Check = first ∷ second ∷ of OfModel ∷ of OfWorkers ∷ []
slots Replay = first ∷ second ∷ of OfModel ∷ of OfTurns ∷ []
slots Verify = first ∷ of OfModel ∷ of OfUnits ∷ of OfLearn ∷ of OfWorkers ∷ of OfCert ∷ of OfRun ∷ of OfWitness ∷ []
slots Generate = first ∷ []

abbrev pub rules : Command → List Rule
rules command = map rule (slots command)

abbrev pub command_name : Command → Text
command_name Check = codes "check"
command_name Replay = codes "replay"
command_name Verify = codes "verify"
command_name Generate = codes "generate"

abbrev pub shape : Command → Shape
shape command = record (new_shape (command_name command)) {
  rules = rules command;
  no_binary_name = true;
  disable_help_flag = true;
  disable_help_subcommand = true;
  is_built = true;
}

pub built_app : (command : Command) → built (app_for command) ≡ record { top = shape command; subs = [] }
built_app Check = refl
built_app Verify = refl
built_app Generate = refl
built_app Replay = refl

-- ---- between two words

abbrev pub Uses : Type 0
Uses = List (Slot × Text)

abbrev pub use_row : Slot × Text → Row
use_row it = record {
  id = id_of it.0;
  values = it.1 ∷ [];
  count = None;
  source = Some CommandLine;
  reading = reading_by (rule it.0);
}

-- what is not used so far: a name or an option with its text, or an option whose text is the next word
pub data Last : Type 0 where
  nothing : Last
  valued : Slot → Text → Last
  awaits : Choice → Last

abbrev pub pending_at : Last → Option (Text × List Text)
pending_at nothing = None
pending_at (valued slot text) = Some (id_of slot, text ∷ [])
pending_at (awaits choice) = Some (choice_id choice, [])

abbrev pub waiting_at : Last → Waiting
waiting_at nothing = idle
waiting_at (valued slot text) = idle
waiting_at (awaits choice) = option (choice_id choice)

-- how many names there were
pub data Place : Type 0 where
  none : Place
  one : Place
  two : Place

abbrev pub position_at : Place → ℕ
position_at none = 1
position_at one = 2
position_at two = 3

abbrev pub held_at : Uses → Last → Held
held_at uses last = record { rows = map use_row uses; pending = pending_at last; skip = 0 }

abbrev pub walk_at : Uses → Last → Place → Walk
walk_at uses last place = record { held = held_at uses last; waiting = waiting_at last; position = position_at place; is_trailing = false; stopped = None }
