-- The names and options of the commands, as `clap` takes them.
use Rattle.std.specs.Prelude.{ℕ, List, [], ◌∷◌, true, Some, codes, fold}
use Rattle.clap.specs.Words.{App, Rule, new_app, new_rule, with_rule}
use Rattle.clap.specs.declared.builder.action.ArgAction.TheVariants.{Set}
use Rattle.request_words.specs.declared.commands.Command.{Command}
use Rattle.request_words.specs.declared.commands.Command.TheVariants.{Check, Verify, Replay, Generate}

-- a positional word that is there
abbrev pub name_rule : List ℕ → Rule
name_rule id = record (new_rule id) { required = true; action = Some Set }

-- an option that is named as it is written, and stands at most once
abbrev pub option_rule : List ℕ → Rule
option_rule id = record (new_rule id) { long = Some id; action = Some Set }

-- the first word is one behind the command, and no option asks for help
abbrev pub start_app : List ℕ → App
start_app name = record (new_app name) { top = record (new_app name).top { no_binary_name = true; disable_help_flag = true } }

abbrev pub check_rules : List Rule
check_rules = name_rule (codes "source") ∷ name_rule (codes "second") ∷ option_rule (codes "model") ∷ option_rule (codes "workers") ∷ []

abbrev pub verify_rules : List Rule
verify_rules =
    name_rule (codes "source") ∷ option_rule (codes "model") ∷ option_rule (codes "units") ∷ option_rule (codes "learn")
    ∷ option_rule (codes "workers") ∷ option_rule (codes "cert") ∷ option_rule (codes "run") ∷ option_rule (codes "witness") ∷ []

abbrev pub replay_rules : List Rule
replay_rules = name_rule (codes "source") ∷ name_rule (codes "second") ∷ option_rule (codes "model") ∷ option_rule (codes "turns") ∷ []

abbrev pub generate_rules : List Rule
generate_rules = name_rule (codes "source") ∷ []

abbrev pub app_for : Command → App
app_for Check = fold with_rule (start_app (codes "check")) check_rules
app_for Verify = fold with_rule (start_app (codes "verify")) verify_rules
app_for Replay = fold with_rule (start_app (codes "replay")) replay_rules
app_for Generate = fold with_rule (start_app (codes "generate")) generate_rules
