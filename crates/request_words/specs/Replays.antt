-- The replay that words ask for.
use Rattle.std.specs.Prelude.{ℕ, List, [], ◌∷◌, if◌then◌else◌, Option, Some, None, codes}
use Rattle.std.specs.Str.{bytes_eq}
use Rattle.lv_base.specs.declared.kind.Model.{Model}
use Rattle.request_words.specs.declared.options.Choice.{Choice}
use Rattle.request_words.specs.declared.commands.Command.TheVariants as command
use Rattle.request_words.specs.Asked.{model_or, number_or}
use Rattle.request_words.specs.Words.{Given, nothing_given, with_words}

-- A replay of the source in one file on the values in another one.
pub record Replaying : Type 0 where
  pub source : List ℕ
  pub run : List ℕ
  pub model : Model
  pub turns : ℕ

abbrev pub plain_turns : ℕ
plain_turns = 10000000

abbrev pub replay_at : Given → Option (List ℕ) → Option (List ℕ) → Option Choice → Option Replaying
replay_at given (Some source) (Some run) None = Some (record { source = source; run = run; model = model_or given.model; turns = number_or plain_turns given.turns })
replay_at given _ _ _ = None

-- there are both names, and each option has its value
abbrev pub replay_by : Option Given → Option Replaying
replay_by None = None
replay_by (Some given) = replay_at given given.first given.second given.awaited

-- The word `replay`, and behind it two names and options in any order.
abbrev pub replay_of : List (List ℕ) → Option Replaying
replay_of [] = None
replay_of (word ∷ words) = if bytes_eq word (codes "replay") then replay_by (with_words command.Replay (Some nothing_given) words) else None
