-- What is said of how a run ends.
use Rattle.std.specs.Prelude.{ℕ, List, take, ℤ}
use Rattle.lv_base.specs.Place.{place_at}
use Rattle.c_run.specs.Run as run
use Rattle.slot_code.specs.declared.reply.Ending.{Ending}
use Rattle.slot_code.specs.declared.reply.Ending.TheVariants as ending
use Rattle.lazic.specs.declared.outcome.Outcome.{Outcome}
use Rattle.lazic.specs.declared.outcome.Outcome.TheVariants.{Reached, Ended, OutOfTurns, NeedsMore, BadValue}

-- an error is said with the values that were drawn
abbrev pub said_of : List ℕ → ℕ → List ℤ → run.End → Outcome
said_of source turns values (run.Error kind at drawn) = Reached kind (place_at source at) (take drawn values)
said_of source turns values run.Ended = Ended
said_of source turns values run.NoInput = NeedsMore
said_of source turns values (run.BadInput i) = BadValue i
said_of source turns values (run.Spent at store taken) = OutOfTurns turns

-- the same of an ending without its store
abbrev pub told_of : List ℕ → ℕ → List ℤ → Ending → Outcome
told_of source turns values (ending.Error kind at drawn) = Reached kind (place_at source at) (take drawn values)
told_of source turns values ending.Ended = Ended
told_of source turns values ending.NoInput = NeedsMore
told_of source turns values (ending.BadInput i) = BadValue i
told_of source turns values ending.Spent = OutOfTurns turns
