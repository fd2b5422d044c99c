-- A step that keeps the typedef names.
use Rattle.std.proofs.Common.{ℕ, List, Option, Result, Ok, Err, ap}
use Rattle.parse_stack.specs.declared.fail.StepFail.{StepFail}
use Rattle.parse_stack.specs.declared.fail.StepFail.TheVariants as fail
use Rattle.parse_machine.specs.Contexts as m
use Rattle.parse_machine.specs.Declarations.{kept}
use Rattle.parse_values.specs.declared.modes.Mode.{Mode}
use Rattle.parse_values.specs.ModeView.{Gives, GivesTurn}

pub kept_gives : (r : Result Mode StepFail) (names : List (List ℕ)) (o : Option m.Mode) → Gives r o → GivesTurn r names (kept names o)
kept_gives (Ok s) names o h = ap (kept names) h
kept_gives (Err fail.Memory) names o h = tt
kept_gives (Err fail.Refused) names o h = ap (kept names) h
