-- Where a token is refused, the typedef names are as they were.
use Rattle.std.specs.Prelude.{◌≡◌, ℕ, List, Result, Ok, Err}
use Rattle.parse_stack.specs.declared.fail.StepFail.{StepFail}
use Rattle.parse_stack.specs.declared.fail.StepFail.TheVariants as fail
use Rattle.parse_values.specs.declared.modes.Mode.{Mode}

abbrev pub KeepsNames : Result Mode StepFail → List (List ℕ) → List (List ℕ) → Type 0
KeepsNames (Err fail.Refused) before after = after ≡ before
KeepsNames _ before after = Unit {0}
