-- What a token does among tokens that are kept as they stand.
use Rattle.std.specs.Prelude.{◌≡◌, ℕ, ◌+◌, ◌≤◌}
use Rattle.parse_machine.specs.Tokens as tk
use Rattle.c_parser.specs.declared.steps.Run.{Run}
use Rattle.c_parser.specs.declared.steps.Run.TheVariants as ne

abbrev pub SkipsTo : Run → tk.Skip → Type 0
SkipsTo (ne.On n) s = s ≡ tk.skipOn n
SkipsTo ne.Close s = s ≡ tk.skipClose
SkipsTo ne.End s = s ≡ tk.skipEnd

-- at most one bracket more is open
abbrev pub IsNear : Run → ℕ → Type 0
IsNear (ne.On n) depth = n ≤ depth + 1
IsNear _ depth = Unit {0}
