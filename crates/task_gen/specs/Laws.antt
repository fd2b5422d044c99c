-- How long a source is that a seed makes.
use Rattle.std.specs.Prelude.{ℕ, ◌≤◌, ◌<◌, ◌^◌, length}
use Rattle.task_gen.specs.Generated.{generated}

abbrev pub GeneratedIsShort : Type 0
GeneratedIsShort = (seed : ℕ) → seed < 2 ^ 32 → length (generated seed) ≤ 2 ^ 20
