-- Refusals for a limit that some number passes.
use Rattle.std.specs.Prelude.{ℕ, ◌<◌, ◌≤◌, ◌≡◌}
use Rattle.lv_base.specs.declared.fail.SourceFail.{SourceFail}
use Rattle.lv_base.specs.declared.fail.SourceFail.TheVariants.{Fault, Over, Memory}

-- It is for this limit, whose bound the quantity passes, with a count past the bound and up to the quantity; or for want of memory.
abbrev pub IsOver : (limit most quantity : ℕ) → SourceFail → Type 0
IsOver limit most quantity (Fault fault at) = ⊥
IsOver limit most quantity (Over number count) = (number ≡ limit) × (most < count) × (count ≤ quantity)
IsOver limit most quantity Memory = Unit {0}
