-- A part of a line has at most twenty digits.
use Rattle.std.specs.Prelude.{◌<◌, ◌^◌}
use Rattle.stored_text.specs.declared.line.Next.{Next}
use Rattle.stored_text.specs.declared.line.Next.TheVariants.{Refused, Full, Value, Part}

abbrev pub IsSmall : Next → Type 0
IsSmall Refused = Unit {0}
IsSmall Full = Unit {0}
IsSmall (Value v) = Unit {0}
IsSmall (Part line) = line.value < 10 ^ 20
