-- Where a function's code stands, by the name of its type.
use Rattle.slot_code.specs.Values.{Link}
use Rattle.cfg_build.specs.Ranges.{range_of}

abbrev pub type_of : (A : Type 0) → A → Type 0
type_of A x = A

abbrev pub no_link : Link
no_link = record { function = 0; entry = 0; slot = 0 }

-- the code and the slots of a function
abbrev pub Range : Type 0
Range = type_of _ (range_of no_link 0 0)
