-- Code, without where it lies in memory.
use Rattle.slot_code.specs.Programs as p
use Rattle.slot_values.specs.Seen.{links_of}
use Rattle.slot_compiler.specs.declared.programs.Code.{Code}

abbrev pub code_of : Code → p.Code
code_of c = record { instructions = c.instructions.items; links = links_of c.links.items }
