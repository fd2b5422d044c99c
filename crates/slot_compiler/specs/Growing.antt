-- Code that is not whole yet, without where it lies in memory.
use Rattle.slot_code.specs.Programs as p
use Rattle.slot_compiler.specs.declared.programs.Built.{Built}

abbrev pub built_of : Built → p.Code
built_of b = record { instructions = b.instructions.items; links = b.links }
