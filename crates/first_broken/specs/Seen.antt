-- Broken lines of the program.
use Rattle.std.specs.Prelude.{Option, None, Some}
use Rattle.c_run.specs.Breaking as b
use Rattle.first_broken.specs.declared.lines.Broken.{Broken}
use Rattle.first_broken.specs.declared.lines.Found.{Found}
use Rattle.first_broken.specs.Found.{Summary}

abbrev pub broken_of : Broken → b.Broken
broken_of x = record { fault = x.fault; at = x.at }

abbrev pub option_of : Option Broken → Option b.Broken
option_of None = None
option_of (Some x) = Some (broken_of x)

abbrev pub found_of : Found → Summary
found_of f = record { least = option_of f.least; blocks = f.blocks }
