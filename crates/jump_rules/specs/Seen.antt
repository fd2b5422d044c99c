-- Jumps of the program.
use Rattle.std.specs.Prelude.{List, map}
use Rattle.c_typed.specs.Rules as r
use Rattle.first_broken.specs.Seen.{found_of}
use Rattle.jump_rules.specs.declared.jumps.Jump.{Jump}
use Rattle.jump_rules.specs.declared.walk.Walk.{Walk}
use Rattle.jump_rules.specs.Walk.{State}

abbrev pub jump_of : Jump → r.Jump
jump_of j = r.jump j.name j.named_at j.at j.scope.items

abbrev pub jumps : List Jump → List r.Jump
jumps js = map jump_of js

abbrev pub state_of : Walk → State
state_of x = record { scope = x.scope.items; labels = jumps x.labels.items; gotos = jumps x.gotos.items; found = found_of x.found }
