use Rattle.std.proofs.Common.{◌≡◌, take}
use Rattle.c_tree.specs.View.{parts_of}
use Rattle.c_meaning.specs.Program as program
use Rattle.type_scopes.specs.Seen.{env_of}
use Rattle.typed_programs.proofs.values.constants.Given as goal

-- the values so far
abbrev pub invariant-loop-part : goal.invariant-loop-part
invariant-loop-part l = l.values.items ≡ program.constants (env_of l.env) l.model l.kind (parts_of (take l.part-index l.parts))
