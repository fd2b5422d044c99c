use Rattle.std.proofs.Common.{◌≡◌, take}
use Rattle.c_tree.specs.View.{params_of}
use Rattle.c_meaning.specs.Program as program
use Rattle.type_scopes.specs.Seen.{env_of}
use Rattle.typed_programs.proofs.functions.numbers_of.Given as goal

-- the numbers so far
abbrev pub invariant-loop-parameter : goal.invariant-loop-parameter
invariant-loop-parameter l = l.numbers.items ≡ program.params_numbers (env_of l.env) (params_of (take l.parameter-index l.parameters))
