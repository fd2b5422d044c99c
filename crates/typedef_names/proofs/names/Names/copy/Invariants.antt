use Rattle.std.proofs.Common.{◌≡◌, ◌++◌, length}
use Rattle.typedef_names.specs.Chains.{names_of}
use Rattle.typedef_names.proofs.names.Names.copy.Given as goal

abbrev pub invariant-entries : goal.invariant-entries
invariant-entries l = l.copied ++ names_of l.rest ≡ l.self

abbrev pub decreases-entries : goal.decreases-entries
decreases-entries l = length l.rest
