use Rattle.std.specs.Option.{option_copied}
use Rattle.type_scopes.specs.Found.{some_initial}
use Rattle.type_scopes.proofs.Walks.{IsGathering}
use Rattle.type_scopes.proofs.collected.Declarations.initial_of.Given as goal

abbrev pub invariant-rows : goal.invariant-rows
invariant-rows l = IsGathering l.number l.self-inside.rows.items (some_initial (option_copied l.found)) l.left

abbrev pub decreases-rows : goal.decreases-rows
decreases-rows l = l.left
