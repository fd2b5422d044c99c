use Rattle.std.specs.Option.{option_copied}
use Rattle.type_scopes.specs.Found.{some_entry}
use Rattle.type_scopes.proofs.Walks.{IsOnWay}
use Rattle.type_scopes.proofs.collected.Declarations.visible.Given as goal

abbrev pub invariant-bucket : goal.invariant-bucket
invariant-bucket l = IsOnWay l.tag l.name l.at l.self-inside.rows.items (some_entry (option_copied l.best)) l.left

abbrev pub decreases-bucket : goal.decreases-bucket
decreases-bucket l = l.left
