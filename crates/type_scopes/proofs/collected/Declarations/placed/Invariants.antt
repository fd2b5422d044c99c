use Rattle.std.specs.Option.{option_copied}
use Rattle.type_scopes.specs.Found.{some_entry}
use Rattle.type_scopes.specs.Chains.{by_order}
use Rattle.type_scopes.specs.Walking.{is_placed}
use Rattle.type_scopes.proofs.Joining.{IsFinding}
use Rattle.type_scopes.proofs.collected.Declarations.placed.Given as goal

abbrev pub invariant-rows : goal.invariant-rows
invariant-rows l = IsFinding by_order 0 (is_placed l.at) l.self-inside.rows.items (some_entry (option_copied l.first)) l.left

abbrev pub decreases-rows : goal.decreases-rows
decreases-rows l = l.left
