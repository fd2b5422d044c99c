use Rattle.std.proofs.Common.{None, false}
use Rattle.type_scopes.specs.Buckets.{bucket}
use Rattle.type_scopes.specs.Chains.{by_name}
use Rattle.type_scopes.specs.Walking.{is_in_file}
use Rattle.type_scopes.proofs.Joining.{IsFinding}
use Rattle.type_scopes.proofs.collected.Declarations.first_place.Given as goal

-- nothing is found so far
abbrev pub invariant-bucket : goal.invariant-bucket
invariant-bucket l = IsFinding by_name (bucket false l.name) (is_in_file l.name) l.self-inside.rows.items None l.left

abbrev pub decreases-bucket : goal.decreases-bucket
decreases-bucket l = l.left
