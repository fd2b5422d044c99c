use Rattle.type_scopes.specs.Buckets.{bucket}
use Rattle.type_scopes.specs.Chains.{by_name}
use Rattle.c_meaning.specs.Scope.{is_tag}
use Rattle.type_scopes.specs.Seen.{declared_of, what_of}
use Rattle.type_scopes.specs.Walking.{is_twin}
use Rattle.type_scopes.proofs.Joining.{IsSeeking}
use Rattle.type_scopes.proofs.collected.Declarations.twin_before.Given as goal

abbrev pub invariant-bucket : goal.invariant-bucket
invariant-bucket l = IsSeeking by_name (bucket (is_tag (what_of l.this.entry.what)) l.this.entry.name.now) (is_twin (declared_of l.this.entry)) l.self-inside.rows.items l.place l.left

abbrev pub decreases-bucket : goal.decreases-bucket
decreases-bucket l = l.left
