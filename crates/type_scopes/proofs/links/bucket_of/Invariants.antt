use Rattle.std.proofs.Common.{◌≡◌, ◌<◌, length}
use Rattle.type_scopes.specs.Buckets.{bucket, turned_by}
use Rattle.type_scopes.proofs.links.bucket_of.Given as goal

abbrev pub invariant-bytes : goal.invariant-bytes
invariant-bytes l = (turned_by l.at l.rest ≡ bucket l.tag l.bytes) × (l.at < 65521)

abbrev pub decreases-bytes : goal.decreases-bytes
decreases-bytes l = length l.rest
