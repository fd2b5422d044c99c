use Rattle.std.proofs.Common.{◌≡◌, ℕ, List, [], length, get_or}
use Rattle.watched_clauses.specs.Contents.{contents}
use Rattle.watched_clauses.proofs.lists.WatchLists.new.Given as goal

abbrev pub invariant-loop-code : goal.invariant-loop-code
invariant-loop-code l = (length l.lists.items ≡ l._code) × ((code : ℕ) → get_or (contents l.lists.items) code [] ≡ [])
