use Rattle.std.proofs.Common.{◌≡◌, [], true, false, refl}
use Rattle.std.proofs.lemmas.Bool.{both_ways}
use Rattle.resolution_log.proofs.laws.none_is_new_over_empty.Goals as goal

pub returns : goal.returns
returns c clauses r h n = n.includes_none [] h (λ l k. absurd (both_ways false refl k))
