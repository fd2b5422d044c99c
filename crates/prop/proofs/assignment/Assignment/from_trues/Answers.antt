use Rattle.std.proofs.Common.{ℕ}
use Rattle.std.proofs.lemmas.List.Sorted.{IsNonDecreasingBy-from_sort}
use Rattle.prop.proofs.Trues.{listed_permuted}
use Rattle.prop.proofs.assignment.Assignment.from_trues.Goals as goal

pub invariant_of-result : goal.invariant_of-result
invariant_of-result c = IsNonDecreasingBy-from_sort (λ (x : ℕ). x) c.sort_unstable.new.self.items c.sort_unstable.ensures.sorted

pub returns : goal.returns
returns c v = listed_permuted c.args.trues.items c.sort_unstable.new.self.items c.sort_unstable.ensures.permutation v
