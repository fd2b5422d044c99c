use Rattle.std.proofs.Common.{◌≡◌, ◌≤◌, ◌-◌, slice_index}
use Rattle.program_graphs.specs.Weighing.{total}
use Rattle.block_follow.specs.Made as made
use Rattle.block_follow.proofs.sizes.are_few.Given as goal

abbrev pub invariant-loop-number : goal.invariant-loop-number
invariant-loop-number l =
    (total (slice_index l.sizes) l.number ≡ l.sum) × (l.sum ≤ l.most) × (l.number ≤ l.count)
    × (made.are_few l.sizes l.count l.most ≡ made.few_from l.sizes l.most (l.count - l.number) l.number l.sum)
