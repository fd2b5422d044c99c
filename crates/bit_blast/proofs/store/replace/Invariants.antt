use Rattle.std.proofs.Common.{◌≡◌, ◌≤◌, ◌+◌, length, vec_len, map, take, drop}
use Rattle.bit_blast.specs.Held.{replaced}
use Rattle.bit_blast.proofs.store.replace.Given as goal

abbrev pub invariant-loop-to : goal.invariant-loop-to
invariant-loop-to l =
    let all = map (λ c. c.items) l.fn.news.items in
    let n = length l.news.items in
    (map (λ c. c.items) l.news.items ≡ take n all) × (n ≤ length all)
    × (length l.cells ≡ length l.initial.cells)
    × (l.cells ≡ replaced l.initial.cells (l.first + n) (drop n all))

abbrev pub decreases-loop-to : goal.decreases-loop-to
decreases-loop-to l = vec_len l.news
