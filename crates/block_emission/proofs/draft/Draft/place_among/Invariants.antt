use Rattle.std.proofs.Common.{◌≡◌, ◌+◌, drop}
use Rattle.block_emission.specs.Putting as made
use Rattle.block_emission.proofs.draft.Draft.place_among.Given as goal

abbrev pub invariant-loop-number : goal.invariant-loop-number
invariant-loop-number l = l.number + made.place_among (drop l.number l.self.waiting.items) l.node ≡ made.place_among l.self.waiting.items l.node
