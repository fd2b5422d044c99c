use Rattle.std.proofs.Common.{◌≡◌, drop}
use Rattle.block_emission.specs.Putting as made
use Rattle.block_emission.proofs.draft.Draft.waits.Given as goal

abbrev pub invariant-loop-number : goal.invariant-loop-number
invariant-loop-number l = made.waits (drop l.number l.self.waiting.items) l.node ≡ made.waits l.self.waiting.items l.node
