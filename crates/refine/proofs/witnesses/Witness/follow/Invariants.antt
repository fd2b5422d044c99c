use Rattle.std.proofs.Common.{◌≡◌, length}
use Rattle.refine.specs.Witnesses.{IsKnown}
use Rattle.refine.proofs.witnesses.Witness.follow.Given as goal

abbrev pub invariant-loop-number : goal.invariant-loop-number
invariant-loop-number l =
    IsKnown l.terms (record { store = l.self-inside.store; truths = l.self-inside.truths.items })
    × (length l.self-inside.truths.items ≡ l.number) × (l.self-inside.store ≡ l.fn.self.store)
