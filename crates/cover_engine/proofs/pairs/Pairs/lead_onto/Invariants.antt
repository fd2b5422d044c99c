use Rattle.std.proofs.Common.{◌≡◌, drop}
use Rattle.cover_engine.specs.Caches.{lead_onto}
use Rattle.cover_engine.proofs.pairs.Pairs.lead_onto.Given as goal

abbrev pub invariant-loop-number : goal.invariant-loop-number
invariant-loop-number l = lead_onto l.self (drop l.number-index l.numbers) ≡ lead_onto l.self l.numbers
