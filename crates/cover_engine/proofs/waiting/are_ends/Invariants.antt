use Rattle.std.proofs.Common.{◌≡◌, drop}
use Rattle.cover_engine.specs.Openings.{all_end}
use Rattle.cover_engine.proofs.waiting.are_ends.Given as goal

abbrev pub invariant-loop-number : goal.invariant-loop-number
invariant-loop-number l = all_end l.nodes (drop l.number-index l.numbers) ≡ all_end l.nodes l.numbers
