use Rattle.std.proofs.Common.{◌≡◌, take, map}
use Rattle.first_broken.specs.Found.{summary}
use Rattle.first_broken.specs.Seen.{found_of, broken_of}
use Rattle.declaration_rules.proofs.doubles.summed.Given as goal

-- the sum of those so far
abbrev pub invariant-loop-broken : goal.invariant-loop-broken
invariant-loop-broken l = found_of l.all ≡ summary (map broken_of (take l.broken-index l.lines))
