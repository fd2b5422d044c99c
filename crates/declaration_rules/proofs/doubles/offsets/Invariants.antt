use Rattle.std.proofs.Common.{◌≡◌, take, map}
use Rattle.c_run.specs.Breaking as br
use Rattle.first_broken.specs.Seen.{broken_of}
use Rattle.declaration_rules.proofs.doubles.offsets.Given as goal

-- those so far
abbrev pub invariant-loop-broken : goal.invariant-loop-broken
invariant-loop-broken l = l.list.items ≡ map (λ (b : br.Broken). b.at) (map broken_of (take l.broken-index l.lines))
