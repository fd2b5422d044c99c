use Rattle.std.proofs.Common.{◌≡◌, [], take}
use Rattle.first_broken.specs.Seen.{found_of}
use Rattle.first_broken.specs.Found.{summary}
use Rattle.source_rules.specs.Cases as c
use Rattle.source_rules.proofs.cases.duplicates.Given as goal

-- the sum of those so far, and what shows them
abbrev pub invariant-loop-case : goal.invariant-loop-case
invariant-loop-case l = record {
  all : found_of l.all ≡ summary (c.repeated [] (c.cases (take l.case-index l.cases)));
  past : c.Shows l.past.values.keys l.past.has_default (c.cases (take l.case-index l.cases));
}
