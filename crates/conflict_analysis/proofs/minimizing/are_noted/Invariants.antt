use Rattle.std.proofs.Common.{◌≡◌, drop}
use Rattle.conflict_analysis.specs.Minimizing.{all_noted}
use Rattle.conflict_analysis.proofs.minimizing.are_noted.Given as goal

abbrev pub invariant-loop-code : goal.invariant-loop-code
invariant-loop-code l = all_noted l.epoch l.stamps l.but (drop l.code-index l.row) ≡ all_noted l.epoch l.stamps l.but l.row
