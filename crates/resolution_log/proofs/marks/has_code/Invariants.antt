use Rattle.std.proofs.Common.{◌≡◌, drop}
use Rattle.prop.specs.Trues.{listed}
use Rattle.resolution_log.proofs.marks.has_code.Given as goal

abbrev pub invariant-loop-k : goal.invariant-loop-k
invariant-loop-k l = listed l.row l.code ≡ listed (drop l.k-index l.row) l.code
