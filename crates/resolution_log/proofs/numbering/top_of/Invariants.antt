use Rattle.std.proofs.Common.{◌≡◌, ℕ, ◌<◌, true, take}
use Rattle.prop.specs.Trues.{listed}
use Rattle.resolution_log.proofs.numbering.top_of.Given as goal

abbrev pub invariant-loop-var : goal.invariant-loop-var
invariant-loop-var l = (v : ℕ) → listed (take l.var-index l.vars) v ≡ true → v < l.top
