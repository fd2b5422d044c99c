use Rattle.std.proofs.Common.{◌≡◌, ◌<◌, List, drop}
use Rattle.prop.specs.declared.Lit.{Lit}
use Rattle.resolution_log.specs.Chains.{chain_from}
use Rattle.resolution_log.specs.Codes.{AreRows}
use Rattle.resolution_log.specs.Marks.{Sofar}
use Rattle.resolution_log.proofs.check.run_pairs.Given as goal

abbrev pub invariant-loop-p : goal.invariant-loop-p
invariant-loop-p l = (cs : List (List Lit)) (c : List Lit) → AreRows l.vars l.rows cs → 0 < l.epoch → Sofar l.vars l.epoch l.initial.stamps l.initial.members.items c → (c2 : List Lit) × Sofar l.vars l.epoch l.stamps l.members.items c2 × (chain_from cs c2 (drop l.p-index l.pairs) ≡ chain_from cs c l.pairs)
