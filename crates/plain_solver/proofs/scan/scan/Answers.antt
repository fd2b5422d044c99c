use Rattle.std.proofs.Common.{rules, ◌≡◌, ◌∙◌, sym, ap, ℕ}
use Rattle.plain_solver.proofs.ScanLaws.{scan_next}
use Rattle.plain_solver.proofs.scan.scan.Goals as goal
use Rattle.plain_solver.proofs.scan.scan.Goals.{in-Satisfied, in-Open}

pub returns-in-AllFalse : goal.returns-in-AllFalse
returns-in-AllFalse c = sym (scan_next c.args.trail.now.entries.items c.args.known.now c.loop-i.i c.clause.result.now c.loop-i.open _ c.clause.ensures c.in-AllFalse.ensures c.loop-i.invariant)

pub returns-in-Lone : goal.returns-in-Lone
returns-in-Lone c = sym (scan_next c.args.trail.now.entries.items c.args.known.now c.loop-i.i c.clause.result.now c.loop-i.open _ c.clause.ensures c.in-Lone.ensures c.loop-i.invariant)

pub loop-i-preserved : goal.loop-i-preserved
loop-i-preserved c = elim c.match-look_at.branch [
  | in-Satisfied w ↦ rw w.open-is (scan_next c.args.trail.now.entries.items c.args.known.now c.loop-i.i c.clause.result.now c.loop-i.open _ c.clause.ensures w.in-Satisfied.ensures c.loop-i.invariant)
  | in-Open w ↦ rw w.open-is (scan_next c.args.trail.now.entries.items c.args.known.now c.loop-i.i c.clause.result.now c.loop-i.open _ c.clause.ensures w.in-Open.ensures c.loop-i.invariant)
]
