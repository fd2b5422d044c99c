use Rattle.std.proofs.Common.{◌≡◌, ◌*◌, ◌≤◌, length}
use Rattle.resolution_log.specs.Codes.{AllBelow}
use Rattle.conflict_analysis.specs.Notes.{counted}
use Rattle.conflict_analysis.specs.Minimizing.{is_implied, kept, Minimizing, StaysTaught}
use Rattle.conflict_analysis.proofs.MinimalLaws.{Walked}
use Rattle.conflict_analysis.proofs.minimizing.resolve_implied.Given as goal

abbrev pub invariant-walk : goal.invariant-walk
invariant-walk l = record {
  minimizing : Minimizing l.vars l.rows l.trail l.uip l.left l.notes.epoch l.notes.stamps.items l.notes.learnt.items l.pairs;
  taught : StaysTaught l.vars l.rows l.trail l.uip l.left (kept l.initial.notes.epoch l.initial.notes.stamps.items l.initial.notes.learnt.items) l.initial.pairs (kept l.notes.epoch l.notes.stamps.items l.notes.learnt.items) l.pairs;
  learnt : l.notes.learnt.items ≡ l.initial.notes.learnt.items;
  stamps : length l.notes.stamps.items ≡ length l.vars;
  within : l.at ≤ l.left;
  walked : Walked l.notes.epoch l.notes.stamps.items l.rows l.trail.reasons.items l.trail.codes.items l.left l.at;
  enough : counted (is_implied l.notes.epoch l.notes.stamps.items l.rows l.trail.reasons.items l.uip) (kept l.notes.epoch l.notes.stamps.items l.notes.learnt.items) ≤ l.rest;
  gone : AllBelow (2 * length l.vars) l.gone.items;
}

abbrev pub decreases-walk : goal.decreases-walk
decreases-walk l = l.at
