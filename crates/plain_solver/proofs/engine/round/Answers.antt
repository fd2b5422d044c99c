use Rattle.std.proofs.Common.{rules, ◌≡◌, ℕ, List, subst, Some, slice_get}
use Rattle.prop.specs.declared.Lit.{Lit}
use Rattle.plain_solver.specs.Search.{IsStop}
use Rattle.plain_solver.proofs.RoundLaws.{round_begin, round_met, round_state}
use Rattle.clause_learning.proofs.MeetLaws.{round_index}
use Rattle.plain_solver.proofs.engine.round.Goals as goal

pub on_conflict-requires-clause-begin : goal.on_conflict-requires-clause-begin
on_conflict-requires-clause-begin c =
    let (d, g, f) = subst (IsStop c.args.s.known c.settle.new.trail.entries.items) c.in-Clash.is c.in_ok-settle.ensures.stop in
    round_begin c.args.clauses.now c.args.learn c.args.limit c.args.s c.requires.state c.settle.new.level c.settle.new.trail.entries.items c.in_ok-settle.ensures.holds c.in-Clash.k d g f

pub on_conflict-requires-clause-index : goal.on_conflict-requires-clause-index
on_conflict-requires-clause-index c =
    let (d, g, f) = subst (IsStop c.args.s.known c.settle.new.trail.entries.items) c.in-Clash.is c.in_ok-settle.ensures.stop in
    round_index c.args.s.known c.in-Clash.k d g

pub on_conflict-requires-clause-state : goal.on_conflict-requires-clause-state
on_conflict-requires-clause-state c = record {
  state = round_state c.args.clauses.now c.args.learn c.args.limit c.args.s c.requires.state c.settle.new.level c.settle.new.trail.entries.items c.in_ok-settle.ensures.holds;
  short = c.requires.state.short;
  counted = c.requires.state.counted;
  light = c.requires.state.light;
  covers = rw c.in_ok-settle.ensures.vars c.requires.state.covers;
  rises = c.in_ok-settle.ensures.rises;
  level = c.in_ok-settle.ensures.level;
  few = c.requires.state.few;
}

pub returns-in-AllMet-clause-turn : goal.returns-in-AllMet-clause-turn
returns-in-AllMet-clause-turn c = round_met c.args.clauses.now c.args.learn c.args.limit c.args.s c.requires.state c.settle.new.level c.settle.new.trail.entries.items c.in_ok-settle.ensures.holds (subst (IsStop c.args.s.known c.settle.new.trail.entries.items) c.in-AllMet.is c.in_ok-settle.ensures.stop)
