use Rattle.std.proofs.Common.{rules, arith, ◌≡◌, ◌∙◌, ap, sym, [], refl, List, length, subst, ◌<◌}
use Rattle.resolution_log.specs.Codes.{CoversAll}
use Rattle.clause_learning.specs.Covers.{RisesFrom, last_level}
use Rattle.clause_learning.specs.Solve.{pairs_of}
use Rattle.clause_learning.proofs.MeetLaws.{start_state}
use Rattle.plain_solver.proofs.engine.start.Goals as goal

pub returns : goal.returns
returns c = record {
  state = record {
    state = start_state c.args.clauses.now c.in_ok-known.known c.new-entries.result.items c.new-log.result c.in_ok-known.ensures c.requires.some c.new-entries.ensures.items c.new-log.ensures;
    short = omega (arith, ap length c.new-log.ensures, c.requires.learn);
    counted = sym (ap pairs_of c.new-log.ensures);
    light = omega (arith, ap pairs_of c.new-log.ensures, c.requires.limit);
    covers = rw c.in_ok-known.ensures c.in_ok-vars.ensures.covers;
    rises = subst (RisesFrom 0) (sym c.new-entries.ensures.items) tt;
    level = ap (last_level 0) c.new-entries.ensures.items;
    few = omega (arith, ap length c.in_ok-known.ensures, c.len.ensures.within);
  };
}
