use Rattle.std.proofs.Common.{rules, arith, ◌≡◌, ℕ, ◌+◌, ◌-◌, ◌++◌, ◌<◌, ◌≤◌, ◌∙◌, length, List, get_or}
use Rattle.prop.specs.declared.Lit.{Lit}
use Rattle.clause_learning.specs.Trail.{Back, Set, SetAt}
use Rattle.clause_learning.specs.Covers.{RisesFrom, last_level}
use Rattle.clause_learning.proofs.TurnLaws.{jump_stop, jump_pop, jump_empty, jump_rises, jump_level, jump_nothing}
use Rattle.plain_solver.proofs.engine.jump.Goals as goal

pub loop-trail-preserved : goal.loop-trail-preserved
loop-trail-preserved c =
    let q : (c.len-in-loop-trail.result - 1) + 1 ≡ length c.loop-trail.trail.entries.items = omega (arith, c.loop-trail.trail.entries.ok.0, c.len.ensures, c.len-in-loop-trail.ensures, c.loop-trail-test.true) in
    let r = jump_rises c.args.low c.loop-trail.trail.entries.items c.pop.new.self.entries.items (c.len-in-loop-trail.result - 1) c.index-e.result.now c.pop.result q c.index-e.ensures c.if-e-low.false c.pop.ensures.entries c.loop-trail.invariant.rises c.loop-trail.invariant.low in
    record {
      back = λ known b. jump_pop known c.args.low c.args.trail.now.entries.items c.loop-trail.trail.entries.items c.pop.new.self.entries.items (c.len-in-loop-trail.result - 1) c.index-e.result.now c.pop.result (c.loop-trail.invariant.back known b) q c.index-e.ensures c.if-e-low.false c.pop.ensures.entries;
      rises = r.0;
      low = r.1;
      vars = c.pop.ensures.vars ∙ c.loop-trail.invariant.vars;
    }

pub returns-then-e-low : goal.returns-then-e-low
returns-then-e-low c =
    let q : (c.len-in-loop-trail.result - 1) + 1 ≡ length c.loop-trail.trail.entries.items = omega (arith, c.loop-trail.trail.entries.ok.0, c.len.ensures, c.len-in-loop-trail.ensures, c.loop-trail-test.true) in
    record {
      back = λ known b. let x = c.loop-trail.invariant.back known b in (x, jump_stop known c.args.low c.args.trail.now.entries.items c.loop-trail.trail.entries.items (c.len-in-loop-trail.result - 1) c.index-e.result.now x q c.index-e.ensures c.if-e-low.true);
      rises = c.loop-trail.invariant.rises;
      level = jump_level c.args.low c.loop-trail.trail.entries.items (c.len-in-loop-trail.result - 1) c.index-e.result.now q c.index-e.ensures c.if-e-low.true c.loop-trail.invariant.low;
      vars = c.loop-trail.invariant.vars;
    }

pub returns : goal.returns
returns c =
    let z : length c.loop-trail.trail.entries.items ≡ 0 = omega (arith, c.loop-trail.trail.entries.ok.0, c.len.ensures, c.loop-trail-test.false) in
    record {
      back = λ known b. (c.loop-trail.invariant.back known b, jump_empty c.args.low c.loop-trail.trail.entries.items z);
      rises = c.loop-trail.invariant.rises;
      level = jump_nothing c.args.low c.loop-trail.trail.entries.items z c.loop-trail.invariant.low;
      vars = c.loop-trail.invariant.vars;
    }
