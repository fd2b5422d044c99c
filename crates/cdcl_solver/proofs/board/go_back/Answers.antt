use Rattle.std.proofs.Common.{rules, arith, ◌≡◌, ◌∙◌, ℕ, ◌+◌, ◌-◌, ◌<◌, ◌≤◌, length, sym, ap, subst, get_or, ◌*◌, ◌/◌, length-set}
use Rattle.cdcl_solver.specs.Stops.{trail_entries}
use Rattle.cdcl_solver.proofs.BackLaws.{last_fits, back_stop, rises_stop, back_step, rises_step, back_empty, rises_empty}
use Rattle.cdcl_solver.proofs.board.go_back.Goals as goal
use Rattle.cdcl_solver.proofs.board.go_back.Goals.{After-index-code}

some : (c : After-index-code) → 0 < length c.back.trail.codes.items
some c = omega (arith, c.len.ensures, c.back-test.true, c.back.trail.codes.ok.0)

read : (c : After-index-code) → c.index-code.result.now ≡ get_or c.back.trail.codes.items (length c.back.trail.codes.items - 1) c.index-code.result.now
read c = let q : c.len-in-back.result - 1 ≡ length c.back.trail.codes.items - 1 = omega (arith, c.len-in-back.ensures, c.back.trail.codes.ok.0) in c.index-code.ensures ∙ ap (λ n. get_or c.back.trail.codes.items n c.index-code.result.now) q

pub index-requires : goal.index-requires
index-requires c =
    let w = (goal.at.index-requires c).After-index-code in
    let q = last_fits c.back.trail (some w) c.index-code.result.now (read w) in
    omega (arith, q, c.back.trail.levels.ok.0)

pub returns-then-index-low-clause-back : goal.returns-then-index-low-clause-back
returns-then-index-low-clause-back c vars known b =
    let w = (goal.at.returns-then-index-low-clause-back c).After-index-code in
    let x = c.back.invariant.back vars known b in
    (x, back_stop c.back.trail (some w) c.index-code.result.now (read w) vars c.index.result.now c.index.ensures known c.args.low (trail_entries vars c.args.trail.now) x c.if-index-low.true)

pub returns-then-index-low-clause-rises : goal.returns-then-index-low-clause-rises
returns-then-index-low-clause-rises c vars r le =
    let w = (goal.at.returns-then-index-low-clause-rises c).After-index-code in
    rises_stop c.back.trail (some w) c.index-code.result.now (read w) vars c.index.result.now c.index.ensures c.args.low (c.back.invariant.rises vars r le) c.if-index-low.true

pub back-preserved : goal.back-preserved
back-preserved c =
    let w = (goal.at.back-preserved c).After-index-code in
    record {
      back = λ vars known b. back_step c.back.trail (some w) c.index-code.result.now (read w) vars c.index.result.now c.index.ensures c.pop.new.self c.pop.result c.pop.ensures.codes c.pop.ensures.levels c.pop.ensures.reasons known c.args.low (trail_entries vars c.args.trail.now) c.if-index-low.false (c.back.invariant.back vars known b);
      rises = λ vars r le. rises_step c.back.trail (some w) c.index-code.result.now (read w) vars c.index.result.now c.index.ensures c.pop.new.self c.pop.result c.pop.ensures.codes c.pop.ensures.levels c.pop.ensures.reasons c.args.low c.if-index-low.false (c.back.invariant.rises vars r le);
      levels = c.pop.ensures.levels ∙ c.back.invariant.levels;
      reasons = c.pop.ensures.reasons ∙ c.back.invariant.reasons;
      ordered = ap length c.in_ok-put_back.ensures.phases ∙ length-set c.back.order.phases.items (c.index-code.result.now / 2) _ ∙ c.back.invariant.ordered;
      wide = c.pop.new.self.wide ∙ ap (λ w. 2 * length w) c.pop.ensures.levels ∙ sym c.back.trail.wide ∙ c.back.invariant.wide;
    }

pub put_back-requires : goal.put_back-requires
put_back-requires c =
    let w = (goal.at.put_back-requires c).After-index-code in
    let q = last_fits c.back.trail (some w) c.index-code.result.now (read w) in
    omega (arith, q, c.requires, c.back.invariant.ordered, ap length c.back.invariant.levels)
