use Rattle.std.proofs.Common.{rules, ◌≡◌, ◌∙◌, ap, sym, subst, length}
use Rattle.watched_clauses.specs.Kept.{KeepsWatch}
use Rattle.cdcl_solver.proofs.DecideLaws.{lent_back}
use Rattle.cdcl_solver.proofs.board.settle.Goals as goal

pub invariant_of-result : goal.invariant_of-result
invariant_of-result c =
    let b = c.args.board in
    let lent = lent_back b.watches.len c.run_on.new.watches b.watches.items (c.run_on.auto.watches ∙ ap length c.deref_mut.ensures.value) b.watches.ok.0 in
    record {
      watching = subst (λ w. KeepsWatch b.rows w c.run_on.new.lists c.run_on.new.trail c.run_on.new.level c.run_on.new.head) (sym lent) c.in_ok-stop.ensures.watching;
      within = c.in_ok-stop.ensures.within;
      all = c.in_ok-stop.ensures.all;
      deep = c.in_ok-stop.ensures.deep;
      ordered = c.in_ok-stop.ensures.ordered;
    }
