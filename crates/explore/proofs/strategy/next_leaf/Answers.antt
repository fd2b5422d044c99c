use Rattle.std.proofs.Common.{◌≡◌, ◌≤◌, false, length, sym, ap, subst, arith, rules}
use Rattle.cover_engine.specs.Unwindings.{Unwound, is_complete}
use Rattle.explore.proofs.Leaves.{open_incomplete}
use Rattle.explore.proofs.strategy.next_leaf.Goals as goal

pub returns-then-journal-budget-clause-ended : goal.returns-then-journal-budget-clause-ended
returns-then-journal-budget-clause-ended c =
    let (lt, both) = c.in-Some.ensures.highest in
    let many : c.args.budget.units ≤ length c.highest_open.new.self.journal =
    first_of (search rules, omega (arith, c.if-journal-budget.true, ap length c.journal.ensures)) in (
      many,
      subst (λ (u : Unwound). is_complete c.args.graph.now u ≡ false) (sym c.highest_open.ensures.unchanged)
          (open_incomplete c.args.graph.now c.args.unwinding.now (length c.args.unwinding.now.vertices) c.in-Some.leaf lt both.0),
    )
