use Rattle.std.proofs.Common.{rules, arith, ◌≡◌, ◌∙◌, ℕ, ◌<◌, ◌≤◌, length, ap, sym, subst}
use Rattle.cdcl_solver.proofs.GoneLaws.{gone_linked, gone_kept}
use Rattle.cdcl_solver.proofs.board.start_over.Goals as goal

pub invariant_of-result : goal.invariant_of-result
invariant_of-result c =
    let b = c.args.board in
    let deep : 0 < b.level = omega (arith, c.if-board-eq0.false) in
    let t2 = c.go_back.new.trail in
    record {
      watching = gone_kept c.args.vars.now b.rows b.trail b.level c.requires 0 deep t2 c.in_ok-go_back.ensures.back c.in_ok-go_back.ensures.rises c.in_ok-go_back.ensures.levels b.watches.items b.lists b.head c.len-head.result (omega (arith, c.len-head.ensures, t2.codes.ok.0)) b.watching;
      within = omega (arith, c.len-head.ensures, t2.codes.ok.0);
      all = b.all ∙ sym c.in_ok-go_back.ensures.wide;
      deep = omega arith;
      ordered = c.in_ok-go_back.ensures.ordered ∙ b.ordered ∙ sym (ap length c.in_ok-go_back.ensures.levels);
    }

pub returns-clause-linked : goal.returns-clause-linked
returns-clause-linked c =
    let b = c.args.board in
    let deep : 0 < b.level = omega (arith, c.if-board-eq0.false) in
    gone_linked c.args.vars.now b.rows b.trail b.level c.requires 0 deep c.go_back.new.trail c.in_ok-go_back.ensures.back c.in_ok-go_back.ensures.rises c.in_ok-go_back.ensures.levels
