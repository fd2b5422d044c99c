use Rattle.std.proofs.Common.{rules, arith, ◌≡◌, ◌∙◌, ℕ, ◌<◌, ◌≤◌, List, length, ap, sym, subst}
use Rattle.watched_clauses.specs.Kept.{IsLinked}
use Rattle.cdcl_solver.specs.Search.{Rests}
use Rattle.cdcl_solver.proofs.GoneLaws.{rests_at}
use Rattle.cdcl_solver.proofs.engine.go_on.Goals as goal

pub start_over-requires : goal.start_over-requires
start_over-requires c = subst (λ (w : List ℕ). IsLinked w c.args.s.board.rows c.args.s.board.level c.args.s.board.trail) (sym c.as_slice.ensures.value) c.requires.rests.linked

pub returns-clause-state : goal.returns-clause-state
returns-clause-state c =
    let b = c.in_ok-board.board in
    let l0 : IsLinked c.args.s.vars.items b.rows 0 b.trail = subst (λ (w : List ℕ). IsLinked w b.rows 0 b.trail) c.as_slice.ensures.value c.in_ok-board.ensures.linked in
    let l : IsLinked c.args.s.vars.items b.rows b.level b.trail = subst (λ n. IsLinked c.args.s.vars.items b.rows n b.trail) (sym c.in_ok-board.ensures.level) l0 in
    record {
      rests = rests_at c.args.clauses.now c.args.s.vars.items c.args.s.board.rows b.rows c.args.s.board.level b.level c.args.s.board.trail b.trail c.args.s.log c.in_ok-board.ensures.rows l c.requires.rests;
      short = c.requires.short;
      counted = c.requires.counted;
      light = c.requires.light;
      few = omega (arith, c.requires.few, ap length c.in_ok-board.ensures.rows);
      stamps = c.requires.stamps;
      pace = c.paced-next.ensures.some;
    }
