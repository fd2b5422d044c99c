use Rattle.std.proofs.Common.{arith, ◌≡◌, ◌∙◌, ℕ, ◌+◌, ◌/◌, ◌≤◌, List, length, sym, ap, subst, ◌++◌, ◌∷◌, [], length-append, length-set, true, Option, None, MatchOption}
use Rattle.watched_clauses.specs.Kept.{IsFalse}
use Rattle.cdcl_solver.proofs.DecideLaws.{all_met, decide_linked, decide_kept}
use Rattle.cdcl_solver.proofs.board.run_on.Goals as goal

pub returns-in_default-choice-clause-stop : goal.returns-in_default-choice-clause-stop
returns-in_default-choice-clause-stop c vars l =
    let t = c.propagate.new.trail in
    let linked = c.in_ok-clash.ensures.linked vars (c.search.invariant.linked vars l) in
    let done : length t.codes.items ≤ c.propagate.new.head = subst (λ (o : Option ℕ). MatchOption o (length t.codes.items ≤ c.propagate.new.head) (IsFalse c.args.rows.now t)) c.in_default.is c.in_ok-clash.ensures.result in
    (linked, all_met vars c.args.rows.now c.propagate.new.watches c.propagate.new.lists t c.search.level c.propagate.new.head c.in_ok-clash.ensures.watching done linked c.in_default-choice.ensures.choice)

pub search-preserved : goal.search-preserved
search-preserved c =
    let t = c.propagate.new.trail in
    let code = c.in-Some-choice.code in
    let found = c.in-Some-choice.ensures.choice in
    let done : length t.codes.items ≤ c.propagate.new.head = subst (λ (o : Option ℕ). MatchOption o (length t.codes.items ≤ c.propagate.new.head) (IsFalse c.args.rows.now t)) c.in_default.is c.in_ok-clash.ensures.result in
    record {
      watching = decide_kept c.args.rows.now c.propagate.new.watches c.propagate.new.lists t c.search.level c.propagate.new.head c.in_ok-clash.ensures.watching done c.in_ok-clash.ensures.head code found.0 found.1 found.2 c.push.new.self c.in_ok-push.ensures.codes c.in_ok-push.ensures.truth c.in_ok-push.ensures.levels;
      within = omega (arith, c.in_ok-clash.ensures.head, ap length c.in_ok-push.ensures.codes, length-append t.codes.items (code ∷ []));
      all = c.in_ok-clash.ensures.lists ∙ sym (ap length c.in_ok-push.ensures.truth ∙ length-set t.truth.items code true);
      linked = λ vars l. decide_linked vars c.args.rows.now c.propagate.new.watches c.propagate.new.lists t c.search.level c.propagate.new.head c.in_ok-clash.ensures.watching done (c.in_ok-clash.ensures.linked vars (c.search.invariant.linked vars l)) code found.0 found.1 found.2 c.push.new.self c.in_ok-push.ensures.codes c.in_ok-push.ensures.truth c.in_ok-push.ensures.levels c.in_ok-push.ensures.reasons;
      deep = omega (arith, c.search.invariant.deep, c.in_ok-clash.ensures.grown, ap length c.in_ok-push.ensures.codes, length-append t.codes.items (code ∷ []));
      ordered = omega (arith, c.in-Some-choice.ensures.ordered, c.search.invariant.ordered, c.in_ok-clash.ensures.wide, t.wide, c.search.trail.wide, ap length c.in_ok-push.ensures.levels, length-set t.levels.items (code / 2) (c.search.level + 1));
    }
