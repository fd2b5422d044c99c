use Rattle.std.proofs.Common.{rules, ◌≡◌, ℕ, List, subst, [], sym, ap, ◌∙◌}
use Rattle.prop.specs.declared.Lit.{Lit}
use Rattle.prop.specs.Steps.{Has, In}
use Rattle.clause_learning.specs.Trail.{Set, Holds}
use Rattle.clause_learning.specs.Solve.{trues_of}
use Rattle.dense_trail.specs.Dense.{known_of}
use Rattle.cdcl_solver.specs.declared.board.Stop.TheVariants.{AllMet}
use Rattle.cdcl_solver.specs.Stops.{IsStop, trail_entries}
use Rattle.cdcl_solver.proofs.TurnLaws.{turn_met}
use Rattle.cdcl_solver.proofs.engine.round.Goals as goal

pub returns-in_ok-met-in-AllMet-clause-turn : goal.returns-in_ok-met-in-AllMet-clause-turn
returns-in_ok-met-in-AllMet-clause-turn c =
    let v : List ℕ = c.args.s.vars.items in
    let t = c.in_ok-board.field-0.board.trail in
    let e = c.in_ok-board.ensures.stop v c.requires.state.rests.linked in
    let stops : c.in_ok-board.field-0.stop ≡ AllMet = search rules in
    let met = subst (IsStop v c.in_ok-board.field-0.board.rows t) stops e.1 in
    let same' : c.in_ok-board.field-0.board.rows ≡ c.args.s.board.rows = c.in_ok-board.ensures.rows in
    turn_met c.args.clauses.now (known_of v c.args.s.board.rows) c.args.s.board.level c.in_ok-board.field-0.board.level (trail_entries v c.args.s.board.trail) (trail_entries v t) c.args.s.log c.in_ok-met-in-AllMet.met.items c.requires.state.rests.state
    (subst (λ (w : List (List ℕ)). Holds (known_of v w) c.in_ok-board.field-0.board.level (trail_entries v t)) same' e.0.holds)
    (subst (λ (w : List (List ℕ)). (c : List Lit) → In (known_of v w) c → ((l : Lit) → Has c l → Set (trail_entries v t) l → ⊥) → c ≡ []) same' met)
    (c.in_ok-met-in-AllMet.ensures ∙ ap (λ (w : List ℕ). trues_of (trail_entries w t)) c.deref.ensures.value)
