use Rattle.std.proofs.Common.{rules, ◌≡◌, ◌∷◌, [], All, List, length, ap, ◌∙◌, arith, subst}
use Rattle.std.proofs.lemmas.List.{length-append}
use Rattle.bit_gates.proofs.Refusals.{cut_off}
use Rattle.path_formula.specs.declared.path.Step.{Step}
use Rattle.path_formula.proofs.Drafts.{all_rest}
use Rattle.path_formula.proofs.Asking.{plans_pop, plans_end, going_turn, going_cut, going_end}
use Rattle.path_formula.specs.Questions.{planned, question_of}
use Rattle.path_formula.specs.Paths.{IsStep}
use Rattle.path_formula.proofs.path.path_clauses.Goals as goal

pub take_step-requires-clause-step : goal.take_step-requires-clause-step
take_step-requires-clause-step c =
    (all_rest (IsStep c.args.graph.now) c.pop.new.self.items c.in-Some.step
    (subst (λ (t : List Step). All (IsStep c.args.graph.now) t) c.in-Some.ensures.items c.loop-step.invariant.1)).1

pub returns-in-Err-take_step-clause-cut : goal.returns-in-Err-take_step-clause-cut
returns-in-Err-take_step-clause-cut c =
    let g = c.args.graph.now in
    let es = c.loop-step.invariant.3.0 in
    let q = plans_pop g es c.loop-step.steps.items c.pop.new.self.items c.in-Some.step c.in-Some.ensures.items c.loop-step.invariant.3.1 in
    cut_off c.in-Err-take_step.end (question_of g c.args.path.now).clauses c.take_step.new.draft.clauses c.literals-literals.ensures.within
    (going_cut g c.args.path.now es q.behind q.edge (planned c.in-Some.step) c.loop-step.draft c.in-Err-take_step.end c.take_step.new.draft.clauses
    q.whole q.step_is c.in-Err-take_step.ensures.cut c.loop-step.invariant.3.2)

pub loop-step-preserved : goal.loop-step-preserved
loop-step-preserved c =
    let g = c.args.graph.now in
    let es = c.loop-step.invariant.3.0 in
    let items = c.in-Some.ensures.items in
    let q = plans_pop g es c.loop-step.steps.items c.pop.new.self.items c.in-Some.step items c.loop-step.invariant.3.1 in
    let s = c.in-Ok-take_step.ensures.stepped in
    let d = c.loop-step.draft in (
      c.in-Ok-take_step.ensures.draft,
      (all_rest (IsStep g) c.pop.new.self.items c.in-Some.step (subst (λ (t : List Step). All (IsStep g) t) items c.loop-step.invariant.1)).0,
      omega (
        arith,
        ap length s.starts,
        length-append d.starts.items (length d.clauses ∷ []),
        ap length items,
        length-append c.pop.new.self.items (c.in-Some.step ∷ []),
        c.loop-step.invariant.2,
      ),
      (
        q.behind,
        q.rest_is,
        going_turn g c.args.path.now es q.behind q.edge (planned c.in-Some.step) d c.take_step.new.draft q.whole q.step_is s c.loop-step.invariant.3.2,
      ),
    )

pub returns-clause-question : goal.returns-clause-question
returns-clause-question c =
    let g = c.args.graph.now in
    let es = c.loop-step.invariant.3.0 in
    let z : length c.loop-step.steps.items ≡ 0 = search rules in
    c.finished.ensures.question
    ∙ going_end g c.args.path.now es c.loop-step.draft (plans_end g es c.loop-step.steps.items z c.loop-step.invariant.3.1) c.loop-step.invariant.3.2
