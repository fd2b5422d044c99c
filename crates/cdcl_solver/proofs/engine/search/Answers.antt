use Rattle.std.proofs.Common.{rules, ◌≡◌, ◌∙◌, ap, ◌++◌, ◌∷◌, [], refl, List}
use Rattle.resolution_log.specs.declared.Chain.{Chain}
use Rattle.clause_learning.proofs.MeetLaws.{empty_lean}
use Rattle.cdcl_solver.proofs.engine.search.Goals as goal

pub returns-in-Some : goal.returns-in-Some
returns-in-Some c =
    let ch : Chain = record { first = c.in-Some.first; pairs = c.new-pairs.result } in
    empty_lean c.args.clauses.now c.args.learn c.in-Some.first ch c.push.new.self c.requires.learn c.in-Some.ensures refl c.new-pairs.ensures (c.in_ok-push.ensures.pushed ∙ ap (λ w. w ++ (ch ∷ [])) c.new-log.ensures)
