use Rattle.std.proofs.Common.{◌∙◌, ◌≤◌, ◌^◌, ℕ, List, length, sym, subst}
use Rattle.task_gen.specs.Generated.{generated}
use Rattle.request_words.specs.Asked.{plain_learn, plain_model, plain_units}
use Rattle.request_answers.proofs.Verifications.{verify_behind}
use Rattle.request_answers.proofs.deciding.decide_generate.Goals as goal

pub verify_plain-requires-clause-small : goal.verify_plain-requires-clause-small
verify_plain-requires-clause-small g c = λ _ _. subst (λ (l : List ℕ). length l ≤ 2 ^ 20) (sym (c.deref.ensures.value ∙ c.in-Ok.ensures)) (c.generated_is_short.ensures c.args.seed c.ranges.seed.fits)

pub returns-in-Ok-clause-answer : goal.returns-in-Ok-clause-answer
returns-in-Ok-clause-answer g c =
    verify_behind ⊥ plain_model plain_units plain_learn (generated c.args.seed) c.deref.result.now c.verify_plain.result (c.deref.ensures.value ∙ c.in-Ok.ensures) c.verify_plain.ensures.answer
