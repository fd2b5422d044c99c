use Rattle.std.proofs.Common.{◌∙◌, ap₂}
use Rattle.std.proofs.lemmas.Result.{IfOk-weaker}
use Rattle.clap.specs.Words.{with_rule}
use Rattle.request_words.proofs.commands.verify_parser.Goals as goal

pub returns : goal.returns
returns c =
    let source = c.in_ok-arg.ensures.shape c.name.ensures.local ∙ ap₂ with_rule c.started.ensures c.name.ensures.rule in
    let model = c.in_ok-arg-2.ensures.shape c.option.ensures.local ∙ ap₂ with_rule source c.option.ensures.rule in
    let units = c.in_ok-arg-3.ensures.shape c.option-2.ensures.local ∙ ap₂ with_rule model c.option-2.ensures.rule in
    let learn = c.in_ok-arg-4.ensures.shape c.option-3.ensures.local ∙ ap₂ with_rule units c.option-3.ensures.rule in
    let workers = c.in_ok-arg-5.ensures.shape c.option-4.ensures.local ∙ ap₂ with_rule learn c.option-4.ensures.rule in
    let cert = c.in_ok-arg-6.ensures.shape c.option-5.ensures.local ∙ ap₂ with_rule workers c.option-5.ensures.rule in
    let run = c.in_ok-arg-7.ensures.shape c.option-6.ensures.local ∙ ap₂ with_rule cert c.option-6.ensures.rule in
    IfOk-weaker c.arg-8.result _ _ (λ r h. h.shape c.option-7.ensures.local ∙ ap₂ with_rule run c.option-7.ensures.rule) c.arg-8.ensures
