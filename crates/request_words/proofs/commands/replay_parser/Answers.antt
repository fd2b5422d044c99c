use Rattle.std.proofs.Common.{◌∙◌, ap₂}
use Rattle.std.proofs.lemmas.Result.{IfOk-weaker}
use Rattle.clap.specs.Words.{with_rule}
use Rattle.request_words.proofs.commands.replay_parser.Goals as goal

pub returns : goal.returns
returns c =
    let source = c.in_ok-arg.ensures.shape c.name.ensures.local ∙ ap₂ with_rule c.started.ensures c.name.ensures.rule in
    let cert = c.in_ok-arg-2.ensures.shape c.name-2.ensures.local ∙ ap₂ with_rule source c.name-2.ensures.rule in
    let model = c.in_ok-arg-3.ensures.shape c.option.ensures.local ∙ ap₂ with_rule cert c.option.ensures.rule in
    IfOk-weaker c.arg-4.result _ _ (λ r h. h.shape c.option-2.ensures.local ∙ ap₂ with_rule model c.option-2.ensures.rule) c.arg-4.ensures
