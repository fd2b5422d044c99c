use Rattle.std.proofs.Common.{◌∙◌, ap₂}
use Rattle.std.proofs.lemmas.Result.{IfOk-weaker}
use Rattle.clap.specs.Words.{with_rule}
use Rattle.request_words.proofs.commands.generate_parser.Goals as goal

pub returns : goal.returns
returns c = IfOk-weaker c.arg.result _ _ (λ r h. h.shape c.name.ensures.local ∙ ap₂ with_rule c.started.ensures c.name.ensures.rule) c.arg.ensures
