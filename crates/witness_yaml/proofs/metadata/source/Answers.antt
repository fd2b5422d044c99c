use Rattle.std.proofs.Common.{◌∙◌}
use Rattle.std.proofs.lemmas.Result.{IfOk-weaker}
use Rattle.witness_yaml.proofs.metadata.source.Goals as goal

pub returns : goal.returns
returns c =
    let hash = c.as_bytes.ensures.value ∙ c.in_ok-hash.ensures in
    IfOk-weaker c.join.result _ _ (λ t e. e ∙ rw hash) c.join.ensures
