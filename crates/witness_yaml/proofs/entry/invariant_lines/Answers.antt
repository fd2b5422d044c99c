use Rattle.std.proofs.Common.{◌∙◌}
use Rattle.std.proofs.lemmas.Result.{IfOk-weaker}
use Rattle.witness_yaml.specs.Texts.{invariant_text}
use Rattle.witness_yaml.proofs.entry.invariant_lines.Goals as goal

pub returns : goal.returns
unfolding invariant_text
returns c =
    let location = c.as_bytes.ensures ∙ c.in_ok-location.ensures in
    IfOk-weaker c.join.result _ _ (λ t e. e ∙ rw (location, c.as_bytes-2.ensures)) c.join.ensures
