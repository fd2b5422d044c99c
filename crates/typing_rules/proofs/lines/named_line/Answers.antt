use Rattle.std.proofs.Common.{refl}
use Rattle.first_broken.specs.Seen.{found_of}
use Rattle.type_scopes.specs.Seen.{env_of}
use Rattle.typing_rules.proofs.Arms.{named_is}
use Rattle.typing_rules.proofs.lines.named_line.Goals as goal

pub returns : goal.returns
returns c =
    named_is (env_of c.args.env.now) c.args.bodies.now c.args.name.now c.as_bytes.result.now c.args.at c.args.count _ c.is_right_call-test.result (found_of c.line.result)
    c.as_bytes.ensures c.is_right_call-test.ensures refl c.line.ensures
