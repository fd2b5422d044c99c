use Rattle.std.proofs.Common.{sym, ◌∙◌}
use Rattle.typed_values.proofs.Knowing.{known_is}
use Rattle.typed_values.proofs.known.known_of.Goals as goal

pub returns : goal.returns
returns c = c.known_by.ensures ∙ sym (known_is c.args.name.now)
