use Rattle.std.proofs.Common.{rules}
use Rattle.witness_yaml.proofs.entry.place_lines.Goals as goal

pub returns : goal.returns
returns c = search rules
