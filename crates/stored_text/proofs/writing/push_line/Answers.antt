use Rattle.std.proofs.Common.{rules, ◌≡◌, ◌++◌, ◌∷◌, [], ap}
use Rattle.stored_text.specs.RunText.{value_text}
use Rattle.stored_text.proofs.Written.{signed_text}
use Rattle.stored_text.proofs.writing.push_line.Goals as goal

-- src/writing.rt:12:1
pub returns : goal.returns
returns c = let same = signed_text c.args.value c.requires in search rules
