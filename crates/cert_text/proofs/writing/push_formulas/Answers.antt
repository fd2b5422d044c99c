use Rattle.std.proofs.Common.{arith}
use Rattle.std.proofs.lemmas.List.Elements.{All-from_get_or}
use Rattle.cert_text.specs.Ranges.{IsShort}
use Rattle.cert_text.proofs.writing.push_formulas.Goals as goal

pub returns-clause-numbers : goal.returns-clause-numbers
returns-clause-numbers c = All-from_get_or IsShort c.args.formulas.now 0 (λ k lt. let short = c.type_inv.formulas k in omega arith)
