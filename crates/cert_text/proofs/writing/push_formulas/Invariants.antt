use Rattle.std.proofs.Common.{◌≡◌, drop, ◌++◌}
use Rattle.cert_text.specs.CertText.{formulas_text}
use Rattle.cert_text.proofs.writing.push_formulas.Given as goal

abbrev pub invariant-loop-formula : goal.invariant-loop-formula
invariant-loop-formula l = l.file.items ++ formulas_text (drop l.formula-index l.formulas) ≡ l.initial.file.items ++ formulas_text l.formulas
