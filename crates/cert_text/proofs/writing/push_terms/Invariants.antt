use Rattle.std.proofs.Common.{◌≡◌, drop, take, ◌++◌, All}
use Rattle.cert_text.specs.CertText.{terms_text}
use Rattle.cert_text.specs.Ranges.{TermFits}
use Rattle.cert_text.proofs.writing.push_terms.Given as goal

abbrev pub invariant-loop-term : goal.invariant-loop-term
invariant-loop-term l = record {
  text : l.file.items ++ terms_text (drop l.term-index l.terms) ≡ l.initial.file.items ++ terms_text l.terms;
  numbers : All TermFits (take l.term-index l.terms);
}
