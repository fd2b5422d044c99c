use Rattle.std.proofs.Common.{◌≡◌, drop, take, ◌++◌, All}
use Rattle.cert_text.specs.CertText.{pairs_text}
use Rattle.cert_text.specs.Ranges.{PairFits}
use Rattle.cert_text.proofs.writing.push_pairs.Given as goal

abbrev pub invariant-loop-pair : goal.invariant-loop-pair
invariant-loop-pair l = record {
  text : l.file.items ++ pairs_text (drop l.pair-index l.pairs) ≡ l.initial.file.items ++ pairs_text l.pairs;
  numbers : All PairFits (take l.pair-index l.pairs);
}
