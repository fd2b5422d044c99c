use Rattle.std.proofs.Common.{◌≡◌, drop, take, ◌++◌, All}
use Rattle.cert_text.specs.CertText.{chains_text}
use Rattle.cert_text.specs.Ranges.{ChainInRange}
use Rattle.cert_text.proofs.writing.push_chains.Given as goal

abbrev pub invariant-loop-chain : goal.invariant-loop-chain
invariant-loop-chain l = record {
  text : l.file.items ++ chains_text (drop l.chain-index l.chains) ≡ l.initial.file.items ++ chains_text l.chains;
  numbers : All ChainInRange (take l.chain-index l.chains);
}
