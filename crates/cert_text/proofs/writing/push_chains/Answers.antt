use Rattle.std.proofs.Common.{rules, append_assoc, drop-cons}
use Rattle.std.proofs.lemmas.List.Elements.{All-more}
use Rattle.cert_text.specs.Ranges.{ChainInRange}
use Rattle.cert_text.proofs.Numbers.{all_taken}
use Rattle.cert_text.proofs.writing.push_chains.Goals as goal

pub loop-chain-preserved : goal.loop-chain-preserved
loop-chain-preserved c = record {
  text = search (rules, drop-cons, append_assoc);
  numbers = All-more ChainInRange c.args.chains.now c.loop-chain.chain-index c.chain-item.result (search rules) c.loop-chain.invariant.numbers (search rules);
}

pub returns-clause-numbers : goal.returns-clause-numbers
returns-clause-numbers c = all_taken ChainInRange c.args.chains.now c.loop-chain.chain-index (search rules) c.loop-chain.invariant.numbers
