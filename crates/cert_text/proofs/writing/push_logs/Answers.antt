use Rattle.std.proofs.Common.{rules, append_assoc, drop-cons, All}
use Rattle.std.proofs.lemmas.List.Elements.{All-more}
use Rattle.cert_text.specs.Ranges.{ChainInRange}
use Rattle.cert_text.proofs.Numbers.{all_taken}
use Rattle.cert_text.proofs.writing.push_logs.Goals as goal

pub loop-log-preserved : goal.loop-log-preserved
loop-log-preserved c = record {
  text = search (rules, drop-cons, append_assoc);
  numbers = All-more (All ChainInRange) c.args.logs.now c.loop-log.log-index c.log-item.result (search rules) c.loop-log.invariant.numbers (search rules);
}

pub returns-clause-numbers : goal.returns-clause-numbers
returns-clause-numbers c = all_taken (All ChainInRange) c.args.logs.now c.loop-log.log-index (search rules) c.loop-log.invariant.numbers
