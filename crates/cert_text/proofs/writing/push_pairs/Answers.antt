use Rattle.std.proofs.Common.{rules, All, append_assoc, drop-cons}
use Rattle.std.proofs.lemmas.List.Elements.{All-more}
use Rattle.std.proofs.lemmas.Result.{MatchResult-weaker}
use Rattle.cert_text.specs.Ranges.{PairFits}
use Rattle.cert_text.proofs.Numbers.{all_taken}
use Rattle.cert_text.proofs.writing.push_pairs.Goals as goal

pub loop-pair-preserved : goal.loop-pair-preserved
loop-pair-preserved c = record {
  text = search (rules, drop-cons, append_assoc);
  numbers = All-more PairFits c.args.pairs.now c.loop-pair.pair-index (0, 0) (search rules) c.loop-pair.invariant.numbers (search rules, search rules);
}

pub returns-clause-numbers : goal.returns-clause-numbers
returns-clause-numbers c =
    let all : All PairFits c.args.pairs.now = all_taken PairFits c.args.pairs.now c.loop-pair.pair-index (search rules) c.loop-pair.invariant.numbers in
    MatchResult-weaker c.push_byte.result c.push_byte.ensures (λ _ _. all) (λ _ _. tt)
