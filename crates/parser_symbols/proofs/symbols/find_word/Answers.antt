use Rattle.std.proofs.Common.{◌∙◌}
use Rattle.parser_symbols.proofs.WordLemmas.{find_pairs}
use Rattle.parser_symbols.proofs.symbols.find_word.Goals as goal

pub returns : goal.returns
returns c = c.first_word.ensures ∙ find_pairs c.args.words.now (λ k. k.0.now) (λ k. k.1) c.args.text.now
