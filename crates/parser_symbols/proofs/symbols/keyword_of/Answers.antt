use Rattle.std.proofs.Common.{◌∙◌, sym}
use Rattle.c_tree.specs.Symbols.{keyword_of}
use Rattle.c_tree.specs.declared.words.TheConstants.{KEYWORDS}
use Rattle.parser_symbols.proofs.WordLemmas.{find_pairs}
use Rattle.parser_symbols.proofs.symbols.keyword_of.Goals as goal

pub returns : goal.returns
unfolding keyword_of
returns c = c.find_word.ensures ∙ sym (find_pairs KEYWORDS (λ k. k.0.now) (λ k. k.1) c.args.text.now)
