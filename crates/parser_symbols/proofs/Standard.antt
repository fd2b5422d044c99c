-- The code's table of words is the written one.
use Rattle.std.proofs.Common.{◌≡◌, refl, ◌∙◌, ap, List, map}
use Rattle.c_tree.specs.Symbols.{keyword_of}
use Rattle.c_tree.specs.declared.words.TheConstants.{KEYWORDS}
use Rattle.parser_symbols.specs.Keywords.{Spelled, spelled, among}
use Rattle.parser_symbols.specs.Standard.{all_words, WordsAre}
use Rattle.parser_symbols.proofs.WordLemmas.{find_pairs}

tables_agree : map (λ k. spelled k.0.now k.1) KEYWORDS ≡ all_words
tables_agree = refl

pub words_are : WordsAre
unfolding keyword_of
words_are text = find_pairs KEYWORDS (λ k. k.0.now) (λ k. k.1) text ∙ ap (λ (words : List Spelled). among text words) tables_agree
