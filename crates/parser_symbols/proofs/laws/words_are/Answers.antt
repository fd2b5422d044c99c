use Rattle.parser_symbols.proofs.Standard.{words_are}
use Rattle.parser_symbols.proofs.laws.words_are.Goals as goal

pub returns : goal.returns
returns c = words_are
