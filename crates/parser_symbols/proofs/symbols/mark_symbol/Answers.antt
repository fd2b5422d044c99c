use Rattle.c_tree.specs.Symbols as sg
use Rattle.parser_symbols.proofs.MarkLemmas.{joined_parts}
use Rattle.parser_symbols.proofs.symbols.mark_symbol.Goals as goal

pub returns : goal.returns
returns c = cc (joined_parts (sg.mark_symbol c.args.mark))
