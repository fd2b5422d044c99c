use Rattle.std.proofs.Common.{◌≤◌, length, arith}
use Rattle.c_parser.proofs.ItemLemmas.{two_words}
use Rattle.c_parser.proofs.externs.one_extension.Goals as goal

pub returns-in_default-3 : goal.returns-in_default-3
returns-in_default-3 c =
    let h : 2 ≤ length c.args.words.now = omega arith in
    two_words c.args.words.now h
