use Rattle.std.proofs.Common.{arith}
use Rattle.lazic.proofs.MeaningLaws.{computed_is_meant, meant_is_computed}
use Rattle.lazic.proofs.WordLaws.{requests_differ}
use Rattle.lazic.proofs.top.all_words.Goals as goal

pub returns : goal.returns
returns c = record {
  one_answer = λ words file answer. (computed_is_meant words file answer, meant_is_computed words file answer);
  turns = λ bytes n. c.numbers_are_read.ensures 1000000000 bytes n (omega arith);
  seeds = c.seeds_are_read.ensures;
  differ = requests_differ;
}
