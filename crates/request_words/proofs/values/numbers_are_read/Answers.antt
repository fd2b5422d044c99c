use Rattle.request_words.proofs.NumberLaws.{numbers_read}
use Rattle.request_words.proofs.values.numbers_are_read.Goals as goal

pub returns : goal.returns
returns c = numbers_read
