use Rattle.request_words.proofs.NumberLaws.{seeds_read}
use Rattle.request_words.proofs.values.seeds_are_read.Goals as goal

pub returns : goal.returns
returns c = seeds_read
