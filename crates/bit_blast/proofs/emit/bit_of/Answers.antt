use Rattle.std.proofs.Common.{false}
use Rattle.bit_words.proofs.WordPuts.{standing-at}
use Rattle.bit_blast.proofs.emit.bit_of.Goals as goal

pub returns : goal.returns
returns c = standing-at c.args.lits.now c.args.k (record { var = 0; positive = false }) c.requires
