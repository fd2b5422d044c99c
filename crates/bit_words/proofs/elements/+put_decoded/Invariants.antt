use Rattle.std.proofs.Common.{length}
use Rattle.bit_words.proofs.elements.+put_decoded.Given as goal

abbrev pub decreases-put_decoded : goal.decreases-put_decoded
decreases-put_decoded l = length l.bits.now
