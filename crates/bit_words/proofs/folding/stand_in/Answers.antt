use Rattle.std.proofs.Common.{false}
use Rattle.bit_words.proofs.WordPuts.{standing-at, standing-past}
use Rattle.bit_words.proofs.folding.stand_in.Goals as goal

pub returns-then-at-subs : goal.returns-then-at-subs
returns-then-at-subs c = standing-at c.args.subs.now c.args.at (record { var = 0; positive = false }) c.if-at-subs.true

pub returns-else-at-subs : goal.returns-else-at-subs
returns-else-at-subs c = standing-past c.args.subs.now c.args.at c.if-at-subs.false
