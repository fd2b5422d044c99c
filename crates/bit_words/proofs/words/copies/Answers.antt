use Rattle.bit_words.specs.Words.{copies_of}
use Rattle.bit_words.proofs.WordPuts.{copies_more}
use Rattle.bit_words.proofs.words.copies.Goals as goal

pub loop-i-preserved : goal.loop-i-preserved
loop-i-preserved c =
    copies_more c.args.lit c.args.count c.loop-i._i (copies_of c.args.lit c.args.count) c.loop-i.outs.items c.push.new.self.items
    c.loop-i-test.true c.loop-i.invariant c.in_ok-push.ensures.items
