use Rattle.bit_words.specs.Words.{numeral_of}
use Rattle.bit_words.proofs.WordPuts.{numeral_more}
use Rattle.bit_words.proofs.words.numeral.Goals as goal

pub loop-i-preserved : goal.loop-i-preserved
loop-i-preserved c =
    numeral_more c.args.one c.args.width c.loop-i._i c.loop-i.rest c.constant.result (numeral_of c.args.one c.args.width c.args.value)
    c.loop-i.outs.items c.push.new.self.items c.loop-i-test.true c.loop-i.invariant c.constant.ensures c.in_ok-push.ensures.items
