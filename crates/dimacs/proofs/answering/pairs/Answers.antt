use Rattle.std.proofs.Common.{◌+◌, ◌∙◌, length, min, ap}
use Rattle.dimacs.proofs.Counting.{counted_more}
use Rattle.dimacs.proofs.answering.pairs.Goals as goal

pub loop-chain-preserved : goal.loop-chain-preserved
loop-chain-preserved c =
    counted_more c.chains-chains.result.now c.loop-chain.chain-index c.chain-item.result c.loop-chain.pairs c.saturating_add-pairs.result c.loop-chain-test.true c.chain-item.is c.loop-chain.invariant
    (c.saturating_add-pairs.ensures ∙ ap (λ n. min (c.loop-chain.pairs + n) 18446744073709551615) c.len.ensures.value)
