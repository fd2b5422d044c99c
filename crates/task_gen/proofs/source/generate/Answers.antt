use Rattle.std.proofs.Common.{◌∙◌}
use Rattle.task_gen.proofs.Steps.{block_more, number_more}
use Rattle.task_gen.proofs.source.generate.Goals as goal

pub loop-block-preserved : goal.loop-block-preserved
loop-block-preserved c =
    let number = c.next-number.ensures ∙ number_more c.args.seed c.loop-block.block c.loop-block.number c.loop-block.invariant.number in
    record {
      number = number;
      source = block_more c.args.seed c.loop-block.block c.next-number.result _ _ c.sign.result.now c.loop-block.invariant.source number c.sign.ensures c.in_ok-push_block.ensures;
    }
