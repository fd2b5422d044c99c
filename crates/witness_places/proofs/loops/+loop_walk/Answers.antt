use Rattle.witness_places.proofs.Rows.{block_arm}
use Rattle.witness_places.proofs.loops.+loop_walk.Goals as goal

pub put_loops-returns-in-Block : goal.put_loops-returns-in-Block
put_loops-returns-in-Block t c =
    block_arm c.args.found.now.items c.put_block.new.found.items c.args.statement.now c.in-Block.field-0 c.in-Block.statements c.in-Block.field-2 c.put_block.result c.in-Block.is c.put_block.ensures
