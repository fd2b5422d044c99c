use Rattle.path_formula.proofs.Reading.{need_more}
use Rattle.path_formula.proofs.reads.need_all.Goals as goal

pub loop-k-preserved : goal.loop-k-preserved
loop-k-preserved c =
    need_more c.args.first c.args.count c.loop-k.k _ c.loop-k.needed.keys c.need.new.needed.keys c.loop-k-test.true c.loop-k.invariant c.in_ok-need.ensures
