use Rattle.std.proofs.Common.{◌++◌}
use Rattle.bit_blast.specs.Held.{fresh_lits}
use Rattle.bit_blast.proofs.Steps.{fresh_more}
use Rattle.bit_blast.proofs.cells.push_fresh.Goals as goal

pub loop-i-preserved : goal.loop-i-preserved
loop-i-preserved c =
    fresh_more c.args.next c.args.width c.loop-i.i (c.args.lits.now.items ++ fresh_lits c.args.next c.args.width) c.loop-i.lits.items c.push.new.self.items
    c.loop-i-test.true c.loop-i.invariant c.in_ok-push.ensures.items
