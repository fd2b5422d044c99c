use Rattle.std.proofs.Common.{◌≡◌, drop}
use Rattle.block_plan.specs.Made.{flow_all}
use Rattle.block_plan.proofs.live.flow_all.Given as goal

abbrev pub invariant-loop-number : goal.invariant-loop-number
invariant-loop-number l = flow_all l.graph l.blocks l.units l.reads (drop l.number l.outs) l.passing ≡ flow_all l.graph l.blocks l.units l.reads l.outs l.initial.passing
