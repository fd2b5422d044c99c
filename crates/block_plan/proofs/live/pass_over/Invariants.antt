use Rattle.std.proofs.Common.{◌≡◌}
use Rattle.block_plan.specs.Made.{pass_over}
use Rattle.block_plan.proofs.live.pass_over.Given as goal

abbrev pub invariant-loop-behind : goal.invariant-loop-behind
invariant-loop-behind l = l.passing ≡ pass_over l.graph l.blocks l.units l.reads l.initial.passing l.behind
