use Rattle.std.proofs.Common.{ap}
use Rattle.cfg_build.specs.Made.{or_zero}
use Rattle.cfg_build.proofs.placing.called.Goals as goal

pub returns-then-is_called-clause-made : goal.returns-then-is_called-clause-made
returns-then-is_called-clause-made c = ap or_zero c.in-Some.ensures
