use Rattle.error_call_laws.proofs.Placing.{calls_kept_are}
use Rattle.error_call_laws.proofs.calls_kept.Goals as goal

pub returns : goal.returns
returns c = calls_kept_are c.sources_hold.ensures c.sources_fit.ensures
