use Rattle.error_call_laws.proofs.Placing.{reaches_kept_are}
use Rattle.error_call_laws.proofs.reaches_kept.Goals as goal

pub returns : goal.returns
returns c = reaches_kept_are c.tokens_rise.ensures c.sources_hold.ensures c.sources_fit.ensures
