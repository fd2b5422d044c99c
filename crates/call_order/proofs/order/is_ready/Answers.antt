use Rattle.std.proofs.Common.{false, get_or, ◌∙◌}
use Rattle.call_order.proofs.Arms.{all_targets}
use Rattle.call_order.proofs.order.is_ready.Goals as goal

pub returns : goal.returns
returns c = c.all_calls.ensures ∙ all_targets (λ f. get_or c.args.taken.now f false) c.args.calls.now
