use Rattle.std.proofs.Common.{false, get_or, ◌∙◌}
use Rattle.call_order.proofs.Arms.{any_targets}
use Rattle.call_order.proofs.cycles.calls_marked.Goals as goal

pub returns : goal.returns
returns c = c.any_call.ensures ∙ any_targets (λ f. get_or c.args.marks.now f false) c.args.calls.now
