use Rattle.std.proofs.Common.{ap, ◌∙◌, get_or, false}
use Rattle.first_broken.specs.Seen.{found_of}
use Rattle.call_order.proofs.Arms.{confirmed_arm}
use Rattle.call_order.proofs.confirmed.confirmed.Goals as goal

pub returns : goal.returns
returns c =
    confirmed_arm c.args.calls.now c.args.parts.now c.in-Some.made.call.at c.in-Some.made.call.to c.in-Some.made.caller c.in_ok-marks.marks.items c.all_apart.result c.is_made.result c.is_marked.result (found_of c.line.result)
    c.all_apart.ensures c.if-not-all_apart.false c.is_made.ensures c.if-not-is_made.false c.in_ok-marks.ensures
    (c.is_marked.ensures ∙ ap (λ z. get_or z c.in-Some.made.caller false) c.deref.ensures.value) c.if-not-is_marked.false c.line.ensures
