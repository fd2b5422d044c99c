use Rattle.std.proofs.Common.{ap, ◌∙◌}
use Rattle.first_broken.specs.Seen.{found_of}
use Rattle.call_order.specs.Peel as p
use Rattle.call_order.specs.Seen.{taking_of}
use Rattle.call_order.proofs.Arms.{none_found, some_found}
use Rattle.call_order.proofs.cycles.recursion_found.Goals as goal

pub returns-then-is_whole : goal.returns-then-is_whole
returns-then-is_whole c =
    none_found c.args.calls.now c.deref.result.now (taking_of c.in_ok-taking.taking) c.is_whole.result (found_of c.none.result)
    c.in_ok-taking.ensures (c.is_whole.ensures ∙ ap p.is_whole c.deref-2.ensures.value) c.if-is_whole.true c.none.ensures

pub returns : goal.returns
returns c = some_found c.args.calls.now c.lines_found.result c.lines_found.ensures
