use Rattle.std.proofs.Common.{map}
use Rattle.c_typed.specs.View.{function_of}
use Rattle.first_broken.specs.Seen.{found_of}
use Rattle.c_rules.proofs.Examining.{with_cycles, lent_cycles}
use Rattle.c_rules.proofs.checks.check.Goals as goal

pub returns : goal.returns
returns c =
    with_cycles (map function_of c.args.functions.now) c.in_ok-gathered.gathered.calls.items c.in_ok-gathered.gathered.labels.items
    (found_of c.in_ok-gathered.gathered.found) (found_of c.in_ok-cycles.cycles) (found_of c.both-gathered.result)
    c.in_ok-gathered.ensures (lent_cycles c.deref.result.now c.in_ok-gathered.gathered.calls.items (found_of c.in_ok-cycles.cycles) c.deref.ensures.value c.in_ok-cycles.ensures) c.both-gathered.ensures
