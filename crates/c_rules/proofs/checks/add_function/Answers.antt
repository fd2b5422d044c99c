use Rattle.std.proofs.Common.{ap, ◌∙◌, refl}
use Rattle.c_typed.specs.View.{function_of, steps_of}
use Rattle.first_broken.specs.Seen.{found_of}
use Rattle.jump_rules.specs.Seen.{state_of, jumps}
use Rattle.call_order.specs.Seen.{calls, all_calls}
use Rattle.c_rules.specs.Seen.{gathering_of}
use Rattle.c_rules.proofs.Arms.{function_arm, all_calls_behind}
use Rattle.c_rules.proofs.checks.add_function.Goals as goal

pub returns : goal.returns
returns c =
    function_arm (function_of c.args.function.now) c.args.number c.in_ok-function.function (steps_of c.deref.result.now) (state_of c.in_ok-walk.walk)
    (jumps c.deref-2.result.now) (jumps c.deref-3.result.now) (jumps c.deref-4.result.now) (found_of c.in_ok-jumps.jumps) (found_of c.both.result) (found_of c.both-own.result) (found_of c.in_ok-checked.checked.found) (found_of c.both-gathered.result)
    (calls c.in_ok-checked.checked.calls.items) (gathering_of c.args.gathered.now) c.add_labels.new.all.items (all_calls c.push.new.self.items)
    (ap steps_of c.deref.ensures.value) c.in_ok-walk.ensures (ap jumps c.deref-2.ensures.value) (ap jumps c.deref-3.ensures.value) (ap jumps c.deref-4.ensures.value)
    c.in_ok-jumps.ensures c.both.ensures c.in_ok-checked.ensures c.both-own.ensures c.in_ok-function.ensures.same c.in_ok-add_labels.ensures
    (ap all_calls c.in_ok-push.ensures.items ∙ all_calls_behind c.args.gathered.now.calls.items c.in_ok-checked.checked.calls) c.both-gathered.ensures
