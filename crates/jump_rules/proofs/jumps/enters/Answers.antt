use Rattle.std.proofs.Common.{ap, ◌∙◌, arith, length, ◌-◌}
use Rattle.c_typed.specs.Rules as r
use Rattle.jump_rules.proofs.Naming.{rest_enters, take_rest}
use Rattle.jump_rules.proofs.jumps.enters.Goals as goal

pub returns : goal.returns
returns c =
    c.any_new.ensures ∙ ap (r.enters c.args.start.now) (take_rest c.args.goal.now c.shared-count.result)
    ∙ rest_enters c.args.start.now c.args.goal.now c.shared-count.result c.shared-count.ensures.same
