use Rattle.std.proofs.Common.{◌≡◌, ◌∙◌, true, refl, sym}
use Rattle.block_rule.specs.Rule.{is_awaited}
use Rattle.walk_states.specs.Known.{plan_of}
use Rattle.walk_states.specs.Walks.{waits_of}
use Rattle.walk_states.proofs.known.through.Goals as goal

pub returns-then-is_awaited : goal.returns-then-is_awaited
returns-then-is_awaited c =
    let e : is_awaited (plan_of c.args.known.now) (waits_of c.args.waiting.now) c.args.cell ≡ true = sym c.is_awaited.ensures ∙ c.if-is_awaited.true in
    rw e refl
