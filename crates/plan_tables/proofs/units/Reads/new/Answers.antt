use Rattle.std.proofs.Common.{◌∙◌, ap, List, Vec, ℕ, Global}
use Rattle.plan_tables.specs.Tables.{lists_of}
use Rattle.plan_tables.specs.Made.{reads_of}
use Rattle.plan_tables.proofs.Rowing.{reads_turn}
use Rattle.plan_tables.proofs.units.Reads.new.Goals as goal

pub loop-number-preserved : goal.loop-number-preserved
loop-number-preserved c =
    reads_turn c.args.units.now c.args.terms.now.terms c.loop-number.number c.get.result c.loop-number.lists.items c.push.new.self.items c.in_ok-list.list _
    c.get.ensures (c.in_ok-list.ensures.made ∙ ap (λ (vs : List (Vec ℕ Global)). reads_of (lists_of vs) c.args.units.now c.get.result) c.deref.ensures.value)
    c.in_ok-push.ensures.items c.loop-number.invariant
