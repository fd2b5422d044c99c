use Rattle.std.proofs.Common.{◌∙◌, sym, subst}
use Rattle.cover_engine.specs.Units.{Legal}
use Rattle.explore.proofs.Leaves.{error_leaf}
use Rattle.explore.proofs.Trying.{plain-turn}
use Rattle.explore.proofs.strategy.turn.Goals as goal

pub refine_at-requires-clause-error : goal.refine_at-requires-clause-error
refine_at-requires-clause-error g c =
    λ _ _.
    error_leaf c.args.graph.now c.next_leaf.new.unwinding c.in_ok-leaf.leaf c.entry-entry.ensures.flow
    (subst (Legal c.args.graph.now) (sym c.next_leaf.ensures.unchanged) c.requires.ready.legal) c.in_ok-leaf.ensures.leaf.0 c.in_ok-leaf.ensures.leaf.1
    (sym c.is_plain.ensures ∙ c.if-not-is_plain.true)

pub settle_all-requires-clause-turn : goal.settle_all-requires-clause-turn
settle_all-requires-clause-turn g c =
    λ _ _.
    plain-turn c.args.graph.now c.next_leaf.new.unwinding c.in_ok-leaf.leaf c.in_ok-leaf.ensures.highest (sym c.is_plain.ensures ∙ c.if-not-is_plain.false)
