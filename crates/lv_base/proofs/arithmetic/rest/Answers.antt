use Rattle.std.proofs.Common.{◌∙◌, sym}
use Rattle.std.specs.Int.{w128}
use Rattle.lv_base.proofs.RangeLemmas.{in_any, remainder_is}
use Rattle.std.proofs.lemmas.Int.{rem_is}
use Rattle.lv_base.proofs.RangeLaws.{rem_in_range}
use Rattle.lv_base.proofs.arithmetic.rest.Goals as goal

pub returns-then-in_range-clause-value : goal.returns-then-in_range-clause-value
returns-then-in_range-clause-value c = remainder_is _ _ _ _ _ c.ranges.left c.ranges.right (in_any _ _ _ c.requires) c.if-right-eq0.false (sym c.if-in_range.true ∙ c.in_range.ensures.test)

pub returns-else-in_range-clause-value : goal.returns-else-in_range-clause-value
returns-else-in_range-clause-value c = remainder_is _ _ _ _ _ c.ranges.left c.ranges.right (in_any _ _ _ c.requires) c.if-right-eq0.false (sym c.if-in_range.false ∙ c.in_range.ensures.test)

pub returns-then-in_range-clause-range : goal.returns-then-in_range-clause-range
returns-then-in_range-clause-range c =
    rw (rem_is w128 c.args.left c.args.right c.ranges.left c.ranges.right) (rem_in_range c.args.kind c.args.model c.args.left c.args.right c.requires)
