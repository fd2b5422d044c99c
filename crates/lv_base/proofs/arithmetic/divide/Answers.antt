use Rattle.lv_base.proofs.RangeLemmas.{in_any, quotient_is}
use Rattle.lv_base.proofs.arithmetic.divide.Goals as goal

pub returns-clause-value : goal.returns-clause-value
returns-clause-value c = quotient_is _ _ _ _ _ c.ranges.left c.ranges.right (in_any _ _ _ c.requires) c.if-right-eq0.false c.fitting.ensures.value
