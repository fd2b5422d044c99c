use Rattle.std.proofs.Common.{rules, FitsSigned}
use Rattle.std.specs.Int.{w128}
use Rattle.quick_integers.proofs.Fits.{positive_rest, rest_is}
use Rattle.quick_integers.proofs.arithmetic.rest.Goals as goal

pub returns-then-neither_negative : goal.returns-then-neither_negative
returns-then-neither_negative c =
    let fr : FitsSigned w128 c.cut_remainder.result = search rules in
    record { value = positive_rest _ _ _ _ _ c.ranges.left c.ranges.right fr c.if-right-eq0.false c.requires (c.neither_negative.ensures c.if-neither_negative.true) c.cut_remainder.ensures }

pub returns-then-in_range : goal.returns-then-in_range
returns-then-in_range c =
    let fq : FitsSigned w128 c.cut_quotient.result = search rules in
    let fr : FitsSigned w128 c.cut_remainder-then-in_range.result = search rules in
    record { value = rest_is _ _ _ _ _ _ _ c.ranges.left c.ranges.right fq fr c.if-right-eq0.false c.cut_quotient.ensures c.cut_remainder-then-in_range.ensures c.in_range.ensures.test c.if-in_range.true }
