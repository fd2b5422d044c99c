use Rattle.std.proofs.Common.{◌∙◌, ap, sym, Bool, ◌+◌, ◌-◌, ◌||◌}
use Rattle.path_formula.specs.Reads.{cells_from, some_needed}
use Rattle.path_formula.proofs.Reading.{some_more}
use Rattle.path_formula.proofs.reads.has_some.Goals as goal

pub loop-k-preserved : goal.loop-k-preserved
loop-k-preserved c =
    some_more c.args.first c.args.count c.loop-k.k c.args.needed.now.keys _ c.loop-k-test.true c.loop-k.invariant
    ∙ ap (λ (b : Bool). b || some_needed c.args.needed.now.keys (cells_from (c.args.first + (c.loop-k.k + 1)) (c.args.count - (c.loop-k.k + 1)))) (sym c.has.ensures ∙ c.if-has.false)
