use Rattle.std.proofs.Common.{List, ap, ◌∙◌, Some, slice_set}
use Rattle.std.specs.Prelude.{Option}
use Rattle.interpolants.specs.declared.items.Formula.{Formula}
use Rattle.interpolants.proofs.Marking.{shown-set}
use Rattle.interpolants.proofs.recall.Memo.set.Goals as goal

pub returns-then-at-len : goal.returns-then-at-len
returns-then-at-len c =
    shown-set c.self.inside.epoch c.args.at c.args.formula c.self.inside.marks.items
    ∙ ap (λ (fs : List (Option Formula)). slice_set fs c.args.at (Some c.args.formula)) c.self.view_is
