use Rattle.std.proofs.Common.{◌++◌, List, ap}
use Rattle.code_moves.specs.Setting.{setting_of, site_of}
use Rattle.code_moves.specs.Moves.{step_of, fills, old_value}
use Rattle.code_moves.proofs.Standing.{stand-later}
use Rattle.code_moves.proofs.Doing.{then-does, regrouped}
use Rattle.c_terms.specs.declared.words.Words.{Words}
use Rattle.c_graph.specs.declared.graph.Operation.{Operation}
use Rattle.code_moves.proofs.Making.{so}
use Rattle.code_moves.specs.Made as made
use Rattle.code_moves.proofs.ground.Ground.change_before.Goals as goal

pub returns-clause-does : goal.returns-clause-does
returns-clause-does c = λ ds h d.
    let w = setting_of c.args.self.now in
    let z = c.in_ok-step.ensures.does ds h d in
    let before = step_of w c.args.slot c.args.object c.args.by c.args.kind in
    regrouped _ _ _ _ ds before (fills w c.args.slot (old_value w c.args.slot c.args.object))
    (then-does _ _ _ _ _ _ z.grows (c.load.ensures.does (ds ++ before) (stand-later _ _ _ z.grows h) z.does))

pub returns-clause-made : goal.returns-clause-made
returns-clause-made c = so _ _ _ _ c.load.ensures.made (ap (λ (p : Words × List Operation). made.load (site_of (setting_of c.args.self.now)) p.0 p.1 c.args.slot c.args.slot c.args.object) c.in_ok-step.ensures.made)
