use Rattle.cfg_build.proofs.Drawing.{node-drawn}
use Rattle.cfg_build.proofs.placing.add_exit.Goals as goal

pub returns-clause-made : goal.returns-clause-made
returns-clause-made c = λ w t. node-drawn w _ _ _ c.in_ok-node.ensures.adds
