use Rattle.std.proofs.Common.{ap, ◌∙◌, ℕ}
use Rattle.std.proofs.lemmas.Option.{none-some}
use Rattle.c_graph.specs.declared.graph.Node.TheVariants.{Call}
use Rattle.cfg_build.specs.Made.{drawn_of, add_node}
use Rattle.cfg_build.proofs.Drawing.{node-drawn}
use Rattle.cfg_build.proofs.placing.add_call.Goals as goal

pub returns-in_default-clause-whole : goal.returns-in_default-clause-whole
returns-in_default-clause-whole c = λ k. absurd (none-some k.function (c.in_default.ensures.whole k.function k.begins k.owner))

pub returns-clause-made : goal.returns-clause-made
returns-clause-made c = λ w t.
    node-drawn w _ _ _ c.in_ok-node.ensures.adds ∙ ap (λ (n : ℕ). add_node (drawn_of w c.args.draft.now) (Call n c.args.next)) c.in-Some.ensures.made
