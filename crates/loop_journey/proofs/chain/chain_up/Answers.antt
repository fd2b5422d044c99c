use Rattle.std.proofs.Common.{◌≡◌, ℕ, ◌∙◌, ◌++◌, ◌∷◌, [], List, ap, sym, subst, reverse}
use Rattle.bv_term.specs.declared.term.TermId.{TermId}
use Rattle.loop_journey.specs.declared.formula.Formula.{Formula}
use Rattle.loop_journey.specs.Chains.{Climbed, IsChain}
use Rattle.loop_journey.proofs.Climbing.{at_leaf, at_root, one_up_by}
use Rattle.loop_journey.proofs.Labels.{if_some}
use Rattle.loop_journey.proofs.chain.chain_up.Goals as goal

pub loop-left-init : goal.loop-left-init
loop-left-init c = λ last.
    at_leaf last c.args.vertices.now c.args.leaf c.push.new.self.items (c.in_ok-push.ensures.items ∙ ap (λ (fs : List TermId). fs ++ c.term.result ∷ []) c.new-formulas.ensures.items ∙ ap (λ (t : TermId). t ∷ []) c.term.ensures)

pub returns-in_default : goal.returns-in_default
returns-in_default c =
    if_some _ _ c.if_true.result (λ fs p last.
    subst (λ (ts : List TermId). IsChain last c.args.vertices.now c.args.leaf (reverse ts)) (sym p.0)
    (at_root last c.args.vertices.now c.args.leaf c.loop-left.left c.loop-left.at c.loop-left.formulas.items
    (subst (λ (f : Formula). Climbed last c.args.vertices.now c.args.leaf c.loop-left.left c.loop-left.at c.loop-left.formulas.items f) p.1 (c.loop-left.invariant last))
    c.loop-left-test.true (sym c.parent_of.ensures ∙ c.in_default.is))) c.if_true.ensures

pub loop-left-preserved : goal.loop-left-preserved
loop-left-preserved c = λ last.
    one_up_by last c.args.vertices.now c.args.leaf c.loop-left.left c.loop-left.at c.loop-left.formulas.items c.push-in-loop-left.new.self.items c.loop-left.below c.in-Some-above.formula c.in-Some.parent c.edge_of-edge.result
    (c.loop-left.invariant last) c.loop-left-test.true (sym c.in-Some.is ∙ c.parent_of.ensures) (sym c.edge_of-edge.ensures) c.in-Some-above.ensures
    (c.in_ok-push-2.ensures.items ∙ ap (λ (t : TermId). c.loop-left.formulas.items ++ t ∷ []) c.term-in-loop-left.ensures)
