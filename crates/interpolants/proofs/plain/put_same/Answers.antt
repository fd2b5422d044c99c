use Rattle.std.proofs.Common.{ℕ, Bool, not, List, ◌&&◌, ◌||◌}
use Rattle.formula_diagrams.specs.Truths.{choice}
use Rattle.formula_diagrams.specs.Writings.{IsTruth}
use Rattle.formula_diagrams.proofs.Putting.{bit-stays, truth-stays, same-result}
use Rattle.interpolants.proofs.Settling.{same-by}
use Rattle.interpolants.proofs.plain.put_same.Goals as goal

pub put_neither-requires-clause-left : goal.put_neither-requires-clause-left
put_neither-requires-clause-left c = bit-stays _ _ _ c.put_both.ensures.extends c.requires.left

pub put_neither-requires-clause-right : goal.put_neither-requires-clause-right
put_neither-requires-clause-right c = bit-stays _ _ _ c.put_both.ensures.extends c.requires.right

pub put_either-requires-clause-left : goal.put_either-requires-clause-left
put_either-requires-clause-left c = bit-stays _ _ _ c.put_neither.ensures.extends c.in_ok-both.ensures.bit

pub returns-clause-truth : goal.returns-clause-truth
returns-clause-truth c =
    λ (f g : List ℕ → Bool) h i.
    let all : List ℕ → Bool = λ store. f store && g store in
    let none : List ℕ → Bool = λ store. not (f store || g store) in
    let both : IsTruth c.put_both.new.terms c.in_ok-both.both all = c.in_ok-both.ensures.truth f g h i in
    let x = c.put_both.ensures.extends in
    let neither : IsTruth c.put_neither.new.terms c.in_ok-neither.neither none =
    c.in_ok-neither.ensures.truth f g (truth-stays _ _ _ f x h) (truth-stays _ _ _ g x i) in
    same-result _ _ (λ store. all store || none store) (λ store. choice (f store) (g store) (not (g store)))
    (λ store. same-by (f store) (g store))
    (c.put_either.ensures.truth all none (truth-stays _ _ _ all c.put_neither.ensures.extends both) neither)
