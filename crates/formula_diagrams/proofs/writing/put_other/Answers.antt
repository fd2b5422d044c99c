use Rattle.std.proofs.Common.{◌≡◌, ◌≢◌, ℕ, ◌+◌, ◌-◌, ◌<◌, ◌≤◌, ◌&&◌, ◌||◌, ◌==◌, Bool, true, false, not, List, [], ◌∷◌, ◌++◌, length, refl, sym, ap, ◌∙◌, subst, arith, rules, Some, Result, Ok, Err, slice_get, zero, suc}
use Rattle.formula_diagrams.specs.Truths.{choice}
use Rattle.formula_diagrams.specs.Writings.{IsTruth}
use Rattle.formula_diagrams.proofs.Putting.{bit-stays, truth-stays, same-result}
use Rattle.formula_diagrams.proofs.writing.put_other.Goals as goal

pub put_and-requires-clause-left : goal.put_and-requires-clause-left
put_and-requires-clause-left c = c.in_ok-other.ensures.bit

pub put_and-requires-clause-right : goal.put_and-requires-clause-right
put_and-requires-clause-right c = bit-stays _ _ _ c.put_not.ensures.extends c.requires.side

pub put_or-requires-clause-left : goal.put_or-requires-clause-left
put_or-requires-clause-left c = c.in_ok-other.ensures.bit

pub put_or-requires-clause-right : goal.put_or-requires-clause-right
put_or-requires-clause-right c = bit-stays _ _ _ c.put_not.ensures.extends c.requires.side

pub returns-then-is_both-clause-truth : goal.returns-then-is_both-clause-truth
returns-then-is_both-clause-truth c =
    λ (f g : List ℕ → Bool) ft gt.
    let no : List ℕ → Bool = λ store. not (f store) in
    let other : IsTruth c.put_not.new.terms c.in_ok-other.other no = c.in_ok-other.ensures.truth f ft in
    same-result _ _ (λ store. no store && g store) (λ store. choice c.args.is_both (no store && g store) (no store || g store))
    (λ store. sym (ap (λ (b : Bool). choice b (no store && g store) (no store || g store)) c.if-is_both.true))
    (c.put_and.ensures.truth no g other (truth-stays _ _ _ g c.put_not.ensures.extends gt))

pub returns-else-is_both-clause-truth : goal.returns-else-is_both-clause-truth
returns-else-is_both-clause-truth c =
    λ (f g : List ℕ → Bool) ft gt.
    let no : List ℕ → Bool = λ store. not (f store) in
    let other : IsTruth c.put_not.new.terms c.in_ok-other.other no = c.in_ok-other.ensures.truth f ft in
    same-result _ _ (λ store. no store || g store) (λ store. choice c.args.is_both (no store && g store) (no store || g store))
    (λ store. sym (ap (λ (b : Bool). choice b (no store && g store) (no store || g store)) c.if-is_both.false))
    (c.put_or.ensures.truth no g other (truth-stays _ _ _ g c.put_not.ensures.extends gt))
