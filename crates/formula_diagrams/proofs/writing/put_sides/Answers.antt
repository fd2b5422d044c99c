use Rattle.std.proofs.Common.{◌≡◌, ◌≢◌, ℕ, ◌+◌, ◌-◌, ◌<◌, ◌≤◌, ◌&&◌, ◌||◌, ◌==◌, Bool, true, false, not, List, [], ◌∷◌, ◌++◌, length, refl, sym, ap, ◌∙◌, subst, arith, rules, Some, Result, Ok, Err, slice_get, zero, suc}
use Rattle.formula_diagrams.specs.Truths.{choice}
use Rattle.formula_diagrams.specs.Writings.{IsTruth}
use Rattle.formula_diagrams.proofs.Putting.{bit-stays, truth-stays, extends-twice, same-result, choose_both}
use Rattle.formula_diagrams.proofs.writing.put_sides.Goals as goal

pub put_not-requires : goal.put_not-requires
put_not-requires c = bit-stays _ _ _ c.put_and.ensures.extends c.requires.top

pub put_and-requires-2-clause-left : goal.put_and-requires-2-clause-left
put_and-requires-2-clause-left c = c.in_ok-other.ensures.bit

pub put_and-requires-2-clause-right : goal.put_and-requires-2-clause-right
put_and-requires-2-clause-right c = bit-stays _ _ _ (extends-twice _ _ _ c.put_and.ensures.extends c.put_not.ensures.extends) c.requires.low

pub put_or-requires-clause-left : goal.put_or-requires-clause-left
put_or-requires-clause-left c = bit-stays _ _ _ (extends-twice _ _ _ c.put_not.ensures.extends c.put_and-2.ensures.extends) c.in_ok-upper.ensures.bit

pub put_or-requires-clause-right : goal.put_or-requires-clause-right
put_or-requires-clause-right c = c.in_ok-lower.ensures.bit

pub returns-clause-truth : goal.returns-clause-truth
returns-clause-truth c =
    λ (f g h : List ℕ → Bool) ft gt ht.
    let no : List ℕ → Bool = λ store. not (f store) in
    let up : List ℕ → Bool = λ store. f store && h store in
    let down : List ℕ → Bool = λ store. no store && g store in
    let x2 = extends-twice _ _ _ c.put_and.ensures.extends c.put_not.ensures.extends in
    let x3 = extends-twice _ _ _ c.put_not.ensures.extends c.put_and-2.ensures.extends in
    let upper : IsTruth c.put_and.new.terms c.in_ok-upper.upper up = c.in_ok-upper.ensures.truth f h ft ht in
    let other : IsTruth c.put_not.new.terms c.in_ok-other.other no = c.in_ok-other.ensures.truth f (truth-stays _ _ _ f c.put_and.ensures.extends ft) in
    let lower : IsTruth c.put_and-2.new.terms c.in_ok-lower.lower down = c.in_ok-lower.ensures.truth no g other (truth-stays _ _ _ g x2 gt) in
    same-result _ _ (λ store. up store || down store) (λ store. choice (f store) (h store) (g store)) (λ store. choose_both (f store) (h store) (g store))
    (c.put_or.ensures.truth up down (truth-stays _ _ _ up x3 upper) lower)
