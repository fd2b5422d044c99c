use Rattle.std.proofs.Common.{◌≡◌, ◌≢◌, ℕ, ◌+◌, ◌-◌, ◌<◌, ◌≤◌, ◌&&◌, ◌||◌, ◌==◌, Bool, true, false, not, List, [], ◌∷◌, ◌++◌, length, refl, sym, ap, ◌∙◌, subst, arith, rules, Some, Result, Ok, Err, slice_get, zero, suc}
use Rattle.formula_diagrams.specs.Truths.{choice, is_set, holds}
use Rattle.formula_diagrams.specs.Shape.{IsBitIn}
use Rattle.formula_diagrams.proofs.Putting.{side-stays, same-result}
use Rattle.formula_diagrams.proofs.Marking.{next-low, next-high, tells-side}
use Rattle.formula_diagrams.proofs.writing.put_needed.Goals as goal

pub put_bit-requires : goal.put_bit-requires
put_bit-requires c =
    let P : List ℕ → Type 0 = λ cells. IsBitIn cells c.at-node.result.top in
    subst P (sym c.requires.cells) c.at-node.ensures.fits.top

pub put_choice-requires-clause-top : goal.put_choice-requires-clause-top
put_choice-requires-clause-top c = c.in_ok-top.ensures.truth.bit

pub put_choice-requires-clause-low : goal.put_choice-requires-clause-low
put_choice-requires-clause-low c = tells-side _ _ _ (next-low _ _ _ _ _ c.args.place c.at-node.result _ c.at-node.ensures.fits c.at-node.ensures.at c.requires.closed c.requires.marked c.requires.place c.requires.written c.put_bit.ensures.extends c.side_at-low.ensures)

pub put_choice-requires-clause-high : goal.put_choice-requires-clause-high
put_choice-requires-clause-high c = tells-side _ _ _ (next-high _ _ _ _ _ c.args.place c.at-node.result _ c.at-node.ensures.fits c.at-node.ensures.at c.requires.closed c.requires.marked c.requires.place c.requires.written c.put_bit.ensures.extends c.side_at-high.ensures)

pub returns-clause-truth : goal.returns-clause-truth
returns-clause-truth c =
    let f : List ℕ → Bool = λ store. is_set store c.at-node.result.top in
    let g : List ℕ → Bool = λ store. holds c.args.nodes.now store c.at-node.result.low.0 in
    let h : List ℕ → Bool = λ store. holds c.args.nodes.now store c.at-node.result.high.0 in
    let low = next-low _ _ _ _ _ c.args.place c.at-node.result _ c.at-node.ensures.fits c.at-node.ensures.at c.requires.closed c.requires.marked c.requires.place c.requires.written c.put_bit.ensures.extends c.side_at-low.ensures in
    let high = next-high _ _ _ _ _ c.args.place c.at-node.result _ c.at-node.ensures.fits c.at-node.ensures.at c.requires.closed c.requires.marked c.requires.place c.requires.written c.put_bit.ensures.extends c.side_at-high.ensures in
    same-result _ _ (λ store. choice (f store) (h store) (g store)) (λ store. holds c.args.nodes.now store (c.args.place + 2)) (λ store. sym (c.at-node.ensures.told store))
    (c.put_choice.ensures.truth f g h c.in_ok-top.ensures.truth low high)
