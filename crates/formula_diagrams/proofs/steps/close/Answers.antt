use Rattle.std.proofs.Common.{◌≡◌, ◌≢◌, ℕ, ◌+◌, ◌-◌, ◌<◌, ◌≤◌, ◌&&◌, ◌||◌, ◌==◌, Bool, true, false, not, List, [], ◌∷◌, ◌++◌, length, refl, sym, ap, ◌∙◌, subst, arith, rules, Some, Result, Ok, Err, slice_get, zero, suc}
use Rattle.formula_diagrams.proofs.Pairing.{right-stay, close-right, closed-means}
use Rattle.formula_diagrams.specs.Joins.{AllRight}
use Rattle.formula_diagrams.specs.declared.recall.Known.{Known}
use Rattle.formula_diagrams.proofs.steps.close.Goals as goal

pub returns-in_err-node-clause-right : goal.returns-in_err-node-clause-right
returns-in_err-node-clause-right c = right-stay _ _ _ c.make.ensures.grown c.requires.right

pub returns-in_err-add-clause-right : goal.returns-in_err-add-clause-right
returns-in_err-add-clause-right c =
    let P : List Known → Type 0 = λ ks. AllRight c.make.new.self ks in
    subst P (sym c.in_err-add.ensures.unchanged) (right-stay _ _ _ c.make.ensures.grown c.requires.right)

pub returns-clause-right : goal.returns-clause-right
returns-clause-right c = close-right _ _ _ _ _ _ _ _ _ c.in_ok-add.ensures.added c.requires.right c.requires.split c.requires.low c.requires.high c.make.ensures.grown c.in_ok-node.ensures.made

pub returns-clause-means : goal.returns-clause-means
returns-clause-means c = closed-means _ _ _ _ _ _ _ c.requires.split c.requires.low c.requires.high c.make.ensures.grown c.in_ok-node.ensures.made
