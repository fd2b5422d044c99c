use Rattle.std.proofs.Common.{◌≡◌, ◌≢◌, ℕ, ◌+◌, ◌-◌, ◌<◌, ◌≤◌, ◌&&◌, ◌||◌, ◌==◌, Bool, true, false, not, List, [], ◌∷◌, ◌++◌, length, refl, sym, ap, ◌∙◌, subst, arith, rules, Some, Result, Ok, Err, slice_get, zero, suc}
use Rattle.formula_diagrams.specs.declared.items.Node.{Node}
use Rattle.formula_diagrams.specs.Shape.{Arena, FitsNode, count}
use Rattle.formula_diagrams.proofs.Truth.{get-below, made-found}
use Rattle.formula_diagrams.proofs.Pairing.{entered-result}
use Rattle.formula_diagrams.proofs.arena.Diagrams.make.Goals as goal

pub overflow_cast-result : goal.overflow_cast-result
overflow_cast-result c =
    let lt : c.in-Some.place < length c.args.self.now.nodes = get-below c.args.self.now.nodes c.in-Some.place _ c.in-Some.ensures.at in
    omega (arith, lt, c.in-Some.ensures.arena.few, c.in-Some.ensures.arena.most)

pub overflow_add-result : goal.overflow_add-result
overflow_add-result c =
    let lt : c.in-Some.place < length c.args.self.now.nodes = get-below c.args.self.now.nodes c.in-Some.place _ c.in-Some.ensures.at in
    omega (arith, lt, c.in-Some.ensures.arena.few, c.in-Some.ensures.arena.most)

pub returns-in-Some-clause-made : goal.returns-in-Some-clause-made
returns-in-Some-clause-made c = made-found _ _ _ _ c.in-Some.ensures.arena c.in-Some.ensures.at refl

pub returns-in-None-clause-made : goal.returns-in-None-clause-made
returns-in-None-clause-made c =
    let x : Node = record { top = c.args.top; low = c.args.low; high = c.args.high } in
    let f : FitsNode c.args.self.now.cells (count c.args.self.now) x = search rules in
    entered-result _ _ _ x c.in-None.ensures.arena f c.enter.ensures.entered c.enter.ensures.number
