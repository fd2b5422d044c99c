use Rattle.std.proofs.Common.{◌≡◌, ◌≢◌, ℕ, ◌+◌, ◌-◌, ◌<◌, ◌≤◌, ◌&&◌, ◌||◌, ◌==◌, Bool, true, false, not, List, [], ◌∷◌, ◌++◌, length, refl, sym, ap, ◌∙◌, subst, arith, rules, Some, Result, Ok, Err, slice_get, zero, suc}
use Rattle.formula_diagrams.specs.Shape.{Arena, FitsNode, count}
use Rattle.formula_diagrams.proofs.Truth.{arena-snoc}
use Rattle.formula_diagrams.proofs.arena.Diagrams.enter.Goals as goal

pub invariant_of-self-else-is_err-2 : goal.invariant_of-self-else-is_err-2
invariant_of-self-else-is_err-2 c =
    let e : c.push.new.self.items ≡ c.self.inside.nodes.items ++ c.args.node ∷ [] = search rules in
    let P : Arena → Type 0 = λ a. FitsNode a.cells (count a) c.args.node in
    let f = subst P (sym c.self.view_is) c.requires in
    let lt : length c.self.inside.nodes.items < c.self.inside.most = omega (arith, c.len-place.ensures) in
    rw e (arena-snoc _ c.args.node c.self.invariant f lt)
