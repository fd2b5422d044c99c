use Rattle.std.proofs.Common.{rules, ◌≡◌, ◌∙◌, sym, ap, arith, ℕ, ◌<◌, length, slice_get, Some, subst}
use Rattle.prop.proofs.Pieces.{length-pieces}
use Rattle.plain_solver.proofs.known.Known.clause.Goals as goal

pub piece-requires-clause-at : goal.piece-requires-clause-at
piece-requires-clause-at c =
    let h = length-pieces 0 c.self.inside.ends.items c.self.inside.items.items in
    let e = ap length c.self.view_is in
    omega (arith, h, e, c.requires, ap length c.as_slice.ensures.value)
