use Rattle.std.proofs.Common.{ap, arith}
use Rattle.prop.proofs.Clauses.literals.Goals as goal
use Rattle.prop.specs.Logic.{count}
use Rattle.prop.proofs.Pieces.{count-pieces}

pub returns : goal.returns
returns c =
    let h = count-pieces 0 c.self.inside.ends.items c.self.inside.lits.items c.self.invariant.0 in
    let e = ap count c.self.view_is in
    record { value = omega (arith, h, e, c.len.ensures, c.self.inside.lits.ok.0); within = omega (arith, h, e, c.self.invariant.1) }
