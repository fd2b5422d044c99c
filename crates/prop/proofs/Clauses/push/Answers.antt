use Rattle.std.proofs.Common.{rules, ◌≡◌, ap, arith, refl, ◌+◌, length, ◌++◌, ◌∷◌, []}
use Rattle.prop.proofs.Clauses.push.Goals as goal
use Rattle.prop.specs.Logic.{count}
use Rattle.prop.proofs.Pieces.{count-pieces, push_keeps, push_view}

pub returns-then-total-gt-MOST_LITERALS : goal.returns-then-total-gt-MOST_LITERALS
returns-then-total-gt-MOST_LITERALS c =
    let h = count-pieces 0 c.self.inside.ends.items c.self.inside.lits.items c.self.invariant.0 in
    let e = ap count c.self.view_is in
    ((omega (arith, h, e, c.len.ensures, c.self.inside.lits.ok.0, c.if-total-gt-MOST_LITERALS.true), omega (arith, h, e, c.len.ensures, c.self.inside.lits.ok.0)), refl)

pub invariant_of-self-else-is_err-2 : goal.invariant_of-self-else-is_err-2
invariant_of-self-else-is_err-2 c =
    let a : c.extend_from_slice.new.self.items ≡ c.self.inside.lits.items ++ c.args.clause.now = search rules in
    let b : c.push.new.self.items ≡ c.self.inside.ends.items ++ (c.len.result + length c.args.clause.now) ∷ [] = search rules in
    push_keeps c.self.inside.ends.items c.push.new.self.items c.self.inside.lits.items c.args.clause.now c.extend_from_slice.new.self.items (c.len.result + length c.args.clause.now) a b (omega (arith, c.len.ensures, c.self.inside.lits.ok.0)) c.self.invariant.0 (omega (arith, c.if-total-gt-MOST_LITERALS.false)) (omega (arith, c.len-2.ensures, c.self.inside.ends.ok.0, c.is_full.ensures.room c.if-is_full.false))

pub returns : goal.returns
returns c =
    let a : c.extend_from_slice.new.self.items ≡ c.self.inside.lits.items ++ c.args.clause.now = search rules in
    let b : c.push.new.self.items ≡ c.self.inside.ends.items ++ (c.len.result + length c.args.clause.now) ∷ [] = search rules in
    let h = count-pieces 0 c.self.inside.ends.items c.self.inside.lits.items c.self.invariant.0 in
    let e = ap count c.self.view_is in
    (omega (arith, h, e, c.len.ensures, c.self.inside.lits.ok.0, c.if-total-gt-MOST_LITERALS.false), push_view c.self.inside.ends.items c.push.new.self.items c.self.inside.lits.items c.args.clause.now c.extend_from_slice.new.self.items (c.len.result + length c.args.clause.now) c.args.self.now a b (omega (arith, c.len.ensures, c.self.inside.lits.ok.0)) c.self.invariant.0 c.self.view_is)
