use Rattle.std.proofs.Common.{rules, ◌≡◌, ◌∙◌, sym, ap, arith, refl, ◌+◌, ◌≤◌, length, List, subst, length-append, ◌++◌, ◌∷◌, [], ℕ}
use Rattle.prop.specs.Pieces.{Rising, pieces}
use Rattle.prop.proofs.Pieces.{rows_keep, push_view}
use Rattle.plain_solver.proofs.known.Known.push.Goals as goal

pub invariant_of-self-else-is_err : goal.invariant_of-self-else-is_err
invariant_of-self-else-is_err c =
    let a : c.extend_from_slice.new.self.items ≡ c.self.inside.items.items ++ c.args.clause.now = search rules in
    let b : c.push.new.self.items ≡ c.self.inside.ends.items ++ c.len-end.result ∷ [] = search rules in
    rows_keep c.self.inside.ends.items c.push.new.self.items c.self.inside.items.items c.args.clause.now c.extend_from_slice.new.self.items c.len-end.result a b (omega (arith, c.len-end.ensures, c.extend_from_slice.new.self.ok.0, ap length a, length-append c.self.inside.items.items c.args.clause.now)) c.self.invariant

pub returns-clause-pushed : goal.returns-clause-pushed
returns-clause-pushed c =
    let a : c.extend_from_slice.new.self.items ≡ c.self.inside.items.items ++ c.args.clause.now = search rules in
    let b : c.push.new.self.items ≡ c.self.inside.ends.items ++ c.len-end.result ∷ [] = search rules in
    push_view c.self.inside.ends.items c.push.new.self.items c.self.inside.items.items c.args.clause.now c.extend_from_slice.new.self.items c.len-end.result c.args.self.now a b (omega (arith, c.len-end.ensures, c.extend_from_slice.new.self.ok.0, ap length a, length-append c.self.inside.items.items c.args.clause.now)) c.self.invariant c.self.view_is
