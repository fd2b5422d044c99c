use Rattle.std.proofs.Common.{◌<◌, ◌≤◌, true, length, arith}
use Rattle.interpolants.proofs.Walking.{leaf-told, past-told, ok-same, ok-at}
use Rattle.interpolants.proofs.walk.fresh.Goals as goal

pub returns-then-number-len-clause-told : goal.returns-then-number-len-clause-told
returns-then-number-len-clause-told g c =
    let lt : c.args.number < length c.args.cut.now.clauses.now = omega (arith, c.if-number-len.true, c.len.ensures.value) in
    λ store agree covered before.
    ok-same _ (λ f. g.A.Algebra.truth c.leaf.new.algebra f store) _ _ (leaf-told c.args.cut.now store c.args.number _ (before lt) c.clause.ensures)
    (c.leaf.ensures.told store agree (covered c.args.number _ (before lt) c.clause.ensures))

pub returns-else-number-len-clause-told : goal.returns-else-number-len-clause-told
returns-else-number-len-clause-told g c =
    let le : length c.args.cut.now.clauses.now ≤ c.args.number = omega (arith, c.if-number-len.false, c.len.ensures.value) in
    λ store agree covered before.
    ok-at _ (g.A.Algebra.truth c.constant.new.self) store (λ s. true) _ (past-told c.args.cut.now store c.args.number le) c.constant.ensures.told
