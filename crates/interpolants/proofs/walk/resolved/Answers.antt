use Rattle.std.proofs.Common.{sym, ◌∙◌}
use Rattle.interpolants.proofs.Walking.{told-either, told-joined}
use Rattle.interpolants.proofs.walk.resolved.Goals as goal

pub returns-then-is_behind-clause-told : goal.returns-then-is_behind-clause-told
returns-then-is_behind-clause-told g c =
    told-joined _ (g.A.Algebra.truth c.both.new.self) _ (g.A.Algebra.truth c.args.algebra.now c.args.left)
    (g.A.Algebra.truth c.args.algebra.now c.args.right) (sym c.is_behind.ensures ∙ c.if-is_behind.true) c.both.ensures.told

pub returns-else-is_behind-clause-told : goal.returns-else-is_behind-clause-told
returns-else-is_behind-clause-told g c =
    told-either _ (g.A.Algebra.truth c.either.new.self) _ (g.A.Algebra.truth c.args.algebra.now c.args.left)
    (g.A.Algebra.truth c.args.algebra.now c.args.right) (sym c.is_behind.ensures ∙ c.if-is_behind.false) c.either.ensures.told
