use Rattle.interpolants.proofs.Agreeing.{literal-result}
use Rattle.interpolants.proofs.walk.literal.Goals as goal

pub returns-in-Some-clause-told : goal.returns-in-Some-clause-told
returns-in-Some-clause-told g c =
    λ store agree has.
    literal-result _ (g.A.Algebra.truth c.bit.new.self) _ store _ c.in-Some.placed _ agree c.in-Some.ensures.found c.are_same-value.ensures c.bit.ensures.told
