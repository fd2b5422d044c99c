use Rattle.std.proofs.Common.{ℕ, Bool, List, ◌||◌}
use Rattle.interpolants.proofs.plain.put_neither.Goals as goal

pub returns-clause-truth : goal.returns-clause-truth
returns-clause-truth c =
    λ (f g : List ℕ → Bool) h i. c.put_not.ensures.truth (λ store. f store || g store) (c.in_ok-one.ensures.truth f g h i)
