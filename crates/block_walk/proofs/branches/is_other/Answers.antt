use Rattle.std.proofs.Common.{ℕ, Bool, not, List, IsTrue, subst}
use Rattle.bv_term.specs.WellFormed.{Table}
use Rattle.truth_terms.specs.Truths.{IsBit}
use Rattle.block_walk.proofs.branches.is_other.Goals as goal

pub returns-clause-means : goal.returns-clause-means
returns-clause-means c =
    subst (λ (t : Table). IsTrue c.is_not.result → (p : List ℕ → Bool) → IsBit t c.args.term p → IsBit t c.args.other (λ s. not (p s)))
    c.terms.ensures.value c.is_not.ensures.means
