use Rattle.std.proofs.Common.{ℕ, Bool, List, refl, subst}
use Rattle.bv_term.specs.Numbers.{truth}
use Rattle.bv_term.specs.WellFormed.{Table}
use Rattle.truth_terms.specs.Truths.{IsBit}
use Rattle.block_steps.specs.Tests.{holds}
use Rattle.block_steps.proofs.steps.sets.Goals as goal

pub returns-clause-means : goal.returns-clause-means
returns-clause-means c = λ code m.
    let p : List ℕ → Bool = holds c.args.old.now c.args.test in
    let bit : IsBit c.args.graph.now.terms c.in-Some.put.term p =
    subst (λ (t : Table). IsBit t c.in-Some.put.term p) c.terms.ensures.value (c.if-not-is_test.ensures.means refl) in
    c.in-Some.ensures.means (λ s. truth (p s)) code bit m
