use Rattle.std.proofs.Common.{◌||◌, ℕ, Bool, List, refl, subst}
use Rattle.bv_term.specs.Numbers.{truth}
use Rattle.bv_term.specs.WellFormed.{Table}
use Rattle.truth_terms.specs.Truths.{IsBit, is_one}
use Rattle.block_rule.specs.Rule.{is_set}
use Rattle.block_steps.specs.Tests.{holds}
use Rattle.block_steps.proofs.steps.adds.Goals as goal

pub returns-clause-means : goal.returns-clause-means
returns-clause-means c = λ code m.
    let h = c.args.graph.now in
    let p : List ℕ → Bool = holds c.args.old.now c.args.test in
    let bit : IsBit h.terms c.in-Some-is_added.term p =
    subst (λ (t : Table). IsBit t c.in-Some-is_added.term p) c.terms-2.ensures.value (c.if-not-is_test.ensures.means refl) in
    let more : (q : List ℕ → Bool) → IsBit h.terms c.in-Some-is_added.term q → IsBit h.terms c.in-Some.put.term (λ s. is_one c.args.cell s || q s) =
    subst (λ (t : Table). (q : List ℕ → Bool) → IsBit t c.in-Some-is_added.term q → IsBit t c.in-Some.put.term (λ s. is_one c.args.cell s || q s))
    c.terms.ensures.value c.in-Some-is_added.ensures.means in
    c.in-Some.ensures.means (λ s. truth (is_set c.args.cell s || p s)) code (more p bit) m
