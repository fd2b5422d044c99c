use Rattle.std.proofs.Common.{ℕ, Bool, List, refl, subst}
use Rattle.bv_term.specs.WellFormed.{Table}
use Rattle.c_graph.specs.declared.graph.Operation.TheVariants.{Assume}
use Rattle.truth_terms.specs.Truths.{IsBit}
use Rattle.truth_terms.proofs.Bits.{test-is}
use Rattle.block_rule.specs.Deeds.{Tests}
use Rattle.block_steps.specs.Tests.{holds}
use Rattle.block_steps.proofs.Places.{does}
use Rattle.block_steps.proofs.steps.assumed.Goals as goal

pub returns-clause-means : goal.returns-clause-means
returns-clause-means c = λ code m.
    let h = c.args.graph.now in
    let (there, behind) = c.requires.found in
    let p : List ℕ → Bool = holds c.args.old.now c.args.test in
    let bit : IsBit h.terms c.args.term p = subst (λ (t : Table). IsBit t c.args.term p) c.terms.ensures.value (c.if-not-is_test.ensures.means refl) in
    does h c.args.cursor c.args.next (Assume c.args.term) (Tests p) code there behind (λ s w. test-is h.terms c.args.term p s bit w) tt m
