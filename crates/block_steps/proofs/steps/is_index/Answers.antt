use Rattle.std.proofs.Common.{ℕ, Option, IsTrue, sym, subst, if◌then◌else◌}
use Rattle.bv_term.specs.Values.{value}
use Rattle.truth_terms.specs.Truths.{Means}
use Rattle.block_rule.specs.Rule.{is_on}
use Rattle.block_steps.proofs.steps.is_index.Goals as goal

pub returns-in-Some-clause-means : goal.returns-in-Some-clause-means
returns-in-Some-clause-means c =
    subst
    (λ (g : Option ℕ). IsTrue c.is_chosen_index.result
    → Means c.args.terms.now c.args.found (λ s. if is_on g s then value c.args.old.now s c.args.index else c.args.count))
    (sym c.in-Some.is) c.is_chosen_index.ensures.means
