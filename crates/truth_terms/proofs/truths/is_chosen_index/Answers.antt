use Rattle.truth_terms.proofs.truths.is_chosen_index.Goals as goal

pub returns-in-Some-clause-means : goal.returns-in-Some-clause-means
returns-in-Some-clause-means c = λ h. c.in-Some.ensures.means (λ s. c.args.number) (c.is_number.ensures.means h)
