use Rattle.std.proofs.Common.{slice_index}
use Rattle.truth_terms.proofs.truths.is_chosen.Goals as goal

pub returns-in-Some-clause-means : goal.returns-in-Some-clause-means
returns-in-Some-clause-means c = λ h. c.in-Some.ensures.means (λ s. slice_index s c.args.cell) (c.is_cell.ensures.means h)
