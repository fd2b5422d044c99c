use Rattle.std.proofs.Common.{refl}
use Rattle.truth_terms.specs.Truths.{is_one}
use Rattle.truth_terms.proofs.Bits.{either-bit}
use Rattle.truth_terms.proofs.truths.added.Goals as goal

pub returns-clause-means : goal.returns-clause-means
returns-clause-means c = λ p b.
    either-bit c.args.terms.now c.args.term c.args.first c.args.second (is_one c.args.cell) p c.requires.0 c.requires.1 (c.if-not-is_cell_bit.ensures.means refl) b
