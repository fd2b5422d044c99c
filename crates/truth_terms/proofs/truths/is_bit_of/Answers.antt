use Rattle.std.proofs.Common.{rules, ◌≡◌, subst}
use Rattle.truth_terms.specs.Truths.{IsBit, is_one}
use Rattle.truth_terms.proofs.Bits.{cell-bit}
use Rattle.truth_terms.proofs.truths.is_bit_of.Goals as goal

pub returns-clause-means : goal.returns-clause-means
returns-clause-means c = λ h.
    let e : c.args.found ≡ c.args.cell = search rules in
    subst (λ n. IsBit c.args.terms.now c.args.term (is_one n)) e
    (cell-bit c.args.terms.now c.args.term c.args.found c.requires.0 c.requires.1 (c.is_one_wide.ensures.means h))
