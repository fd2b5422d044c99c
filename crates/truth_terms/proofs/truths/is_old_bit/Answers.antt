use Rattle.std.proofs.Common.{rules, ◌<◌, length}
use Rattle.bv_term.specs.WellFormed.{IsTable}
use Rattle.truth_terms.proofs.Bits.{old-bit}
use Rattle.truth_terms.proofs.truths.is_old_bit.Goals as goal

pub returns-clause-means : goal.returns-clause-means
returns-clause-means c = λ h.
    let less : c.args.term.0 < length c.args.old.now.terms = search rules in
    let old : IsTable c.args.old.now = search rules in
    let new : IsTable c.args.terms.now = search rules in
    old-bit c.args.old.now c.args.terms.now c.args.term old new c.requires less (c.is_one_wide.ensures.means h)
