use Rattle.std.proofs.Common.{rules, ◌<◌, length}
use Rattle.bv_term.specs.WellFormed.{IsTable}
use Rattle.std.proofs.lemmas.Bool.{ltb-true}
use Rattle.truth_terms.proofs.Bits.{old-means}
use Rattle.truth_terms.proofs.truths.is_old.Goals as goal

pub returns-clause-means : goal.returns-clause-means
returns-clause-means c = λ h.
    let lt : c.args.term.0 < c.count.result = ltb-true c.args.term.0 c.count.result h in
    let less : c.args.term.0 < length c.args.old.now.terms = search rules in
    let is : IsTable c.args.old.now = search rules in
    old-means c.args.old.now c.args.terms.now c.args.term is c.requires less
