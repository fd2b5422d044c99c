use Rattle.std.proofs.Common.{[], arith, subst}
use Rattle.bv_term.specs.WellFormed.{FitsTable}
use Rattle.bv_term.proofs.Staying.{one_for_each}
use Rattle.refine.proofs.witnesses.known_truth.Goals as goal

pub bit_truth-requires-clause-there : goal.bit_truth-requires-clause-there
bit_truth-requires-clause-there c =
    let f = subst (FitsTable c.args.terms.now) c.in-Bit.is c.requires.fits in
    let w = one_for_each c.args.terms.now [] in
    omega (arith, f.0, w.0)
