use Rattle.bit_gates.specs.Net.{net_clauses}
use Rattle.bit_blast.specs.Held.{blast_of}
use Rattle.bit_gates.proofs.Refusals.{first_cut}
use Rattle.path_formula.proofs.Operating.{assumed_cut}
use Rattle.path_formula.proofs.operations.assume.Goals as goal

pub returns-in-Err-clause-cut : goal.returns-in-Err-clause-cut
returns-in-Err-clause-cut c =
    first_cut c.in-Err.end c.args.clauses.now (net_clauses c.args.bits.now.next (blast_of c.args.terms.now c.args.term.0 c.args.bits.now).defs) _ c.blast.new.clauses c.in-Err.ensures.emission

pub returns-in-Err-push-clause-cut : goal.returns-in-Err-push-clause-cut
returns-in-Err-push-clause-cut c =
    assumed_cut c.args.terms.now c.args.term.0 c.args.bits.now c.args.clauses.now c.blast.new.clauses c.push.new.self c.in-Ok.lit c.in-Err-push.end
    c.in-Ok.ensures.emission.0.1 c.in-Ok.ensures.emission.1 c.in-Err-push.ensures.0 c.in-Err-push.ensures.1
