use Rattle.std.proofs.lemmas.Result.{err_from_is_err_and}
use Rattle.bit_gates.proofs.Refusals.{made_within}
use Rattle.obligations.proofs.CutOff.{node_off}
use Rattle.obligations.proofs.clauses.node_clauses.Goals as goal

pub returns-in_err-state-clause-cut : goal.returns-in_err-state-clause-cut
returns-in_err-state-clause-cut c =
    let r = err_from_is_err_and c.from_residual-in_err-state.result c.from_residual-in_err-state.ensures.1 in
    rw (r.1, r.2)
    (node_off c.args.holds c.args.map.now c.args.node c.in_ok-bits.bits c.begin.new.clauses c.state.new.clauses c.in_err-state.field-0.0
    c.in_ok-bits.ensures.begun c.begin.ensures.clauses
    (made_within c.state.new.clauses c.clauses-2.inside.ends.items c.clauses-2.inside.lits.items c.clauses-2.view_is c.clauses-2.invariant.0 c.clauses-2.invariant.1) c.in_err-state.ensures.cut)
