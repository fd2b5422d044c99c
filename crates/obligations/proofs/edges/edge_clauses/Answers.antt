use Rattle.std.proofs.Common.{◌∙◌}
use Rattle.std.proofs.lemmas.Result.{err_from_is_err_and}
use Rattle.bit_gates.proofs.Refusals.{made_within}
use Rattle.obligations.proofs.CutOff.{end_off, middle_off, operated, start_off, started}
use Rattle.obligations.proofs.edges.edge_clauses.Goals as goal

pub returns-in_err-state-clause-cut : goal.returns-in_err-state-clause-cut
returns-in_err-state-clause-cut c =
    let r = err_from_is_err_and c.from_residual-in_err-state.result c.from_residual-in_err-state.ensures.1 in
    rw (r.1, r.2)
    (start_off c.args.graph.now c.args.map.now c.args.edge.0 c.start_of-start.result c.in_ok-bits.bits c.begin.new.clauses c.state.new.clauses c.in_err-state.field-0.0
    c.start_of-start.ensures.from c.in_ok-bits.ensures.begun c.begin.ensures.clauses
    (made_within c.state.new.clauses c.clauses-2.inside.ends.items c.clauses-2.inside.lits.items c.clauses-2.view_is c.clauses-2.invariant.0 c.clauses-2.invariant.1) c.in_err-state.ensures.cut)

pub returns-in_err-operate-clause-cut : goal.returns-in_err-operate-clause-cut
returns-in_err-operate-clause-cut c =
    let r = err_from_is_err_and c.from_residual-in_err-operate.result c.from_residual-in_err-operate.ensures.1 in
    let g = c.args.graph.now in
    let m = c.args.map.now in
    let k = c.args.edge.0 in
    let start = started g m k c.start_of-start.result c.in_ok-bits.bits c.state.new.bits c.begin.new.clauses c.state.new.clauses
    c.start_of-start.ensures.from c.in_ok-bits.ensures.begun c.begin.ensures.clauses c.in_ok-state.ensures.clauses c.in_ok-state.ensures.held in
    rw (r.1, r.2)
    (middle_off g m k c.state.new.bits c.deref.result.now c.state.new.clauses c.operate.new.clauses c.in_err-operate.field-0.0
    start (c.deref.ensures.value ∙ c.in_ok-kept.ensures.kept)
    (made_within c.operate.new.clauses c.clauses-3.inside.ends.items c.clauses-3.inside.lits.items c.clauses-3.view_is c.clauses-3.invariant.0 c.clauses-3.invariant.1) c.in_err-operate.ensures.cut)

pub returns-in_err-state-2-clause-cut : goal.returns-in_err-state-2-clause-cut
returns-in_err-state-2-clause-cut c =
    let r = err_from_is_err_and c.from_residual-in_err-state-2.result c.from_residual-in_err-state-2.ensures.1 in
    let g = c.args.graph.now in
    let m = c.args.map.now in
    let k = c.args.edge.0 in
    let start = started g m k c.start_of-start.result c.in_ok-bits.bits c.state.new.bits c.begin.new.clauses c.state.new.clauses
    c.start_of-start.ensures.from c.in_ok-bits.ensures.begun c.begin.ensures.clauses c.in_ok-state.ensures.clauses c.in_ok-state.ensures.held in
    let middle = operated g m k c.state.new.bits c.operate.new.bits c.deref.result.now c.state.new.clauses c.operate.new.clauses
    start.1 (c.deref.ensures.value ∙ c.in_ok-kept.ensures.kept) c.in_ok-operate.ensures.clauses c.in_ok-operate.ensures.held in
    rw (r.1, r.2)
    (end_off g m k c.end_of-end.result c.operate.new.bits c.state.new.clauses c.operate.new.clauses c.state-2.new.clauses c.in_err-state-2.field-0.0
    start.0 middle c.end_of-end.ensures.to
    (made_within c.state-2.new.clauses c.clauses-4.inside.ends.items c.clauses-4.inside.lits.items c.clauses-4.view_is c.clauses-4.invariant.0 c.clauses-4.invariant.1) c.in_err-state-2.ensures.cut)
