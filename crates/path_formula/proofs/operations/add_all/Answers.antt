use Rattle.std.proofs.Common.{true}
use Rattle.std.proofs.lemmas.Result.{err_from_is_err_and}
use Rattle.path_formula.proofs.Adding.{got_again, rest_cut, rest_turn, rest_skip}
use Rattle.path_formula.proofs.operations.add_all.Goals.{then-is_set+in_ok-add_operation, else-is_set}
use Rattle.path_formula.proofs.operations.add_all.Goals as goal

pub returns-in_err-add_operation-clause-cut : goal.returns-in_err-add_operation-clause-cut
returns-in_err-add_operation-clause-cut c =
    let p = err_from_is_err_and c.from_residual.result c.from_residual.ensures.1 in
    rw (p.1, p.2)
    (rest_cut c.args.terms.now c.args.bits.now c.loop-number.bits c.args.ops.now c.args.kept.now c.loop-number.number c.args.clauses.now c.loop-number.clauses
    c.add_operation.new.clauses c.args.draws.now.items c.loop-number.draws.items _ true _ c.loop-number-test.true (got_again c.args.ops.now c.loop-number.number _ c.loop-number-test.true) c.if-is_set.ensures c.in_err-add_operation.ensures.cut
    c.loop-number.invariant.1)

pub loop-number-preserved : goal.loop-number-preserved
loop-number-preserved c = elim c.if-is_set.branch [
  | then-is_set+in_ok-add_operation w ↦
      rw (w.clauses-is, w.bits-is, w.draws-is) (
        w.in_ok-add_operation.ensures.over,
        rest_turn c.args.terms.now c.args.bits.now c.loop-number.bits w.add_operation.new.bits c.args.ops.now c.args.kept.now c.loop-number.number
            c.args.clauses.now c.loop-number.clauses w.add_operation.new.clauses c.args.draws.now.items c.loop-number.draws.items w.add_operation.new.draws.items
            _ true c.loop-number-test.true (got_again c.args.ops.now c.loop-number.number _ c.loop-number-test.true) w.if-is_set.ensures w.in_ok-add_operation.ensures.clauses w.in_ok-add_operation.ensures.draws
            w.in_ok-add_operation.ensures.held c.loop-number.invariant.1,
      )
  | else-is_set w ↦
      rw (w.clauses-is, w.bits-is, w.draws-is) (
        c.loop-number.invariant.0,
        rest_skip c.args.terms.now c.args.bits.now c.loop-number.bits c.args.ops.now c.args.kept.now c.loop-number.number c.args.clauses.now
            c.loop-number.clauses c.args.draws.now.items c.loop-number.draws.items c.loop-number-test.true w.if-is_set.ensures c.loop-number.invariant.1,
      )
]
