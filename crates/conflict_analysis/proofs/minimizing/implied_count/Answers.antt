use Rattle.std.proofs.Common.{arith, length, get_or, refl}
use Rattle.resolution_log.proofs.Places.{listed_at}
use Rattle.conflict_analysis.proofs.RowLaws.{code_fits}
use Rattle.conflict_analysis.proofs.minimizing.implied_count.Goals as goal

pub bounds-reasons-code : goal.bounds-reasons-code
bounds-reasons-code c =
    let a = code_fits (length c.args.stamps.now) c.args.clause.now c.loop-code.code-index c.requires.small c.loop-code-test.true in
    omega (arith, a, c.requires.stamps)

pub implied_by-requires-clause-known : goal.implied_by-requires-clause-known
implied_by-requires-clause-known c = λ r h. c.requires.known (get_or c.args.clause.now c.loop-code.code-index 0) r (listed_at c.args.clause.now (get_or c.args.clause.now c.loop-code.code-index 0) c.loop-code.code-index c.loop-code-test.true refl) c.if-code-uip.false h
