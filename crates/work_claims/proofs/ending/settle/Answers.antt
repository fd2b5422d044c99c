use Rattle.std.proofs.Common.{◌∙◌, sym, ap, arith}
use Rattle.work_claims.specs.Counts.{once_below}
use Rattle.work_claims.proofs.Sums.{least-bound}
use Rattle.work_claims.proofs.Ends.{Ended, ends_at}
use Rattle.work_claims.proofs.ending.settle.Goals as goal

pub overflow_cast-result : goal.overflow_cast-result
overflow_cast-result c =
    let v = c.args.seat.me.0 in
    let e : Ended c.args.table.shared.key v c.word-next.result c.word-lowest.result = ends_at _ c.args.seat.id v _ _ _ _ c.close_with-closed.ensures.values c.word-next.ensures c.word-lowest.ensures c.requires.all in
    omega (arith, e.lowest_is, least-bound v.reported)

pub returns-clause-given : goal.returns-clause-given
returns-clause-given c x =
    let v = c.args.seat.me.0 in
    let e : Ended c.args.table.shared.key v c.word-next.result c.word-lowest.result = ends_at _ c.args.seat.id v _ _ _ _ c.close_with-closed.ensures.values c.word-next.ensures c.word-lowest.ensures c.requires.all in
    e.given x ∙ sym (ap (once_below x) (omega (arith, c.at_most.ensures, c.requires.total)))

pub returns-clause-finished : goal.returns-clause-finished
returns-clause-finished c some =
    let v = c.args.seat.me.0 in
    let e : Ended c.args.table.shared.key v c.word-next.result c.word-lowest.result = ends_at _ c.args.seat.id v _ _ _ _ c.close_with-closed.ensures.values c.word-next.ensures c.word-lowest.ensures c.requires.all in
    omega (arith, c.at_most.ensures, c.requires.total, e.finished some)

pub returns-clause-lowest : goal.returns-clause-lowest
returns-clause-lowest c =
    let v = c.args.seat.me.0 in
    let e : Ended c.args.table.shared.key v c.word-next.result c.word-lowest.result = ends_at _ c.args.seat.id v _ _ _ _ c.close_with-closed.ensures.values c.word-next.ensures c.word-lowest.ensures c.requires.all in
    e.lowest_is

pub returns-clause-answered : goal.returns-clause-answered
returns-clause-answered c =
    let v = c.args.seat.me.0 in
    let e : Ended c.args.table.shared.key v c.word-next.result c.word-lowest.result = ends_at _ c.args.seat.id v _ _ _ _ c.close_with-closed.ensures.values c.word-next.ensures c.word-lowest.ensures c.requires.all in
    e.answered
