use Rattle.std.proofs.Common.{ap}
use Rattle.work_claims.proofs.Steps.{splits_at}
use Rattle.work_claims.proofs.calls.deal.Goals as goal

pub split_seat-other-requires : goal.split_seat-other-requires
split_seat-other-requires c =
    let l = c.loop-left in
    let k = c.args.shared.now.key in
    (l.invariant.3, c.requires.words, splits_at k l.seat.id k.total l.left l.seat.me.0 (ap (λ m. m.0) l.invariant.4) c.loop-left-test.true)
