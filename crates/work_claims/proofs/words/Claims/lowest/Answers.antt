use Rattle.std.proofs.Common.{arith}
use Rattle.work_claims.proofs.Steps.{looks}
use Rattle.work_claims.proofs.words.Claims.lowest.Goals as goal

pub load-requires : goal.load-requires
load-requires c =
    let s = c.args.self.now in
    let me = c.args.me.now in (
      c.requires.of.0,
      omega (arith, s.two_words),
      looks s.table.shared.key _ me.seat.id me.seat.me me.is_claimer.one,
    )
