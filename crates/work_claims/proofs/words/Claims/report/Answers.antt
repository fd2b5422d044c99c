use Rattle.std.proofs.Common.{arith, sym, subst, ◌<◌}
use Rattle.work_claims.specs.Counts.{times}
use Rattle.work_claims.proofs.Steps.{tells}
use Rattle.work_claims.proofs.words.Claims.report.Goals as goal

pub fetch_min-requires : goal.fetch_min-requires
fetch_min-requires c =
    let s = c.args.self.now in
    let me = c.args.me.now in
    let same = c.from.ensures in (
      c.requires.of.0,
      omega (arith, s.two_words),
      tells s.table.shared.key _ me.seat.id me.seat.me c.from.result me.is_claimer.one (omega (arith, c.ranges.number.fits, same))
          (subst (λ n. 0 < times n me.seat.me.0.given) (sym same) c.requires.given),
    )
