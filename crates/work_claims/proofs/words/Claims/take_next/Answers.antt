use Rattle.std.proofs.Common.{arith}
use Rattle.work_claims.proofs.Steps.{takes}
use Rattle.work_claims.proofs.words.Claims.take_next.Goals as goal

pub fetch_add-requires : goal.fetch_add-requires
fetch_add-requires c =
    let s = c.args.self.now in
    let seat = c.args.seat.now in
    (c.requires.table, omega (arith, s.two_words), takes s.table.shared.key _ seat.id seat.me c.requires.one c.requires.unfinished)
