use Rattle.std.proofs.Common.{arith}
use Rattle.work_claims.proofs.Steps.{taken_stays, taken_has}
use Rattle.work_claims.proofs.words.Claims.claim.Goals as goal

pub invariant_of-me : goal.invariant_of-me
invariant_of-me c =
    let e = c.take_next-found.ensures in
    record { is_claimer = taken_stays c.args.me.now.seat.me _ c.take_next-found.result e.slots e.taken c.args.me.now.is_claimer }

pub returns-then-found-from-clause-has : goal.returns-then-found-from-clause-has
returns-then-found-from-clause-has c =
    let v = c.args.me.now.seat.me.0 in
    taken_has v _ c.take_next-found.result c.take_next-found.ensures.taken (omega (arith, c.if-found-from.true, c.from.ensures, c.args.self.now.told, c.requires.of.1))
