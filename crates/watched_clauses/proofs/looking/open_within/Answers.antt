use Rattle.std.proofs.Common.{length, refl, get_or, arith}
use Rattle.resolution_log.proofs.MarkLaws.{all_below_listed}
use Rattle.resolution_log.proofs.Places.{listed_at}
use Rattle.watched_clauses.proofs.JudgeLaws.{closed_more}
use Rattle.watched_clauses.proofs.looking.open_within.Goals as goal

pub is_closed-requires : goal.is_closed-requires
is_closed-requires c =
    let k = get_or c.args.row.now c.loop-at.at 0 in
    all_below_listed (length c.args.trail.now.truth.items) c.args.row.now c.requires.below k (listed_at c.args.row.now k c.loop-at.at (omega (arith, c.loop-at-test.true, c.requires.to)) refl)
