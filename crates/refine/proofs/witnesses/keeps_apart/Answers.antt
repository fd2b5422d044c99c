use Rattle.refine.proofs.Knowing.{all_yes, some_no}
use Rattle.refine.proofs.witnesses.keeps_apart.Goals as goal

pub returns-then-meets-clause-apart : goal.returns-then-meets-clause-apart
returns-then-meets-clause-apart c = λ is. record {
  store = c.in_ok-follow.ensures.known.store;
  meets = all_yes c.args.terms.now c.follow.new.self c.args.left.now c.in_ok-follow.ensures.known (c.meets.ensures c.if-meets.true);
  misses = some_no c.args.terms.now c.follow.new.self c.args.right.now c.in_ok-follow.ensures.known (c.misses.ensures is);
}
