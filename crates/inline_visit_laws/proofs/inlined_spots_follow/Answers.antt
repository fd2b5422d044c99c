use Rattle.inline_visit_laws.proofs.Copies.{inlined-spots-follow}
use Rattle.inline_visit_laws.proofs.inlined_spots_follow.Goals as goal

pub returns : goal.returns
returns c = inlined-spots-follow
