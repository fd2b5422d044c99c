use Rattle.std.proofs.Common.{rules}
use Rattle.block_emission.proofs.Listing.{empty-more}
use Rattle.block_emission.proofs.members.empty_lists.Goals as goal

pub loop-number-preserved : goal.loop-number-preserved
loop-number-preserved c = search (rules, empty-more)
