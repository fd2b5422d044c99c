use Rattle.loop_listing_laws.proofs.Whole as law
use Rattle.loop_listing_laws.proofs.loops_are_listed.Goals as goal

pub returns : goal.returns
returns c = law.listed
