use Rattle.type_scopes.specs.Reaching.{past_both}
use Rattle.type_scopes.proofs.links.link_to.Goals as goal

pub returns-then-near-far-clause-reach : goal.returns-then-near-far-clause-reach
returns-then-near-far-clause-reach c = past_both c.in-Some.near c.in-Some-far.far c.in-Some.is c.in-Some-far.is c.past_both.ensures.jump c.past_both.ensures.span c.past_both.ensures.near c.past_both.ensures.far
