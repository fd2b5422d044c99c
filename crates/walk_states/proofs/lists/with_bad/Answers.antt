use Rattle.std.proofs.Common.{Some, ◌∙◌, ap, sym}
use Rattle.walk_states.specs.Walks.{bads_of}
use Rattle.walk_states.proofs.Following.{bads-last}
use Rattle.walk_states.proofs.lists.with_bad.Goals as goal

pub returns-clause-means : goal.returns-clause-means
returns-clause-means c = ap bads_of c.in_ok-push.ensures.items ∙ bads-last c.args.bads.items (record { cell = c.args.cell; error = c.args.error })

pub returns-clause-made : goal.returns-clause-made
returns-clause-made c =
    ap Some (sym (ap bads_of c.in_ok-push.ensures.items ∙ bads-last c.args.bads.items (record { cell = c.args.cell; error = c.args.error })))
