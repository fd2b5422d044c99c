use Rattle.std.proofs.Common.{◌<◌, ◌∙◌, length, sym}
use Rattle.block_walk.proofs.Branching.{last-found}
use Rattle.walk_states.proofs.Following.{weaken}
use Rattle.block_walk.proofs.Going.{some-of}
use Rattle.block_walk.proofs.branches.flush_last.Goals as goal

pub returns-clause-means : goal.returns-clause-means
returns-clause-means c =
    let some : 0 < length c.args.bads.now = some-of (length c.args.bads.now) (sym c.is_empty.ensures ∙ c.if-is_empty.false) in
    let (comes, side, bit) = c.in_ok-opened.ensures.means in
    weaken c.first_failing.result _ _
    (λ n m. last-found c.args.new.now c.args.bads.now c.args.cursor c.in_ok-opened.opened.next c.in_ok-opened.opened.node c.in_ok-opened.opened.term some
    comes side bit c.in_ok-only_these.ensures.means m)
    c.first_failing.ensures.means
