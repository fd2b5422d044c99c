use Rattle.std.proofs.Common.{arith, refl, ap, ◌∙◌, ◌≡◌, ℕ, length, slice_index}
use Rattle.program_graphs.specs.Weighing.{total}
use Rattle.block_follow.specs.Made as made
use Rattle.block_follow.proofs.Deciding.{all-by}
use Rattle.block_follow.proofs.Growing.{always, weaken}
use Rattle.block_follow.proofs.blocks.all_follow.Goals as goal

pub returns-clause-follow : goal.returns-clause-follow
returns-clause-follow c =
    weaken c.nodes_follow.result _ _ (λ b f t v lt. f t v (omega (arith, lt, c.count_nodes-count.ensures.value))) c.nodes_follow.ensures.follow

pub returns-clause-few : goal.returns-clause-few
returns-clause-few c =
    let weight : ℕ → ℕ = slice_index c.args.sizes.now in
    let same : total weight c.count_nodes-all.result ≡ total weight (length c.args.new.now.nodes) = ap (total weight) c.count_nodes-all.ensures.value in
    always c.nodes_follow.result _ (omega (arith, same, c.if-not-are_few.ensures.tells refl, c.count_nodes-count.ensures.value))

pub returns-clause-made : goal.returns-clause-made
returns-clause-made c =
    weaken c.nodes_follow.result _ _
    (λ b e. e ∙ all-by c.args.old.now c.args.new.now c.args.known.now (made.lists_of c.args.members.now) c.args.sizes.now c.deref.result.now
    c.count_nodes-all.result c.count_nodes-count.result c.count_nodes-all.ensures.value c.count_nodes-count.ensures.value
    (c.deref.ensures.value ∙ c.in_ok-firsts.ensures.made) c.if-not-are_few.ensures.made)
    c.nodes_follow.ensures.made
