use Rattle.std.proofs.Common.{arith, rules, ◌≡◌, ◌∙◌, ℕ, sym, true, false, slice_index}
use Rattle.walk_states.specs.Known.{plan_of}
use Rattle.plan_tests.proofs.Deciding.{below-all, below-more, below-not, from-none}
use Rattle.block_follow.specs.Following.{Follows}
use Rattle.block_follow.specs.Made as made
use Rattle.block_follow.proofs.Leaving.{follows-more}
use Rattle.block_follow.proofs.blocks.nodes_follow.Goals as goal

pub loop-node-init : goal.loop-node-init
loop-node-init c = (
  λ v lt. absurd (omega (arith, lt)),
  from-none (made.follows c.args.old.now c.args.new.now c.args.known.now (made.lists_of c.args.members.now) c.args.firsts.now c.args.sizes.now) 0,
)

pub loop-node-preserved : goal.loop-node-preserved
loop-node-preserved c =
    let weight : ℕ → ℕ = slice_index c.args.sizes.now in
    let yes : c.in_ok-follows.field-0 ≡ true = search rules in
    let here : Follows c.args.old.now c.args.new.now (plan_of c.args.known.now) weight c.loop-node.node = c.in_ok-follows.ensures.tells (search rules) in (
      follows-more c.args.old.now c.args.new.now (plan_of c.args.known.now) weight c.loop-node.node here c.loop-node.invariant.0,
      below-more (made.follows c.args.old.now c.args.new.now c.args.known.now (made.lists_of c.args.members.now) c.args.firsts.now c.args.sizes.now)
          c.loop-node.node (sym c.in_ok-follows.ensures.made ∙ yes) c.loop-node.invariant.1,
    )

pub returns-then-not-branch-clause-made : goal.returns-then-not-branch-clause-made
returns-then-not-branch-clause-made c =
    let no : c.in_ok-follows.field-0 ≡ false = search rules in
    below-not (made.follows c.args.old.now c.args.new.now c.args.known.now (made.lists_of c.args.members.now) c.args.firsts.now c.args.sizes.now)
    c.args.count c.loop-node.node c.loop-node-test.true (sym c.in_ok-follows.ensures.made ∙ no)

pub returns-clause-follow : goal.returns-clause-follow
returns-clause-follow c = λ t v lt. c.loop-node.invariant.0 v (omega (arith, lt, c.loop-node-test.false))

pub returns-clause-made : goal.returns-clause-made
returns-clause-made c =
    let end : c.loop-node.node ≡ c.args.count = search rules in
    below-all (made.follows c.args.old.now c.args.new.now c.args.known.now (made.lists_of c.args.members.now) c.args.firsts.now c.args.sizes.now)
    c.args.count c.loop-node.node end c.loop-node.invariant.1
