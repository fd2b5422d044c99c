use Rattle.std.proofs.Common.{rules, refl, length, slice_index, ◌≡◌, ◌∙◌, true, false}
use Rattle.walk_states.specs.Known.{plan_of}
use Rattle.block_rule.specs.Plans.{matters}
use Rattle.block_follow.specs.Following.{AreOver, Grows}
use Rattle.block_follow.specs.Made as made
use Rattle.block_follow.proofs.Deciding.{rule-by}
use Rattle.block_follow.proofs.Growing.{both, weaken}
use Rattle.block_follow.proofs.Leaving.{blocks-all}
use Rattle.block_follow.proofs.blocks.follows_rule.Goals as goal

pub returns-clause-blocked : goal.returns-clause-blocked
returns-clause-blocked c =
    let g = c.args.old.now in
    let h = c.args.new.now in
    let more : Grows g h = c.if-not-grows.ensures.tells refl in
    weaken c.all_follow.result _ _
    (λ b f t. record {
      planned = c.if-not-is_plan.ensures.tells refl;
      nodes = more.nodes;
      cells = more.cells;
      entry = more.entry;
      loops = more.loops;
      blocks = blocks-all g h (plan_of c.args.known.now) (slice_index c.deref.result.now) (length g.nodes) c.all_follow.ensures.flow refl (f t);
    })
    c.all_follow.ensures.follow

pub returns-clause-exact : goal.returns-clause-exact
returns-clause-exact c =
    let over : matters (plan_of c.args.known.now) c.args.old.now.entry.0 ≡ false → AreOver c.args.new.now c.args.new.now.entry.0 =
    c.in_ok-over.ensures.tells (search rules) in
    weaken c.all_follow.result _ _
    (λ b is t. record {
      more = record {
        blocks = λ v lt cut m. (is.0 t v lt cut m).0;
        dead = λ k e off there from. over off k e there from;
      };
      weight = slice_index c.deref.result.now;
      enough = λ v lt cut m. (is.0 t v lt cut m).1;
      few = is.1 t;
    })
    (both c.all_follow.result _ _ c.all_follow.ensures.follow c.all_follow.ensures.few)

pub returns-clause-made : goal.returns-clause-made
returns-clause-made c =
    let over : made.ends_where_nothing_matters c.args.old.now c.args.new.now c.args.known.now ≡ true = search rules in
    weaken c.all_follow.result _ _
    (λ b e. e ∙ rule-by c.args.old.now c.args.new.now c.args.known.now (made.lists_of c.args.members.now) c.deref.result.now
    c.if-not-grows.ensures.made c.if-not-is_plan.ensures.made over (c.deref.ensures.value ∙ c.in_ok-sizes.ensures.made))
    c.all_follow.ensures.made
