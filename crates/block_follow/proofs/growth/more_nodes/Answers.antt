use Rattle.std.proofs.Common.{arith, ◌≡◌, ◌<◌, get_or, length, refl, sym, Some, slice_get}
use Rattle.std.proofs.lemmas.Option.{slice_get-get_or}
use Rattle.c_graph.specs.declared.graph.Node.{Node}
use Rattle.c_graph.specs.declared.graph.Node.TheVariants.{Plain}
use Rattle.block_follow.specs.Made as made
use Rattle.block_follow.proofs.Deciding.{begin-end, begin-more, begin-not, begin-short, same-more}
use Rattle.block_follow.proofs.Growing.{prefix}
use Rattle.block_follow.proofs.growth.more_nodes.Goals as goal

pub loop-number-preserved : goal.loop-number-preserved
loop-number-preserved c =
    let n = c.loop-number.number in
    let d : Node = Plain in
    let lt : n < length c.args.new.now = omega (arith, c.loop-number-test.true, c.if-old-new.false) in
    let s : slice_get c.args.old.now n ≡ Some (get_or c.args.old.now n d) = slice_get-get_or c.args.old.now n d c.loop-number-test.true in
    let t : slice_get c.args.new.now n ≡ Some (get_or c.args.new.now n d) = slice_get-get_or c.args.new.now n d lt in (
      same-more c.args.old.now c.args.new.now n (get_or c.args.old.now n d) (get_or c.args.new.now n d) s t (c.if-not-same_node.ensures.tells refl) c.loop-number.invariant.0,
      begin-more made.same_node c.args.old.now c.args.new.now n (get_or c.args.old.now n d) (get_or c.args.new.now n d) s t (sym c.if-not-same_node.ensures.made) c.loop-number.invariant.1,
    )

pub returns-then-old-new-clause-made : goal.returns-then-old-new-clause-made
returns-then-old-new-clause-made c = begin-short made.same_node c.args.old.now c.args.new.now (omega (arith, c.if-old-new.true))

pub returns-then-not-same_node-clause-made : goal.returns-then-not-same_node-clause-made
returns-then-not-same_node-clause-made c =
    let n = c.loop-number.number in
    let d : Node = Plain in
    let lt : n < length c.args.new.now = omega (arith, c.loop-number-test.true, c.if-old-new.false) in
    let s : slice_get c.args.old.now n ≡ Some (get_or c.args.old.now n d) = slice_get-get_or c.args.old.now n d c.loop-number-test.true in
    let t : slice_get c.args.new.now n ≡ Some (get_or c.args.new.now n d) = slice_get-get_or c.args.new.now n d lt in
    begin-not made.same_node c.args.old.now c.args.new.now n (get_or c.args.old.now n d) (get_or c.args.new.now n d) s t (sym c.if-not-same_node.ensures.made)

pub returns-clause-tells : goal.returns-clause-tells
returns-clause-tells c = λ t.
    prefix c.args.old.now c.args.new.now (omega (arith, c.if-old-new.false)) (λ k lt. c.loop-number.invariant.0 k (omega (arith, lt, c.loop-number-test.false)))

pub returns-clause-made : goal.returns-clause-made
returns-clause-made c =
    begin-end made.same_node c.args.old.now c.args.new.now c.loop-number.number (omega (arith, c.loop-number-test.false)) c.loop-number.invariant.1
