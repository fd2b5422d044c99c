use Rattle.std.proofs.Common.{rules, ◌≡◌, ◌≤◌, length, Some, get_or, slice_get, sym, refl, ℕ, suc, ◌+◌, arith, subst, drop}
use Rattle.std.proofs.lemmas.Option.{slice_get-get_or}
use Rattle.c_graph.specs.declared.graph.Operation.{Operation}
use Rattle.c_graph.specs.declared.graph.Operation.TheVariants.{Assume}
use Rattle.block_rule.specs.Plans.{AreMoves}
use Rattle.walk_states.specs.Known.{plan_of}
use Rattle.block_places.specs.Made as made
use Rattle.block_places.proofs.Covering.{moves-from}
use Rattle.block_places.proofs.Deciding.{rest-end, rest-more, rest-not}
use Rattle.block_places.proofs.moves.are_moves.Goals as goal

pub loop-number-preserved : goal.loop-number-preserved
loop-number-preserved c =
    let op : Operation = get_or c.args.ops.now c.loop-number.number (Assume (record { 0 = 0 })) in
    let there : slice_get c.args.ops.now c.loop-number.number ≡ Some op =
    slice_get-get_or c.args.ops.now c.loop-number.number (Assume (record { 0 = 0 })) c.loop-number-test.true in
    let plan = plan_of c.args.known.now in
    let next : c.loop-number.number + 1 ≡ suc c.loop-number.number = omega arith in (
      λ are. c.loop-number.invariant.0 (moves-from plan c.args.cells c.args.ops.now c.loop-number.number op there (c.if-not-is_move.ensures.tells refl)
          (subst (λ (n : ℕ). AreMoves plan c.args.cells (drop n c.args.ops.now)) next are)),
      rest-more (made.is_move c.args.known.now c.args.cells) c.args.ops.now c.loop-number.number op
          (made.are_moves c.args.known.now c.args.cells c.args.ops.now c.args.skip) there (sym c.if-not-is_move.ensures.made) c.loop-number.invariant.1,
    )

pub returns-then-not-is_move-clause-made : goal.returns-then-not-is_move-clause-made
returns-then-not-is_move-clause-made c =
    let op : Operation = get_or c.args.ops.now c.loop-number.number (Assume (record { 0 = 0 })) in
    let there : slice_get c.args.ops.now c.loop-number.number ≡ Some op =
    slice_get-get_or c.args.ops.now c.loop-number.number (Assume (record { 0 = 0 })) c.loop-number-test.true in
    rest-not (made.is_move c.args.known.now c.args.cells) c.args.ops.now c.loop-number.number op
    (made.are_moves c.args.known.now c.args.cells c.args.ops.now c.args.skip) there (sym c.if-not-is_move.ensures.made) c.loop-number.invariant.1

pub returns-clause-made : goal.returns-clause-made
returns-clause-made c =
    let past : length c.args.ops.now ≤ c.loop-number.number = search rules in
    rest-end (made.is_move c.args.known.now c.args.cells) c.args.ops.now c.loop-number.number
    (made.are_moves c.args.known.now c.args.cells c.args.ops.now c.args.skip) past c.loop-number.invariant.1
