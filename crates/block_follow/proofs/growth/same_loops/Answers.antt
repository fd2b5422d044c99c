use Rattle.std.proofs.Common.{arith, ◌≡◌, ◌<◌, ◌==◌, true, false, get_or, length, refl, sym, Some, slice_get}
use Rattle.std.proofs.lemmas.Bool.{eq-eqb}
use Rattle.std.proofs.lemmas.Option.{slice_get-get_or}
use Rattle.c_graph.specs.declared.graph.LoopAt.{LoopAt}
use Rattle.plan_tests.proofs.Deciding.{both, second-not}
use Rattle.block_follow.specs.Made as made
use Rattle.block_follow.proofs.Deciding.{begin-end, begin-more, begin-not, same-more}
use Rattle.block_follow.proofs.Growing.{same-list}
use Rattle.block_follow.proofs.growth.same_loops.Goals as goal

pub loop-number-preserved : goal.loop-number-preserved
loop-number-preserved c =
    let n = c.loop-number.number in
    let d : LoopAt = record { at = 0; node = record { 0 = 0 } } in
    let lt : n < length c.args.new.now = omega (arith, c.loop-number-test.true, c.if-old-new.false) in
    let s : slice_get c.args.old.now n ≡ Some (get_or c.args.old.now n d) = slice_get-get_or c.args.old.now n d c.loop-number-test.true in
    let t : slice_get c.args.new.now n ≡ Some (get_or c.args.new.now n d) = slice_get-get_or c.args.new.now n d lt in (
      same-more c.args.old.now c.args.new.now n (get_or c.args.old.now n d) (get_or c.args.new.now n d) s t (c.if-not-same_loop.ensures.tells refl) c.loop-number.invariant.0,
      begin-more made.same_loop c.args.old.now c.args.new.now n (get_or c.args.old.now n d) (get_or c.args.new.now n d) s t (sym c.if-not-same_loop.ensures.made) c.loop-number.invariant.1,
    )

pub returns-then-not-same_loop-clause-made : goal.returns-then-not-same_loop-clause-made
returns-then-not-same_loop-clause-made c =
    let n = c.loop-number.number in
    let d : LoopAt = record { at = 0; node = record { 0 = 0 } } in
    let lt : n < length c.args.new.now = omega (arith, c.loop-number-test.true, c.if-old-new.false) in
    let s : slice_get c.args.old.now n ≡ Some (get_or c.args.old.now n d) = slice_get-get_or c.args.old.now n d c.loop-number-test.true in
    let t : slice_get c.args.new.now n ≡ Some (get_or c.args.new.now n d) = slice_get-get_or c.args.new.now n d lt in
    let not : false ≡ made.begins_with made.same_loop c.args.old.now c.args.new.now =
    begin-not made.same_loop c.args.old.now c.args.new.now n (get_or c.args.old.now n d) (get_or c.args.new.now n d) s t (sym c.if-not-same_loop.ensures.made) in
    second-not (length c.args.old.now == length c.args.new.now) (made.begins_with made.same_loop c.args.old.now c.args.new.now) (sym not)

pub returns-clause-tells : goal.returns-clause-tells
returns-clause-tells c = λ t.
    same-list c.args.old.now c.args.new.now (omega (arith, c.if-old-new.false)) (λ k lt. c.loop-number.invariant.0 k (omega (arith, lt, c.loop-number-test.false)))

pub returns-clause-made : goal.returns-clause-made
returns-clause-made c =
    let all : true ≡ made.begins_with made.same_loop c.args.old.now c.args.new.now =
    begin-end made.same_loop c.args.old.now c.args.new.now c.loop-number.number (omega (arith, c.loop-number-test.false)) c.loop-number.invariant.1 in
    sym (both (length c.args.old.now == length c.args.new.now) (made.begins_with made.same_loop c.args.old.now c.args.new.now)
    (eq-eqb (length c.args.old.now) (length c.args.new.now) c.if-old-new.false) (sym all))
