use Rattle.std.proofs.Common.{rules, ◌≡◌, ◌≤◌, ◌<◌, get_or, length, refl, sym, false, Some, slice_get}
use Rattle.std.proofs.lemmas.Option.{slice_get-get_or}
use Rattle.walk_states.specs.declared.state.Place.{Place}
use Rattle.walk_states.specs.declared.state.Ways.TheVariants.{Goes}
use Rattle.walk_states.specs.Known.{plan_of}
use Rattle.plan_tests.proofs.Deciding.{at-end, first-more, first-not}
use Rattle.plan_tests.proofs.Passing.{all_passed, one_passed}
use Rattle.block_follow.specs.Made as made
use Rattle.block_follow.proofs.blocks.are_inside.Goals as goal

pub loop-number-preserved : goal.loop-number-preserved
loop-number-preserved c =
    let d : Place = record { node = 0; ways = Goes (record { to = 0; edge_at = 0; skip = 0 }) } in
    let x : Place = get_or c.args.places.now c.loop-number.number d in
    let there : slice_get c.args.places.now c.loop-number.number ≡ Some x = slice_get-get_or c.args.places.now c.loop-number.number d c.loop-number-test.true in (
      one_passed c.args.places.now (λ k (p : Place). 0 < k → (plan_of c.args.known.now).cuts p.node ≡ false) c.loop-number.number x there
          (c.if-not-is_inside.ensures.tells refl) c.loop-number.invariant.0,
      first-more (made.is_inside c.args.known.now) c.args.places.now c.loop-number.number x there (sym c.if-not-is_inside.ensures.made) c.loop-number.invariant.1,
    )

pub returns-then-not-is_inside-clause-made : goal.returns-then-not-is_inside-clause-made
returns-then-not-is_inside-clause-made c =
    let d : Place = record { node = 0; ways = Goes (record { to = 0; edge_at = 0; skip = 0 }) } in
    let x : Place = get_or c.args.places.now c.loop-number.number d in
    let there : slice_get c.args.places.now c.loop-number.number ≡ Some x = slice_get-get_or c.args.places.now c.loop-number.number d c.loop-number-test.true in
    first-not (made.is_inside c.args.known.now) c.args.places.now c.loop-number.number x there (sym c.if-not-is_inside.ensures.made)

pub returns-clause-tells : goal.returns-clause-tells
returns-clause-tells c y =
    let past : length c.args.places.now ≤ c.loop-number.number = search rules in
    all_passed c.args.places.now (λ k (p : Place). 0 < k → (plan_of c.args.known.now).cuts p.node ≡ false) c.loop-number.number past c.loop-number.invariant.0

pub returns-clause-made : goal.returns-clause-made
returns-clause-made c =
    let past : length c.args.places.now ≤ c.loop-number.number = search rules in
    at-end (made.is_inside c.args.known.now) 0 c.args.places.now c.loop-number.number past c.loop-number.invariant.1
