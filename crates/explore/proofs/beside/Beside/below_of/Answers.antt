use Rattle.std.proofs.Common.{◌<◌, ◌-◌, length, arith, refl}
use Rattle.explore.specs.Standing.{node_at, standing}
use Rattle.explore.proofs.Walks.{place-first, place-next, walk-ends}
use Rattle.explore.proofs.beside.Beside.below_of.Goals as goal

pub loop-place-init : goal.loop-place-init
loop-place-init c =
    let vs = c.args.unwinding.now.vertices in
    let lt : c.args.v.0 < length c.follow.new.self.before.items = omega (arith, c.requires.there, c.in_ok-follow.ensures.all) in
    let m = place-first vs c.follow.new.self.before.items c.follow.new.self.last.items c.args.v.0 c.index-place.result.now c.new-below.result.items
    c.in_ok-follow.ensures.beside lt c.index-place.ensures c.new-below.ensures.items in
    record { low = m.0; walked = m.1 }

pub loop-place-smaller : goal.loop-place-smaller
loop-place-smaller c =
    let vs = c.args.unwinding.now.vertices in
    let lt : c.args.v.0 < length c.follow.new.self.before.items = omega (arith, c.requires.there, c.in_ok-follow.ensures.all) in
    (place-next vs c.follow.new.self.before.items c.follow.new.self.last.items (node_at vs c.args.v.0) c.args.v.0 c.loop-place.place
    c.index-place-in-loop-place.result.now c.loop-place.below.items c.push.new.self.items (standing vs (node_at vs c.args.v.0) c.args.v.0)
    (record { 0 = c.loop-place.place - 1 }) c.in_ok-follow.ensures.beside lt c.loop-place.invariant.low c.loop-place-test.true refl c.in_ok-push.ensures.items
    c.index-place-in-loop-place.ensures c.loop-place.invariant.walked).0

pub loop-place-preserved : goal.loop-place-preserved
loop-place-preserved c =
    let vs = c.args.unwinding.now.vertices in
    let lt : c.args.v.0 < length c.follow.new.self.before.items = omega (arith, c.requires.there, c.in_ok-follow.ensures.all) in
    let m = place-next vs c.follow.new.self.before.items c.follow.new.self.last.items (node_at vs c.args.v.0) c.args.v.0 c.loop-place.place
    c.index-place-in-loop-place.result.now c.loop-place.below.items c.push.new.self.items (standing vs (node_at vs c.args.v.0) c.args.v.0)
    (record { 0 = c.loop-place.place - 1 }) c.in_ok-follow.ensures.beside lt c.loop-place.invariant.low c.loop-place-test.true refl c.in_ok-push.ensures.items
    c.index-place-in-loop-place.ensures c.loop-place.invariant.walked in
    record { low = m.1; walked = m.2 }

pub returns-clause-below : goal.returns-clause-below
returns-clause-below c =
    let vs = c.args.unwinding.now.vertices in
    walk-ends vs (node_at vs c.args.v.0) c.loop-place.place c.loop-place.below.items (standing vs (node_at vs c.args.v.0) c.args.v.0) c.loop-place-test.false
    c.loop-place.invariant.walked
