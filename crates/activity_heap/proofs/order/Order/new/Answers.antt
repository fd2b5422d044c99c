use Rattle.std.proofs.Common.{arith, ◌≡◌, ℕ, ◌+◌, ◌<◌, length, length-append, ap, ◌∷◌, []}
use Rattle.activity_heap.proofs.PlaceLaws.{pushed_all, pushed_below}
use Rattle.activity_heap.proofs.order.Order.new.Goals as goal

pub loop-number-preserved : goal.loop-number-preserved
loop-number-preserved c =
    let n = c.loop-number.number in
    record {
      all = pushed_all c.loop-number.heap.items c.push.new.self.items n c.in_ok-push.ensures.items c.loop-number.invariant.all;
      below = pushed_below c.loop-number.heap.items c.push.new.self.items n (n + 1) n c.in_ok-push.ensures.items (omega arith) (omega arith) c.loop-number.invariant.below;
      places = omega (arith, c.loop-number.invariant.places, ap length c.in_ok-push-2.ensures.items, length-append c.loop-number.places.items (n ∷ []));
    }
