use Rattle.std.proofs.Common.{arith, ◌≡◌, ◌∙◌, ℕ, ◌<◌, ◌+◌, ◌-◌, ◌*◌, ◌/◌, length, length-set, get_or, set}
use Rattle.activity_heap.proofs.PlaceLaws.{below_at, below_set, exchanged, set_again}
use Rattle.activity_heap.proofs.sifting.sift_down.Goals as goal

pub down-init : goal.down-init
down-init c = record {
  at = c.requires.start;
  var = below_at (length c.args.activities.now) c.args.heap.now c.args.start c.requires.below c.requires.start;
  below = c.requires.below;
  same = λ q. set_again c.args.heap.now c.args.start q c.requires.start;
}

pub bounds-places-other : goal.bounds-places-other
bounds-places-other c =
    let lt : c.in-Some.child < length c.down.heap = c.in-Some.ensures.1 in
    let b = below_at (length c.args.activities.now) c.down.heap (c.in-Some.child) c.down.invariant.below lt in
    omega (arith, b, c.requires.places)

pub down-preserved : goal.down-preserved
down-preserved c =
    let lt : c.in-Some.child < length c.down.heap = c.in-Some.ensures.1 in
    let b = below_at (length c.args.activities.now) c.down.heap (c.in-Some.child) c.down.invariant.below lt in
    record {
      at = omega (arith, lt, length-set c.down.heap c.down.at (get_or c.down.heap (c.in-Some.child) 0));
      var = c.down.invariant.var;
      below = below_set (length c.args.activities.now) c.down.heap c.down.at (get_or c.down.heap (c.in-Some.child) 0) b c.down.invariant.below;
      same = λ q. exchanged c.down.heap c.down.at (c.in-Some.child) (get_or c.args.heap.now c.args.start 0) c.down.invariant.at lt (λ e. absurd (omega (arith, e, c.in-Some.ensures.0))) q ∙ c.down.invariant.same q;
    }
