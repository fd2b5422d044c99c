use Rattle.std.proofs.Common.{arith, refl, ◌≡◌, ◌∙◌, ℕ, ◌<◌, ◌+◌, ◌-◌, ◌*◌, ◌/◌, length, length-set, get_or, set}
use Rattle.activity_heap.proofs.PlaceLaws.{below_at, below_set, exchanged, set_again}
use Rattle.activity_heap.proofs.sifting.sift_up.Goals as goal

pub up-init : goal.up-init
up-init c = record {
  at = c.requires.start;
  var = below_at (length c.args.activities.now) c.args.heap.now c.args.start c.requires.below c.requires.start;
  below = c.requires.below;
  same = λ q. set_again c.args.heap.now c.args.start q c.requires.start;
}

pub bounds-places-other : goal.bounds-places-other
bounds-places-other c =
    let lt : (c.up.at - 1) / 2 < length c.up.heap = omega (arith, c.up.invariant.at) in
    let b = below_at (length c.args.activities.now) c.up.heap ((c.up.at - 1) / 2) c.up.invariant.below lt in
    omega (arith, b, c.requires.places)

pub up-preserved : goal.up-preserved
up-preserved c =
    let lt : (c.up.at - 1) / 2 < length c.up.heap = omega (arith, c.up.invariant.at) in
    let b = below_at (length c.args.activities.now) c.up.heap ((c.up.at - 1) / 2) c.up.invariant.below lt in
    record {
      at = omega (arith, lt, length-set c.up.heap c.up.at (get_or c.up.heap ((c.up.at - 1) / 2) 0));
      var = c.up.invariant.var;
      below = below_set (length c.args.activities.now) c.up.heap c.up.at (get_or c.up.heap ((c.up.at - 1) / 2) 0) b c.up.invariant.below;
      same = λ q. exchanged c.up.heap c.up.at ((c.up.at - 1) / 2) (get_or c.args.heap.now c.args.start 0) c.up.invariant.at lt (λ e. absurd (omega (arith, e, c.up-test.ensures refl))) q ∙ c.up.invariant.same q;
    }
