use Rattle.std.proofs.Common.{arith, ◌≡◌, ◌∙◌, ℕ, ◌<◌, ◌≤◌, List, length, length-set, ap, sym, subst, true}
use Rattle.prop.specs.Trues.{listed}
use Rattle.activity_heap.proofs.PlaceLaws.{already, lent, pushed, pushed_below}
use Rattle.activity_heap.proofs.order.Order.put_back.Goals as goal

pub returns-in-Some-clause-heap : goal.returns-in-Some-clause-heap
returns-in-Some-clause-heap c = already c.args.self.now.heap.items c.args.number c.in-Some._at c.in-Some.ensures.0 c.in-Some.ensures.1

pub sift_up-requires-clause-below : goal.sift_up-requires-clause-below
sift_up-requires-clause-below c q h =
    let s = c.args.self.now in
    let r = pushed_below s.heap.items c.push.new.self.items (length s.phases.items) (length s.phases.items) c.args.number c.in_ok-push.ensures.items c.requires (omega arith) s.below q (subst (λ w. listed w q ≡ true) c.deref_mut.ensures.value h) in
    omega (arith, r, s.active, ap length c.deref.ensures.value)

pub invariant_of-self-2-clause-below : goal.invariant_of-self-2-clause-below
invariant_of-self-2-clause-below c q h =
    let s = c.args.self.now in
    let p = c.push.new.self in
    let up = c.sift_up.new.heap in
    let is = lent p.len up p.items (c.sift_up.auto.heap ∙ ap length c.deref_mut.ensures.value) p.ok.0 in
    let h2 : listed p.items q ≡ true = ap (λ w. listed w q) (sym c.deref_mut.ensures.value) ∙ sym (c.sift_up.ensures q) ∙ ap (λ w. listed w q) (sym is) ∙ h in
    let r = pushed_below s.heap.items p.items (length s.phases.items) (length s.phases.items) c.args.number c.in_ok-push.ensures.items c.requires (omega arith) s.below q h2 in
    omega (arith, r, length-set s.phases.items c.args.number c.args.positive)

pub returns-clause-heap : goal.returns-clause-heap
returns-clause-heap c q =
    let p = c.push.new.self in
    let up = c.sift_up.new.heap in
    let is = lent p.len up p.items (c.sift_up.auto.heap ∙ ap length c.deref_mut.ensures.value) p.ok.0 in
    ap (λ w. listed w q) is ∙ c.sift_up.ensures q ∙ ap (λ w. listed w q) c.deref_mut.ensures.value ∙ pushed c.args.self.now.heap.items p.items c.args.number q c.in_ok-push.ensures.items

pub invariant_of-self-2-clause-placed : goal.invariant_of-self-2-clause-placed
invariant_of-self-2-clause-placed c =
    let s = c.args.self.now in
    ap length (lent s.places.len c.sift_up.new.places s.places.items (c.sift_up.auto.places ∙ ap length c.deref_mut-2.ensures.value) s.places.ok.0) ∙ c.sift_up.auto.places ∙ ap length c.deref_mut-2.ensures.value ∙ s.placed ∙ sym (length-set s.phases.items c.args.number c.args.positive)
