use Rattle.std.proofs.Common.{arith, ◌≡◌, ◌∙◌, ℕ, ◌<◌, ◌≤◌, ◌||◌, nat_eq, List, length, length-set, ap, sym, subst, true, set, get_or, inl, inr}
use Rattle.std.proofs.lemmas.Bool.{both_ways, eq-eqb, cases_lt}
use Rattle.std.proofs.lemmas.Grind.{get_or_default_zero}
use Rattle.prop.specs.Trues.{listed}
use Rattle.activity_heap.proofs.PlaceLaws.{lent, topped, popped_below, popped_within, last_within}
use Rattle.activity_heap.proofs.order.Order.take.Goals as goal

pub returns-then-is_empty-clause-within : goal.returns-then-is_empty-clause-within
returns-then-is_empty-clause-within c = last_within (length c.args.self.now.phases.items) c.args.self.now.heap.items c.pop.new.self.items c.in_ok-last.last c.in_ok-last.ensures.items c.args.self.now.below

pub returns-clause-within : goal.returns-clause-within
returns-clause-within c =
    let s = c.args.self.now in
    let p = c.pop.new.self in
    let some : 0 < length p.items = elim (cases_lt 0 (length p.items)) [ inl a ↦ a | inr b ↦ absurd (both_ways _ c.if-is_empty.false (c.is_empty.ensures ∙ eq-eqb _ _ (omega (arith, b, p.ok.0)))) ] in
    let q = popped_within (length s.phases.items) s.heap.items p.items c.in_ok-last.last some c.in_ok-last.ensures.items s.below in
    omega (arith, q, c.index-top.ensures ∙ get_or_default_zero p.items 0 c.index-top.result.now some)

pub sift_down-requires-clause-below : goal.sift_down-requires-clause-below
sift_down-requires-clause-below c q h =
    let s = c.args.self.now in
    let p = c.pop.new.self in
    let r = popped_below (length s.phases.items) s.heap.items p.items c.in_ok-last.last c.in_ok-last.ensures.items s.below q (subst (λ w. listed w q ≡ true) c.deref_mut.ensures.value h) in
    omega (arith, r, s.active, ap length c.deref.ensures.value)

pub invariant_of-self-2-clause-placed : goal.invariant_of-self-2-clause-placed
invariant_of-self-2-clause-placed c =
    let s = c.args.self.now in
    ap length (lent s.places.len c.sift_down.new.places s.places.items (c.sift_down.auto.places ∙ ap length c.deref_mut-2.ensures.value) s.places.ok.0) ∙ c.sift_down.auto.places ∙ ap length c.deref_mut-2.ensures.value ∙ s.placed

pub invariant_of-self-2-clause-below : goal.invariant_of-self-2-clause-below
invariant_of-self-2-clause-below c q h =
    let s = c.args.self.now in
    let p = c.pop.new.self in
    let x : List ℕ = set p.items 0 c.in_ok-last.last in
    let is = lent p.len c.sift_down.new.heap x (c.sift_down.auto.heap ∙ ap length c.deref_mut.ensures.value) (p.ok.0 ∙ sym (length-set p.items 0 c.in_ok-last.last)) in
    let h2 : listed x q ≡ true = ap (λ w. listed w q) (sym c.deref_mut.ensures.value) ∙ sym (c.sift_down.ensures q) ∙ ap (λ w. listed w q) (sym is) ∙ h in
    popped_below (length s.phases.items) s.heap.items p.items c.in_ok-last.last c.in_ok-last.ensures.items s.below q h2

pub returns-clause-heap : goal.returns-clause-heap
returns-clause-heap c q =
    let s = c.args.self.now in
    let p = c.pop.new.self in
    let x : List ℕ = set p.items 0 c.in_ok-last.last in
    let some : 0 < length p.items = elim (cases_lt 0 (length p.items)) [ inl a ↦ a | inr b ↦ absurd (both_ways _ c.if-is_empty.false (c.is_empty.ensures ∙ eq-eqb _ _ (omega (arith, b, p.ok.0)))) ] in
    let is = lent p.len c.sift_down.new.heap x (c.sift_down.auto.heap ∙ ap length c.deref_mut.ensures.value) (p.ok.0 ∙ sym (length-set p.items 0 c.in_ok-last.last)) in
    let top : get_or p.items 0 0 ≡ c.index-top.result.now = sym (c.index-top.ensures ∙ get_or_default_zero p.items 0 c.index-top.result.now some) in
    topped s.heap.items p.items c.in_ok-last.last q some c.in_ok-last.ensures.items
    ∙ ap (λ w. nat_eq w q || listed x q) top
    ∙ ap (λ b. nat_eq c.index-top.result.now q || b) (ap (λ w. listed w q) (sym c.deref_mut.ensures.value) ∙ sym (c.sift_down.ensures q) ∙ ap (λ w. listed w q) (sym is))
