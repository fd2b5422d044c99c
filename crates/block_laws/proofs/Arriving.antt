-- A place to which another way leads, and a place at which its turn comes.
use Rattle.std.proofs.Common.{◌≡◌, ℕ, ◌<◌, ◌≤◌, ◌==◌, inl, inr, Bool, true, false, not, ◌&&◌, ◌||◌, List, Option, Some, None, refl, sym, ap, ◌∙◌, subst, arith, slice_index, slice_set, eq-eqb}
use Rattle.std.proofs.lemmas.Bool.{cases_Bool, cases_eq, eqb-true, ne_eqb}
use Rattle.bv_term.specs.Numbers.{truth}
use Rattle.block_rule.specs.Rule.{Wait, State, is_set, is_on, found, without, with_wait, with_sure, left}
use Rattle.block_laws.proofs.Lists.{each-map, set-same, set-other, set-long, truth-is, false-true, same_not, each-with, found-new, found-old, each-without, found-without, found-is, each-other, first-same}
use Rattle.block_laws.proofs.Keeping.{GuardIn, WaitIn, BadIn, Ready, Below, taking, taking-old, taking-new, on-same, guard-grow, and-true, or-off, or-parts}

some-some : (a b : ℕ) → Some a ≡ Some b → a ≡ b
some-some a b e = cc

none-some : (a : ℕ) → None ≡ Some a → ⊥
none-some a e = absurd cc

found-some : (ws : List Wait) (v : ℕ) (gd : Option ℕ) → found ws v ≡ Some gd → found ws v ≡ None → ⊥
found-some ws v gd e f = absurd (let p : Some gd ≡ None = sym e ∙ f in cc)

module _ (n many : ℕ) (st : State) (gd : Option ℕ) (here : Bool) (o : Option ℕ) (at : ℕ → Bool) (s : List ℕ) where
  -- a place that surely waits takes another way
  pub ready-none : (v : ℕ) (b : Bool) → Ready n many st gd here o at s → found st.waiting v ≡ Some None → Ready n many st gd here o (λ x. at x || (b && (x == v))) s
  ready-none v b r there =
      let (w0, h0, node, guard) = found-is (WaitIn n st.next r.guards r.owner o at s) st.waiting v None r.waits there in
      let mine : r.guards v ≡ None = ap r.guards (sym node) ∙ sym h0.mine ∙ guard in record {
        guards = r.guards;
        owner = r.owner;
        waits = each-map (WaitIn n st.next r.guards r.owner o at s) (WaitIn n st.next r.guards r.owner o (λ x. at x || (b && (x == v))) s) st.waiting
            (λ w h. record {
              mine = h.mine;
              cell = h.cell;
              on = λ e. elim (cases_Bool (w.node == v)) [
                | inl y ↦
                    let g : w.guard ≡ None = h.mine ∙ ap r.guards (eqb-true w.node v y) ∙ mine in
                    let t : is_on w.guard s ≡ true = ap (λ (x : Option ℕ). is_on x s) g in
                    t ∙ ap (λ (a : Bool). a || (b && (w.node == v))) (sym t ∙ h.on e)
                | inr y ↦ h.on e ∙ or-off (at w.node) b (w.node == v) y
              ];
            }) r.waits;
        bads = r.bads;
        first = r.first;
        held = λ e x y f. elim (or-parts (at x) b (x == v) y) [
          | inl z ↦ r.held e x z f
          | inr z ↦ found-some st.waiting v None there (subst (λ (k : ℕ). found st.waiting k ≡ None) (eqb-true x v z) f)
        ];
        guard = r.guard;
        on = r.on;
        long = r.long;
        base = r.base;
      }

  -- a place to which a run surely goes
  pub ready-sure : (v : ℕ) (b : Bool) → Ready n many st gd here o at s → found st.waiting v ≡ None → (o ≡ None → b ≡ true)
      → Ready n many (with_sure st v) gd here o (λ x. at x || (b && (x == v))) s
  ready-sure v b r none sure =
      let at2 : ℕ → Bool = λ x. at x || (b && (x == v)) in
      let others = each-other (WaitIn n st.next r.guards r.owner o at s) st.waiting v none r.waits in record {
        guards = taking v None r.guards;
        owner = r.owner;
        waits = each-with (WaitIn n st.next (taking v None r.guards) r.owner o at2 s) st.waiting v None
            (each-map (λ w. WaitIn n st.next r.guards r.owner o at s w × ((w.node == v) ≡ false)) (WaitIn n st.next (taking v None r.guards) r.owner o at2 s) st.waiting
            (λ w h. record {
              mine = h.0.mine ∙ sym (taking-old v w.node None r.guards (λ e. same_not w.node v h.1 e));
              cell = h.0.cell;
              on = λ e. h.0.on e ∙ or-off (at w.node) b (w.node == v) h.1;
            }) others)
            (record {
              mine = sym (taking-new v None r.guards);
              cell = tt;
              on = λ e. sym (or-right (at v) (b && (v == v)) (and-true b (v == v) (eq-eqb v v refl) ∙ sure e));
            });
        bads = r.bads;
        first = r.first;
        held = λ e x y f. elim (or-parts (at x) b (x == v) y) [
          | inl z ↦ r.held e x z (found-old st.waiting v x None f)
          | inr z ↦
              let q : found (with_wait st.waiting v None) v ≡ None = subst (λ (k : ℕ). found (with_wait st.waiting v None) k ≡ None) (eqb-true x v z) f in
              found-some (with_wait st.waiting v None) v None (found-new st.waiting v None) q
        ];
        guard = r.guard;
        on = r.on;
        long = r.long;
        base = r.base;
      }
    where
      or-right : (a c : Bool) → c ≡ true → (a || c) ≡ true
      or-right true c e = refl
      or-right false c e = e

  -- a place with a cell takes another way
  module _ (v d : ℕ) (b : Bool) (r : Ready n many st gd here o at s) (there : found st.waiting v ≡ Some (Some d)) (within : d < many) where
    abbrev pub added : List ℕ
    added = slice_set s d (truth (is_set d s || b))

    abbrev at-added : ℕ → Bool
    at-added x = at x || (b && (x == v))

    own : (n ≤ d) × (d < st.next) × (r.owner d ≡ Some v) × (r.guards v ≡ Some d)
    own =
        let (w0, h0, node, guard) = found-is (WaitIn n st.next r.guards r.owner o at s) st.waiting v (Some d) r.waits there in
        let cell : GuardIn n st.next r.owner (Some w0.node) (Some d) = subst (λ (x : Option ℕ). GuardIn n st.next r.owner (Some w0.node) x) guard h0.cell in
        (cell.0, cell.1, cell.2 ∙ ap (λ (x : ℕ). Some x) node, ap r.guards (sym node) ∙ sym h0.mine ∙ guard)

    added-is : is_set d added ≡ (is_set d s || b)
    added-is = ap (λ (x : ℕ). x == 1) (set-same s d (truth (is_set d s || b)) (omega (arith, within, r.long))) ∙ truth-is (is_set d s || b)

    added-other : (c : ℕ) → (c ≡ d → ⊥) → slice_index s c ≡ slice_index added c
    added-other c ne = set-other s d (truth (is_set d s || b)) c ne

    pub added-below : Below n s added
    added-below c lt = added-other c (λ e. omega (arith, lt, e, own.0))

    cell-on : (node c : ℕ) → Some c ≡ r.guards node → r.owner c ≡ Some node → is_set c s ≡ at node → is_set c added ≡ at-added node
    cell-on node c mine cell on = elim (cases_eq c d) [
      | inl e ↦
          let both : Some node ≡ Some v = sym cell ∙ ap r.owner e ∙ own.2 in
          let same : node ≡ v = some-some node v both in
          let y : (node == v) ≡ true = eq-eqb node v same in
          ap (λ (x : ℕ). is_set x added) e ∙ added-is
          ∙ ap (λ (x : Bool). x || b) (ap (λ (x : ℕ). is_set x s) (sym e) ∙ on)
          ∙ ap (λ (x : Bool). at node || x) (sym (and-true b (node == v) y))
      | inr ne ↦
          let z : (node == v) ≡ false = ne_eqb node v (λ e. ne (some-some c d (mine ∙ ap r.guards e ∙ own.3))) in
          ap (λ (x : ℕ). x == 1) (sym (added-other c ne)) ∙ on ∙ or-off (at node) b (node == v) z
    ]

    guard-on : (node : ℕ) (g : Option ℕ) → g ≡ r.guards node → GuardIn n st.next r.owner (Some node) g → is_on g s ≡ at node → is_on g added ≡ at-added node
    guard-on node None mine cell on = on-or (at node) (b && (node == v)) on
      where
        on-or : (a c : Bool) → true ≡ a → true ≡ (a || c)
        on-or true c e = refl
        on-or false c e = absurd (false-true (sym e))
    guard-on node (Some c) mine cell on = cell-on node c mine cell.2 on

    pub ready-or : Ready n many st gd here o (λ x. at x || (b && (x == v))) added
    ready-or = record {
      guards = r.guards;
      owner = r.owner;
      waits = each-map (WaitIn n st.next r.guards r.owner o at s) (WaitIn n st.next r.guards r.owner o (λ x. at x || (b && (x == v))) added) st.waiting
          (λ w h. record { mine = h.mine; cell = h.cell; on = λ e. guard-on w.node w.guard h.mine h.cell (h.on e) }) r.waits;
      bads = r.bads;
      first = sym (first-same (BadIn n st.next r.owner) st.bads s added r.bads (λ x h. added-other x.cell (λ e. none-some v (sym h.mark ∙ ap r.owner e ∙ own.2)))) ∙ r.first;
      held = λ e x y f. elim (or-parts (at x) b (x == v) y) [
        | inl z ↦ r.held e x z f
        | inr z ↦ found-some st.waiting v (Some d) there (subst (λ (k : ℕ). found st.waiting k ≡ None) (eqb-true x v z) f)
      ];
      guard = r.guard;
      on = λ e. sym (on-same n st.next r.owner None gd s added r.guard (λ c le lt m. added-other c (λ i. none-some v (sym m ∙ ap r.owner i ∙ own.2)))) ∙ r.on e;
      long = set-long s d (truth (is_set d s || b)) ∙ r.long;
      base = r.base;
    }

-- the turn of a place that waits
module _ (n many : ℕ) (st : State) (o : Option ℕ) (at : ℕ → Bool) (s : List ℕ) (r : Ready n many st None true o at s) (v : ℕ) where
  abbrev freed : Option ℕ → ℕ → Option ℕ
  freed None c = r.owner c
  freed (Some d) c = taking d None r.owner c

  abbrev at-left : ℕ → Bool
  at-left x = at x && not (x == v)

  freed-other : (gd : Option ℕ) (node : ℕ) → GuardIn n st.next r.owner (Some v) gd → ((node == v) ≡ false) → (c : ℕ) → r.owner c ≡ Some node → freed gd c ≡ Some node
  freed-other None node g ne c m = m
  freed-other (Some d) node g ne c m =
      taking-old d c None r.owner (λ e. same_not node v ne (some-some node v (sym m ∙ ap r.owner e ∙ g.2))) ∙ m

  freed-bad : (gd : Option ℕ) (c : ℕ) → r.owner c ≡ None → freed gd c ≡ None
  freed-bad None c m = m
  freed-bad (Some d) c m = elim (cases_Bool (c == d)) [ inl y ↦ rw y refl | inr y ↦ rw y m ]

  freed-own : (gd : Option ℕ) → GuardIn n st.next r.owner (Some v) gd → GuardIn n st.next (freed gd) None gd
  freed-own None g = tt
  freed-own (Some d) g = (g.0, g.1, taking-new d None r.owner)

  and-not : (a b : Bool) → b ≡ false → a ≡ (a && not b)
  and-not true b e = ap not (sym e)
  and-not false b e = refl

  and-split : (a b : Bool) → (a && not b) ≡ true → (a ≡ true) × (b ≡ false)
  and-split true true e = absurd (false-true e)
  and-split true false e = (refl, refl)
  and-split false b e = absurd (false-true e)

  pub ready-turn : (gd : Option ℕ) → found st.waiting v ≡ Some gd → Ready n many (left st v) gd (at v) o (λ x. at x && not (x == v)) s
  ready-turn gd there =
      let (w0, h0, node, guard) = found-is (WaitIn n st.next r.guards r.owner o at s) st.waiting v gd r.waits there in
      let cell0 : GuardIn n st.next r.owner (Some w0.node) gd = subst (λ (x : Option ℕ). GuardIn n st.next r.owner (Some w0.node) x) guard h0.cell in
      let cell : GuardIn n st.next r.owner (Some v) gd = subst (λ (x : ℕ). GuardIn n st.next r.owner (Some x) gd) node cell0 in
      record {
        guards = r.guards;
        owner = freed gd;
        waits = each-map (λ w. WaitIn n st.next r.guards r.owner o at s w × ((w.node == v) ≡ false)) (WaitIn n st.next r.guards (freed gd) o at-left s) (without st.waiting v)
            (λ w h. record {
              mine = h.0.mine;
              cell = guard-grow n st.next st.next r.owner (freed gd) (Some w.node) w.guard h.0.cell (omega arith) (λ c le lt m. freed-other gd w.node cell h.1 c m);
              on = λ e. h.0.on e ∙ and-not (at w.node) (w.node == v) h.1;
            }) (each-without (WaitIn n st.next r.guards r.owner o at s) st.waiting v r.waits);
        bads = each-map (BadIn n st.next r.owner) (BadIn n st.next (freed gd)) st.bads (λ x h. record { low = h.low; high = h.high; mark = freed-bad gd x.cell h.mark }) r.bads;
        first = r.first;
        held = λ e x y f.
            let (a, ne) = and-split (at x) (x == v) y in
            r.held e x a (sym (found-without st.waiting v x (λ i. same_not x v ne i)) ∙ f);
        guard = freed-own gd cell;
        on = λ e. ap (λ (x : Option ℕ). is_on x s) (sym guard) ∙ h0.on e ∙ ap at node;
        long = r.long;
        base = r.base;
      }
