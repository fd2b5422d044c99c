-- The turn of each place, the ways out of a block, and a whole block.
use Rattle.std.proofs.Common.{◌≡◌, ℕ, ℤ, ◌≤◌, ◌==◌, ◌⊎◌, inl, inr, Bool, true, false, not, ◌&&◌, List, [], ◌∷◌, Option, Some, None, refl, sym, ap, ◌∙◌, subst, suc, length, arith, if◌then◌else◌, eq-eqb}
use Rattle.std.proofs.lemmas.Bool.{cases_Bool, cases_eq, eqb-true, ne_eqb}
use Rattle.bv_term.specs.WellFormed.{Table}
use Rattle.c_graph.specs.Shape.{Flow, IsFlow}
use Rattle.c_graph.specs.Steps.{IsWhole, Moment, moment}
use Rattle.block_rule.specs.Deeds.{Tests, Code, Ends, Does, did}
use Rattle.block_rule.specs.Plans.{Place, Plan, matters, IsPlace, ArePlaces}
use Rattle.block_rule.specs.Rule.{Wait, State, is_on, found, found_sure, left, outwards, certain, is_clear, at_place, placed, exits, all_placed, start, block_code}
use Rattle.block_rule.specs.Blocked.{Agree, IsPlan}
use Rattle.block_laws.proofs.Lists.{Each, each-map, false-true}
use Rattle.block_laws.proofs.Keeping.{Ready, WaitIn, ready-at}
use Rattle.block_laws.proofs.Arriving.{ready-turn}
use Rattle.block_laws.proofs.Moving.{Widths}
use Rattle.block_laws.proofs.Leading.{and-first, ready-same}
use Rattle.block_edges.specs.Exact.{AreLed, AllLed}
use Rattle.block_back_laws.proofs.Coming.{Comes, comes-does, comes-stuck, comes-ends, comes-one, comes-other, comes-flush, comes-failed, comes-certain}
use Rattle.block_back_laws.proofs.Away.{placed-away}
use Rattle.block_back_laws.proofs.Here.{Runs, Reached, Arrives, fewer, reached-failed, never-fails, outwards-here}

and-own : (b : Bool) → (b && not b) ≡ false
and-own true = refl
and-own false = refl

and-second : (a b : Bool) → (a && b) ≡ true → b ≡ true
and-second true b e = e
and-second false b e = absurd (false-true e)

-- the ways out of a block

-- a place that waits, of which `at` says that the run is there
abbrev Held : (ℕ → Bool) → List Wait → Type 0
Held at ws = (r : ℕ) × ((at r ≡ true) × (found ws r ≡ None → ⊥))

-- where the run is not at the first place that waits, it is at one of the others
held-later : (at : ℕ → Bool) (w : Wait) (ws : List Wait) → at w.node ≡ false → Held at (w ∷ ws) → Held at ws
held-later at w ws off (r, (on, there)) = (
  r,
  (
    on,
    λ none. elim (cases_Bool (w.node == r)) [
      | inl y ↦ absurd (false-true (sym off ∙ ap at (eqb-true w.node r y) ∙ on))
      | inr y ↦ there (let q : found (w ∷ ws) r ≡ None = rw y none in q)
    ],
  ),
)

module _ (wide : Table) (plan : Plan) (many : ℕ) (Q : ℕ → Moment → Type 0) (lost : Bool) (m : Moment) (at : ℕ → Bool) (q : (x : ℕ) → at x ≡ true → plan.cuts x ≡ true → Q x m) where
  last-exit : (w : Wait) → is_on w.guard m.store ≡ at w.node → (lost ≡ true) ⊎ Held at (w ∷ []) → plan.cuts w.node ≡ true → (b : Bool) → lost ≡ b
      → Comes wide many Q (if b then Does (Tests (is_on w.guard)) (Ends w.node) else Ends w.node) m
  last-exit w on held cut true e = elim (cases_Bool (at w.node)) [
    | inl y ↦
        let go : did wide (Tests (is_on w.guard)) m ≡ Some m = ap (λ (b : Bool). if b then Some m else None) (on ∙ y) in
        comes-does wide many Q (Tests (is_on w.guard)) (Ends w.node) m m go (λ s. comes-ends wide many Q w.node m (q w.node y cut))
    | inr y ↦
        let go : did wide (Tests (is_on w.guard)) m ≡ None = ap (λ (b : Bool). if b then Some m else None) (on ∙ y) in
        comes-stuck wide many Q (Tests (is_on w.guard)) (Ends w.node) m go
  ]
  last-exit w on held cut false e = elim held [
    | inl l ↦ absurd (false-true (sym e ∙ l))
    | inr h ↦ elim (cases_Bool (at w.node)) [
      | inl y ↦ comes-ends wide many Q w.node m (q w.node y cut)
      | inr y ↦ let (r, (x, there)) = held-later at w [] y h in absurd (there refl)
    ]
  ]

  comes-exits : (ws : List Wait) → Each (λ w. is_on w.guard m.store ≡ at w.node) ws → (lost ≡ true) ⊎ Held at ws → Comes wide many Q (exits plan lost ws) m
  comes-exits [] on held = λ sound to end go. absurd (let z : None ≡ Some (to, end) = go in cc)
  comes-exits (w ∷ []) on held = elim (cases_Bool (plan.cuts w.node)) [
    | inl y ↦ rw y (last-exit w on.0 held y lost refl)
    | inr y ↦ rw y (λ (z : ⊥) to end go. absurd z)
  ]
  comes-exits (w ∷ x ∷ ws) on held = elim (cases_Bool (plan.cuts w.node)) [
    | inl y ↦ elim (cases_Bool (at w.node)) [
      | inl z ↦
          rw y (comes-one wide many Q (is_on w.guard) (Ends w.node) (exits plan lost (x ∷ ws)) m (on.0 ∙ z) (comes-ends wide many Q w.node m (q w.node z y)))
      | inr z ↦
          let rest : Comes wide many Q (exits plan lost (x ∷ ws)) m =
          comes-exits (x ∷ ws) on.1 (elim held [ inl l ↦ inl l | inr h ↦ inr (held-later at w (x ∷ ws) z h) ]) in
          rw y (comes-other wide many Q (is_on w.guard) (Ends w.node) (exits plan lost (x ∷ ws)) m (on.0 ∙ z) rest)
    ]
    | inr y ↦ rw y (λ (z : ⊥) to end go. absurd z)
  ]

module _ (g : Flow) (wide : Table) (plan : Plan) (many : ℕ) (widths : Widths (length g.cells) g.terms wide) (flow : IsFlow g) (is : IsPlan g plan) (le : length g.cells ≤ many)
    (v0 : ℕ) (m0 : Moment) (most : ℕ) where
  abbrev n : ℕ
  n = length g.cells

  abbrev Run : ℕ → ℕ → Moment → Type 0
  Run = Runs g wide plan many widths flow is le v0 m0 most

  abbrev Q : ℕ → Moment → Type 0
  Q = Reached g wide plan many widths flow is le v0 m0 most

  abbrev C : Code → Moment → Type 0
  C = Comes wide many Q

  -- the run may go on along so many edges
  abbrev Onward : ℕ → (State → Code) → Type 0
  Onward = Arrives g wide plan many widths flow is le v0 m0 most

  -- the run is at the place whose turn it is
  turn-here : (turns : ℕ) (st : State) (s : List ℕ) (ins : List ℤ) (at : ℕ → Bool) (p : Place) (m : Moment) (rest : State → Code) (q : Option (Option ℕ)) → found st.waiting p.node ≡ q
      → Ready n many st None true None at s → IsPlace g plan n p → AreLed g p.node p.ways → at p.node ≡ true → ((x : ℕ) → (at x && not (x == p.node)) ≡ false)
      → Run (suc turns) p.node m → m.inputs ≡ ins → IsWhole g.terms.cells m.store → plan.reached p.node ≡ true → Agree n (plan.live p.node) m.store s → Onward turns rest
      → C (at_place g.terms plan (left st p.node) p.ways rest q) (moment s ins)
  turn-here turns st s ins at p m rest None is-at ready place led on only run same whole reached agree k = λ (w : ⊥) to end go. absurd w
  turn-here turns st s ins at p m rest (Some gd) is-at ready place led on only run same whole reached agree k =
      let mid = ready-turn n many st None at s ready p.node gd is-at in
      let mid2 : Ready n many (left st p.node) gd true None (λ x. at x && not (x == p.node)) s =
      subst (λ (b : Bool). Ready n many (left st p.node) gd b None (λ x. at x && not (x == p.node)) s) on mid in
      let next = ready-same n many (left st p.node) gd true None (λ x. at x && not (x == p.node)) (λ x. false) s mid2 (λ z x. only x) in
      elim (cases_Bool (is_clear (left st p.node))) [
        | inl y ↦
            let sure = ready-at n many (left st p.node) gd true None (λ x. false) s (found_sure (left st p.node)) None true (λ x. false) next refl refl refl (λ z x. refl) (λ owner w. tt) (λ z. refl) in
            let go : C (certain st.lost gd (outwards g.terms plan (found_sure (left st p.node)) None p.ways rest)) (moment s ins) =
            comes-certain wide many Q st.lost gd (outwards g.terms plan (found_sure (left st p.node)) None p.ways rest) (moment s ins)
            (λ o. outwards-here g wide plan many widths flow is le v0 m0 most turns p.node m ins run same whole reached rest k (found_sure (left st p.node)) None s sure agree p.ways place.regular led)
            (λ off. absurd (false-true (sym off ∙ next.on refl))) in
            rw y go
        | inr y ↦ rw y (
            outwards-here g wide plan many widths flow is le v0 m0 most turns p.node m ins run same whole reached rest k (left st p.node) gd s next agree p.ways place.regular led
            )
      ]

  -- the turn of a place, wherever the run stands
  turn : (turns : ℕ) (p : Place) (rest : State → Code) → IsPlace g plan n p → AreLed g p.node p.ways → Onward turns rest
      → Onward (suc turns) (λ st. placed g.terms plan st p rest)
  turn turns p rest place led k st s ins (inl (r, (m, run, same, ready, agree, whole, alive))) = elim (cases_eq r p.node) [
    | inl here ↦
        let at-place : (x : ℕ) → ((x == r) && not (x == p.node)) ≡ false = λ x. ap (λ (y : ℕ). (x == r) && not (x == y)) (sym here) ∙ and-own (x == r) in
        turn-here turns st s ins (λ x. x == r) p m rest (found st.waiting p.node) refl ready place led (eq-eqb p.node r (sym here)) at-place
        (subst (λ (x : ℕ). Run (suc turns) x m) here run) same whole (ap plan.reached (sym here) ∙ and-first (plan.reached r) (plan.alive r) alive)
        (subst (λ (x : ℕ). Agree n (plan.live x) m.store s) here agree) k
    | inr away ↦
        placed-away g.terms wide plan n many Q widths None (λ x. x == r) r ins (never-fails g wide plan many widths flow is le v0 m0 most ins)
        g st s p rest ready place (λ e. ne_eqb p.node r (λ z. away (sym z))) (λ e. inl (eq-eqb r r refl))
        (λ st2 t ready2 known a. k st2 t ins (inl (r, (m, fewer g wide plan many widths flow is le v0 m0 most turns r m run, same, ready2, (λ c lt y. agree c lt y ∙ a refl (eq-eqb r r refl) c lt y), whole, alive))))
  ]
  turn turns p rest place led k st s ins (inr (inl (e, (at, failed, ready)))) =
      placed-away g.terms wide plan n many Q widths (Some e) at 0 ins (reached-failed g wide plan many widths flow is le v0 m0 most e ins failed)
      g st s p rest ready place (λ z. absurd (some-known z)) (λ z. absurd (some-known z))
      (λ st2 t ready2 known a. k st2 t ins (inr (inl (e, (at, failed, ready2)))))
    where
      some-known : Some e ≡ None → ⊥
      some-known z = absurd cc
  turn turns p rest place led k st s ins (inr (inr (ready, lost))) =
      placed-away g.terms wide plan n many Q widths None (λ x. false) 0 ins (never-fails g wide plan many widths flow is le v0 m0 most ins)
      g st s p rest ready place (λ z. refl) (λ z. inr lost)
      (λ st2 t ready2 known a. k st2 t ins (inr (inr (ready2, elim (known refl) [ inl z ↦ absurd (false-true z) | inr l ↦ l ]))))

  waiting-on : (st : State) (s : List ℕ) (at : ℕ → Bool) (ready : Ready n many st None true None at s) → Each (λ x. is_on x.guard s ≡ at x.node) st.waiting
  waiting-on st s at ready =
      each-map (WaitIn n st.next ready.guards ready.owner None at s) (λ x. is_on x.guard s ≡ at x.node) st.waiting (λ x h. h.on refl) ready.waits

  -- where no place is left
  leaves : Onward 0 (λ st. all_placed g.terms plan [] st)
  leaves st s ins (inl (r, (m, run, same, ready, agree, whole, alive))) =
      let there : (x : ℕ) → (x == r) ≡ true → plan.cuts x ≡ true → Q x (moment s ins) = λ x y cut.
      let z : x ≡ r = eqb-true x r y in
      (m, subst (λ (v : ℕ). Run 0 v m) (sym z) run, same, inr (cut, ap (matters plan) z ∙ alive, subst (λ (v : ℕ). Agree n (plan.live v) m.store s) (sym z) agree, whole)) in
      comes-flush wide many Q st.bads (exits plan st.lost st.waiting) (moment s ins) ready.first
      (comes-exits wide plan many Q st.lost (moment s ins) (λ x. x == r) there st.waiting (waiting-on st s (λ x. x == r) ready)
      (inr (r, (eq-eqb r r refl, ready.held refl r (eq-eqb r r refl)))))
  leaves st s ins (inr (inl (e, (at, (m, run, same, err), ready)))) =
      comes-failed wide many Q st.bads (exits plan st.lost st.waiting) (moment s ins) e ready.first (m, run, same, inl err)
  leaves st s ins (inr (inr (ready, lost))) =
      comes-flush wide many Q st.bads (exits plan st.lost st.waiting) (moment s ins) ready.first
      (comes-exits wide plan many Q st.lost (moment s ins) (λ x. false) (λ x y cut. absurd (false-true y)) st.waiting (waiting-on st s (λ x. false) ready) (inl lost))

  all-turns : (ps : List Place) → ArePlaces g plan n ps → AllLed g ps → Onward (length ps) (λ st. all_placed g.terms plan ps st)
  all-turns [] are led = leaves
  all-turns (p ∷ ps) are led = turn (length ps) p (all_placed g.terms plan ps) are.0 led.0 (all-turns ps are.1 led.1)

  -- before the first place of a block
  starts : (v : ℕ) (s : List ℕ) → length s ≡ many → Ready n many (start v n) None true None (λ x. x == v) s
  starts v s long = record {
    guards = λ x. None;
    owner = λ c. None;
    waits = (record { mine = refl; cell = tt; on = λ e. sym (eq-eqb v v refl) }, tt);
    bads = tt;
    first = refl;
    held = λ e x y f.
        let z : (v == x) ≡ true = eq-eqb v x (sym (eqb-true x v y)) in
        absurd (let q : Some None ≡ None = rw z at f in cc);
    guard = tt;
    on = λ e. refl;
    long = long;
    base = omega arith;
  }

  -- where the code of a block ends, the run of the graph comes to the same place
  pub block-comes : (p : Place) (ps : List Place) → ArePlaces g plan n (p ∷ ps) → AllLed g (p ∷ ps) → (s : List ℕ) (m : Moment) → length s ≡ many → Run (length (p ∷ ps)) p.node m
      → IsWhole g.terms.cells m.store → matters plan p.node ≡ true → Agree n (plan.live p.node) m.store s → C (block_code g.terms plan p ps n) (moment s m.inputs)
  block-comes p ps are led s m long run whole alive agree =
      all-turns (p ∷ ps) are led (start p.node n) s m.inputs (inl (p.node, (m, run, refl, starts p.node s long, agree, whole, alive)))
