-- The turn of a place, and the ways out of a block.
use Rattle.std.proofs.Common.{◌≡◌, ℕ, ℤ, ◌≤◌, ◌==◌, inl, inr, Bool, true, false, not, ◌&&◌, ◌||◌, List, [], ◌∷◌, Option, Some, None, refl, sym, ap, ◌∙◌, subst, length, if◌then◌else◌}
use Rattle.std.proofs.lemmas.Bool.{cases_Bool, eqb-true}
use Rattle.bv_term.specs.WellFormed.{Table}
use Rattle.c_graph.specs.declared.graph.Edge.{Edge}
use Rattle.c_graph.specs.Shape.{Flow}
use Rattle.c_graph.specs.Steps.{Moment, moment, operated_all}
use Rattle.block_rule.specs.Deeds.{Tests, Code, Ends, Does, did}
use Rattle.block_rule.specs.Plans.{Place, Plan, matters, IsOneOf, IsError, IsPlace}
use Rattle.block_rule.specs.Rule.{Wait, Bad, State, is_on, is_none, found, found_sure, left, outwards, is_clear, at_place, placed, exits}
use Rattle.block_rule.specs.Blocked.{Agree, ReadsAll, read_before_all}
use Rattle.block_laws.proofs.Lists.{Each, false-true, first_failed}
use Rattle.block_laws.proofs.Keeping.{Ready, ready-at}
use Rattle.block_laws.proofs.Arriving.{ready-turn}
use Rattle.block_laws.proofs.Moving.{Lands, Widths, lands-does}
use Rattle.block_laws.proofs.Leading.{and-first, ready-same, lands-certain, lands-ends, lands-one, lands-other}
use Rattle.block_laws.proofs.Going.{option_cases, none-found, Rests, Failing, outwards-away, Arrives, Errs}
use Rattle.block_laws.proofs.Taking.{outwards-on}

some-none : (x : ℕ) → Some x ≡ None → ⊥
some-none x e = absurd cc

failed-some : (bs : List Bad) (s : List ℕ) (x : ℕ) → first_failed bs s ≡ Some x → is_none bs ≡ false
failed-some [] s x e = absurd (some-none x (sym e))
failed-some (b ∷ bs) s x e = refl

not-lost : (alone lost none : Bool) → (alone && (not lost || none)) ≡ true → none ≡ false → lost ≡ false
not-lost true true none h e = absurd (false-true (sym e ∙ h))
not-lost true false none h e = refl
not-lost false lost none h e = absurd (false-true h)

-- a place at which the run is not
module _ (g : Flow) (wide : Table) (plan : Plan) (n many : ℕ) (P : ℕ → Moment → Type 0) (widths : Widths n g.terms wide) (o : Option ℕ) (at : ℕ → Bool) (r : ℕ)
    (there : o ≡ None → at r ≡ true) (ins : List ℤ) (failing : Failing g.terms wide plan n many P widths o ins) where
  turn-away : (st : State) (s : List ℕ) (p : Place) (rest : State → Code) (q : Option (Option ℕ)) → found st.waiting p.node ≡ q → Ready n many st None true o at s
      → IsPlace g plan n p → (o ≡ None → at p.node ≡ false) → Rests g.terms wide plan n many P widths o at r rest s ins
      → Lands wide many P (at_place g.terms plan (left st p.node) p.ways rest q) (moment s ins)
  turn-away st s p rest None is ready place off k = λ (w : ⊥). absurd w
  turn-away st s p rest (Some gd) is ready place off k =
      let v : ℕ = p.node in
      let mid = ready-turn n many st o at s ready p.node gd is in
      let same : o ≡ None → (x : ℕ) → (at x && not (x == p.node)) ≡ at x = λ e x. elim (cases_Bool (x == p.node)) [
        | inl y ↦
            let z : at x ≡ false = ap at (eqb-true x p.node y) ∙ off e in
            ap (λ (b : Bool). b && not (x == p.node)) z ∙ sym z
        | inr y ↦ ap (λ (b : Bool). at x && not b) y ∙ and-true (at x)
      ] in
      let next = ready-same n many (left st p.node) gd (at p.node) o (λ x. at x && not (x == p.node)) at s mid same in
      elim (cases_Bool (is_clear (left st p.node))) [
        | inl y ↦ elim (option_cases o) [
          | inl e ↦ absurd (next.held e r (there e) (none-found (left st p.node).waiting r (and-first (is_none (left st p.node).waiting) (not st.lost || is_none st.bads) y)))
          | inr e ↦
              let bads : is_none st.bads ≡ false = failed-some st.bads s e.0 (next.first ∙ e.1) in
              let keeps : st.lost ≡ false = not-lost (is_none (left st p.node).waiting) st.lost (is_none st.bads) y bads in
              let never : o ≡ None → ⊥ = λ z. some-none e.0 (sym e.1 ∙ z) in
              let sure = ready-at n many (left st p.node) gd (at p.node) o at s (found_sure (left st p.node)) None true at next refl refl refl (λ z x. refl) (λ owner w. tt) (λ z. refl) in
              let go = outwards-away g.terms wide plan n many P widths o at r there ins failing g (found_sure (left st p.node)) None true s p.ways rest sure place.regular (λ z. absurd (never z)) k in
              rw (y, keeps) go
        ]
        | inr y ↦ rw y (outwards-away g.terms wide plan n many P widths o at r there ins failing g (left st p.node) gd (at p.node) s p.ways rest next place.regular off k)
      ]
    where
      and-true : (b : Bool) → (b && not false) ≡ b
      and-true true = refl
      and-true false = refl

  pub placed-away : (st : State) (s : List ℕ) (p : Place) (rest : State → Code) → Ready n many st None true o at s
      → IsPlace g plan n p → (o ≡ None → at p.node ≡ false) → Rests g.terms wide plan n many P widths o at r rest s ins
      → Lands wide many P (placed g.terms plan st p rest) (moment s ins)
  placed-away st s p rest ready place off k = turn-away st s p rest (found st.waiting p.node) refl ready place off k

-- a place at which the run is
module _ (g : Flow) (wide : Table) (plan : Plan) (n many : ℕ) (P : ℕ → Moment → Type 0) (widths : Widths n g.terms wide) (reads : ReadsAll g.terms n plan)
    (rest : State → Code) (ins : List ℤ) (to : ℕ) (a : Moment) (le : n ≤ many) (arrives : Arrives g.terms wide plan n many P widths reads rest ins to a)
    (errs : IsError g to → Errs g.terms wide plan n many P widths reads rest ins to a) (perr : IsError g to → (t : List ℕ) → P to (moment t a.inputs))
    (alive : matters plan to ≡ true) where
  turn-here : (st : State) (s old : List ℕ) (at : ℕ → Bool) (p : Place) (e : Edge) (q : Option (Option ℕ)) → found st.waiting p.node ≡ q → Ready n many st None true None at s
      → IsPlace g plan n p → at p.node ≡ true → ((x : ℕ) → (at x && not (x == p.node)) ≡ false) → n ≤ length old → e.to.0 ≡ to → IsOneOf p.ways e
      → operated_all g.terms e.ops (Some (moment old ins)) ≡ Some a → Agree n (read_before_all plan (plan.live to) e.ops) old s
      → Lands wide many P (at_place g.terms plan (left st p.node) p.ways rest q) (moment s ins)
  turn-here st s old at p e None is ready place on only long goal way h agree = λ (w : ⊥). absurd w
  turn-here st s old at p e (Some gd) is ready place on only long goal way h agree =
      let mid = ready-turn n many st None at s ready p.node gd is in
      let mid2 : Ready n many (left st p.node) gd true None (λ x. at x && not (x == p.node)) s =
      subst (λ (b : Bool). Ready n many (left st p.node) gd b None (λ x. at x && not (x == p.node)) s) on mid in
      let next = ready-same n many (left st p.node) gd true None (λ x. at x && not (x == p.node)) (λ x. false) s mid2 (λ z x. only x) in
      elim (cases_Bool (is_clear (left st p.node))) [
        | inl y ↦
            let sure = ready-at n many (left st p.node) gd true None (λ x. false) s (found_sure (left st p.node)) None true (λ x. false) next refl refl refl (λ z x. refl) (λ owner w. tt) (λ z. refl) in
            rw y (lands-certain wide many P st.lost gd (outwards g.terms plan (found_sure (left st p.node)) None p.ways rest) (moment s ins) (next.on refl)
            (outwards-on g wide plan n many P widths reads rest ins to a le arrives errs perr alive (found_sure (left st p.node)) None s old sure long p.ways e goal way place.regular h agree))
        | inr y ↦ rw y (
            outwards-on g wide plan n many P widths reads rest ins to a le arrives errs perr alive (left st p.node) gd s old next long p.ways e goal way place.regular h agree
            )
      ]

  pub placed-here : (st : State) (s old : List ℕ) (at : ℕ → Bool) (p : Place) (e : Edge) → Ready n many st None true None at s
      → IsPlace g plan n p → at p.node ≡ true → ((x : ℕ) → (at x && not (x == p.node)) ≡ false) → n ≤ length old → e.to.0 ≡ to → IsOneOf p.ways e
      → operated_all g.terms e.ops (Some (moment old ins)) ≡ Some a → Agree n (read_before_all plan (plan.live to) e.ops) old s
      → Lands wide many P (placed g.terms plan st p rest) (moment s ins)
  placed-here st s old at p e = turn-here st s old at p e (found st.waiting p.node) refl

-- the ways out of a block
pub lands-exits : (wide : Table) (plan : Plan) (many : ℕ) (P : ℕ → Moment → Type 0) (lost : Bool) (ws : List Wait) (m : Moment) (r : ℕ)
    → Each (λ w. is_on w.guard m.store ≡ (w.node == r)) ws → (found ws r ≡ None → ⊥) → (plan.cuts r ≡ true → P r m) → Lands wide many P (exits plan lost ws) m
lands-exits wide plan many P lost [] m r on there p = absurd (there refl)
lands-exits wide plan many P lost (w ∷ []) m r on there p = elim (cases_Bool (plan.cuts w.node)) [
  | inl y ↦ elim (cases_Bool (w.node == r)) [
    | inl z ↦
        let same : w.node ≡ r = eqb-true w.node r z in
        let last : Lands wide many P (Ends w.node) m = lands-ends wide many P w.node m (subst (λ (x : ℕ). P x m) (sym same) (p (ap plan.cuts (sym same) ∙ y))) in
        let go : did wide (Tests (is_on w.guard)) m ≡ Some m = ap (λ (b : Bool). if b then Some m else None) (on.0 ∙ z) in
        rw y (by lost last (lands-does wide many P (Tests (is_on w.guard)) (Ends w.node) m m go (λ s. last)))
    | inr z ↦ absurd (there (let q : found (w ∷ []) r ≡ None = rw z refl in q))
  ]
  | inr y ↦ rw y (λ (w : ⊥). absurd w)
]
  where
    by : (b : Bool) → Lands wide many P (Ends w.node) m → Lands wide many P (Does (Tests (is_on w.guard)) (Ends w.node)) m
        → Lands wide many P (if b then Does (Tests (is_on w.guard)) (Ends w.node) else Ends w.node) m
    by true f h = h
    by false f h = f
lands-exits wide plan many P lost (w ∷ x ∷ ws) m r on there p = elim (cases_Bool (plan.cuts w.node)) [
  | inl y ↦ elim (cases_Bool (w.node == r)) [
    | inl z ↦
        let same : w.node ≡ r = eqb-true w.node r z in
        rw y (lands-one wide many P (is_on w.guard) (Ends w.node) (exits plan lost (x ∷ ws)) m (on.0 ∙ z)
        (lands-ends wide many P w.node m (subst (λ (k : ℕ). P k m) (sym same) (p (ap plan.cuts (sym same) ∙ y)))))
    | inr z ↦
        let there2 : found (x ∷ ws) r ≡ None → ⊥ = λ q. there (let f : found (w ∷ x ∷ ws) r ≡ None = rw z q in f) in
        rw y (lands-other wide many P (is_on w.guard) (Ends w.node) (exits plan lost (x ∷ ws)) m (on.0 ∙ z) (lands-exits wide plan many P lost (x ∷ ws) m r on.1 there2 p))
  ]
  | inr y ↦ rw y (λ (w : ⊥). absurd w)
]
