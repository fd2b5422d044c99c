-- A place at which the run is not: it waits elsewhere, a check failed, or it was lost.
use Rattle.std.proofs.Common.{◌≡◌, ℕ, ℤ, ◌==◌, ◌⊎◌, inl, inr, Bool, true, false, not, ◌&&◌, ◌||◌, List, [], ◌∷◌, Option, Some, None, refl, sym, ap, ◌∙◌, subst, slice_set, if◌then◌else◌}
use Rattle.std.proofs.lemmas.Bool.{cases_Bool, eqb-true}
use Rattle.bv_term.specs.Numbers.{truth}
use Rattle.bv_term.specs.declared.term.TermId.{TermId}
use Rattle.bv_term.specs.WellFormed.{Table}
use Rattle.bv_term.specs.Values.{value}
use Rattle.c_graph.specs.Shape.{Flow}
use Rattle.c_graph.specs.Steps.{Moment, moment}
use Rattle.block_rule.specs.Deeds.{Sets, Code}
use Rattle.block_rule.specs.Plans.{Way, Ways, Goes, Tested, Checked, Fails, Forks, Place, Plan, matters, IsPlace, AreMoves, AreRegular}
use Rattle.block_rule.specs.Rule.{Bad, State, is_on, is_none, is_sure, under, found, some_draw, moved, flushed, certain, clear, found_sure, left, with_bad, with_saved, checked, leads, goes, outwards, is_clear, at_place, placed}
use Rattle.block_rule.specs.Blocked.{Agree}
use Rattle.block_laws.proofs.Lists.{false-true, first_failed, or_failed}
use Rattle.block_laws.proofs.Keeping.{Ready, Below, ready-above, ready-at, ready-saved, new-below}
use Rattle.block_laws.proofs.Arriving.{ready-turn}
use Rattle.block_laws.proofs.Moving.{Widths}
use Rattle.block_laws.proofs.Leading.{or-gone, and-first, ready-same, ready-free}
use Rattle.block_laws.proofs.Going.{option_cases, none-found}
use Rattle.block_back_laws.proofs.Coming.{Comes, comes-does, comes-flush, comes-failed, comes-certain, comes-check, comes-leads, comes-off}

some-none : (x : ℕ) → Some x ≡ None → ⊥
some-none x e = absurd cc

sure-on : (gd : Option ℕ) (s : List ℕ) → is_sure gd ≡ true → is_on gd s ≡ true
sure-on None s e = refl
sure-on (Some c) s e = absurd (false-true e)

under-away : (table : Table) (gd : Option ℕ) (t : TermId) (s : List ℕ) → is_on gd s ≡ false → under table gd t s ≡ false
under-away table gd t s off = ap (λ (b : Bool). b && value table s t == 1) off

and-away : (a b : Bool) → b ≡ false → (a && b) ≡ false
and-away true b e = e
and-away false b e = refl

same-failed : (o : Option ℕ) (b : Bool) (x : ℕ) → (o ≡ None → b ≡ false) → or_failed o b x ≡ o
same-failed (Some e) b x off = refl
same-failed None b x off = ap (λ (c : Bool). if c then Some x else None) (off refl)

bads-there : (bs : List Bad) (s : List ℕ) (x : ℕ) → first_failed bs s ≡ Some x → is_none bs ≡ false
bads-there [] s x e = absurd (some-none x (sym e))
bads-there (b ∷ bs) s x e = refl

none-lost : (alone lost none : Bool) → (alone && (not lost || none)) ≡ true → none ≡ false → lost ≡ false
none-lost true true none h e = absurd (false-true (sym e ∙ h))
none-lost true false none h e = refl
none-lost false lost none h e = absurd (false-true h)

and-not-false : (b : Bool) → (b && not false) ≡ b
and-not-false true = refl
and-not-false false = refl

module _ (table wide : Table) (plan : Plan) (n many : ℕ) (Q : ℕ → Moment → Type 0) (widths : Widths n table wide) where
  abbrev C : Code → Moment → Type 0
  C = Comes wide many Q

  -- where no check failed, the run waits at r, or it may have been lost
  abbrev pub Known : Option ℕ → (ℕ → Bool) → ℕ → State → Type 0
  Known o at r st = o ≡ None → (at r ≡ true) ⊎ (st.lost ≡ true)

  -- what is done with what is left of the block
  abbrev pub Stays : Option ℕ → (ℕ → Bool) → ℕ → (State → Code) → List ℕ → List ℤ → Type 0
  Stays o at r rest s ins =
      (st : State) (t : List ℕ) → Ready n many st None true o at t → Known o at r st → (o ≡ None → at r ≡ true → Agree n (plan.live r) s t) → C (rest st) (moment t ins)

  abbrev pub Failing : Option ℕ → List ℤ → Type 0
  Failing o ins = (e : ℕ) (t : List ℕ) → o ≡ Some e → Q e (moment t ins)

  stays-later : (o : Option ℕ) (at : ℕ → Bool) (r : ℕ) (rest : State → Code) (s t : List ℕ) (ins : List ℤ) → Below n s t → Stays o at r rest s ins → Stays o at r rest t ins
  stays-later o at r rest s t ins b k st u ready known a = k st u ready known (λ e y c lt live. b c lt ∙ a e y c lt live)

  module _ (o : Option ℕ) (at : ℕ → Bool) (r : ℕ) (ins : List ℤ) (failing : Failing o ins) where
    -- where the guard is not 1 and nothing waits, the run may have been lost
    alone-lost : (st : State) (gd : Option ℕ) (here : Bool) (s : List ℕ) → Ready n many st gd here o at s → Known o at r st → o ≡ None → is_none st.waiting ≡ true → st.lost ≡ true
    alone-lost st gd here s ready known e z = elim (known e) [ inl y ↦ absurd (ready.held e r y (none-found st.waiting r z)) | inr l ↦ l ]

    off-guard : (st : State) (gd : Option ℕ) (here : Bool) (s : List ℕ) → Ready n many st gd here o at s → (o ≡ None → here ≡ false) → o ≡ None → is_on gd s ≡ true → ⊥
    off-guard st gd here s ready off e on = false-true (sym (off e) ∙ sym (ready.on e) ∙ on)

    draws-away : (st : State) (gd : Option ℕ) (here : Bool) (s : List ℕ) (code : Code) → Ready n many st gd here o at s → (o ≡ None → here ≡ false) → Known o at r st
        → is_none st.waiting ≡ true → C (flushed st.bads (certain st.lost gd code)) (moment s ins)
    draws-away st gd here s code ready off known z = elim (option_cases o) [
      | inl e ↦
          comes-flush wide many Q st.bads (certain st.lost gd code) (moment s ins) (ready.first ∙ e)
          (comes-certain wide many Q st.lost gd code (moment s ins) (λ on. absurd (off-guard st gd here s ready off e on)) (λ w. alone-lost st gd here s ready known e z))
      | inr e ↦ comes-failed wide many Q st.bads (certain st.lost gd code) (moment s ins) e.0 (ready.first ∙ e.1) (failing e.0 s e.1)
    ]

    pub goes-away : (st : State) (gd : Option ℕ) (here : Bool) (s : List ℕ) (way : Way) (rest : State → Code) → Ready n many st gd here o at s
        → AreMoves plan n way.moves → (o ≡ None → here ≡ false) → Known o at r st → Stays o at r rest s ins → C (goes table plan st gd way rest) (moment s ins)
    goes-away st gd here s way rest ready moves off known k = elim (cases_Bool (some_draw way.moves)) [
      | inl y ↦ elim (cases_Bool (is_none st.waiting)) [
        | inl z ↦ rw (y, z) (draws-away st gd here s (moved table plan st.waiting None way.moves (leads plan (clear st) way.to true (λ x. true) rest)) ready off known z)
        | inr z ↦ rw (y, z) (λ (w : ⊥) to end go. absurd w)
      ]
      | inr y ↦ rw y (
          comes-off table wide plan n many Q widths st.waiting st.next ready.owner gd ready.guard way.moves (leads plan st way.to (is_sure gd) (is_on gd) rest) (moment s ins) moves y
          (λ t a q.
          let next = ready-above n many st gd here o at s t ready a in
          comes-leads wide plan n many Q st gd here o at t ins next way.to (is_sure gd) (is_on gd) rest
          (λ sure e. sure-on gd t sure)
          (λ st2 u ready2 b keeps dead.
          k st2 u
          (ready-free n many st2 gd here o at u (ready-same n many st2 gd here o (λ x. at x || ((matters plan way.to && is_on gd t) && (x == way.to))) at u ready2
          (λ e x. sym (or-gone (at x) (matters plan way.to && is_on gd t) (x == way.to) (and-away (matters plan way.to) (is_on gd t) (next.on e ∙ off e))))))
          (λ e. elim (known e) [ inl z ↦ inl z | inr l ↦ inr (keeps l) ])
          (λ e z c lt live. q r (ready.held e r z) (ready.on e ∙ off e) c lt live ∙ b c lt)))
          )
    ]

    pub check-away : (st : State) (gd : Option ℕ) (here : Bool) (s : List ℕ) (error : ℕ) (f : List ℕ → Bool) (rest : State → Code) → Ready n many st gd here o at s
        → (o ≡ None → f s ≡ false)
        → ((t : List ℕ) → Ready n many (with_bad st error) gd here o at t → Below n s t → C (rest (with_bad st error)) (moment t ins)) → C (checked st error f rest) (moment s ins)
    check-away st gd here s error f rest ready off k =
        comes-check wide plan n many Q st gd here o at s ins ready error f rest
        (λ t ready2 b. k t (subst (λ (x : Option ℕ). Ready n many (with_bad st error) gd here x at t) (same-failed o (f s) error off) ready2) b)

    leads-away : (st : State) (gd : Option ℕ) (here : Bool) (s : List ℕ) (v : ℕ) (f : List ℕ → Bool) (rest : State → Code) → Ready n many st gd here o at s
        → (o ≡ None → f s ≡ false) → Known o at r st
        → ((st2 : State) (t : List ℕ) → Ready n many st2 gd here o at t → Known o at r st2 → Below n s t → C (rest st2) (moment t ins)) → C (leads plan st v false f rest) (moment s ins)
    leads-away st gd here s v f rest ready off known k =
        comes-leads wide plan n many Q st gd here o at s ins ready v false f rest (λ sure e. absurd (false-true sure))
        (λ st2 t ready2 b keeps dead.
        k st2 t
        (ready-same n many st2 gd here o (λ x. at x || ((matters plan v && f s) && (x == v))) at t ready2
        (λ e x. sym (or-gone (at x) (matters plan v && f s) (x == v) (and-away (matters plan v) (f s) (off e)))))
        (λ e. elim (known e) [ inl z ↦ inl z | inr l ↦ inr (keeps l) ]) b)

    pub outwards-away : (g : Flow) (st : State) (gd : Option ℕ) (here : Bool) (s : List ℕ) (ways : Ways) (rest : State → Code) → Ready n many st gd here o at s
        → AreRegular g plan n ways → (o ≡ None → here ≡ false) → Known o at r st → Stays o at r rest s ins → C (outwards table plan st gd ways rest) (moment s ins)
    outwards-away g st gd here s (Goes way) rest ready regular off known k = goes-away st gd here s way rest ready regular off known k
    outwards-away g st gd here s (Tested t way) rest ready regular off known k =
        comes-does wide many Q (Sets st.next (λ x. truth (under table gd t x))) (goes table plan (with_saved st) (Some st.next) way rest) (moment s ins)
        (moment (slice_set s st.next (truth (under table gd t s))) ins) refl
        (λ w.
        goes-away (with_saved st) (Some st.next) (under table gd t s) (slice_set s st.next (truth (under table gd t s))) way rest
        (ready-saved n many st gd here o at s ready (under table gd t s) w) regular
        (λ e. under-away table gd t s (ready.on e ∙ off e)) (λ e. inr refl)
        (stays-later o at r rest s (slice_set s st.next (truth (under table gd t s))) ins (new-below n many st gd here o at s ready (under table gd t s) w) k))
    outwards-away g st gd here s (Checked t error u way) rest ready regular off known k =
        check-away st gd here s error (under table gd t) (λ st1. goes table plan st1 gd way rest) ready
        (λ e. under-away table gd t s (ready.on e ∙ off e))
        (λ x ready2 b. goes-away (with_bad st error) gd here x way rest ready2 regular.2 off known (stays-later o at r rest s x ins b k))
    outwards-away g st gd here s (Fails t error u other) rest ready regular off known k =
        check-away st gd here s error (under table gd t) (λ st1. checked st1 other (under table gd u) rest) ready
        (λ e. under-away table gd t s (ready.on e ∙ off e))
        (λ x ready2 b.
        check-away (with_bad st error) gd here x other (under table gd u) rest ready2
        (λ e. under-away table gd u x (ready2.on e ∙ off e))
        (λ y ready3 c.
        k (with_bad (with_bad st error) other) y (ready-free n many (with_bad (with_bad st error) other) gd here o at y ready3) known (λ e z d lt live. b d lt ∙ c d lt)))
    outwards-away g st gd here s (Forks t one u other) rest ready regular off known k =
        leads-away st gd here s one (under table gd t) (λ st1. leads plan st1 other false (under table gd u) rest) ready
        (λ e. under-away table gd t s (ready.on e ∙ off e)) known
        (λ st2 x ready2 known2 b.
        leads-away st2 gd here x other (under table gd u) rest ready2
        (λ e. under-away table gd u x (ready2.on e ∙ off e)) known2
        (λ st3 y ready3 known3 c. k st3 y (ready-free n many st3 gd here o at y ready3) known3 (λ e z d lt live. b d lt ∙ c d lt)))

    turn-away : (g : Flow) (st : State) (s : List ℕ) (p : Place) (rest : State → Code) (q : Option (Option ℕ)) → found st.waiting p.node ≡ q → Ready n many st None true o at s
        → IsPlace g plan n p → (o ≡ None → at p.node ≡ false) → Known o at r st → Stays o at r rest s ins
        → C (at_place table plan (left st p.node) p.ways rest q) (moment s ins)
    turn-away g st s p rest None is ready place off known k = λ (w : ⊥) to end go. absurd w
    turn-away g st s p rest (Some gd) is ready place off known k =
        let mid = ready-turn n many st o at s ready p.node gd is in
        let stays : o ≡ None → (x : ℕ) → (at x && not (x == p.node)) ≡ at x = λ e x. elim (cases_Bool (x == p.node)) [
          | inl y ↦
              let z : at x ≡ false = ap at (eqb-true x p.node y) ∙ off e in
              ap (λ (b : Bool). b && not (x == p.node)) z ∙ sym z
          | inr y ↦ ap (λ (b : Bool). at x && not b) y ∙ and-not-false (at x)
        ] in
        let next = ready-same n many (left st p.node) gd (at p.node) o (λ x. at x && not (x == p.node)) at s mid stays in
        elim (cases_Bool (is_clear (left st p.node))) [
          | inl y ↦ elim (option_cases o) [
            | inl e ↦
                let alone : is_none (left st p.node).waiting ≡ true = and-first (is_none (left st p.node).waiting) (not st.lost || is_none st.bads) y in
                let go : C (certain st.lost gd (outwards table plan (found_sure (left st p.node)) None p.ways rest)) (moment s ins) =
                comes-certain wide many Q st.lost gd (outwards table plan (found_sure (left st p.node)) None p.ways rest) (moment s ins)
                (λ on. absurd (off-guard (left st p.node) gd (at p.node) s next off e on)) (λ w. alone-lost (left st p.node) gd (at p.node) s next known e alone) in
                rw y go
            | inr e ↦
                let keeps : st.lost ≡ false =
                none-lost (is_none (left st p.node).waiting) st.lost (is_none st.bads) y (bads-there st.bads s e.0 (next.first ∙ e.1)) in
                let never : o ≡ None → ⊥ = λ z. some-none e.0 (sym e.1 ∙ z) in
                let sure = ready-at n many (left st p.node) gd (at p.node) o at s (found_sure (left st p.node)) None true at next refl refl refl (λ z x. refl) (λ owner w. tt) (λ z. refl) in
                let go = outwards-away g (found_sure (left st p.node)) None true s p.ways rest sure place.regular (λ z. absurd (never z)) (λ z. absurd (never z)) k in
                rw (y, keeps) go
          ]
          | inr y ↦ rw y (outwards-away g (left st p.node) gd (at p.node) s p.ways rest next place.regular off known k)
        ]

    pub placed-away : (g : Flow) (st : State) (s : List ℕ) (p : Place) (rest : State → Code) → Ready n many st None true o at s
        → IsPlace g plan n p → (o ≡ None → at p.node ≡ false) → Known o at r st → Stays o at r rest s ins
        → C (placed table plan st p rest) (moment s ins)
    placed-away g st s p rest ready place off known k = turn-away g st s p rest (found st.waiting p.node) refl ready place off known k
