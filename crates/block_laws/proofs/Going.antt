-- The ways out of a place: where the run is elsewhere or a check failed, and where the run is there.
use Rattle.std.proofs.Common.{◌≡◌, ℕ, ℤ, ◌≤◌, ◌==◌, ◌⊎◌, inl, inr, Bool, true, false, ◌&&◌, ◌||◌, List, [], ◌∷◌, Option, Some, None, refl, sym, ap, ◌∙◌, subst, length, arith, slice_set, if◌then◌else◌, eq-eqb}
use Rattle.std.proofs.lemmas.Bool.{cases_Bool, eqb-true, ne_eqb}
use Rattle.bv_term.specs.Numbers.{truth}
use Rattle.bv_term.specs.declared.term.TermId.{TermId}
use Rattle.bv_term.specs.WellFormed.{Table}
use Rattle.bv_term.specs.Values.{value}
use Rattle.c_graph.specs.declared.graph.Operation.{Operation}
use Rattle.c_graph.specs.declared.graph.Operation.TheVariants.{Assume, Set, SetAt, Draw}
use Rattle.c_graph.specs.Shape.{Flow}
use Rattle.c_graph.specs.Steps.{Moment, moment, operated_all}
use Rattle.block_rule.specs.Deeds.{Sets, Code}
use Rattle.block_rule.specs.Plans.{Way, Ways, Goes, Tested, Checked, Fails, Forks, Plan, matters, AreMoves, AreRegular}
use Rattle.block_rule.specs.Rule.{Wait, State, is_on, is_none, is_sure, under, found, some_draw, moved, certain, clear, with_bad, with_saved, checked, leads, goes, outwards}
use Rattle.block_rule.specs.Blocked.{Agree, ReadsAll, read_before_all}
use Rattle.block_laws.proofs.Lists.{false-true, or_failed}
use Rattle.block_laws.proofs.Keeping.{Ready, Below, ready-above, ready-saved, new-below}
use Rattle.block_laws.proofs.Reading.{AllSetBelow, or-left, or-right, none_stays, follows_all}
use Rattle.block_laws.proofs.Moving.{Lands, Widths, lands-does, lands-on, lands-off}
use Rattle.block_laws.proofs.Leading.{or-gone, ready-same, ready-free, ready-clear, lands-flush, lands-failed, lands-certain, lands-check, lands-leads}

pub option_cases : (o : Option ℕ) → (o ≡ None) ⊎ ((e : ℕ) × (o ≡ Some e))
option_cases None = inl refl
option_cases (Some e) = inr (e, refl)

pub none-found : (ws : List Wait) (v : ℕ) → is_none ws ≡ true → found ws v ≡ None
none-found [] v e = refl
none-found (w ∷ ws) v e = absurd (false-true e)

sure-on : (gd : Option ℕ) (s : List ℕ) → is_sure gd ≡ true → is_on gd s ≡ true
sure-on None s e = refl
sure-on (Some c) s e = absurd (false-true e)

under-away : (table : Table) (gd : Option ℕ) (t : TermId) (s : List ℕ) → is_on gd s ≡ false → under table gd t s ≡ false
under-away table gd t s off = ap (λ (b : Bool). b && value table s t == 1) off

pub under-on : (table : Table) (gd : Option ℕ) (t : TermId) (s : List ℕ) → is_on gd s ≡ true → value table s t ≡ 1 → under table gd t s ≡ true
under-on table gd t s on is = ap (λ (b : Bool). b && value table s t == 1) on ∙ eq-eqb (value table s t) 1 is

pub under-off : (table : Table) (gd : Option ℕ) (t : TermId) (s : List ℕ) → (value table s t ≡ 1 → ⊥) → under table gd t s ≡ false
under-off table gd t s ne = and-off (is_on gd s) (value table s t == 1) (ne_eqb (value table s t) 1 ne)
  where
    and-off : (a b : Bool) → b ≡ false → (a && b) ≡ false
    and-off true b e = e
    and-off false b e = refl

failed-away : (o : Option ℕ) (b : Bool) (x : ℕ) → (o ≡ None → b ≡ false) → or_failed o b x ≡ o
failed-away (Some e) b x off = refl
failed-away None b x off = ap (λ (c : Bool). if c then Some x else None) (off refl)

pub moves-below : (plan : Plan) (n : ℕ) (ops : List Operation) → AreMoves plan n ops → AllSetBelow n ops
moves-below plan n [] h = tt
moves-below plan n (Assume t ∷ ops) h = (tt, moves-below plan n ops h.1)
moves-below plan n (Set c t ∷ ops) h = (h.0, moves-below plan n ops h.1)
moves-below plan n (SetAt first k i t ∷ ops) h = (h.0.0, moves-below plan n ops h.1)
moves-below plan n (Draw c signed ∷ ops) h = (h.0, moves-below plan n ops h.1)

-- a run that goes on behind a test
pub passes : (table : Table) (t : TermId) (ops : List Operation) (m a : Moment) → operated_all table (Assume t ∷ ops) (Some m) ≡ Some a
    → (value table m.store t ≡ 1) × (operated_all table ops (Some m) ≡ Some a)
passes table t ops m a h =
    let h2 : operated_all table ops (if value table m.store t == 1 then Some m else None) ≡ Some a = h in
    elim (cases_Bool (value table m.store t == 1)) [
      | inl y ↦ let q : operated_all table ops (Some m) ≡ Some a = rw y at h2 in (eqb-true (value table m.store t) 1 y, q)
      | inr y ↦
          let q : operated_all table ops None ≡ Some a = rw y at h2 in
          absurd (let z : None ≡ Some a = sym (none_stays table ops) ∙ q in cc)
    ]

pub tested : (table : Table) (plan : Plan) (n : ℕ) → ReadsAll table n plan → (t : TermId) (ops : List Operation) (later : ℕ → Bool) (s u : List ℕ)
    → Agree n (read_before_all plan later (Assume t ∷ ops)) s u → (value table s t ≡ value table u t) × Agree n (read_before_all plan later ops) s u
tested table plan n reads t ops later s u a = (
  reads t s u (λ c lt y. a c lt (or-left (plan.reads t.0 c) (read_before_all plan later ops c) y)),
  λ c lt y. a c lt (or-right (plan.reads t.0 c) (read_before_all plan later ops c) y),
)

pub agree-below : (n : ℕ) (p : ℕ → Bool) (s t u : List ℕ) → Agree n p s t → Below n t u → Agree n p s u
agree-below n p s t u a b c lt y = a c lt y ∙ b c lt

module _ (table wide : Table) (plan : Plan) (n many : ℕ) (P : ℕ → Moment → Type 0) (widths : Widths n table wide) where
  abbrev L : Code → Moment → Type 0
  L = Lands wide many P

  -- what is done with what is left of the block, where the run waits at r or a check failed
  abbrev pub Rests : Option ℕ → (ℕ → Bool) → ℕ → (State → Code) → List ℕ → List ℤ → Type 0
  Rests o at r rest s ins =
      (st : State) (t : List ℕ) → Ready n many st None true o at t → (o ≡ None → Agree n (plan.live r) s t) → L (rest st) (moment t ins)

  abbrev pub Failing : Option ℕ → List ℤ → Type 0
  Failing o ins = (e : ℕ) (t : List ℕ) → o ≡ Some e → P e (moment t ins)

  rests-later : (o : Option ℕ) (at : ℕ → Bool) (r : ℕ) (rest : State → Code) (s t : List ℕ) (ins : List ℤ) → Below n s t → Rests o at r rest s ins → Rests o at r rest t ins
  rests-later o at r rest s t ins b k st u ready a = k st u ready (λ e c lt live. b c lt ∙ a e c lt live)

  module _ (o : Option ℕ) (at : ℕ → Bool) (r : ℕ) (there : o ≡ None → at r ≡ true) (ins : List ℤ) (failing : Failing o ins) where
    pub goes-away : (st : State) (gd : Option ℕ) (here : Bool) (s : List ℕ) (way : Way) (rest : State → Code) → Ready n many st gd here o at s
        → AreMoves plan n way.moves → (o ≡ None → here ≡ false) → Rests o at r rest s ins → L (goes table plan st gd way rest) (moment s ins)
    goes-away st gd here s way rest ready moves off k = elim (cases_Bool (some_draw way.moves)) [
      | inl y ↦ elim (cases_Bool (is_none st.waiting)) [
        | inl z ↦ rw (y, z) (elim (option_cases o) [
          | inl e ↦ absurd (ready.held e r (there e) (none-found st.waiting r z))
          | inr e ↦
              lands-failed wide many P st.bads
              (certain st.lost gd (moved table plan st.waiting None way.moves (leads plan (clear st) way.to true (λ x. true) rest)))
              (moment s ins) e.0 (ready.first ∙ e.1) (failing e.0 s e.1)
        ])
        | inr z ↦ rw (y, z) (λ (w : ⊥). absurd w)
      ]
      | inr y ↦ rw y (
          lands-off table wide plan n many P widths st.waiting st.next ready.owner gd ready.guard way.moves (leads plan st way.to (is_sure gd) (is_on gd) rest) (moment s ins) moves y
          (λ t a q.
          let next = ready-above n many st gd here o at s t ready a in
          lands-leads wide plan n many P st gd here o at t ins next way.to (is_sure gd) (is_on gd) rest
          (λ e on. absurd (false-true (sym (off e) ∙ sym (next.on e) ∙ on)))
          (λ sure e. sure-on gd t sure)
          (λ st2 u ready2 b.
          k st2 u
          (ready-free n many st2 gd here o at u (ready-same n many st2 gd here o (λ x. at x || (is_on gd t && (x == way.to))) at u ready2
          (λ e x. sym (or-gone (at x) (is_on gd t) (x == way.to) (next.on e ∙ off e)))))
          (λ e c lt live. q r (ready.held e r (there e)) (ready.on e ∙ off e) c lt live ∙ b c lt)))
          )
    ]

    pub leads-away : (st : State) (gd : Option ℕ) (here : Bool) (s : List ℕ) (v : ℕ) (f : List ℕ → Bool) (rest : State → Code) → Ready n many st gd here o at s
        → (o ≡ None → f s ≡ false)
        → ((st2 : State) (t : List ℕ) → Ready n many st2 gd here o at t → Below n s t → L (rest st2) (moment t ins)) → L (leads plan st v false f rest) (moment s ins)
    leads-away st gd here s v f rest ready off k =
        lands-leads wide plan n many P st gd here o at s ins ready v false f rest
        (λ e on. absurd (false-true (sym (off e) ∙ on)))
        (λ sure e. absurd (false-true sure))
        (λ st2 t ready2 b. k st2 t (ready-same n many st2 gd here o (λ x. at x || (f s && (x == v))) at t ready2 (λ e x. sym (or-gone (at x) (f s) (x == v) (off e)))) b)

    pub check-away : (st : State) (gd : Option ℕ) (here : Bool) (s : List ℕ) (error : ℕ) (f : List ℕ → Bool) (rest : State → Code) → Ready n many st gd here o at s
        → (o ≡ None → f s ≡ false)
        → ((t : List ℕ) → Ready n many (with_bad st error) gd here o at t → Below n s t → L (rest (with_bad st error)) (moment t ins)) → L (checked st error f rest) (moment s ins)
    check-away st gd here s error f rest ready off k =
        lands-check wide plan n many P st gd here o at s ins ready error f rest
        (λ t ready2 b. k t (subst (λ (x : Option ℕ). Ready n many (with_bad st error) gd here x at t) (failed-away o (f s) error off) ready2) b)

    pub outwards-away : (g : Flow) (st : State) (gd : Option ℕ) (here : Bool) (s : List ℕ) (ways : Ways) (rest : State → Code) → Ready n many st gd here o at s
        → AreRegular g plan n ways → (o ≡ None → here ≡ false) → Rests o at r rest s ins → L (outwards table plan st gd ways rest) (moment s ins)
    outwards-away g st gd here s (Goes way) rest ready regular off k = goes-away st gd here s way rest ready regular off k
    outwards-away g st gd here s (Tested t way) rest ready regular off k =
        lands-does wide many P (Sets st.next (λ x. truth (under table gd t x))) (goes table plan (with_saved st) (Some st.next) way rest) (moment s ins)
        (moment (slice_set s st.next (truth (under table gd t s))) ins) refl
        (λ w.
        goes-away (with_saved st) (Some st.next) (under table gd t s) (slice_set s st.next (truth (under table gd t s))) way rest
        (ready-saved n many st gd here o at s ready (under table gd t s) w) regular
        (λ e. under-away table gd t s (ready.on e ∙ off e))
        (rests-later o at r rest s (slice_set s st.next (truth (under table gd t s))) ins (new-below n many st gd here o at s ready (under table gd t s) w) k))
    outwards-away g st gd here s (Checked t error u way) rest ready regular off k =
        check-away st gd here s error (under table gd t) (λ st1. goes table plan st1 gd way rest) ready
        (λ e. under-away table gd t s (ready.on e ∙ off e))
        (λ x ready2 b. goes-away (with_bad st error) gd here x way rest ready2 regular.2 off (rests-later o at r rest s x ins b k))
    outwards-away g st gd here s (Fails t error u other) rest ready regular off k =
        check-away st gd here s error (under table gd t) (λ st1. checked st1 other (under table gd u) rest) ready
        (λ e. under-away table gd t s (ready.on e ∙ off e))
        (λ x ready2 b.
        check-away (with_bad st error) gd here x other (under table gd u) rest ready2
        (λ e. under-away table gd u x (ready2.on e ∙ off e))
        (λ y ready3 c. k (with_bad (with_bad st error) other) y (ready-free n many (with_bad (with_bad st error) other) gd here o at y ready3) (λ e d lt live. b d lt ∙ c d lt)))
    outwards-away g st gd here s (Forks t one u other) rest ready regular off k =
        leads-away st gd here s one (under table gd t) (λ st1. leads plan st1 other false (under table gd u) rest) ready
        (λ e. under-away table gd t s (ready.on e ∙ off e))
        (λ st2 x ready2 b.
        leads-away st2 gd here x other (under table gd u) rest ready2
        (λ e. under-away table gd u x (ready2.on e ∙ off e))
        (λ st3 y ready3 c. k st3 y (ready-free n many st3 gd here o at y ready3) (λ e d lt live. b d lt ∙ c d lt)))

  -- a way that the run takes
  pub goes-on : (st : State) (gd : Option ℕ) (s : List ℕ) (ins : List ℤ) (way : Way) (rest : State → Code) (a : Moment) → Ready n many st gd true None (λ x. false) s
      → AreMoves plan n way.moves → operated_all table way.moves (Some (moment s ins)) ≡ Some a → matters plan way.to ≡ true
      → ((st2 : State) (t : List ℕ) → Ready n many st2 None true None (λ x. x == way.to) t → Below n a.store t → L (rest st2) (moment t a.inputs))
      → L (goes table plan st gd way rest) (moment s ins)
  goes-on st gd s ins way rest a ready moves h alive k = elim (cases_Bool (some_draw way.moves)) [
    | inl y ↦ elim (cases_Bool (is_none st.waiting)) [
      | inl z ↦ rw (y, z) (
          lands-flush wide many P st.bads (certain st.lost gd (moved table plan st.waiting None way.moves (leads plan (clear st) way.to true (λ x. true) rest))) (moment s ins) ready.first
          (lands-certain wide many P st.lost gd (moved table plan st.waiting None way.moves (leads plan (clear st) way.to true (λ x. true) rest)) (moment s ins) (ready.on refl)
          (lands-on table wide plan n many P widths st.waiting st.next ready.owner None tt way.moves (leads plan (clear st) way.to true (λ x. true) rest) (moment s ins) a moves refl h
          (λ above.
          let next = ready-clear n many st gd true (λ x. false) a.store (ready-above n many st gd true None (λ x. false) s a.store ready above) in
          lands-leads wide plan n many P (clear st) None true None (λ x. false) a.store a.inputs next way.to true (λ x. true) rest
          (λ e t. alive) (λ sure e. refl) (λ st2 u ready2 b. k st2 u ready2 b))))
          )
      | inr z ↦ rw (y, z) (λ (w : ⊥). absurd w)
    ]
    | inr y ↦ rw y (
        lands-on table wide plan n many P widths st.waiting st.next ready.owner gd ready.guard way.moves (leads plan st way.to (is_sure gd) (is_on gd) rest) (moment s ins) a moves (ready.on refl) h
        (λ above.
        let next = ready-above n many st gd true None (λ x. false) s a.store ready above in
        lands-leads wide plan n many P st gd true None (λ x. false) a.store a.inputs next way.to (is_sure gd) (is_on gd) rest
        (λ e t. alive) (λ sure e. next.on refl)
        (λ st2 u ready2 b.
        k st2 u (ready-free n many st2 gd true None (λ x. x == way.to) u
        (ready-same n many st2 gd true None (λ x. false || (is_on gd a.store && (x == way.to))) (λ x. x == way.to) u ready2
        (λ e x. ap (λ (c : Bool). false || (c && (x == way.to))) (next.on refl)))) b))
        )
  ]

  module _ (reads : ReadsAll table n plan) (rest : State → Code) (ins : List ℤ) (to : ℕ) (a : Moment) where
    -- what is done with what is left of the block, where the run went on to a place
    abbrev pub Arrives : Type 0
    Arrives = (st : State) (t : List ℕ) → Ready n many st None true None (λ x. x == to) t → Agree n (plan.live to) a.store t → n ≤ length a.store → L (rest st) (moment t a.inputs)

    -- and where it went on to an error
    abbrev pub Errs : Type 0
    Errs = (st : State) (at : ℕ → Bool) (t : List ℕ) → Ready n many st None true (Some to) at t → L (rest st) (moment t a.inputs)

    pub takes : (st : State) (gd : Option ℕ) (s old : List ℕ) (way : Way) → n ≤ many → Ready n many st gd true None (λ x. false) s → AreMoves plan n way.moves
        → to ≡ way.to → matters plan to ≡ true → operated_all table way.moves (Some (moment old ins)) ≡ Some a
        → Agree n (read_before_all plan (plan.live to) way.moves) old s → n ≤ length old → Arrives → L (goes table plan st gd way rest) (moment s ins)
    takes st gd s old way le ready moves same alive h agree long k =
        let (u, (go, alike)) = follows_all table plan n reads way.moves (plan.live to) old s ins a (moves-below plan n way.moves moves) (agree, long, omega (arith, le, ready.long)) h in
        goes-on st gd s ins way rest (moment u a.inputs) ready moves go (subst (λ (x : ℕ). matters plan x ≡ true) same alive)
        (λ st2 t ready2 b. k st2 t
        (ready-same n many st2 None true None (λ x. x == way.to) (λ x. x == to) t ready2 (λ e x. ap (λ (y : ℕ). x == y) (sym same)))
        (agree-below n (plan.live to) a.store u t alike.0 b) alike.1)
