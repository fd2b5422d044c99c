-- Where a code lands: ways to places, checks, the branch for checks that failed, and guards that are known.
use Rattle.std.proofs.Common.{◌≡◌, ℕ, ℤ, ◌==◌, inl, inr, Bool, true, false, not, ◌&&◌, ◌||◌, List, [], ◌∷◌, Option, Some, None, refl, sym, ◌∙◌, subst, slice_set}
use Rattle.std.proofs.lemmas.Bool.{cases_Bool}
use Rattle.bv_term.specs.Numbers.{truth}
use Rattle.bv_term.specs.WellFormed.{Table}
use Rattle.c_graph.specs.Steps.{Moment, moment}
use Rattle.block_rule.specs.Deeds.{Tests, Sets, Code, Ends, Branches, did}
use Rattle.block_rule.specs.Plans.{Plan, matters}
use Rattle.block_rule.specs.Rule.{Bad, State, is_set, is_on, found, some_bad, first_bad, flushed, certain, losing, clear, with_bad, with_place, with_sure, checked, waits, leads}
use Rattle.block_laws.proofs.Lists.{false-true, first_failed, or_failed}
use Rattle.block_laws.proofs.Keeping.{Ready, Below, ready-at, ready-bad, ready-place, new-below}
use Rattle.block_laws.proofs.Arriving.{ready-none, ready-sure, ready-or, added-below}
use Rattle.block_laws.proofs.Moving.{Lands, lands-does}

pub or-gone : (a b c : Bool) → b ≡ false → a ≡ (a || (b && c))
or-gone true b c e = refl
or-gone false true c e = absurd (false-true (sym e))
or-gone false false c e = refl

pub and-first : (a b : Bool) → (a && b) ≡ true → a ≡ true
and-first true b e = refl
and-first false b e = absurd (false-true e)

-- the same under another notion of where the run is
pub ready-same : (n many : ℕ) (st : State) (gd : Option ℕ) (here : Bool) (o : Option ℕ) (at at2 : ℕ → Bool) (s : List ℕ)
    → Ready n many st gd here o at s → (o ≡ None → (x : ℕ) → at x ≡ at2 x) → Ready n many st gd here o at2 s
ready-same n many st gd here o at at2 s r same =
    ready-at n many st gd here o at s st gd here at2 r refl refl refl same (λ owner g. g) r.on

-- the same between two places
pub ready-free : (n many : ℕ) (st : State) (gd : Option ℕ) (here : Bool) (o : Option ℕ) (at : ℕ → Bool) (s : List ℕ)
    → Ready n many st gd here o at s → Ready n many st None true o at s
ready-free n many st gd here o at s r =
    ready-at n many st gd here o at s st None true at r refl refl refl (λ e x. refl) (λ owner g. tt) (λ e. refl)

-- behind a branch for checks of which none failed
pub ready-clear : (n many : ℕ) (st : State) (gd : Option ℕ) (here : Bool) (at : ℕ → Bool) (s : List ℕ)
    → Ready n many st gd here None at s → Ready n many (clear st) None true None at s
ready-clear n many st gd here at s r = record {
  guards = r.guards;
  owner = r.owner;
  waits = r.waits;
  bads = tt;
  first = refl;
  held = r.held;
  guard = tt;
  on = λ e. refl;
  long = r.long;
  base = r.base;
}

some-bad-off : (bs : List Bad) (s : List ℕ) → first_failed bs s ≡ None → some_bad bs s ≡ false
some-bad-off [] s e = refl
some-bad-off (b ∷ bs) s e = elim (cases_Bool (is_set b.cell s)) [
  | inl y ↦ absurd (let q : Some b.error ≡ None = rw y at e in cc)
  | inr y ↦ let q : first_failed bs s ≡ None = rw y at e in rw y (some-bad-off bs s q)
]

some-bad-on : (bs : List Bad) (s : List ℕ) (x : ℕ) → first_failed bs s ≡ Some x → some_bad bs s ≡ true
some-bad-on [] s x e = absurd (let q : None ≡ Some x = e in cc)
some-bad-on (b ∷ bs) s x e = elim (cases_Bool (is_set b.cell s)) [
  | inl y ↦ rw y refl
  | inr y ↦ let q : first_failed bs s ≡ Some x = rw y at e in rw y (some-bad-on bs s x q)
]

module _ (table : Table) (many : ℕ) (P : ℕ → Moment → Type 0) where
  abbrev L : Code → Moment → Type 0
  L = Lands table many P

  pub lands-ends : (to : ℕ) (m : Moment) → P to m → L (Ends to) m
  lands-ends to m p sound = (to, (m, refl, p))

  pub lands-one : (p : List ℕ → Bool) (one other : Code) (m : Moment) → p m.store ≡ true → L one m → L (Branches p one other) m
  lands-one p one other m e h sound = let (to, (end, go, q)) = h sound.0 in (to, (end, rw e go, q))

  pub lands-other : (p : List ℕ → Bool) (one other : Code) (m : Moment) → p m.store ≡ false → L other m → L (Branches p one other) m
  lands-other p one other m e h sound = let (to, (end, go, q)) = h sound.1 in (to, (end, rw e go, q))

  pub lands-flush : (bs : List Bad) (code : Code) (m : Moment) → first_failed bs m.store ≡ None → L code m → L (flushed bs code) m
  lands-flush [] code m e h = h
  lands-flush (b ∷ bs) code m e h = lands-other (some_bad (b ∷ bs)) (first_bad b bs) code m (some-bad-off (b ∷ bs) m.store e) h

  lands-first : (b : Bad) (bs : List Bad) (m : Moment) (x : ℕ) → first_failed (b ∷ bs) m.store ≡ Some x → P x m → L (first_bad b bs) m
  lands-first b [] m x e p = elim (cases_Bool (is_set b.cell m.store)) [
    | inl y ↦
        let q : Some b.error ≡ Some x = rw y at e in
        let same : b.error ≡ x = cc in
        lands-ends b.error m (subst (λ (k : ℕ). P k m) (sym same) p)
    | inr y ↦ absurd (let q : None ≡ Some x = rw y at e in cc)
  ]
  lands-first b (c ∷ bs) m x e p = elim (cases_Bool (is_set b.cell m.store)) [
    | inl y ↦
        let q : Some b.error ≡ Some x = rw y at e in
        let same : b.error ≡ x = cc in
        lands-one (is_set b.cell) (Ends b.error) (first_bad c bs) m y (lands-ends b.error m (subst (λ (k : ℕ). P k m) (sym same) p))
    | inr y ↦
        let q : first_failed (c ∷ bs) m.store ≡ Some x = rw y at e in
        lands-other (is_set b.cell) (Ends b.error) (first_bad c bs) m y (lands-first c bs m x q p)
  ]

  pub lands-failed : (bs : List Bad) (code : Code) (m : Moment) (x : ℕ) → first_failed bs m.store ≡ Some x → P x m → L (flushed bs code) m
  lands-failed [] code m x e p = absurd (let q : None ≡ Some x = e in cc)
  lands-failed (b ∷ bs) code m x e p =
      lands-one (some_bad (b ∷ bs)) (first_bad b bs) code m (some-bad-on (b ∷ bs) m.store x e) (lands-first b bs m x e p)

  pub lands-certain : (lost : Bool) (gd : Option ℕ) (code : Code) (m : Moment) → is_on gd m.store ≡ true → L code m → L (certain lost gd code) m
  lands-certain false gd code m e h = h
  lands-certain true None code m e h = h
  lands-certain true (Some c) code m e h =
      let go : did table (Tests (is_set c)) m ≡ Some m = rw e refl in
      lands-does table many P (Tests (is_set c)) code m m go (λ w. h)

module _ (table : Table) (plan : Plan) (n many : ℕ) (P : ℕ → Moment → Type 0) (st : State) (gd : Option ℕ) (here : Bool) (o : Option ℕ) (at : ℕ → Bool) (s : List ℕ)
    (ins : List ℤ) (r : Ready n many st gd here o at s) where
  pub lands-check : (error : ℕ) (f : List ℕ → Bool) (rest : State → Code)
      → ((t : List ℕ) → Ready n many (with_bad st error) gd here (or_failed o (f s) error) at t → Below n s t → Lands table many P (rest (with_bad st error)) (moment t ins))
      → Lands table many P (checked st error f rest) (moment s ins)
  lands-check error f rest k =
      lands-does table many P (Sets st.next (λ x. truth (f x))) (rest (with_bad st error)) (moment s ins) (moment (slice_set s st.next (truth (f s))) ins) refl
      (λ w. k (slice_set s st.next (truth (f s))) (ready-bad n many st gd here o at s r (f s) w error) (new-below n many st gd here o at s r (f s) w))

  lands-waits : (v : ℕ) (sure : Bool) (f : List ℕ → Bool) (rest : State → Code) (q : Option (Option ℕ)) → found st.waiting v ≡ q
      → (sure ≡ true → o ≡ None → f s ≡ true)
      → ((st2 : State) (t : List ℕ) → Ready n many st2 gd here o (λ x. at x || (f s && (x == v))) t → Below n s t → Lands table many P (rest st2) (moment t ins))
      → Lands table many P (waits plan st v sure f rest q) (moment s ins)
  lands-waits v sure f rest (Some None) is there k = k st s (ready-none n many st gd here o at s v (f s) r is) (λ c lt. refl)
  lands-waits v sure f rest (Some (Some c)) is there k =
      lands-does table many P (Sets c (λ x. truth (is_set c x || f x))) (rest st) (moment s ins) (moment (slice_set s c (truth (is_set c s || f s))) ins) refl
      (λ w. k st (slice_set s c (truth (is_set c s || f s))) (ready-or n many st gd here o at s v c (f s) r is w) (added-below n many st gd here o at s v c (f s) r is w))
  lands-waits v sure f rest None is there k = elim (cases_Bool (sure && not (plan.cuts v))) [
    | inl y ↦ rw y (k (with_sure st v) s (ready-sure n many st gd here o at s v (f s) r is (there (and-first sure (not (plan.cuts v)) y))) (λ c lt. refl))
    | inr y ↦ rw y (
        lands-does table many P (Sets st.next (λ x. truth (f x))) (rest (with_place st v)) (moment s ins) (moment (slice_set s st.next (truth (f s))) ins) refl
        (λ w. k (with_place st v) (slice_set s st.next (truth (f s))) (ready-place n many st gd here o at s r (f s) w v is) (new-below n many st gd here o at s r (f s) w))
        )
  ]

  pub lands-leads : (v : ℕ) (sure : Bool) (f : List ℕ → Bool) (rest : State → Code)
      → (o ≡ None → f s ≡ true → matters plan v ≡ true) → (sure ≡ true → o ≡ None → f s ≡ true)
      → ((st2 : State) (t : List ℕ) → Ready n many st2 gd here o (λ x. at x || (f s && (x == v))) t → Below n s t → Lands table many P (rest st2) (moment t ins))
      → Lands table many P (leads plan st v sure f rest) (moment s ins)
  lands-leads v sure f rest alive there k = elim (cases_Bool (matters plan v)) [
    | inl y ↦ rw y (lands-waits v sure f rest (found st.waiting v) refl there k)
    | inr y ↦
        let off : o ≡ None → f s ≡ false = λ e. elim (cases_Bool (f s)) [ inl z ↦ absurd (false-true (sym y ∙ alive e z)) | inr z ↦ z ] in
        rw y (k (losing st) s
        (ready-at n many st gd here o at s (losing st) gd here (λ x. at x || (f s && (x == v))) r refl refl refl
        (λ e x. or-gone (at x) (f s) (x == v) (off e)) (λ owner g. g) r.on) (λ c lt. refl))
  ]
