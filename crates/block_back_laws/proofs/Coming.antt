-- Where a code that ends has ended: ways to places, checks, the branch for checks that failed, guards and operations under guards.
use Rattle.std.proofs.Common.{◌≡◌, ℕ, ℤ, ◌==◌, inl, inr, Bool, true, false, not, ◌&&◌, ◌||◌, List, [], ◌∷◌, Option, Some, None, refl, sym, ap, ◌∙◌, subst, slice_set, slice_index, if◌then◌else◌}
use Rattle.std.proofs.lemmas.Bool.{cases_Bool}
use Rattle.bv_term.specs.Numbers.{truth}
use Rattle.bv_term.specs.WellFormed.{Table}
use Rattle.bv_term.specs.Values.{value}
use Rattle.c_graph.specs.declared.graph.Operation.{Operation}
use Rattle.c_graph.specs.declared.graph.Operation.TheVariants.{Assume, Set, SetAt, Draw}
use Rattle.c_graph.specs.Steps.{Moment, moment, stored_at, operated, operated_all}
use Rattle.block_rule.specs.Deeds.{Deed, Tests, Sets, Code, Stops, Refused, Ends, Does, Branches, did, did_on, ran, Sound, SetsWithin}
use Rattle.block_rule.specs.Plans.{Plan, matters, IsMove, AreMoves}
use Rattle.block_rule.specs.Rule.{Wait, Bad, State, is_set, is_on, found, through, is_awaited, deed_of, moved, some_draw, some_bad, first_bad, flushed, certain, losing, with_bad, with_place, with_sure, checked, waits, leads}
use Rattle.block_laws.proofs.Lists.{false-true, first_failed, or_failed}
use Rattle.block_laws.proofs.Keeping.{Ready, Above, Below, GuardIn, on-same, ready-at, ready-bad, ready-place, new-below}
use Rattle.block_laws.proofs.Reading.{some_or_none}
use Rattle.block_laws.proofs.Arriving.{ready-none, ready-sure, ready-or, added-below}
use Rattle.block_laws.proofs.Moving.{Lands, Widths, Quiet, above-same, above-more, moved-above, drawn-alike, lands-off}
use Rattle.block_laws.proofs.Leading.{or-gone, and-first, ready-same, lands-ends, lands-failed}

pub ran-none : (table : Table) (c : Code) → ran table c None ≡ None
ran-none table Stops = refl
ran-none table Refused = refl
ran-none table (Ends to) = refl
ran-none table (Does d c) = ran-none table c
ran-none table (Branches p c e) = refl

some-bad-off : (bs : List Bad) (s : List ℕ) → first_failed bs s ≡ None → some_bad bs s ≡ false
some-bad-off [] s e = refl
some-bad-off (b ∷ bs) s e = elim (cases_Bool (is_set b.cell s)) [
  | inl y ↦ absurd (let q : Some b.error ≡ None = rw y at e in cc)
  | inr y ↦ let q : first_failed bs s ≡ None = rw y at e in rw y (some-bad-off bs s q)
]

-- a code that is sound and ends somewhere from a moment ends in a moment of this kind
abbrev pub Comes : Table → ℕ → (ℕ → Moment → Type 0) → Code → Moment → Type 0
Comes table many Q c m = Sound many c → (to : ℕ) (end : Moment) → ran table c (Some m) ≡ Some (to, end) → Q to end

same-pair : (x y : ℕ × Moment) → Some x ≡ Some y → x ≡ y
same-pair x y e = cc

module _ (table : Table) (many : ℕ) (Q : ℕ → Moment → Type 0) where
  abbrev C : Code → Moment → Type 0
  C = Comes table many Q

  pub comes-does : (d : Deed) (c : Code) (m a : Moment) → did table d m ≡ Some a → (SetsWithin many d → C c a) → C (Does d c) m
  comes-does d c m a e f sound to end go = f sound.0 sound.1 to end (sym (ap (ran table c) e) ∙ go)

  pub comes-stuck : (d : Deed) (c : Code) (m : Moment) → did table d m ≡ None → C (Does d c) m
  comes-stuck d c m e sound to end go =
      absurd (let z : None ≡ Some (to, end) = sym (ran-none table c) ∙ sym (ap (ran table c) e) ∙ go in cc)

  pub comes-landed : (c : Code) (m : Moment) → Lands table many Q c m → C c m
  comes-landed c m h sound to end go =
      let (to2, (end2, go2, q)) = h sound in
      subst (λ (x : ℕ × Moment). Q x.0 x.1) (same-pair (to2, end2) (to, end) (sym go2 ∙ go)) q

  pub comes-ends : (to : ℕ) (m : Moment) → Q to m → C (Ends to) m
  comes-ends to m q = comes-landed (Ends to) m (lands-ends table many Q to m q)

  pub comes-one : (p : List ℕ → Bool) (one other : Code) (m : Moment) → p m.store ≡ true → C one m → C (Branches p one other) m
  comes-one p one other m e h sound to end go = h sound.0 to end (let q : ran table one (Some m) ≡ Some (to, end) = rw e at go in q)

  pub comes-other : (p : List ℕ → Bool) (one other : Code) (m : Moment) → p m.store ≡ false → C other m → C (Branches p one other) m
  comes-other p one other m e h sound to end go = h sound.1 to end (let q : ran table other (Some m) ≡ Some (to, end) = rw e at go in q)

  pub comes-flush : (bs : List Bad) (code : Code) (m : Moment) → first_failed bs m.store ≡ None → C code m → C (flushed bs code) m
  comes-flush [] code m e h = h
  comes-flush (b ∷ bs) code m e h = comes-other (some_bad (b ∷ bs)) (first_bad b bs) code m (some-bad-off (b ∷ bs) m.store e) h

  pub comes-failed : (bs : List Bad) (code : Code) (m : Moment) (x : ℕ) → first_failed bs m.store ≡ Some x → Q x m → C (flushed bs code) m
  comes-failed bs code m x e q = comes-landed (flushed bs code) m (lands-failed table many Q bs code m x e q)

  -- a run that may be lost goes on only where the guard is 1, and where the guard is not 1 a run may be lost
  pub comes-certain : (lost : Bool) (gd : Option ℕ) (code : Code) (m : Moment) → (is_on gd m.store ≡ true → C code m) → (is_on gd m.store ≡ false → lost ≡ true)
      → C (certain lost gd code) m
  comes-certain false gd code m h off = elim (cases_Bool (is_on gd m.store)) [ inl y ↦ h y | inr y ↦ absurd (false-true (off y)) ]
  comes-certain true None code m h off = h refl
  comes-certain true (Some c) code m h off = elim (cases_Bool (is_set c m.store)) [
    | inl y ↦ comes-does (Tests (is_set c)) code m m (let e : did table (Tests (is_set c)) m ≡ Some m = rw y refl in e) (λ w. h y)
    | inr y ↦ comes-stuck (Tests (is_set c)) code m (let e : did table (Tests (is_set c)) m ≡ None = rw y refl in e)
  ]

module _ (table : Table) (plan : Plan) (n many : ℕ) (Q : ℕ → Moment → Type 0) (st : State) (gd : Option ℕ) (here : Bool) (o : Option ℕ) (at : ℕ → Bool) (s : List ℕ)
    (ins : List ℤ) (r : Ready n many st gd here o at s) where
  pub comes-check : (error : ℕ) (f : List ℕ → Bool) (rest : State → Code)
      → ((t : List ℕ) → Ready n many (with_bad st error) gd here (or_failed o (f s) error) at t → Below n s t → Comes table many Q (rest (with_bad st error)) (moment t ins))
      → Comes table many Q (checked st error f rest) (moment s ins)
  comes-check error f rest k =
      comes-does table many Q (Sets st.next (λ x. truth (f x))) (rest (with_bad st error)) (moment s ins) (moment (slice_set s st.next (truth (f s))) ins) refl
      (λ w. k (slice_set s st.next (truth (f s))) (ready-bad n many st gd here o at s r (f s) w error) (new-below n many st gd here o at s r (f s) w))

  comes-waits : (v : ℕ) (sure : Bool) (f : List ℕ → Bool) (rest : State → Code) (q : Option (Option ℕ)) → found st.waiting v ≡ q
      → (sure ≡ true → o ≡ None → f s ≡ true)
      → ((st2 : State) (t : List ℕ) → Ready n many st2 gd here o (λ x. at x || (f s && (x == v))) t → Below n s t → st2.lost ≡ st.lost → Comes table many Q (rest st2) (moment t ins))
      → Comes table many Q (waits plan st v sure f rest q) (moment s ins)
  comes-waits v sure f rest (Some None) is there k = k st s (ready-none n many st gd here o at s v (f s) r is) (λ c lt. refl) refl
  comes-waits v sure f rest (Some (Some c)) is there k =
      comes-does table many Q (Sets c (λ x. truth (is_set c x || f x))) (rest st) (moment s ins) (moment (slice_set s c (truth (is_set c s || f s))) ins) refl
      (λ w. k st (slice_set s c (truth (is_set c s || f s))) (ready-or n many st gd here o at s v c (f s) r is w) (added-below n many st gd here o at s v c (f s) r is w) refl)
  comes-waits v sure f rest None is there k = elim (cases_Bool (sure && not (plan.cuts v))) [
    | inl y ↦ rw y (k (with_sure st v) s (ready-sure n many st gd here o at s v (f s) r is (there (and-first sure (not (plan.cuts v)) y))) (λ c lt. refl) refl)
    | inr y ↦ rw y (
        comes-does table many Q (Sets st.next (λ x. truth (f x))) (rest (with_place st v)) (moment s ins) (moment (slice_set s st.next (truth (f s))) ins) refl
        (λ w. k (with_place st v) (slice_set s st.next (truth (f s))) (ready-place n many st gd here o at s r (f s) w v is) (new-below n many st gd here o at s r (f s) w) refl)
        )
  ]

  -- where a run goes on at a place, it waits there if the place matters, else it is lost
  pub comes-leads : (v : ℕ) (sure : Bool) (f : List ℕ → Bool) (rest : State → Code) → (sure ≡ true → o ≡ None → f s ≡ true)
      → ((st2 : State) (t : List ℕ) → Ready n many st2 gd here o (λ x. at x || ((matters plan v && f s) && (x == v))) t → Below n s t
      → (st.lost ≡ true → st2.lost ≡ true) → (matters plan v ≡ false → st2.lost ≡ true) → Comes table many Q (rest st2) (moment t ins))
      → Comes table many Q (leads plan st v sure f rest) (moment s ins)
  comes-leads v sure f rest there k = elim (cases_Bool (matters plan v)) [
    | inl y ↦
        let go : Comes table many Q (waits plan st v sure f rest (found st.waiting v)) (moment s ins) =
        comes-waits v sure f rest (found st.waiting v) refl there
        (λ st2 t ready b same.
        k st2 t
        (ready-same n many st2 gd here o (λ x. at x || (f s && (x == v))) (λ x. at x || ((matters plan v && f s) && (x == v))) t ready
        (λ e x. ap (λ (c : Bool). at x || ((c && f s) && (x == v))) (sym y)))
        b (λ e. same ∙ e) (λ e. absurd (false-true (sym e ∙ y)))) in
        rw y go
    | inr y ↦
        let off : (matters plan v && f s) ≡ false = ap (λ (c : Bool). c && f s) y in
        let go : Comes table many Q (rest (losing st)) (moment s ins) =
        k (losing st) s
        (ready-at n many st gd here o at s (losing st) gd here (λ x. at x || ((matters plan v && f s) && (x == v))) r refl refl refl
        (λ e x. or-gone (at x) (matters plan v && f s) (x == v) off) (λ owner g. g) r.on) (λ c lt. refl) (λ e. refl) (λ e. refl) in
        rw y go
  ]

-- operations under a guard

through-on : (plan : Plan) (ws : List Wait) (gd : Option ℕ) (c : ℕ) (s : List ℕ) → is_on gd s ≡ true → is_on (through plan ws gd c) s ≡ true
through-on plan ws gd c s on = elim (cases_Bool (is_awaited plan ws c)) [ inl y ↦ rw y on | inr y ↦ rw y refl ]

-- where the guard is 1, a deed is its operation
deed-is : (table wide : Table) (plan : Plan) (n : ℕ) (ws : List Wait) (gd : Option ℕ) (op : Operation) (m : Moment) → Widths n table wide → IsMove plan n op
    → is_on gd m.store ≡ true → did wide (deed_of table plan ws gd op) m ≡ operated table op m
deed-is table wide plan n ws gd (Assume t) m widths i on = absurd i
deed-is table wide plan n ws gd (Set c t) m widths i on =
    ap (λ (b : Bool). Some (moment (slice_set m.store c (if b then value table m.store t else slice_index m.store c)) m.inputs)) (through-on plan ws gd c m.store on)
deed-is table wide plan n ws gd (SetAt first k j t) m widths i on =
    ap (λ (b : Bool). Some (moment (stored_at m.store first k (if b then value table m.store j else k) (value table m.store t)) m.inputs)) (through-on plan ws gd first m.store on)
deed-is table wide plan n ws gd (Draw c signed) m widths i on = drawn-alike table wide c signed m.store m.inputs (widths c i)

ended : (wide : Table) (to : ℕ) (r : Option Moment) (x : ℕ) (last : Moment) → ran wide (Ends to) r ≡ Some (x, last) → r ≡ Some last
ended wide to None x last e = absurd (let z : None ≡ Some (x, last) = e in cc)
ended wide to (Some m) x last e = ap (λ (p : ℕ × Moment). Some p.1) (same-pair (to, m) (x, last) e)

module _ (table wide : Table) (plan : Plan) (n many : ℕ) (Q : ℕ → Moment → Type 0) (widths : Widths n table wide) (ws : List Wait) (next : ℕ) (owner : ℕ → Option ℕ) (gd : Option ℕ) (g : GuardIn n next owner None gd) where
  pub comes-on : (ops : List Operation) (rest : Code) (m : Moment) → AreMoves plan n ops → is_on gd m.store ≡ true
      → ((a : Moment) → operated_all table ops (Some m) ≡ Some a → Above n m.store a.store → Comes wide many Q rest a)
      → Comes wide many Q (moved table plan ws gd ops rest) m
  comes-on [] rest m moves on k = k m refl (above-same n m.store)
  comes-on (op ∷ ops) rest m moves on k =
      let same : did wide (deed_of table plan ws gd op) m ≡ operated table op m = deed-is table wide plan n ws gd op m widths moves.0 on in
      elim (some_or_none (operated table op m)) [
        | inl e ↦ comes-stuck wide many Q (deed_of table plan ws gd op) (moved table plan ws gd ops rest) m (same ∙ e)
        | inr e ↦
            let b = moved-above table plan n op m e.0 moves.0 e.1 in
            let still : is_on gd m.store ≡ is_on gd e.0.store = on-same n next owner None gd m.store e.0.store g (λ c le lt mark. b.1 c le) in
            comes-does wide many Q (deed_of table plan ws gd op) (moved table plan ws gd ops rest) m e.0 (same ∙ e.1)
            (λ w. comes-on ops rest e.0 moves.1 (sym still ∙ on)
            (λ a h above. k a (ap (operated_all table ops) e.1 ∙ h) (above-more n m.store e.0.store a.store b above)))
      ]

  -- what deeds through the guard make of a moment
  abbrev done : List Operation → Option Moment → Option Moment
  done [] r = r
  done (op ∷ ops) r = done ops (did_on wide (deed_of table plan ws gd op) r)

  moved-ran : (ops : List Operation) (c : Code) (r : Option Moment) → ran wide (moved table plan ws gd ops c) r ≡ ran wide c (done ops r)
  moved-ran [] c r = refl
  moved-ran (op ∷ ops) c r = moved-ran ops c (did_on wide (deed_of table plan ws gd op) r)

  moved-sound : (ops : List Operation) (c : Code) (to : ℕ) → Sound many (moved table plan ws gd ops c) → Sound many (moved table plan ws gd ops (Ends to)) × Sound many c
  moved-sound [] c to h = (tt, h)
  moved-sound (op ∷ ops) c to h = let (a, b) = moved-sound ops c to h.1 in ((h.0, a), b)

  -- operations that draw nothing, under any guard
  pub comes-off : (ops : List Operation) (rest : Code) (m : Moment) → AreMoves plan n ops → some_draw ops ≡ false
      → ((t : List ℕ) → Above n m.store t → Quiet plan n ws gd m.store t → Comes wide many Q rest (moment t m.inputs))
      → Comes wide many Q (moved table plan ws gd ops rest) m
  comes-off ops rest m moves calm k sound to end go =
      let P : ℕ → Moment → Type 0 = λ x e. (t : List ℕ) × (Above n m.store t × Quiet plan n ws gd m.store t × (moment t m.inputs ≡ e)) in
      let lands = lands-off table wide plan n many P widths ws next owner gd g ops (Ends 0) m moves calm
      (λ t a q. lands-ends wide many P 0 (moment t m.inputs) (t, (a, q, refl))) in
      let (x, (last, run, (t, (a, q, same)))) = lands (moved-sound ops rest 0 sound).0 in
      let is : done ops (Some m) ≡ Some last = ended wide 0 (done ops (Some m)) x last (sym (moved-ran ops (Ends 0) (Some m)) ∙ run) in
      k t a q (moved-sound ops rest 0 sound).1 to end
      (ap (λ (z : Moment). ran wide rest (Some z)) same ∙ ap (ran wide rest) (sym is) ∙ sym (moved-ran ops rest (Some m)) ∙ go)
