-- The operations of a place through its guard.
use Rattle.std.proofs.Common.{◌≡◌, ℕ, ℤ, ◌+◌, ◌<◌, ◌≤◌, ◌==◌, inl, inr, Bool, true, false, ◌||◌, List, [], ◌∷◌, Option, Some, None, refl, sym, ap, ◌∙◌, subst, length, arith, slice_index, slice_set, nat_lt, if◌then◌else◌}
use Rattle.std.proofs.lemmas.Bool.{cases_Bool, eqb-true, ltb-true}
use Rattle.std.proofs.lemmas.List.{set-get_or}
use Rattle.bv_term.specs.WellFormed.{Table}
use Rattle.bv_term.specs.Values.{value}
use Rattle.c_graph.specs.declared.graph.Operation.{Operation}
use Rattle.c_graph.specs.declared.graph.Operation.TheVariants.{Assume, Set, SetAt, Draw}
use Rattle.c_graph.specs.Steps.{Moment, moment, modulo, in_range_of, drawn, stored_at, operated, operated_all}
use Rattle.block_rule.specs.Deeds.{Deed, Code, Does, did, ran, Sound, SetsWithin}
use Rattle.block_rule.specs.Plans.{Plan, IsMove, AreMoves}
use Rattle.block_rule.specs.Rule.{Wait, is_on, found, some_live, is_awaited, through, deed_of, moved, is_draw, some_draw}
use Rattle.block_rule.specs.Blocked.{Agree}
use Rattle.block_laws.proofs.Lists.{set-other, set-long, false-true}
use Rattle.block_laws.proofs.Keeping.{GuardIn, Above, on-same}
use Rattle.block_laws.proofs.Reading.{none_stays, some_or_none}

-- a code that is sound ends somewhere, in a moment of this kind
abbrev pub Lands : Table → ℕ → (ℕ → Moment → Type 0) → Code → Moment → Type 0
Lands table many P c m = Sound many c → (to : ℕ) × ((end : Moment) × (ran table c (Some m) ≡ Some (to, end)) × P to end)

pub lands-does : (table : Table) (many : ℕ) (P : ℕ → Moment → Type 0) (d : Deed) (c : Code) (m a : Moment) → did table d m ≡ Some a
    → (SetsWithin many d → Lands table many P c a) → Lands table many P (Does d c) m
lands-does table many P d c m a e f sound =
    let (to, (end, go, p)) = f sound.0 sound.1 in
    (to, (end, ap (ran table c) e ∙ go, p))

pub above-same : (n : ℕ) (s : List ℕ) → Above n s s
above-same n s = (refl, λ c le. refl)

pub above-more : (n : ℕ) (s t u : List ℕ) → Above n s t → Above n t u → Above n s u
above-more n s t u a b = (b.0 ∙ a.0, λ c le. a.1 c le ∙ b.1 c le)

above-set : (n : ℕ) (s : List ℕ) (c v : ℕ) → c < n → Above n s (slice_set s c v)
above-set n s c v lt = (set-long s c v, λ d le. set-other s c v d (λ e. omega (arith, lt, le, e)))

above-stored : (n : ℕ) (s : List ℕ) (first k i v : ℕ) → first + k ≤ n → Above n s (stored_at s first k i v)
above-stored n s first k i v le = elim (cases_Bool (nat_lt i k)) [
  | inl y ↦ let lt = ltb-true i k y in rw y (above-set n s (first + i) v (omega (arith, lt, le)))
  | inr y ↦ rw y (above-same n s)
]

pub moved-above : (table : Table) (plan : Plan) (n : ℕ) (op : Operation) (m a : Moment) → IsMove plan n op → operated table op m ≡ Some a → Above n m.store a.store
moved-above table plan n (Assume t) m a i h = absurd i
moved-above table plan n (Set c t) m a i h =
    let e : moment (slice_set m.store c (value table m.store t)) m.inputs ≡ a = cc in
    subst (λ (x : Moment). Above n m.store x.store) e (above-set n m.store c (value table m.store t) i)
moved-above table plan n (SetAt first k j t) m a i h =
    let e : moment (stored_at m.store first k (value table m.store j) (value table m.store t)) m.inputs ≡ a = cc in
    subst (λ (x : Moment). Above n m.store x.store) e (above-stored n m.store first k (value table m.store j) (value table m.store t) i.0)
moved-above table plan n (Draw c signed) m a i h = draw m.inputs h
  where
    draw : (zs : List ℤ) → drawn table c signed m.store zs ≡ Some a → Above n m.store a.store
    draw [] h = absurd cc
    draw (z ∷ zs) h = elim (cases_Bool (in_range_of (slice_index table.cells c) signed z)) [
      | inl y ↦
          let q : Some (moment (slice_set m.store c (modulo (slice_index table.cells c) z)) zs) ≡ Some a = rw y at h in
          let e : moment (slice_set m.store c (modulo (slice_index table.cells c) z)) zs ≡ a = cc in
          subst (λ (x : Moment). Above n m.store x.store) e (above-set n m.store c (modulo (slice_index table.cells c) z) i)
      | inr y ↦ absurd (let q : None ≡ Some a = rw y at h in cc)
    ]

through-on : (plan : Plan) (ws : List Wait) (gd : Option ℕ) (c : ℕ) (s : List ℕ) → is_on gd s ≡ true → is_on (through plan ws gd c) s ≡ true
through-on plan ws gd c s on = elim (cases_Bool (is_awaited plan ws c)) [ inl y ↦ rw y on | inr y ↦ rw y refl ]

-- the first n cells have the same widths in both
abbrev pub Widths : ℕ → Table → Table → Type 0
Widths n table wide = (c : ℕ) → c < n → slice_index table.cells c ≡ slice_index wide.cells c

pub drawn-alike : (table wide : Table) (c : ℕ) (signed : Bool) (s : List ℕ) (zs : List ℤ) → slice_index table.cells c ≡ slice_index wide.cells c
    → drawn wide c signed s zs ≡ drawn table c signed s zs
drawn-alike table wide c signed s [] e = refl
drawn-alike table wide c signed s (z ∷ zs) e =
    ap (λ (w : ℕ). if in_range_of w signed z then Some (moment (slice_set s c (modulo w z)) zs) else None) (sym e)

-- where the guard is 1, a deed is its operation
deed-on : (table wide : Table) (plan : Plan) (n : ℕ) (ws : List Wait) (gd : Option ℕ) (op : Operation) (m : Moment) → Widths n table wide → IsMove plan n op
    → is_on gd m.store ≡ true → did wide (deed_of table plan ws gd op) m ≡ operated table op m
deed-on table wide plan n ws gd (Assume t) m widths i on = absurd i
deed-on table wide plan n ws gd (Set c t) m widths i on =
    ap (λ (b : Bool). Some (moment (slice_set m.store c (if b then value table m.store t else slice_index m.store c)) m.inputs)) (through-on plan ws gd c m.store on)
deed-on table wide plan n ws gd (SetAt first k j t) m widths i on =
    ap (λ (b : Bool). Some (moment (stored_at m.store first k (if b then value table m.store j else k) (value table m.store t)) m.inputs)) (through-on plan ws gd first m.store on)
deed-on table wide plan n ws gd (Draw c signed) m widths i on = drawn-alike table wide c signed m.store m.inputs (widths c i)

live-off : (plan : Plan) (ws : List Wait) (r c : ℕ) → (found ws r ≡ None → ⊥) → some_live plan ws c ≡ false → plan.live r c ≡ false
live-off plan [] r c there off = absurd (there refl)
live-off plan (w ∷ ws) r c there off = elim (cases_Bool (w.node == r)) [
  | inl y ↦ ap (λ (x : ℕ). plan.live x c) (sym (eqb-true w.node r y)) ∙ one (plan.live w.node c) (some_live plan ws c) off
  | inr y ↦ live-off plan ws r c (λ (f : found ws r ≡ None). there (rw y f)) (two (plan.live w.node c) (some_live plan ws c) off)
]
  where
    one : (a b : Bool) → (a || b) ≡ false → a ≡ false
    one true b e = e
    one false b e = refl

    two : (a b : Bool) → (a || b) ≡ false → b ≡ false
    two true b e = absurd (false-true (sym e))
    two false b e = e

awaited-off : (plan : Plan) (ws : List Wait) (r c : ℕ) → (found ws r ≡ None → ⊥) → is_awaited plan ws c ≡ false → plan.live r c ≡ false
awaited-off plan ws r c there off = live-off plan ws r c there (two (nat_lt plan.most (length ws)) (some_live plan ws c) off)
  where
    two : (a b : Bool) → (a || b) ≡ false → b ≡ false
    two true b e = absurd (false-true (sym e))
    two false b e = e

-- where the guard is 0, what a place that waits reads stays
abbrev pub Quiet : Plan → ℕ → List Wait → Option ℕ → List ℕ → List ℕ → Type 0
Quiet plan n ws gd s t = (r : ℕ) → (found ws r ≡ None → ⊥) → is_on gd s ≡ false → Agree n (plan.live r) s t

nat_lt-self : (k : ℕ) → nat_lt k k ≡ false
nat_lt-self k = elim (cases_Bool (nat_lt k k)) [ inl y ↦ let lt = ltb-true k k y in absurd (omega (arith, lt)) | inr y ↦ y ]

off-set : (plan : Plan) (n : ℕ) (ws : List Wait) (gd : Option ℕ) (s : List ℕ) (c v : ℕ)
    → Quiet plan n ws gd s (slice_set s c (if is_on (through plan ws gd c) s then v else slice_index s c))
off-set plan n ws gd s c v r there off d lt live = elim (cases_Bool (is_awaited plan ws c)) [
  | inl y ↦
      let same : slice_set s c (slice_index s c) ≡ s = set-get_or s c 0 in
      rw (y, off) (ap (λ (x : List ℕ). slice_index x d) (sym same))
  | inr y ↦
      let dead : plan.live r c ≡ false = awaited-off plan ws r c there y in
      rw y (set-other s c v d (λ e. false-true (sym dead ∙ ap (plan.live r) (sym e) ∙ live)))
]

off-stored : (plan : Plan) (n : ℕ) (ws : List Wait) (gd : Option ℕ) (s : List ℕ) (first k i v : ℕ)
    → ((x j : ℕ) → j < k → plan.live x (first + j) ≡ true → plan.live x first ≡ true)
    → Quiet plan n ws gd s (stored_at s first k (if is_on (through plan ws gd first) s then i else k) v)
off-stored plan n ws gd s first k i v even r there off d lt live = elim (cases_Bool (is_awaited plan ws first)) [
  | inl y ↦ let e : nat_lt k k ≡ false = nat_lt-self k in rw (y, off, e) refl
  | inr y ↦ rw y (elim (cases_Bool (nat_lt i k)) [
    | inl z ↦
        let dead : plan.live r first ≡ false = awaited-off plan ws r first there y in
        let less = ltb-true i k z in
        rw z (set-other s (first + i) v d (λ e. false-true (sym dead ∙ even r i less (ap (plan.live r) (sym e) ∙ live))))
    | inr z ↦ rw z refl
  ])
]

abbrev pub AfterOff : Table → Table → Plan → ℕ → List Wait → Option ℕ → Operation → Moment → Type 0
AfterOff table wide plan n ws gd op m =
    (t : List ℕ) × ((did wide (deed_of table plan ws gd op) m ≡ Some (moment t m.inputs)) × Above n m.store t × Quiet plan n ws gd m.store t)

deed-off : (table wide : Table) (plan : Plan) (n : ℕ) (ws : List Wait) (gd : Option ℕ) (op : Operation) (m : Moment) → IsMove plan n op → is_draw op ≡ false
    → AfterOff table wide plan n ws gd op m
deed-off table wide plan n ws gd (Assume t) m i calm = absurd i
deed-off table wide plan n ws gd (Set c t) m i calm = (
  slice_set m.store c (if is_on (through plan ws gd c) m.store then value table m.store t else slice_index m.store c),
  (
    refl,
    above-set n m.store c (if is_on (through plan ws gd c) m.store then value table m.store t else slice_index m.store c) i,
    off-set plan n ws gd m.store c (value table m.store t),
  ),
)
deed-off table wide plan n ws gd (SetAt first k j t) m i calm = (
  stored_at m.store first k (if is_on (through plan ws gd first) m.store then value table m.store j else k) (value table m.store t),
  (
    refl,
    above-stored n m.store first k (if is_on (through plan ws gd first) m.store then value table m.store j else k) (value table m.store t) i.0,
    off-stored plan n ws gd m.store first k (value table m.store j) (value table m.store t) i.1,
  ),
)
deed-off table wide plan n ws gd (Draw c signed) m i calm = absurd (false-true (sym calm))

module _ (table wide : Table) (plan : Plan) (n many : ℕ) (P : ℕ → Moment → Type 0) (widths : Widths n table wide) (ws : List Wait) (next : ℕ) (owner : ℕ → Option ℕ) (gd : Option ℕ) (g : GuardIn n next owner None gd) where
  same-on : (s t : List ℕ) → Above n s t → is_on gd s ≡ is_on gd t
  same-on s t a = on-same n next owner None gd s t g (λ c le lt m. a.1 c le)

  -- operations under a guard that is 1
  pub lands-on : (ops : List Operation) (rest : Code) (m a : Moment) → AreMoves plan n ops → is_on gd m.store ≡ true
      → operated_all table ops (Some m) ≡ Some a → (Above n m.store a.store → Lands wide many P rest a)
      → Lands wide many P (moved table plan ws gd ops rest) m
  lands-on [] rest m a moves on h k =
      let e : m ≡ a = cc in
      let b : Above n m.store a.store = subst (λ (x : Moment). Above n m.store x.store) e (above-same n m.store) in
      subst (λ (x : Moment). Lands wide many P rest x) (sym e) (k b)
  lands-on (op ∷ ops) rest m a moves on h k = elim (some_or_none (operated table op m)) [
    | inl e ↦ absurd (let q : None ≡ Some a = sym (none_stays table ops) ∙ sym (ap (operated_all table ops) e) ∙ h in cc)
    | inr e ↦
        let b = moved-above table plan n op m e.0 moves.0 e.1 in
        let h2 : operated_all table ops (Some e.0) ≡ Some a = sym (ap (operated_all table ops) e.1) ∙ h in
        lands-does wide many P (deed_of table plan ws gd op) (moved table plan ws gd ops rest) m e.0 (deed-on table wide plan n ws gd op m widths moves.0 on ∙ e.1)
        (λ w. lands-on ops rest e.0 a moves.1 (sym (same-on m.store e.0.store b) ∙ on) h2 (λ c. k (above-more n m.store e.0.store a.store b c)))
  ]

  quiet-more : (s t u : List ℕ) → Above n s t → Quiet plan n ws gd s t → Quiet plan n ws gd t u → Quiet plan n ws gd s u
  quiet-more s t u a p q r there off c lt live = p r there off c lt live ∙ q r there (sym (same-on s t a) ∙ off) c lt live

  -- operations that draw nothing, under any guard
  pub lands-off : (ops : List Operation) (rest : Code) (m : Moment) → AreMoves plan n ops → some_draw ops ≡ false
      → ((t : List ℕ) → Above n m.store t → Quiet plan n ws gd m.store t → Lands wide many P rest (moment t m.inputs))
      → Lands wide many P (moved table plan ws gd ops rest) m
  lands-off [] rest m moves calm k = k m.store (above-same n m.store) (λ r there off c lt live. refl)
  lands-off (op ∷ ops) rest m moves calm k =
      let (t, (e, a, q)) = deed-off table wide plan n ws gd op m moves.0 (one (is_draw op) (some_draw ops) calm) in
      lands-does wide many P (deed_of table plan ws gd op) (moved table plan ws gd ops rest) m (moment t m.inputs) e
      (λ w. lands-off ops rest (moment t m.inputs) moves.1 (two (is_draw op) (some_draw ops) calm)
      (λ u b p. k u (above-more n m.store t u a b) (quiet-more m.store t u a q p)))
    where
      one : (a b : Bool) → (a || b) ≡ false → a ≡ false
      one true b e = e
      one false b e = refl

      two : (a b : Bool) → (a || b) ≡ false → b ≡ false
      two true b e = absurd (false-true (sym e))
      two false b e = e
