-- Lists of places that wait and of checks, and stores in which one cell was set.
use Rattle.std.proofs.Common.{◌≡◌, ℕ, ◌<◌, ◌==◌, inl, inr, Bool, true, false, List, [], ◌∷◌, ◌++◌, Option, Some, None, refl, sym, ap, ◌∙◌, length, arith, slice_index, slice_set, nat_lt, if◌then◌else◌, eq-eqb}
use Rattle.std.proofs.lemmas.Bool.{cases_Bool, eqb-true, ne_eqb, ltb-true}
use Rattle.std.proofs.lemmas.List.{get_or-set_same, get_or-set_other, length-set}
use Rattle.bv_term.specs.Numbers.{truth}
use Rattle.block_rule.specs.Rule.{Wait, Bad, is_set, found, without, with_wait}

abbrev pub Each : {A : Type 0} → (A → Type 0) → List A → Type 0
Each P [] = Unit {0}
Each P (x ∷ xs) = P x × Each P xs

pub each-map : {A : Type 0} → (P Q : A → Type 0) (xs : List A) → ((x : A) → P x → Q x) → Each P xs → Each Q xs
each-map P Q [] f h = tt
each-map P Q (x ∷ xs) f h = (f x h.0, each-map P Q xs f h.1)

pub each-last : {A : Type 0} → (P : A → Type 0) (xs : List A) (x : A) → Each P xs → P x → Each P (xs ++ x ∷ [])
each-last P [] x h p = (p, tt)
each-last P (y ∷ xs) x h p = (h.0, each-last P xs x h.1 p)

-- stores

pub set-same : (s : List ℕ) (c v : ℕ) → c < length s → slice_index (slice_set s c v) c ≡ v
set-same s c v lt = get_or-set_same s c v 0 lt

pub set-other : (s : List ℕ) (c v d : ℕ) → (d ≡ c → ⊥) → slice_index s d ≡ slice_index (slice_set s c v) d
set-other s c v d ne = sym (get_or-set_other s c d v 0 ne)

pub set-long : (s : List ℕ) (c v : ℕ) → length (slice_set s c v) ≡ length s
set-long s c v = length-set s c v

pub truth-is : (b : Bool) → (truth b == 1) ≡ b
truth-is true = refl
truth-is false = refl

pub false-true : false ≡ true → ⊥
false-true e = absurd (let z : true ≡ false = sym e in cc)

pub same_not : (a b : ℕ) → (a == b) ≡ false → a ≡ b → ⊥
same_not a b f e = false-true (sym f ∙ eq-eqb a b e)

-- waiting places

pub each-with : (P : Wait → Type 0) (ws : List Wait) (v : ℕ) (gd : Option ℕ) → Each P ws → P (record { node = v; guard = gd }) → Each P (with_wait ws v gd)
each-with P [] v gd h p = (p, tt)
each-with P (w ∷ ws) v gd h p = elim (cases_Bool (nat_lt w.node v)) [ inl y ↦ rw y (h.0, each-with P ws v gd h.1 p) | inr y ↦ rw y (p, h) ]

pub found-new : (ws : List Wait) (v : ℕ) (gd : Option ℕ) → found (with_wait ws v gd) v ≡ Some gd
found-new [] v gd = let e : (v == v) ≡ true = eq-eqb v v refl in rw e refl
found-new (w ∷ ws) v gd = elim (cases_Bool (nat_lt w.node v)) [
  | inl y ↦
      let ne : (w.node == v) ≡ false = ne_eqb w.node v (λ e. omega (arith, ltb-true w.node v y, e)) in
      rw (y, ne) (found-new ws v gd)
  | inr y ↦ let e : (v == v) ≡ true = eq-eqb v v refl in rw (y, e) refl
]

pub found-old : (ws : List Wait) (v x : ℕ) (gd : Option ℕ) → found (with_wait ws v gd) x ≡ None → found ws x ≡ None
found-old [] v x gd h = refl
found-old (w ∷ ws) v x gd h = elim (cases_Bool (nat_lt w.node v)) [
  | inl y ↦
      let h2 : found (w ∷ with_wait ws v gd) x ≡ None = rw y at h in
      elim (cases_Bool (w.node == x)) [
        | inl z ↦ absurd (let q : Some w.guard ≡ None = rw z at h2 in cc)
        | inr z ↦ let q : found (with_wait ws v gd) x ≡ None = rw z at h2 in rw z (found-old ws v x gd q)
      ]
  | inr y ↦
      let h2 : found (record { node = v; guard = gd } ∷ w ∷ ws) x ≡ None = rw y at h in
      elim (cases_Bool (v == x)) [
        | inl z ↦ absurd (let q : Some gd ≡ None = rw z at h2 in cc)
        | inr z ↦ let q : found (w ∷ ws) x ≡ None = rw z at h2 in q
      ]
]

pub each-without : (P : Wait → Type 0) (ws : List Wait) (v : ℕ) → Each P ws → Each (λ w. P w × ((w.node == v) ≡ false)) (without ws v)
each-without P [] v h = tt
each-without P (w ∷ ws) v h = elim (cases_Bool (w.node == v)) [ inl y ↦ rw y (each-without P ws v h.1) | inr y ↦ rw y ((h.0, y), each-without P ws v h.1) ]

pub found-without : (ws : List Wait) (v x : ℕ) → (x ≡ v → ⊥) → found (without ws v) x ≡ found ws x
found-without [] v x ne = refl
found-without (w ∷ ws) v x ne = elim (cases_Bool (w.node == v)) [
  | inl y ↦
      let z : (w.node == x) ≡ false = ne_eqb w.node x (λ e. ne (sym e ∙ eqb-true w.node v y)) in
      rw (y, z) (found-without ws v x ne)
  | inr y ↦ elim (cases_Bool (w.node == x)) [
    | inl z ↦ rw (y, z) refl
    | inr z ↦ rw (y, z) (found-without ws v x ne)
  ]
]

pub found-is : (P : Wait → Type 0) (ws : List Wait) (v : ℕ) (gd : Option ℕ) → Each P ws → found ws v ≡ Some gd
    → (w : Wait) × P w × (w.node ≡ v) × (w.guard ≡ gd)
found-is P [] v gd h e = absurd (cc)
found-is P (w ∷ ws) v gd h e = elim (cases_Bool (w.node == v)) [
  | inl y ↦ let q : Some w.guard ≡ Some gd = rw y at e in let i : w.guard ≡ gd = cc in (w, h.0, eqb-true w.node v y, i)
  | inr y ↦ let q : found ws v ≡ Some gd = rw y at e in found-is P ws v gd h.1 q
]

pub each-other : (P : Wait → Type 0) (ws : List Wait) (v : ℕ) → found ws v ≡ None → Each P ws → Each (λ w. P w × ((w.node == v) ≡ false)) ws
each-other P [] v e h = tt
each-other P (w ∷ ws) v e h = elim (cases_Bool (w.node == v)) [
  | inl y ↦ absurd (let q : Some w.guard ≡ None = rw y at e in cc)
  | inr y ↦ let q : found ws v ≡ None = rw y at e in ((h.0, y), each-other P ws v q h.1)
]

-- checks

-- the error of the first check whose cell is 1
abbrev pub first_failed : List Bad → List ℕ → Option ℕ
first_failed [] s = None
first_failed (b ∷ bs) s = if is_set b.cell s then Some b.error else first_failed bs s

abbrev pub or_failed : Option ℕ → Bool → ℕ → Option ℕ
or_failed (Some e) b x = Some e
or_failed None b x = if b then Some x else None

pub first-last : (bs : List Bad) (b : Bad) (s : List ℕ) → first_failed (bs ++ b ∷ []) s ≡ or_failed (first_failed bs s) (is_set b.cell s) b.error
first-last [] b s = refl
first-last (x ∷ bs) b s = elim (cases_Bool (is_set x.cell s)) [ inl y ↦ rw y refl | inr y ↦ rw y (first-last bs b s) ]

pub first-same : (P : Bad → Type 0) (bs : List Bad) (s t : List ℕ) → Each P bs → ((b : Bad) → P b → slice_index s b.cell ≡ slice_index t b.cell)
    → first_failed bs s ≡ first_failed bs t
first-same P [] s t h f = refl
first-same P (b ∷ bs) s t h f =
    ap (λ (x : ℕ). if x == 1 then Some b.error else first_failed bs s) (f b h.0)
    ∙ ap (λ (r : Option ℕ). if slice_index t b.cell == 1 then Some b.error else r) (first-same P bs s t h.1 f)
