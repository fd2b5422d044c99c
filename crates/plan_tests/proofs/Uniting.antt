-- Units that do not fall: cells of one unit stand side by side.
use Rattle.std.proofs.Common.{◌≡◌, ℕ, ◌+◌, ◌<◌, ◌≤◌, ◌==◌, inl, inr, true, false, List, [], ◌∷◌, length, get_or, Some, None, refl, sym, ap, ◌∙◌, zero, suc, arith, slice_get}
use Rattle.std.proofs.lemmas.Bool.{cases_eq, cases_lt, eq-eqb}
use Rattle.std.proofs.lemmas.Option.{slice_get_within, slice_get-get_or, same_Some}
use Rattle.plan_tables.specs.Tables.{UnitTable, unit_at}
use Rattle.walk_states.specs.Known.{on_unit}
use Rattle.plan_tests.specs.Cells.{AreUnits, IsAlone, IsNext, IsRising}

-- the first n units do not fall, and none is above the last one
pub record Risen (units : UnitTable) (n last count : ℕ) : Type 0 where
  pub below : (c u : ℕ) → c < n → unit_at units c ≡ Some u → (u ≤ last) × (u < count)
  pub rising : (c d u v : ℕ) → c ≤ d → d < n → unit_at units c ≡ Some u → unit_at units d ≡ Some v → u ≤ v

pub none_risen : (units : UnitTable) (last count : ℕ) → Risen units 0 last count
none_risen units last count = record {
  below = λ c u lt s. absurd (omega (arith, lt));
  rising = λ c d u v le lt s t. absurd (omega (arith, lt));
}

one : (units : UnitTable) (c n u v : ℕ) → c ≡ n → unit_at units c ≡ Some u → unit_at units n ≡ Some v → u ≡ v
one units c n u v e s t = same_Some u v (sym s ∙ ap (unit_at units) e ∙ t)

pub one_risen : (units : UnitTable) (n last count u : ℕ) → IsNext units n last count u → Risen units n last count → Risen units (n + 1) u count
one_risen units n last count u next h = record {
  below = λ c w lt s. elim (cases_eq c n) [
    | inl e ↦ let q : w ≡ u = one units c n w u e s next.0 in ((omega (arith, q)), (omega (arith, q, next.2)))
    | inr ne ↦ let p = h.below c w (omega (arith, lt, ne)) s in ((omega (arith, p.0, next.1)), p.1)
  ];
  rising = λ c d v w le lt s t. elim (cases_eq d n) [
    | inl e ↦ let q : w ≡ u = one units d n w u e t next.0 in elim (cases_eq c n) [
      | inl f ↦ let r : v ≡ u = one units c n v u f s next.0 in omega (arith, q, r)
      | inr ne ↦ let p = h.below c v (omega (arith, le, lt, ne)) s in omega (arith, q, p.0, next.1)
    ]
    | inr ne ↦ h.rising c d v w le (omega (arith, lt, ne)) s t
  ];
}

short : (xs : List ℕ) (n c u : ℕ) → slice_get xs n ≡ None → slice_get xs c ≡ Some u → c < n
short [] n c u e s = absurd (cc)
short (x ∷ xs) zero c u e s = absurd (cc)
short (x ∷ xs) (suc n) zero u e s = omega arith
short (x ∷ xs) (suc n) (suc c) u e s = let h : c < n = short xs n c u e s in omega (arith, h)

pub all_risen : (units : UnitTable) (n last count : ℕ) → unit_at units n ≡ None → Risen units n last count → AreUnits units count
all_risen units n last count e h = record {
  rising = λ c d u v le s t. h.rising c d u v le (short units.units n d v e t) s t;
  below = λ c u s. (h.below c u (short units.units n c u e s) s).1;
}

-- there is an element before one that is there
earlier : (xs : List ℕ) (j k u : ℕ) → j ≤ k → slice_get xs k ≡ Some u → (w : ℕ) × (slice_get xs j ≡ Some w)
earlier xs j k u le s =
    let lt : k < length xs = slice_get_within xs k u s in
    (get_or xs j 0, slice_get-get_or xs j 0 (omega (arith, lt, le)))

-- a cell between two cells of one unit has it too
pub between : (units : UnitTable) (i j k u : ℕ) → IsRising units → i ≤ j → j ≤ k → unit_at units i ≡ Some u → unit_at units k ≡ Some u
    → unit_at units j ≡ Some u
between units i j k u rising ij jk s t =
    let (w, f) = earlier units.units j k u jk t in
    let above : u ≤ w = rising i j u w ij s f in
    let under : w ≤ u = rising j k w u jk f t in
    let same : w ≡ u = omega (arith, above, under) in
    f ∙ ap (λ (x : ℕ). Some x) same

other : (units : UnitTable) (c u : ℕ) → unit_at units c ≡ Some u → on_unit (λ x. x == u) (unit_at units c) ≡ false → ⊥
other units c u s differs =
    let y : on_unit (λ x. x == u) (unit_at units c) ≡ (u == u) = ap (on_unit (λ x. x == u)) s in
    let z : (u == u) ≡ true = eq-eqb u u refl in
    let q : false ≡ true = sym differs ∙ y ∙ z in cc

pub alone : (units : UnitTable) (d u : ℕ) → IsRising units → unit_at units d ≡ Some u
    → on_unit (λ x. x == u) (unit_at units (d + 1)) ≡ false
    → ((c : ℕ) → c + 1 ≡ d → on_unit (λ x. x == u) (unit_at units c) ≡ false) → IsAlone units d u
alone units d u rising s behind before c t = elim (cases_eq c d) [
  | inl e ↦ e
  | inr ne ↦ elim (cases_lt c d) [
    | inl lt ↦ absurd (below d lt s before)
    | inr ge ↦ absurd (other units (d + 1) u (between units d (d + 1) c u rising (omega arith) (omega (arith, ge, ne)) s t) behind)
  ]
]
  where
    below : (e : ℕ) → c < e → unit_at units e ≡ Some u
        → ((b : ℕ) → b + 1 ≡ e → on_unit (λ x. x == u) (unit_at units b) ≡ false) → ⊥
    below zero lt f g = absurd (omega (arith, lt))
    below (suc e) lt f g =
        let q : e + 1 ≡ suc e = omega arith in
        other units e u (between units c e (suc e) u rising (omega (arith, lt)) (omega arith) t f) (g e q)
