-- The last settling of a pair tells whether it may be settled again.
use Rattle.std.proofs.Common.{◌≡◌, ℕ, ◌+◌, ◌≤◌, Bool, true, false, List, [], ◌∷◌, ◌++◌, length, Option, Some, None, inl, inr, refl, sym, ap, ◌∙◌, subst, arith, suc, get_or, nat_eq, eq-eqb, ◌||◌, ◌&&◌, if◌then◌else◌}
use Rattle.std.specs.List.{All}
use Rattle.std.proofs.lemmas.Bool.{eqb-true, cases_Bool, and_parts}
use Rattle.reach_tree.specs.declared.vertex.VertexId.{VertexId}
use Rattle.reach_tree.specs.declared.vertex.Vertex.{Vertex}
use Rattle.cover_engine.specs.declared.unit.Apart.{Apart}
use Rattle.cover_engine.specs.declared.unit.UnitDone.{UnitDone}
use Rattle.cover_engine.specs.declared.unit.UnitDone.TheVariants.{Expand, Refine, CoverYes, CoverNo}
use Rattle.std.specs.HashMap.{get, HashMap}
use Rattle.std.specs.declared.hash.FoldHasher.{FoldHasher}
use Rattle.std.specs.declared.hash.BuildHasherDefault.{BuildHasherDefault}
use Rattle.cover_engine.specs.declared.settling.Sides.{Sides}
use Rattle.cover_engine.specs.declared.settling.Settling.{Settling}
use Rattle.cover_engine.specs.Units.{apart_now}
use Rattle.cover_engine.specs.Unwindings.{same, stays_apart, yes_since}
use Rattle.cover_engine.specs.Settlings.{AreSettlings, IsPast, NotAbove, Rising, apart_of, is_now, is_of, last_apart, later_or, refines_in, same_sides, sides, version_at, versions_of, was_covered}

-- the journal at its end

pub yes_append : (b : Bool) (js : List UnitDone) (u : UnitDone) (v w : VertexId) → yes_since b (js ++ u ∷ []) v w ≡ yes_since (yes_since b js v w) (u ∷ []) v w
yes_append b [] u v w = refl
yes_append b (Expand x ∷ js) u v w = yes_append b js u v w
yes_append b (Refine x fs ∷ js) u v w = yes_append false js u v w
yes_append b (CoverYes x y ∷ js) u v w = yes_append (b || (same x v && same y w)) js u v w
yes_append b (CoverNo x y s ∷ js) u v w = yes_append b js u v w

pub refines_append : (js : List UnitDone) (u : UnitDone) → refines_in (js ++ u ∷ []) ≡ refines_in js + refines_in (u ∷ [])
refines_append [] u = omega arith
refines_append (Expand x ∷ js) u = refines_append js u
refines_append (Refine x fs ∷ js) u = omega (arith, refines_append js u)
refines_append (CoverYes x y ∷ js) u = refines_append js u
refines_append (CoverNo x y s ∷ js) u = refines_append js u

pub refines_few : (js : List UnitDone) → refines_in js ≤ length js
refines_few [] = omega arith
refines_few (Expand x ∷ js) = omega (arith, refines_few js)
refines_few (Refine x fs ∷ js) = omega (arith, refines_few js)
refines_few (CoverYes x y ∷ js) = omega (arith, refines_few js)
refines_few (CoverNo x y s ∷ js) = omega (arith, refines_few js)

-- the entries of pairs kept apart

pub last_append : (others : List Apart) (a : Apart) (v w : VertexId) → last_apart (others ++ a ∷ []) v w ≡ (if is_of a v w then Some (versions_of a) else last_apart others v w)
last_append [] a v w = elim (cases_Bool (is_of a v w)) [ inl y ↦ rw y refl | inr n ↦ rw n refl ]
last_append (b ∷ others) a v w =
    ap (λ (o : Option (ℕ × ℕ)). later_or o (if is_of b v w then Some (versions_of b) else None)) (last_append others a v w) ∙ by (is_of a v w)
  where
    by : (c : Bool) → later_or (if c then Some (versions_of a) else last_apart others v w) (if is_of b v w then Some (versions_of b) else None)
        ≡ (if c then Some (versions_of a) else later_or (last_apart others v w) (if is_of b v w then Some (versions_of b) else None))
    by true = refl
    by false = refl

is_of_parts : (a : Apart) (v w : VertexId) → is_of a v w ≡ true → (a.left.0 ≡ v.0) × (a.right.0 ≡ w.0)
is_of_parts a v w h = let p = and_parts (same a.left v) (same a.right w) h in (eqb-true a.left.0 v.0 p.0, eqb-true a.right.0 w.0 p.1)

-- the last entry of a pair is not above the present versions
last_past : (vs : List Vertex) (others : List Apart) (v w : VertexId) (x : ℕ × ℕ) → All (IsPast vs) others → last_apart others v w ≡ Some x
    → (x.0 ≤ version_at vs v.0) × (x.1 ≤ version_at vs w.0)
last_past vs [] v w x all e = absurd cc
last_past vs (a ∷ others) v w x all e = by (last_apart others v w) refl (λ y is. last_past vs others v w y (λ k d lt. all (suc k) d (omega (arith, lt))) is) e
  where
    by : (o : Option (ℕ × ℕ)) → last_apart others v w ≡ o → ((y : ℕ × ℕ) → last_apart others v w ≡ Some y → (y.0 ≤ version_at vs v.0) × (y.1 ≤ version_at vs w.0))
        → later_or o (if is_of a v w then Some (versions_of a) else None) ≡ Some x → (x.0 ≤ version_at vs v.0) × (x.1 ≤ version_at vs w.0)
    by (Some y) is ih e2 = let same' : y ≡ x = cc in subst (λ (z : ℕ × ℕ). (z.0 ≤ version_at vs v.0) × (z.1 ≤ version_at vs w.0)) same' (ih y is)
    by None is ih e2 = elim (cases_Bool (is_of a v w)) [
      | inl here ↦
          let e3 : Some (versions_of a) ≡ Some x = rw here at e2 in
          let same' : versions_of a ≡ x = cc in
          let p = is_of_parts a v w here in
          let h : IsPast vs a = all 0 a (omega arith) in
          let P : ℕ → Type 0 = λ n. a.left_version ≤ version_at vs n in
          let Q : ℕ → Type 0 = λ n. a.right_version ≤ version_at vs n in
          subst (λ (z : ℕ × ℕ). (z.0 ≤ version_at vs v.0) × (z.1 ≤ version_at vs w.0)) same' (subst P p.0 h.0, subst Q p.1 h.1)
      | inr off ↦ absurd (let e3 : None ≡ Some x = rw off at e2 in cc)
    ]

and_first : (a b t : Bool) → a && b ≡ false → a && (b && t) ≡ false
and_first true b t h = rw h refl
and_first false b t h = refl

or_none : (t : Bool) → t || false ≡ t
or_none true = refl
or_none false = refl

or_less : (t s : Bool) → (t ≡ true → s ≡ true) → s ≡ t || s
or_less true s h = h refl
or_less false s h = refl

later_none : (o : Option (ℕ × ℕ)) → later_or o None ≡ o
later_none None = refl
later_none (Some x) = refl

present : (x y l n : ℕ) → x ≡ l → y ≡ n → nat_eq x l && nat_eq y n ≡ true
present x y l n a b = rw (eq-eqb x l a, eq-eqb y n b) refl

-- the entry of another pair says nothing
stays_other : (vs : List Vertex) (others : List Apart) (a : Apart) (v w : VertexId) → is_of a v w ≡ false
    → is_now (last_apart others v w) (version_at vs v.0) (version_at vs w.0) ≡ stays_apart others vs v w
    → is_now (last_apart (a ∷ others) v w) (version_at vs v.0) (version_at vs w.0) ≡ stays_apart (a ∷ others) vs v w
stays_other vs others a v w off ih =
    let t : Bool = nat_eq a.left_version (version_at vs v.0) && nat_eq a.right_version (version_at vs w.0) in
    let front : same a.left v && (same a.right w && (nat_eq a.left_version (version_at vs v.0) && nat_eq a.right_version (version_at vs w.0))) ≡ false = and_first (same a.left v) (same a.right w) (nat_eq a.left_version (version_at vs v.0) && nat_eq a.right_version (version_at vs w.0)) off in
    ap (λ (b : Bool). is_now (later_or (last_apart others v w) (if b then Some (versions_of a) else None)) (version_at vs v.0) (version_at vs w.0)) off
    ∙ ap (λ (o : Option (ℕ × ℕ)). is_now o (version_at vs v.0) (version_at vs w.0)) (later_none (last_apart others v w))
    ∙ ih
    ∙ ap (λ (b : Bool). b || stays_apart others vs v w) (sym front)

-- the entry of this pair is the last one, or not above it
stays_this : (vs : List Vertex) (others : List Apart) (a : Apart) (v w : VertexId) (o : Option (ℕ × ℕ)) → is_of a v w ≡ true → last_apart others v w ≡ o
    → NotAbove a o → ((x : ℕ × ℕ) → o ≡ Some x → (x.0 ≤ version_at vs v.0) × (x.1 ≤ version_at vs w.0))
    → is_now o (version_at vs v.0) (version_at vs w.0) ≡ stays_apart others vs v w
    → is_now (later_or o (Some (versions_of a))) (version_at vs v.0) (version_at vs w.0) ≡ (nat_eq a.left_version (version_at vs v.0) && nat_eq a.right_version (version_at vs w.0)) || stays_apart others vs v w
stays_this vs others a v w None here is not' past ih =
    sym (or_none (nat_eq a.left_version (version_at vs v.0) && nat_eq a.right_version (version_at vs w.0)))
    ∙ ap (λ (b : Bool). (nat_eq a.left_version (version_at vs v.0) && nat_eq a.right_version (version_at vs w.0)) || b) ih
stays_this vs others a v w (Some x) here is not' past ih =
    let t : Bool = nat_eq a.left_version (version_at vs v.0) && nat_eq a.right_version (version_at vs w.0) in
    let p = past x refl in
    let implied : (nat_eq a.left_version (version_at vs v.0) && nat_eq a.right_version (version_at vs w.0)) ≡ true → (nat_eq x.0 (version_at vs v.0) && nat_eq x.1 (version_at vs w.0)) ≡ true = λ h.
    (let q = and_parts (nat_eq a.left_version (version_at vs v.0)) (nat_eq a.right_version (version_at vs w.0)) h in
    let l : a.left_version ≡ version_at vs v.0 = eqb-true a.left_version (version_at vs v.0) q.0 in
    let r : a.right_version ≡ version_at vs w.0 = eqb-true a.right_version (version_at vs w.0) q.1 in
    present x.0 x.1 (version_at vs v.0) (version_at vs w.0) (omega (arith, l, p.0, not'.0)) (omega (arith, r, p.1, not'.1))) in
    or_less (nat_eq a.left_version (version_at vs v.0) && nat_eq a.right_version (version_at vs w.0)) (nat_eq x.0 (version_at vs v.0) && nat_eq x.1 (version_at vs w.0)) implied
    ∙ ap (λ (b : Bool). (nat_eq a.left_version (version_at vs v.0) && nat_eq a.right_version (version_at vs w.0)) || b) ih

vertex_is : (v w : VertexId) → v.0 ≡ w.0 → v ≡ w
vertex_is v w e = ap (λ (k : ℕ). let r : VertexId = record { 0 = k } in r) e

-- a pair stays apart exactly where its last entry has the present versions
pub stays_last : (vs : List Vertex) (others : List Apart) (v w : VertexId) → Rising others → All (IsPast vs) others
    → is_now (last_apart others v w) (version_at vs v.0) (version_at vs w.0) ≡ stays_apart others vs v w
stays_last vs [] v w r all = refl
stays_last vs (a ∷ others) v w r all =
    let rest : All (IsPast vs) others = λ k d lt. all (suc k) d (omega (arith, lt)) in
    let ih : is_now (last_apart others v w) (version_at vs v.0) (version_at vs w.0) ≡ stays_apart others vs v w = stays_last vs others v w r.1 rest in
    elim (cases_Bool (is_of a v w)) [
      | inr off ↦ stays_other vs others a v w off ih
      | inl here ↦
          let parts = and_parts (same a.left v) (same a.right w) here in
          let lefts : a.left ≡ v = vertex_is a.left v (eqb-true a.left.0 v.0 parts.0) in
          let rights : a.right ≡ w = vertex_is a.right w (eqb-true a.right.0 w.0 parts.1) in
          let P : VertexId → Type 0 = λ x. NotAbove a (last_apart others x a.right) in
          let Q : VertexId → Type 0 = λ y. NotAbove a (last_apart others v y) in
          let not' : NotAbove a (last_apart others v w) = subst Q rights (subst P lefts r.0) in
          let main = stays_this vs others a v w (last_apart others v w) here refl not' (λ x is. last_past vs others v w x rest is) ih in
          ap (λ (b : Bool). is_now (later_or (last_apart others v w) (if b then Some (versions_of a) else None)) (version_at vs v.0) (version_at vs w.0)) here
          ∙ main
          ∙ ap (λ (b : Bool). (b && (nat_eq a.left_version (version_at vs v.0) && nat_eq a.right_version (version_at vs w.0))) || stays_apart others vs v w) (sym parts.1)
          ∙ ap (λ (b : Bool). (b && (same a.right w && (nat_eq a.left_version (version_at vs v.0) && nat_eq a.right_version (version_at vs w.0)))) || stays_apart others vs v w) (sym parts.0)
    ]

-- what comes with entries

pub rising_more : (vs : List Vertex) (others : List Apart) (a : Apart) → Rising others → All (IsPast vs) others → a.left_version ≡ version_at vs a.left.0 → a.right_version ≡ version_at vs a.right.0
    → Rising (others ++ a ∷ [])
rising_more vs [] a r all l n = (tt, tt)
rising_more vs (b ∷ others) a r all l n =
    let rest : All (IsPast vs) others = λ k d lt. all (suc k) d (omega (arith, lt)) in
    (subst (NotAbove b) (sym (last_append others a b.left b.right)) (by (is_of a b.left b.right) refl), rising_more vs others a r.1 rest l n)
  where
    by : (c : Bool) → is_of a b.left b.right ≡ c → NotAbove b (if c then Some (versions_of a) else last_apart others b.left b.right)
    by false e = r.0
    by true e =
        let p = is_of_parts a b.left b.right e in
        let h : IsPast vs b = all 0 b (omega arith) in
        let P : ℕ → Type 0 = λ k. b.left_version ≤ version_at vs k in
        let Q : ℕ → Type 0 = λ k. b.right_version ≤ version_at vs k in
        let hl : b.left_version ≤ version_at vs a.left.0 = subst P (sym p.0) h.0 in
        let hr : b.right_version ≤ version_at vs a.right.0 = subst Q (sym p.1) h.1 in
        (omega (arith, hl, l), omega (arith, hr, n))

-- versions that rise leave entries past
pub past_rises : (vs ws : List Vertex) (others : List Apart) → ((k : ℕ) → version_at vs k ≤ version_at ws k) → All (IsPast vs) others → All (IsPast ws) others
past_rises vs ws others up all k d lt =
    let h : IsPast vs (get_or others k d) = all k d lt in
    (omega (arith, h.0, up (get_or others k d).left.0), omega (arith, h.1, up (get_or others k d).right.0))

-- what the map tells of a pair that was kept apart
pub stays_known : (vs : List Vertex) (js : List UnitDone) (others : List Apart) (r : ℕ) (m : HashMap Sides Settling (BuildHasherDefault FoldHasher)) (v w : VertexId) (o : Option Settling) (q : Sides) (entry : Apart)
    → AreSettlings vs js others r m → q ≡ sides v w → get same_sides m q ≡ o → entry ≡ apart_now vs v w
    → is_now (apart_of o) entry.left_version entry.right_version ≡ stays_apart others vs v w
stays_known vs js others r m v w o q entry s is found here =
    ap (λ (a : Apart). is_now (apart_of o) a.left_version a.right_version) here
    ∙ ap (λ (p : Option Settling). is_now (apart_of p) (version_at vs v.0) (version_at vs w.0)) (sym found ∙ ap (get same_sides m) is)
    ∙ ap (λ (p : Option (ℕ × ℕ)). is_now p (version_at vs v.0) (version_at vs w.0)) (s.apart v w)
    ∙ stays_last vs others v w s.rising s.entries

pub covered_known : (vs : List Vertex) (js : List UnitDone) (others : List Apart) (r : ℕ) (m : HashMap Sides Settling (BuildHasherDefault FoldHasher)) (v w : VertexId) (o : Option Settling) (q : Sides)
    → AreSettlings vs js others r m → q ≡ sides v w → get same_sides m q ≡ o → was_covered o r ≡ yes_since false js v w
covered_known vs js others r m v w o q s is found =
    ap (λ (p : Option Settling). was_covered p r) (sym found ∙ ap (get same_sides m) is) ∙ s.yes v w
