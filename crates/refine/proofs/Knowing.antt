-- What is known of terms in a store is so.
use Rattle.std.proofs.Common.{◌≡◌, ℕ, ◌+◌, ◌/◌, ◌%◌, ◌^◌, ◌<◌, ◌==◌, ◌&&◌, ◌⊎◌, Bool, true, false, List, [], ◌∷◌, ◌++◌, Option, Some, None, length, All, refl, sym, ap, ◌∙◌, subst, arith, zero, suc, inl, inr, slice_get, slice_index, slice_index_or, nat_lt, bit_and, bit_or, bit_xor, if◌then◌else◌, length-append}
use Rattle.std.proofs.lemmas.Bool.{cases_eq}
use Rattle.bv_term.specs.declared.term.TermId.{TermId}
use Rattle.bv_term.specs.declared.term.Term.{Term}
use Rattle.bv_term.specs.declared.term.Term.TheVariants.{Constant, Cell, Element, Add, Subtract, Multiply, Divide, Remainder, And, Or, Xor, Not, ShiftLeft, ShiftRight, ShiftSigned, Equal, Less, LessSigned, Select, ZeroExtend, SignExtend, Truncate, Bit}
use Rattle.bv_term.specs.Numbers.{bit_of, complement_in}
use Rattle.bv_term.specs.WellFormed.{Table, IsTable, width_in, widths}
use Rattle.bv_term.specs.Values.{Holds, IsStore, value_in, values}
use Rattle.bv_term.specs.Laws.{Extends}
use Rattle.bv_term.proofs.Staying.{values_fit, values_stay, widths_stay}
use Rattle.term_laws.specs.Laws.{IsMade}
use Rattle.term_laws.proofs.Made.{made}
use Rattle.pair_query.specs.Laws.{AllHold, IsStoreOf}
use Rattle.refine.specs.declared.witnesses.Truth.{Truth}
use Rattle.refine.specs.declared.witnesses.Truth.TheVariants.{No, Yes, Open}
use Rattle.refine.specs.Witnesses.{Known, IsTruth, IsKnown, IsSomeNo, bit_in, both, constant_known, differing, truth_at, truth_known, truth_of, turned}

-- a number below 2 is 0 or 1
below-two : (n : ℕ) → n < 2 → (n ≡ 0) ⊎ (n ≡ 1)
below-two zero lt = inl refl
below-two (suc zero) lt = inr refl
below-two (suc (suc n)) lt = absurd (omega (arith, lt))

-- the truth of a bit
bit-truth : (w v : ℕ) → w ≡ 1 → v < 2 → IsTruth w v (truth_of (v == 1))
bit-truth w zero e lt = (e, refl)
bit-truth w (suc zero) e lt = (e, refl)
bit-truth w (suc (suc v)) e lt = absurd (omega (arith, lt))

two-sides : (f : ℕ → ℕ → ℕ) (a b c d : ℕ) → a ≡ c → b ≡ d → f a b ≡ f c d
two-sides f a b c d p q = ap (λ (x : ℕ). f x b) p ∙ ap (f c) q

is-turned : (w v : ℕ) (x : Truth) → IsTruth w v x → IsTruth w (complement_in w v) (turned x)
is-turned w v Yes h = (h.0, rw (h.0, h.1) refl)
is-turned w v No h = (h.0, rw (h.0, h.1) refl)
is-turned w v Open h = tt

is-both : (w a b : ℕ) (x y : Truth) → a < 2 ^ w → b < 2 ^ w → IsTruth w a x → IsTruth w b y → IsTruth w (bit_and a b) (both x y)
is-both w a b No y la lb h k = (h.0, zero-left h.1 (subst (λ (n : ℕ). b < 2 ^ n) h.0 lb))
  where
    zero-left : a ≡ 0 → b < 2 → bit_and a b ≡ 0
    zero-left e lt = elim (below-two b lt) [
      | inl z ↦ two-sides (λ (x y : ℕ). bit_and x y) a b 0 0 e z
      | inr o ↦ two-sides (λ (x y : ℕ). bit_and x y) a b 0 1 e o
    ]
is-both w a b Yes No la lb h k = (h.0, rw (h.1, k.1) refl)
is-both w a b Yes Yes la lb h k = (h.0, rw (h.1, k.1) refl)
is-both w a b Yes Open la lb h k = tt
is-both w a b Open No la lb h k = (k.0, zero-right k.1 (subst (λ (n : ℕ). a < 2 ^ n) k.0 la))
  where
    zero-right : b ≡ 0 → a < 2 → bit_and a b ≡ 0
    zero-right e lt = elim (below-two a lt) [
      | inl z ↦ two-sides (λ (x y : ℕ). bit_and x y) a b 0 0 z e
      | inr o ↦ two-sides (λ (x y : ℕ). bit_and x y) a b 1 0 o e
    ]
is-both w a b Open Yes la lb h k = tt
is-both w a b Open Open la lb h k = tt

is-either : (w a b : ℕ) (x y : Truth) → a < 2 ^ w → b < 2 ^ w → IsTruth w a x → IsTruth w b y
    → IsTruth w (bit_or a b) (turned (both (turned x) (turned y)))
is-either w a b Yes y la lb h k = (h.0, one-left h.1 (subst (λ (n : ℕ). b < 2 ^ n) h.0 lb))
  where
    one-left : a ≡ 1 → b < 2 → bit_or a b ≡ 1
    one-left e lt = elim (below-two b lt) [
      | inl z ↦ two-sides (λ (x y : ℕ). bit_or x y) a b 1 0 e z
      | inr o ↦ two-sides (λ (x y : ℕ). bit_or x y) a b 1 1 e o
    ]
is-either w a b No No la lb h k = (h.0, rw (h.1, k.1) refl)
is-either w a b No Yes la lb h k = (h.0, rw (h.1, k.1) refl)
is-either w a b No Open la lb h k = tt
is-either w a b Open Yes la lb h k = (k.0, one-right k.1 (subst (λ (n : ℕ). a < 2 ^ n) k.0 la))
  where
    one-right : b ≡ 1 → a < 2 → bit_or a b ≡ 1
    one-right e lt = elim (below-two a lt) [
      | inl z ↦ two-sides (λ (x y : ℕ). bit_or x y) a b 0 1 z e
      | inr o ↦ two-sides (λ (x y : ℕ). bit_or x y) a b 1 1 o e
    ]
is-either w a b Open No la lb h k = tt
is-either w a b Open Open la lb h k = tt

is-differing : (w a b : ℕ) (x y : Truth) → IsTruth w a x → IsTruth w b y → IsTruth w (bit_xor a b) (differing x y)
is-differing w a b Open y h k = tt
is-differing w a b No No h k = (h.0, rw (h.1, k.1) refl)
is-differing w a b No Yes h k = (h.0, rw (h.1, k.1) refl)
is-differing w a b No Open h k = tt
is-differing w a b Yes No h k = (h.0, rw (h.1, k.1) refl)
is-differing w a b Yes Yes h k = (h.0, rw (h.1, k.1) refl)
is-differing w a b Yes Open h k = tt

is-constant : (w v : ℕ) → v < 2 ^ w → IsTruth w v (constant_known w v)
is-constant w v lt = elim (cases_eq w 1) [
  | inl e ↦ subst (λ (b : Bool). IsTruth w v (if b then truth_of (v == 1) else Open)) (sym (eq-one w e)) (bit-truth w v e (subst (λ (n : ℕ). v < 2 ^ n) e lt))
  | inr ne ↦ other (w == 1) refl ne
]
  where
    eq-one : (w : ℕ) → w ≡ 1 → (w == 1) ≡ true
    eq-one w e = rw e refl

    other : (b : Bool) → (w == 1) ≡ b → (w ≡ 1 → ⊥) → IsTruth w v (if b then truth_of (v == 1) else Open)
    other true e ne = absurd (ne (search (arith, e)))
    other false e ne = tt

module _ (table : Table) (is : IsTable table) (store : List ℕ) (of : IsStoreOf table store) where
  -- what the truths say of the terms of lower numbers
  abbrev Told : List Truth → ℕ → Type 0
  Told truths n = (k : ℕ) → k < n → IsTruth (slice_index (widths table) k) (slice_index (values table store) k) (truth_at truths k)

  fits : (k : ℕ) → k < length table.terms → slice_index (values table store) k < 2 ^ slice_index (widths table) k
  fits k lt = values_fit table store (record { 0 = k }) is of.fits lt

  -- a bit of a term that is a cell
  bit-made : (w number : ℕ) (i : TermId) (o : Option Term) → slice_get table.terms i.0 ≡ o → w ≡ 1
      → IsTruth w (bit_of number (slice_index (values table store) i.0)) (bit_in store number o)
  bit-made w number i None e q = tt
  bit-made w number i (Some (Cell c)) e q =
      let m = made table store i (Cell c) is e in
      let v : slice_index (values table store) i.0 ≡ slice_index store c = m.value in
      guarded (nat_lt c (length store) && nat_lt number 128) v
    where
      guarded : (b : Bool) → slice_index (values table store) i.0 ≡ slice_index store c
          → IsTruth w (bit_of number (slice_index (values table store) i.0)) (if b then truth_of ((slice_index store c / 2 ^ number) % 2 == 1) else Open)
      guarded false v = tt
      guarded true v =
          subst (λ (x : ℕ). IsTruth w (bit_of number x) (truth_of ((slice_index store c / 2 ^ number) % 2 == 1))) (sym v)
          (bit-truth w ((slice_index store c / 2 ^ number) % 2) q (omega arith))
  bit-made w number i (Some (Constant a b)) e q = tt
  bit-made w number i (Some (Element a b c)) e q = tt
  bit-made w number i (Some (Add a b)) e q = tt
  bit-made w number i (Some (Subtract a b)) e q = tt
  bit-made w number i (Some (Multiply a b)) e q = tt
  bit-made w number i (Some (Divide a b)) e q = tt
  bit-made w number i (Some (Remainder a b)) e q = tt
  bit-made w number i (Some (And a b)) e q = tt
  bit-made w number i (Some (Or a b)) e q = tt
  bit-made w number i (Some (Xor a b)) e q = tt
  bit-made w number i (Some (Not a)) e q = tt
  bit-made w number i (Some (ShiftLeft a b)) e q = tt
  bit-made w number i (Some (ShiftRight a b)) e q = tt
  bit-made w number i (Some (ShiftSigned a b)) e q = tt
  bit-made w number i (Some (Equal a b)) e q = tt
  bit-made w number i (Some (Less a b)) e q = tt
  bit-made w number i (Some (LessSigned a b)) e q = tt
  bit-made w number i (Some (Select a b c)) e q = tt
  bit-made w number i (Some (ZeroExtend a b)) e q = tt
  bit-made w number i (Some (SignExtend a b)) e q = tt
  bit-made w number i (Some (Truncate a b)) e q = tt
  bit-made w number i (Some (Bit a b)) e q = tt

  -- what a term has by its operands
  abbrev Said : ℕ → Term → List Truth → Type 0
  Said n u truths = IsTruth (width_in table.cells (widths table) u) (value_in store (widths table) (values table store) u) (truth_known store table.terms truths u)

  said : (n : ℕ) (u : Term) (truths : List Truth) → n < length table.terms → IsMade table store (record { 0 = n }) u → Told truths n → Said n u truths
  said n (Constant w v) truths lt m t = is-constant w v m.fits.1
  said n (Cell c) truths lt m t = tt
  said n (Element a b c) truths lt m t = tt
  said n (Add a b) truths lt m t = tt
  said n (Subtract a b) truths lt m t = tt
  said n (Multiply a b) truths lt m t = tt
  said n (Divide a b) truths lt m t = tt
  said n (Remainder a b) truths lt m t = tt
  said n (And i j) truths lt m t =
      let w = slice_index (widths table) i.0 in
      is-both w (slice_index (values table store) i.0) (slice_index (values table store) j.0) (truth_at truths i.0) (truth_at truths j.0)
      (fits i.0 (omega (arith, m.before.0, lt))) (wide i j (m.fits.2) (fits j.0 (omega (arith, m.before.1, lt))))
      (t i.0 m.before.0) (same i j (m.fits.2) (truth_at truths j.0) (t j.0 m.before.1))
    where
      wide : (i j : TermId) → slice_index (widths table) i.0 ≡ slice_index (widths table) j.0
          → slice_index (values table store) j.0 < 2 ^ slice_index (widths table) j.0 → slice_index (values table store) j.0 < 2 ^ slice_index (widths table) i.0
      wide i j e h = subst (λ (x : ℕ). slice_index (values table store) j.0 < 2 ^ x) (sym e) h

      same : (i j : TermId) → slice_index (widths table) i.0 ≡ slice_index (widths table) j.0 → (x : Truth)
          → IsTruth (slice_index (widths table) j.0) (slice_index (values table store) j.0) x → IsTruth (slice_index (widths table) i.0) (slice_index (values table store) j.0) x
      same i j e x h = subst (λ (w : ℕ). IsTruth w (slice_index (values table store) j.0) x) (sym e) h
  said n (Or i j) truths lt m t =
      let w = slice_index (widths table) i.0 in
      let e : slice_index (widths table) i.0 ≡ slice_index (widths table) j.0 = m.fits.2 in
      is-either w (slice_index (values table store) i.0) (slice_index (values table store) j.0) (truth_at truths i.0) (truth_at truths j.0)
      (fits i.0 (omega (arith, m.before.0, lt)))
      (subst (λ (x : ℕ). slice_index (values table store) j.0 < 2 ^ x) (sym e) (fits j.0 (omega (arith, m.before.1, lt))))
      (t i.0 m.before.0) (subst (λ (w : ℕ). IsTruth w (slice_index (values table store) j.0) (truth_at truths j.0)) (sym e) (t j.0 m.before.1))
  said n (Xor i j) truths lt m t =
      let w = slice_index (widths table) i.0 in
      let e : slice_index (widths table) i.0 ≡ slice_index (widths table) j.0 = m.fits.2 in
      is-differing w (slice_index (values table store) i.0) (slice_index (values table store) j.0) (truth_at truths i.0) (truth_at truths j.0)
      (t i.0 m.before.0) (subst (λ (w : ℕ). IsTruth w (slice_index (values table store) j.0) (truth_at truths j.0)) (sym e) (t j.0 m.before.1))
  said n (Not i) truths lt m t = is-turned (slice_index (widths table) i.0) (slice_index (values table store) i.0) (truth_at truths i.0) (t i.0 m.before)
  said n (ShiftLeft a b) truths lt m t = tt
  said n (ShiftRight a b) truths lt m t = tt
  said n (ShiftSigned a b) truths lt m t = tt
  said n (Equal a b) truths lt m t = tt
  said n (Less a b) truths lt m t = tt
  said n (LessSigned a b) truths lt m t = tt
  said n (Select a b c) truths lt m t = tt
  said n (ZeroExtend a b) truths lt m t = tt
  said n (SignExtend a b) truths lt m t = tt
  said n (Truncate a b) truths lt m t = tt
  said n (Bit number i) truths lt m t = bit-made 1 number i (slice_get table.terms i.0) refl refl

  truth_made : (n : ℕ) (u : Term) (truths : List Truth) → slice_get table.terms n ≡ Some u → Told truths n
      → IsTruth (slice_index (widths table) n) (slice_index (values table store) n) (truth_known store table.terms truths u)
  truth_made n u truths e t =
      let m = made table store (record { 0 = n }) u is e in
      subst (λ (w : ℕ). IsTruth w (slice_index (values table store) n) (truth_known store table.terms truths u)) (sym m.width)
      (subst (λ (v : ℕ). IsTruth (width_in table.cells (widths table) u) v (truth_known store table.terms truths u)) (sym m.value)
      (said n u truths m.there m t))

at-old : (ts : List Truth) (x : Truth) (n : ℕ) → n < length ts → truth_at (ts ++ x ∷ []) n ≡ truth_at ts n
at-old [] x n lt = absurd (omega (arith, lt))
at-old (t ∷ ts) x zero lt = refl
at-old (t ∷ ts) x (suc n) lt = at-old ts x n (omega (arith, lt))

at-end : (ts : List Truth) (x : Truth) → truth_at (ts ++ x ∷ []) (length ts) ≡ x
at-end [] x = refl
at-end (t ∷ ts) x = at-end ts x

-- one truth more
pub known_more : (table : Table) (k : Known) (new : List Truth) (u : Term) (x : Truth) → IsTable table → IsKnown table k
    → slice_get table.terms (length k.truths) ≡ Some u → x ≡ truth_known k.store table.terms k.truths u → new ≡ k.truths ++ x ∷ []
    → length k.truths < length table.terms → IsKnown table (record { store = k.store; truths = new })
known_more table k new u x is h e q r lt =
    let n = length k.truths in
    let l : length new ≡ n + 1 = ap length r ∙ length-append k.truths (x ∷ []) in
    let told : (i : ℕ) → i < n + 1 → IsTruth (slice_index (widths table) i) (slice_index (values table k.store) i) (truth_at (k.truths ++ x ∷ []) i) =
    λ i less. elim (cases_eq i n) [
      | inl same ↦
          subst (λ (j : ℕ). IsTruth (slice_index (widths table) j) (slice_index (values table k.store) j) (truth_at (k.truths ++ x ∷ []) j)) (sym same)
          (subst (λ (y : Truth). IsTruth (slice_index (widths table) n) (slice_index (values table k.store) n) y) (sym (at-end k.truths x ∙ q))
          (truth_made table is k.store h.store n u k.truths e h.told))
      | inr other ↦
          let old : i < n = omega (arith, less, other) in
          subst (λ (y : Truth). IsTruth (slice_index (widths table) i) (slice_index (values table k.store) i) y) (sym (at-old k.truths x i old)) (h.told i old)
    ] in
    record {
      store = h.store;
      few = omega (arith, l, lt);
      told = λ i less. subst (λ (ts : List Truth). IsTruth (slice_index (widths table) i) (slice_index (values table k.store) i) (truth_at ts i)) (sym r) (told i (omega (arith, less, l)));
    }

-- what is known stays so as the table grows
pub known_stays : (old new : Table) (k : Known) → Extends old new → IsKnown old k → IsKnown new k
known_stays old new k g h =
    let n : length new.terms ≡ length (old.terms ++ g.1.0) = ap length g.1.1 in
    let l : length (old.terms ++ g.1.0) ≡ length old.terms + length g.1.0 = length-append old.terms g.1.0 in
    record {
      store = record { fits = subst (λ (cs : List ℕ). IsStore cs k.store) (sym g.0) h.store.fits; whole = h.store.whole ∙ ap length (sym g.0) };
      few = omega (arith, h.few, n, l);
      told = λ i lt.
          let there : i < length old.terms = omega (arith, lt, h.few) in
          subst (λ (w : ℕ). IsTruth w (slice_index (values new k.store) i) (truth_at k.truths i)) (sym (widths_stay old new (record { 0 = i }) g there))
          (subst (λ (v : ℕ). IsTruth (slice_index (widths old) i) v (truth_at k.truths i)) (sym (values_stay old new k.store (record { 0 = i }) g there)) (h.told i lt));
    }

-- of a term that is known to hold or to fail
there-known : (ts : List Truth) (n : ℕ) (x : Truth) → truth_at ts n ≡ x → (x ≡ Open → ⊥) → n < length ts
there-known [] n x e ne = absurd (ne (sym e))
there-known (t ∷ ts) zero x e ne = omega arith
there-known (t ∷ ts) (suc n) x e ne = omega (arith, there-known ts n x e ne)

pub yes_holds : (table : Table) (k : Known) (t : TermId) → IsKnown table k → truth_at k.truths t.0 ≡ Yes → Holds table k.store t
yes_holds table k t h e =
    let lt : t.0 < length k.truths = there-known k.truths t.0 Yes e (λ q. cc) in
    (subst (λ (x : Truth). IsTruth (slice_index (widths table) t.0) (slice_index (values table k.store) t.0) x) e (h.told t.0 lt)).1

pub no_fails : (table : Table) (k : Known) (t : TermId) → IsKnown table k → truth_at k.truths t.0 ≡ No → Holds table k.store t → ⊥
no_fails table k t h e met =
    let lt : t.0 < length k.truths = there-known k.truths t.0 No e (λ q. cc) in
    let z : slice_index (values table k.store) t.0 ≡ 0 = (subst (λ (x : Truth). IsTruth (slice_index (widths table) t.0) (slice_index (values table k.store) t.0) x) e (h.told t.0 lt)).1 in
    omega (arith, z, met)

pub all_yes : (table : Table) (k : Known) (label : List TermId) → IsKnown table k → All (λ t. truth_at k.truths t.0 ≡ Yes) label → AllHold table k.store label
all_yes table k label h y = λ i d lt. yes_holds table k (slice_index_or label i d) h (y i d lt)

get_at : (ts : List TermId) (k : ℕ) (t : TermId) → slice_get ts k ≡ Some t → (k < length ts) × (slice_index_or ts k t ≡ t)
get_at [] k t e = absurd cc
get_at (x ∷ ts) zero t e = (omega arith, cc)
get_at (x ∷ ts) (suc k) t e = let r = get_at ts k t e in (omega (arith, r.0), r.1)

pub some_no : (table : Table) (k : Known) (label : List TermId) → IsKnown table k → IsSomeNo k.truths label → AllHold table k.store label → ⊥
some_no table k label h s met =
    let g = get_at label s.0 s.1.0 s.1.1 in
    no_fails table k s.1.0 h s.1.2 (subst (Holds table k.store) g.1 (met s.0 s.1.0 g.0))
