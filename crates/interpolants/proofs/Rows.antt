-- Bits cell by cell, and row by row.
use Rattle.std.proofs.Common.{◌≡◌, ℕ, ◌+◌, ◌<◌, ◌≤◌, ◌⊎◌, inl, inr, List, [], ◌∷◌, ◌++◌, length, drop, Option, Some, None, slice_get, zero, suc, refl, sym, ap, ◌∙◌, subst, arith, append_assoc, append-nil}
use Rattle.std.proofs.Common.{Result, Ok, Err}
use Rattle.std.specs.Prelude.{All, OnOk, slice_index, slice_index_or}
use Rattle.std.proofs.lemmas.Bool.{cases_lt}
use Rattle.std.proofs.lemmas.List.{at_drop_more, at_drop_all}
use Rattle.std.proofs.lemmas.Option.{slice_get_within, slice_get_past, get_or_from_slice_get}
use Rattle.prop.specs.declared.Lit.{Lit}
use Rattle.bv_term.specs.WellFormed.{IsWidth}
use Rattle.path_query.specs.declared.query.Bundle.{Bundle}
use Rattle.path_query.specs.Facts.{IsBundle}
use Rattle.interpolants.specs.declared.items.Placed.{Placed}
use Rattle.interpolants.specs.Placings.{bit_at, bit_if, bit_with, bits_from, bits_of, row, rows, IsOneOf, SameBits}

-- lists joined
in-left : (ps qs : List Placed) (p : Placed) → IsOneOf ps p → IsOneOf (ps ++ qs) p
in-left [] qs p (k, h) = absurd cc
in-left (q ∷ ps) qs p (zero, h) = (zero, h)
in-left (q ∷ ps) qs p (suc k, h) = let r = in-left ps qs p (k, h) in (suc r.0, r.1)

in-right : (ps qs : List Placed) (p : Placed) → IsOneOf qs p → IsOneOf (ps ++ qs) p
in-right [] qs p h = h
in-right (q ∷ ps) qs p h = let r = in-right ps qs p h in (suc r.0, r.1)

in-more : (q : Placed) (ps qs : List Placed) (p : Placed) → IsOneOf ps p ⊎ IsOneOf qs p → IsOneOf (q ∷ ps) p ⊎ IsOneOf qs p
in-more q ps qs p (inl r) = inl (suc r.0, r.1)
in-more q ps qs p (inr r) = inr r

in-either : (ps qs : List Placed) (p : Placed) → IsOneOf (ps ++ qs) p → IsOneOf ps p ⊎ IsOneOf qs p
in-either [] qs p h = inr h
in-either (q ∷ ps) qs p (zero, h) = inl (zero, h)
in-either (q ∷ ps) qs p (suc k, h) = in-more q ps qs p (in-either ps qs p (k, h))

-- the bits of a cell
from-in : (cell n i at : ℕ) (ls : List Lit) (l : Lit) → n + i ≡ at → slice_get ls i ≡ Some l → IsOneOf (bits_from cell n ls) (bit_with cell at l)
from-in cell n i at [] l e h = absurd cc
from-in cell n zero at (m ∷ ls) l e h =
    let s : m ≡ l = cc in
    let z : n ≡ at = omega (arith, e) in
    (zero, ap (λ (k : ℕ). Some (bit_with cell k m)) z ∙ ap (λ (x : Lit). Some (bit_with cell at x)) s)
from-in cell n (suc i) at (m ∷ ls) l e h =
    let r = from-in cell (suc n) i at ls l (omega (arith, e)) h in (suc r.0, r.1)

abbrev FromCell : ℕ → ℕ → List Lit → Placed → Type 0
FromCell cell n ls p = (i : ℕ) × (l : Lit) × (slice_get ls i ≡ Some l) × (bit_with cell (n + i) l ≡ p)

from-out : (cell n : ℕ) (ls : List Lit) (p : Placed) → IsOneOf (bits_from cell n ls) p → FromCell cell n ls p
from-out cell n [] p (k, h) = absurd cc
from-out cell n (m ∷ ls) p (zero, h) =
    let z : n + 0 ≡ n = omega arith in
    let s : bit_with cell n m ≡ p = cc in
    (0, m, refl, ap (λ (k : ℕ). bit_with cell k m) z ∙ s)
from-out cell n (m ∷ ls) p (suc k, h) =
    let (i, l, g, e) = from-out cell (suc n) ls p (k, h) in
    let z : n + suc i ≡ suc n + i = omega arith in
    (suc i, l, g, ap (λ (j : ℕ). bit_with cell j l) z ∙ e)

-- the bits of cells
pub of-in : (bs : List Bundle) (k i : ℕ) (b : Bundle) (l : Lit) → slice_get bs k ≡ Some b → slice_get b.bits i ≡ Some l
    → IsOneOf (bits_of bs) (bit_with b.cell i l)
of-in [] k i b l g h = absurd cc
of-in (c ∷ bs) zero i b l g h =
    let e : c ≡ b = cc in
    let z : 0 + i ≡ i = omega arith in
    subst (λ (x : Bundle). IsOneOf (bits_from x.cell 0 x.bits ++ bits_of bs) (bit_with b.cell i l)) (sym e)
    (in-left (bits_from b.cell 0 b.bits) (bits_of bs) (bit_with b.cell i l) (from-in b.cell 0 i i b.bits l z h))
of-in (c ∷ bs) (suc k) i b l g h =
    in-right (bits_from c.cell 0 c.bits) (bits_of bs) (bit_with b.cell i l) (of-in bs k i b l g h)

-- a bit of one of the cells
abbrev pub OfCells : List Bundle → Placed → Type 0
OfCells bs p =
    (k : ℕ) × (i : ℕ) × (b : Bundle) × (l : Lit) × (slice_get bs k ≡ Some b) × (slice_get b.bits i ≡ Some l) × (bit_with b.cell i l ≡ p)

of-more : (c : Bundle) (bs : List Bundle) (p : Placed) → OfCells bs p → OfCells (c ∷ bs) p
of-more c bs p h = (suc h.0, h.1, h.2, h.3, h.4, h.5, h.6)

of-first : (c : Bundle) (bs : List Bundle) (p : Placed) → FromCell c.cell 0 c.bits p → OfCells (c ∷ bs) p
of-first c bs p h =
    let z : h.0 ≡ 0 + h.0 = omega arith in
    (0, h.0, c, h.1, refl, h.2, ap (λ (j : ℕ). bit_with c.cell j h.1) z ∙ h.3)

pub of-out : (bs : List Bundle) (p : Placed) → IsOneOf (bits_of bs) p → OfCells bs p
of-out [] p (k, h) = absurd cc
of-out (c ∷ bs) p h = way (in-either (bits_from c.cell 0 c.bits) (bits_of bs) p h) (λ r. of-out bs p r)
  where
    way : IsOneOf (bits_from c.cell 0 c.bits) p ⊎ IsOneOf (bits_of bs) p → (IsOneOf (bits_of bs) p → OfCells bs p) → OfCells (c ∷ bs) p
    way (inl r) ih = of-first c bs p (from-out c.cell 0 c.bits p r)
    way (inr r) ih = of-more c bs p (ih r)

-- a row
bit-in : (b : Bundle) (n : ℕ) (l : Lit) → slice_get b.bits n ≡ Some l → IsOneOf (bit_at b n) (bit_with b.cell n l)
bit-in b n l h = subst (λ (o : Option Lit). IsOneOf (bit_if b.cell n o) (bit_with b.cell n l)) (sym h) (0, refl)

bit-out : (b : Bundle) (n : ℕ) (p : Placed) → IsOneOf (bit_at b n) p → (l : Lit) × (slice_get b.bits n ≡ Some l) × (bit_with b.cell n l ≡ p)
bit-out b n p h = way (slice_get b.bits n) refl h
  where
    way : (o : Option Lit) → slice_get b.bits n ≡ o → IsOneOf (bit_if b.cell n o) p → (l : Lit) × (slice_get b.bits n ≡ Some l) × (bit_with b.cell n l ≡ p)
    way None e (k, g) = absurd cc
    way (Some l) e (zero, g) = let s : bit_with b.cell n l ≡ p = cc in (l, e, s)
    way (Some l) e (suc k, g) = absurd cc

row-in : (bs : List Bundle) (n k : ℕ) (b : Bundle) (l : Lit) → slice_get bs k ≡ Some b → slice_get b.bits n ≡ Some l
    → IsOneOf (row bs n) (bit_with b.cell n l)
row-in [] n k b l g h = absurd cc
row-in (c ∷ bs) n zero b l g h =
    let e : c ≡ b = cc in
    in-right (row bs n) (bit_at c n) (bit_with b.cell n l)
    (subst (λ (x : Bundle). IsOneOf (bit_at x n) (bit_with b.cell n l)) (sym e) (bit-in b n l h))
row-in (c ∷ bs) n (suc k) b l g h =
    in-left (row bs n) (bit_at c n) (bit_with b.cell n l) (row-in bs n k b l g h)

abbrev InRow : List Bundle → ℕ → Placed → Type 0
InRow bs n p = (k : ℕ) × (b : Bundle) × (l : Lit) × (slice_get bs k ≡ Some b) × (slice_get b.bits n ≡ Some l) × (bit_with b.cell n l ≡ p)

row-out : (bs : List Bundle) (n : ℕ) (p : Placed) → IsOneOf (row bs n) p → InRow bs n p
row-out [] n p (k, h) = absurd cc
row-out (c ∷ bs) n p h = way (in-either (row bs n) (bit_at c n) p h) (λ r. row-out bs n p r)
  where
    way : IsOneOf (row bs n) p ⊎ IsOneOf (bit_at c n) p → (IsOneOf (row bs n) p → InRow bs n p) → InRow (c ∷ bs) n p
    way (inl r) ih = let (k, b, l, g, h, e) = ih r in (suc k, b, l, g, h, e)
    way (inr r) ih = let (l, g, e) = bit-out c n p r in (0, c, l, refl, g, e)

-- rows
rows-in : (bs : List Bundle) (n m : ℕ) (p : Placed) → m < n → IsOneOf (row bs m) p → IsOneOf (rows bs n) p
rows-in bs zero m p lt h = absurd (omega (arith, lt))
rows-in bs (suc n) m p lt h = way (cases_lt m n) (λ less. rows-in bs n m p less h)
  where
    way : (m < n) ⊎ (n ≤ m) → (m < n → IsOneOf (rows bs n) p) → IsOneOf (rows bs n ++ row bs n) p
    way (inl less) ih = in-left (rows bs n) (row bs n) p (ih less)
    way (inr le) ih =
        let e : m ≡ n = omega (arith, le, lt) in
        in-right (rows bs n) (row bs n) p (subst (λ (k : ℕ). IsOneOf (row bs k) p) e h)

rows-out : (bs : List Bundle) (n : ℕ) (p : Placed) → IsOneOf (rows bs n) p → (m : ℕ) × IsOneOf (row bs m) p
rows-out bs zero p (k, h) = absurd cc
rows-out bs (suc n) p h = way (in-either (rows bs n) (row bs n) p h) (λ r. rows-out bs n p r)
  where
    way : IsOneOf (rows bs n) p ⊎ IsOneOf (row bs n) p → (IsOneOf (rows bs n) p → (m : ℕ) × IsOneOf (row bs m) p) → (m : ℕ) × IsOneOf (row bs m) p
    way (inl r) ih = ih r
    way (inr r) ih = (n, r)

pub rows-same : (bs : List Bundle) (n : ℕ) → ((k : ℕ) (b : Bundle) → slice_get bs k ≡ Some b → length b.bits ≤ n) → SameBits (bits_of bs) (rows bs n)
rows-same bs n wide p = (
  λ h.
      let (k, i, b, l, g, gl, e) = of-out bs p h in
      let lt = slice_get_within b.bits i l gl in
      let le = wide k b g in
      subst (IsOneOf (rows bs n)) e (rows-in bs n i (bit_with b.cell i l) (omega (arith, lt, le)) (row-in bs i k b l g gl)),
  λ h.
      let (m, r) = rows-out bs n p h in
      let (k, b, l, g, gl, e) = row-out bs m p r in
      subst (IsOneOf (bits_of bs)) e (of-in bs k m b l g gl),
)

-- the loops
pub bit-past : (b : Bundle) (n : ℕ) (ps : List Placed) → length b.bits ≤ n → ps ≡ ps ++ bit_at b n
bit-past b n ps le =
    sym (ap (λ (o : Option Lit). ps ++ bit_if b.cell n o) (slice_get_past b.bits n le) ∙ append-nil ps)

bit-there : (b : Bundle) (n : ℕ) (l : Lit) (ps : List Placed) → slice_get b.bits n ≡ Some l → ps ++ bit_with b.cell n l ∷ [] ≡ ps ++ bit_at b n
bit-there b n l ps h = sym (ap (λ (o : Option Lit). ps ++ bit_if b.cell n o) h)

pub row-none : (bs : List Bundle) (m n : ℕ) (ps : List Placed) → length bs ≤ m → ps ≡ ps ++ row (drop m bs) n
row-none bs m n ps le = sym (at_drop_all (λ (cs : List Bundle). ps ++ row cs n) bs m le ∙ append-nil ps)

pub row-more : (bs : List Bundle) (m i j n : ℕ) (b : Bundle) (ps qs rs : List Placed) → slice_get bs i ≡ Some b → m ≡ i + 1 → j ≡ i
    → qs ≡ ps ++ row (drop m bs) n → rs ≡ qs ++ bit_at b n → rs ≡ ps ++ row (drop j bs) n
row-more bs m i j n b ps qs rs g e q h k =
    let here : row (drop i bs) n ≡ row (drop (i + 1) bs) n ++ bit_at b n =
    at_drop_more (λ (cs : List Bundle). row cs n) bs i b (slice_get_within bs i b g)
    ∙ ap (λ (c : Bundle). row (drop (i + 1) bs) n ++ bit_at c n) (get_or_from_slice_get bs i b b g) in
    k ∙ ap (λ (xs : List Placed). xs ++ bit_at b n) (h ∙ ap (λ (x : ℕ). ps ++ row (drop x bs) n) e)
    ∙ append_assoc ps (row (drop (i + 1) bs) n) (bit_at b n)
    ∙ sym (ap (λ (xs : List Placed). ps ++ xs) (ap (λ (x : ℕ). row (drop x bs) n) q ∙ here))

pub rows-more : (bs : List Bundle) (n : ℕ) (ps qs : List Placed) → ps ≡ rows bs n → qs ≡ ps ++ row bs n → qs ≡ rows bs (n + 1)
rows-more bs n ps qs h k =
    let z : suc n ≡ n + 1 = omega arith in
    k ∙ ap (λ (xs : List Placed). xs ++ row bs n) h ∙ ap (rows bs) z

pub added-there : {E : Type 0} (r : Result (Unit {0}) E) (b : Bundle) (n : ℕ) (l : Lit) (ps qs : List Placed)
    → OnOk r (qs ≡ ps ++ bit_with b.cell n l ∷ []) → slice_get b.bits n ≡ Some l → OnOk r (qs ≡ ps ++ bit_at b n)
added-there (Ok u) b n l ps qs e h = e ∙ bit-there b n l ps h
added-there (Err x) b n l ps qs e h = tt

pub rows-whole : (cells : List ℕ) (bs : List Bundle) (n m : ℕ) (ps : List Placed) → All IsWidth cells → All (IsBundle cells) bs
    → All (λ b. length b.bits ≤ 128 → length b.bits ≤ n) bs → n ≤ m → ps ≡ rows bs m → SameBits (bits_of bs) ps
rows-whole cells bs n m ps widths all most le e = subst (SameBits (bits_of bs)) (sym e) (rows-same bs m wide)
  where
    wide : (k : ℕ) (b : Bundle) → slice_get bs k ≡ Some b → length b.bits ≤ m
    wide k b g =
        let lt = slice_get_within bs k b g in
        let s : slice_index_or bs k b ≡ b = get_or_from_slice_get bs k b b g in
        let is : IsBundle cells b = subst (IsBundle cells) s (all k b lt) in
        let w : IsWidth (slice_index cells b.cell) = widths b.cell 0 is.0 in
        let few : length b.bits ≤ 128 → length b.bits ≤ n = subst (λ (x : Bundle). length x.bits ≤ 128 → length x.bits ≤ n) s (most k b lt) in
        let r = few (omega (arith, is.1, w.1)) in
        omega (arith, r, le)
