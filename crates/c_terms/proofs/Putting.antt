-- Terms that are put into a table: their widths and their values, there and later on.
use Rattle.std.proofs.Common.{◌≡◌, ℕ, ◌-◌, ◌<◌, ◌≤◌, ◌^◌, ◌%◌, ◌==◌, inl, inr, List, [], ◌∷◌, ◌++◌, length, refl, sym, ap, ◌∙◌, subst, arith, Some, slice_get, slice_index, Result, Ok, Err, append_assoc, length-append, nat_lt, bit_and, bit_or, bit_xor, if◌then◌else◌}
use Rattle.std.specs.Prelude.{IfOk, OnErr}
use Rattle.std.proofs.lemmas.List.{append-nil}
use Rattle.lv_base.specs.declared.fail.Memory.{Memory}
use Rattle.bv_term.specs.declared.term.TermId.{TermId}
use Rattle.bv_term.specs.declared.term.Term.{Term}
use Rattle.bv_term.specs.declared.term.Term.TheVariants.{Constant, Cell, Element, Add, Subtract, Multiply, Divide, Remainder, And, Or, Xor, Not, ShiftLeft, ShiftRight, ShiftSigned, Equal, Less, LessSigned, Select, ZeroExtend, SignExtend, Truncate, Bit}
use Rattle.bv_term.specs.Numbers.{sum_in, difference_in, product_in, quotient_of, remainder_of, complement_in, left_in, right_in, signed_right_in, raised, truth, sign_extended, bit_of}
use Rattle.bv_term.specs.WellFormed.{Table, IsTable, IsWidth, AreAlike, Fits, width_in, widths}
use Rattle.bv_term.specs.Values.{values, value_in}
use Rattle.bv_term.specs.Laws.{Extends, IsPut}
use Rattle.bv_term.proofs.Staying.{widths_stay, values_stay}
use Rattle.bv_term.proofs.Growing.{length-widths}
use Rattle.term_laws.specs.Operands.{Follows, OnOperands, renamed}
use Rattle.term_laws.proofs.Renaming as renaming
use Rattle.term_laws.proofs.Made.{onto, made}
use Rattle.c_terms.specs.declared.words.Words.{Words}
use Rattle.c_terms.specs.Shown.{Shows, Gives, Grows, Puts}

-- ---- Tables grow

pub extends-none : (a : Table) → Extends a a
extends-none a = (refl, ([], sym (append-nil a.terms)))

extends-twice : (a b c : Table) → Extends a b → Extends b c → Extends a c
extends-twice a b c g h =
    (h.0 ∙ g.0, (g.1.0 ++ h.1.0, h.1.1 ∙ ap (λ (ts : List Term). ts ++ h.1.0) g.1.1 ∙ append_assoc a.terms g.1.0 h.1.0))

pub put-extends : (r : Result TermId Memory) (a b : Table) (t : Term) → IfOk r (λ id. IsPut a b t) → OnErr r (b ≡ a) → Extends a b
put-extends (Ok x) a b t p q = elim p [
  | inl e ↦ subst (λ (c : Table). Extends a c) (sym e) (extends-none a)
  | inr e ↦ subst (λ (c : Table). Extends a c) (sym e.0) (refl, (t ∷ [], refl))
]
put-extends (Err x) a b t p q = subst (λ (c : Table). Extends a c) (sym q) (extends-none a)

pub grows-none : (a : Words) → Grows a a
grows-none a = record { extends = extends-none a.terms; sound = refl }

pub grows-twice : (a b c : Words) → Grows a b → Grows b c → Grows a c
grows-twice a b c g h = record { extends = extends-twice a.terms b.terms c.terms g.extends h.extends; sound = h.sound ∙ g.sound }

-- ---- Terms stay as they are

pub later : (a b : Words) (s : List ℕ) (t : TermId) (w x : ℕ) → Grows a b → Shows a.terms s t w x → Shows b.terms s t w x
later a b s t w x g h = record {
  there = omega (arith, h.there, ap length g.extends.1.1, length-append a.terms.terms g.extends.1.0);
  width = widths_stay a.terms b.terms t g.extends h.there ∙ h.width;
  told = values_stay a.terms b.terms s t g.extends h.there ∙ h.told;
}

many : (a : Table) → length (widths a) ≡ length a.terms
many a = omega (arith, length-widths a.cells [] a.terms)

abbrev itself : TermId → TermId
itself i = i

below : (u : Term) (cells ws : List ℕ) → Fits cells ws u → OnOperands (λ i. i.0 < length ws) u
below (Constant w v) cells ws h = tt
below (Cell c) cells ws h = tt
below (Element first n i) cells ws h = h.1
below (Add i j) cells ws h = (h.0, h.1)
below (Subtract i j) cells ws h = (h.0, h.1)
below (Multiply i j) cells ws h = (h.0, h.1)
below (Divide i j) cells ws h = (h.0, h.1)
below (Remainder i j) cells ws h = (h.0, h.1)
below (And i j) cells ws h = (h.0, h.1)
below (Or i j) cells ws h = (h.0, h.1)
below (Xor i j) cells ws h = (h.0, h.1)
below (Not i) cells ws h = h
below (ShiftLeft i j) cells ws h = (h.0, h.1)
below (ShiftRight i j) cells ws h = (h.0, h.1)
below (ShiftSigned i j) cells ws h = (h.0, h.1)
below (Equal i j) cells ws h = (h.0, h.1)
below (Less i j) cells ws h = (h.0, h.1)
below (LessSigned i j) cells ws h = (h.0, h.1)
below (Select i j k) cells ws h = (h.0, h.2.0, h.2.1)
below (ZeroExtend w i) cells ws h = h.0
below (SignExtend w i) cells ws h = h.0
below (Truncate w i) cells ws h = h.0
below (Bit n i) cells ws h = h.0

same : (u : Term) → renamed itself u ≡ u
same (Constant w v) = refl
same (Cell c) = refl
same (Element first n i) = refl
same (Add i j) = refl
same (Subtract i j) = refl
same (Multiply i j) = refl
same (Divide i j) = refl
same (Remainder i j) = refl
same (And i j) = refl
same (Or i j) = refl
same (Xor i j) = refl
same (Not i) = refl
same (ShiftLeft i j) = refl
same (ShiftRight i j) = refl
same (ShiftSigned i j) = refl
same (Equal i j) = refl
same (Less i j) = refl
same (LessSigned i j) = refl
same (Select i j k) = refl
same (ZeroExtend w i) = refl
same (SignExtend w i) = refl
same (Truncate w i) = refl
same (Bit n i) = refl

-- what a term gives over a table it gives over one that grew from it
stays : (a b : Table) (s : List ℕ) (u : Term) (w x : ℕ) → Extends a b → Gives a s u w x → (width_in b.cells (widths b) u ≡ w) × (value_in s (widths b) (values b s) u ≡ x)
stays a b s u w x g h =
    let low : OnOperands (λ i. i.0 < length (widths a)) u = below u a.cells (widths a) h.fits in
    let wide : OnOperands (Follows itself (widths a) (widths b)) u =
    onto (λ i. i.0 < length (widths a)) (Follows itself (widths a) (widths b)) u (λ i l.
    let lt : i.0 < length a.terms = omega (arith, l, many a) in
    record {
      there = omega (arith, lt, many b, ap length g.1.1, length-append a.terms g.1.0);
      same = widths_stay a b i g lt;
    }) low in
    let seen : OnOperands (λ i. slice_index (values b s) i.0 ≡ slice_index (values a s) i.0) u =
    onto (λ i. i.0 < length (widths a)) (λ i. slice_index (values b s) i.0 ≡ slice_index (values a s) i.0) u (λ i l. values_stay a b s i g (omega (arith, l, many a))) low in
    let wa : width_in a.cells (widths b) (renamed itself u) ≡ width_in a.cells (widths a) u = renaming.width itself a.cells (widths a) (widths b) u wide in
    let va : value_in s (widths b) (values b s) (renamed itself u) ≡ value_in s (widths a) (values a s) u = renaming.value itself s (widths a) (widths b) (values a s) (values b s) u wide seen in (
      ap (λ (cs : List ℕ). width_in cs (widths b) u) g.0 ∙ ap (width_in a.cells (widths b)) (sym (same u)) ∙ wa ∙ h.width,
      ap (value_in s (widths b) (values b s)) (sym (same u)) ∙ va ∙ h.told,
    )

pub put-shows : (r : Result TermId Memory) (a b : Words) (u : Term) (s : List ℕ) (w x : ℕ) → IsTable b.terms → Grows a b → IfOk r (λ t. slice_get b.terms.terms t.0 ≡ Some u) → Gives a.terms s u w x → IfOk r (λ t. Puts a b s t w x)
put-shows (Err e) a b u s w x is g named h = tt
put-shows (Ok t) a b u s w x is g named h =
    let m = made b.terms s t u is named in
    let k = stays a.terms b.terms s u w x g.extends h in
    record { grows = g; shows = record { there = m.there; width = m.width ∙ k.0; told = m.value ∙ k.1 } }

-- ---- One call after another

pub none : (a : Words) (s : List ℕ) (t : TermId) (w x : ℕ) → Shows a.terms s t w x → Puts a a s t w x
none a s t w x h = record { grows = grows-none a; shows = h }

pub after : (r : Result TermId Memory) (a b c : Words) (s : List ℕ) (w x : ℕ) → Grows a b → IfOk r (λ t. Puts b c s t w x) → IfOk r (λ t. Puts a c s t w x)
after (Err e) a b c s w x g h = tt
after (Ok t) a b c s w x g h = record { grows = grows-twice a b c g h.grows; shows = h.shows }

-- the same value by an equation
pub equals : (r : Result TermId Memory) (a b : Words) (s : List ℕ) (w x y : ℕ) → x ≡ y → IfOk r (λ t. Puts a b s t w x) → IfOk r (λ t. Puts a b s t w y)
equals r a b s w x y e h = subst (λ (z : ℕ). IfOk r (λ t. Puts a b s t w z)) e h

pub wide : (r : Result TermId Memory) (a b : Words) (s : List ℕ) (v w x : ℕ) → v ≡ w → IfOk r (λ t. Puts a b s t v x) → IfOk r (λ t. Puts a b s t w x)
wide r a b s v w x e h = subst (λ (z : ℕ). IfOk r (λ t. Puts a b s t z x)) e h

pub recast : (a b : Words) (s : List ℕ) (t : TermId) (w x y : ℕ) → Puts a b s t w x → x ≡ y → Puts a b s t w y
recast a b s t w x y h e = subst (λ (z : ℕ). Puts a b s t w z) e h

-- ---- What terms give

two : (g : ℕ → ℕ → ℕ) (a b c d : ℕ) → a ≡ b → c ≡ d → g a c ≡ g b d
two g a b c d p q = ap (λ x. g x c) p ∙ ap (g b) q

three : (g : ℕ → ℕ → ℕ → ℕ) (a b c d x y : ℕ) → a ≡ b → c ≡ d → x ≡ y → g a c x ≡ g b d y
three g a b c d x y p q r = ap (λ z. g z c x) p ∙ two (g b) c d x y q r

is-there : (T : Table) (s : List ℕ) (t : TermId) (w x : ℕ) → Shows T s t w x → t.0 < length (widths T)
is-there T s t w x h = omega (arith, h.there, many T)

alike : (T : Table) (s : List ℕ) (i j : TermId) (w a b : ℕ) → Shows T s i w a → Shows T s j w b → AreAlike (widths T) i j
alike T s i j w a b h g = (is-there T s i w a h, is-there T s j w b g, h.width ∙ sym g.width)

pub gives-constant : (T : Table) (s : List ℕ) (v w x y : ℕ) → v ≡ w → x ≡ y → 1 ≤ w → w ≤ 128 → y < 2 ^ w → Gives T s (Constant v x) w y
gives-constant T s v w x y e f low high lt = record {
  fits = ((omega (arith, e, low), omega (arith, e, high)), subst (λ (z : ℕ). x < 2 ^ z) (sym e) (subst (λ (z : ℕ). z < 2 ^ w) (sym f) lt));
  width = e;
  told = f;
}

pub gives-cell : (T : Table) (s : List ℕ) (c : ℕ) → c < length T.cells → Gives T s (Cell c) (slice_index T.cells c) (slice_index s c)
gives-cell T s c lt = record { fits = lt; width = refl; told = refl }

pub gives-not : (T : Table) (s : List ℕ) (i : TermId) (w a : ℕ) → Shows T s i w a → Gives T s (Not i) w (complement_in w a)
gives-not T s i w a h = record { fits = is-there T s i w a h; width = h.width; told = two complement_in _ _ _ _ h.width h.told }

pub gives-add : (T : Table) (s : List ℕ) (i j : TermId) (w a b : ℕ) → Shows T s i w a → Shows T s j w b → Gives T s (Add i j) w (sum_in w a b)
gives-add T s i j w a b h g = record { fits = alike T s i j w a b h g; width = h.width; told = three sum_in _ _ _ _ _ _ h.width h.told g.told }

pub gives-subtract : (T : Table) (s : List ℕ) (i j : TermId) (w a b : ℕ) → Shows T s i w a → Shows T s j w b → Gives T s (Subtract i j) w (difference_in w a b)
gives-subtract T s i j w a b h g = record { fits = alike T s i j w a b h g; width = h.width; told = three difference_in _ _ _ _ _ _ h.width h.told g.told }

pub gives-multiply : (T : Table) (s : List ℕ) (i j : TermId) (w a b : ℕ) → Shows T s i w a → Shows T s j w b → Gives T s (Multiply i j) w (product_in w a b)
gives-multiply T s i j w a b h g = record { fits = alike T s i j w a b h g; width = h.width; told = three product_in _ _ _ _ _ _ h.width h.told g.told }

pub gives-shift_left : (T : Table) (s : List ℕ) (i j : TermId) (w a b : ℕ) → Shows T s i w a → Shows T s j w b → Gives T s (ShiftLeft i j) w (left_in w a b)
gives-shift_left T s i j w a b h g = record { fits = alike T s i j w a b h g; width = h.width; told = three left_in _ _ _ _ _ _ h.width h.told g.told }

pub gives-shift_right : (T : Table) (s : List ℕ) (i j : TermId) (w a b : ℕ) → Shows T s i w a → Shows T s j w b → Gives T s (ShiftRight i j) w (right_in w a b)
gives-shift_right T s i j w a b h g = record { fits = alike T s i j w a b h g; width = h.width; told = three right_in _ _ _ _ _ _ h.width h.told g.told }

pub gives-shift_signed : (T : Table) (s : List ℕ) (i j : TermId) (w a b : ℕ) → Shows T s i w a → Shows T s j w b → Gives T s (ShiftSigned i j) w (signed_right_in w a b)
gives-shift_signed T s i j w a b h g = record { fits = alike T s i j w a b h g; width = h.width; told = three signed_right_in _ _ _ _ _ _ h.width h.told g.told }

pub gives-divide : (T : Table) (s : List ℕ) (i j : TermId) (w a b : ℕ) → Shows T s i w a → Shows T s j w b → Gives T s (Divide i j) w (quotient_of a b)
gives-divide T s i j w a b h g = record { fits = alike T s i j w a b h g; width = h.width; told = two quotient_of _ _ _ _ h.told g.told }

pub gives-remainder : (T : Table) (s : List ℕ) (i j : TermId) (w a b : ℕ) → Shows T s i w a → Shows T s j w b → Gives T s (Remainder i j) w (remainder_of a b)
gives-remainder T s i j w a b h g = record { fits = alike T s i j w a b h g; width = h.width; told = two remainder_of _ _ _ _ h.told g.told }

pub gives-both : (T : Table) (s : List ℕ) (i j : TermId) (w a b : ℕ) → Shows T s i w a → Shows T s j w b → Gives T s (And i j) w (bit_and a b)
gives-both T s i j w a b h g = record { fits = alike T s i j w a b h g; width = h.width; told = two bit_and _ _ _ _ h.told g.told }

pub gives-either : (T : Table) (s : List ℕ) (i j : TermId) (w a b : ℕ) → Shows T s i w a → Shows T s j w b → Gives T s (Or i j) w (bit_or a b)
gives-either T s i j w a b h g = record { fits = alike T s i j w a b h g; width = h.width; told = two bit_or _ _ _ _ h.told g.told }

pub gives-differ : (T : Table) (s : List ℕ) (i j : TermId) (w a b : ℕ) → Shows T s i w a → Shows T s j w b → Gives T s (Xor i j) w (bit_xor a b)
gives-differ T s i j w a b h g = record { fits = alike T s i j w a b h g; width = h.width; told = two bit_xor _ _ _ _ h.told g.told }

pub gives-equal : (T : Table) (s : List ℕ) (i j : TermId) (w a b : ℕ) → Shows T s i w a → Shows T s j w b → Gives T s (Equal i j) 1 (truth (a == b))
gives-equal T s i j w a b h g = record { fits = alike T s i j w a b h g; width = refl; told = two (λ (x y : ℕ). truth (x == y)) _ _ _ _ h.told g.told }

pub gives-less : (T : Table) (s : List ℕ) (i j : TermId) (w a b : ℕ) → Shows T s i w a → Shows T s j w b → Gives T s (Less i j) 1 (truth (nat_lt a b))
gives-less T s i j w a b h g = record { fits = alike T s i j w a b h g; width = refl; told = two (λ (x y : ℕ). truth (nat_lt x y)) _ _ _ _ h.told g.told }

pub gives-less_signed : (T : Table) (s : List ℕ) (i j : TermId) (w a b : ℕ) → Shows T s i w a → Shows T s j w b → Gives T s (LessSigned i j) 1 (truth (nat_lt (raised w a) (raised w b)))
gives-less_signed T s i j w a b h g = record { fits = alike T s i j w a b h g; width = refl; told = three (λ (z x y : ℕ). truth (nat_lt (raised z x) (raised z y))) _ _ _ _ _ _ h.width h.told g.told }

pub gives-choose : (T : Table) (s : List ℕ) (i j k : TermId) (w c a b : ℕ) → Shows T s i 1 c → Shows T s j w a → Shows T s k w b → Gives T s (Select i j k) w (if c == 1 then a else b)
gives-choose T s i j k w c a b h f g = record {
  fits = (is-there T s i 1 c h, h.width, alike T s j k w a b f g);
  width = f.width;
  told = three (λ (z x y : ℕ). if z == 1 then x else y) _ _ _ _ _ _ h.told f.told g.told;
}

pub gives-extend_zero : (T : Table) (s : List ℕ) (i : TermId) (u v w a : ℕ) → u ≡ v → IsWidth v → w ≤ v → Shows T s i w a → Gives T s (ZeroExtend u i) v a
gives-extend_zero T s i u v w a e is le h = record {
  fits = (is-there T s i w a h, (omega (arith, e, is.0), omega (arith, e, is.1)), omega (arith, h.width, le, e));
  width = e;
  told = h.told;
}

pub gives-extend_sign : (T : Table) (s : List ℕ) (i : TermId) (u v w a : ℕ) → u ≡ v → IsWidth v → w ≤ v → Shows T s i w a → Gives T s (SignExtend u i) v (sign_extended w v a)
gives-extend_sign T s i u v w a e is le h = record {
  fits = (is-there T s i w a h, (omega (arith, e, is.0), omega (arith, e, is.1)), omega (arith, h.width, le, e));
  width = e;
  told = three sign_extended _ _ _ _ _ _ h.width e h.told;
}

pub gives-truncate : (T : Table) (s : List ℕ) (i : TermId) (u v w a : ℕ) → u ≡ v → IsWidth v → v ≤ w → Shows T s i w a → Gives T s (Truncate u i) v (a % 2 ^ v)
gives-truncate T s i u v w a e is le h = record {
  fits = (is-there T s i w a h, (omega (arith, e, is.0), omega (arith, e, is.1)), omega (arith, h.width, le, e));
  width = e;
  told = two (λ (x y : ℕ). x % 2 ^ y) _ _ _ _ h.told e;
}

pub gives-top : (T : Table) (s : List ℕ) (i : TermId) (k u w a : ℕ) → k ≡ u - 1 → u ≡ w → 1 ≤ w → Shows T s i w a → Gives T s (Bit k i) 1 (bit_of (w - 1) a)
gives-top T s i k u w a f e le h = record {
  fits = (is-there T s i w a h, omega (arith, h.width, le, e, f));
  width = refl;
  told = two bit_of _ _ _ _ (f ∙ ap (λ (x : ℕ). x - 1) e) h.told;
}

pub slot-width : IsWidth 64
slot-width = (omega arith, omega arith)
