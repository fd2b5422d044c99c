-- What an assignment spells at a cut, bit by bit.
use Rattle.std.proofs.Common.{◌≡◌, ℕ, ◌^◌, ◌<◌, ◌==◌, Bool, List, [], ◌∷◌, length, All, Some, slice_get, slice_index, zero, suc, refl, sym, subst}
use Rattle.std.proofs.lemmas.Option.{get_or_from_slice_get, slice_get_within}
use Rattle.prop.specs.Logic.{lit_value}
use Rattle.bit_gates.specs.Net.{number}
use Rattle.bit_gates.proofs.AddLaws.{number-lt}
use Rattle.bv_term.specs.Numbers.{bit_of}
use Rattle.bv_term.specs.Values.{IsStore}
use Rattle.formula_diagrams.specs.Truths.{is_set}
use Rattle.path_query.specs.declared.query.Bundle.{Bundle}
use Rattle.path_query.specs.Facts.{IsBundle}
use Rattle.interpolants.specs.declared.items.Placed.{Placed}
use Rattle.interpolants.specs.Laws.{Gives}
use Rattle.interpolants.specs.Placings.{bit_with, bits_of}
use Rattle.interpolants.proofs.Rows.{of-in, of-out}
use Rattle.path_laws.specs.Steps.{Spells}
use Rattle.path_laws.proofs.Spelling.{numbers_are_bits}

pub at-all : {A : Type 0} (P : A → Type 0) (xs : List A) (k : ℕ) (a : A) → All P xs → slice_get xs k ≡ Some a → P a
at-all P xs k a all g = subst P (get_or_from_slice_get xs k a a g) (all k a (slice_get_within xs k a g))

spelled-at : (v : ℕ → Bool) (store : List ℕ) (bs : List Bundle) (k : ℕ) (b : Bundle) → Spells v store bs → slice_get bs k ≡ Some b
    → number v b.bits ≡ slice_index store b.cell
spelled-at v store [] k b s g = absurd cc
spelled-at v store (c ∷ bs) zero b s g =
    let e : c ≡ b = cc in subst (λ (x : Bundle). number v x.bits ≡ slice_index store x.cell) e s.0
spelled-at v store (c ∷ bs) (suc k) b s g = spelled-at v store bs k b s.1 g

spells-each : (v : ℕ → Bool) (store : List ℕ) (bs : List Bundle)
    → ((k : ℕ) (b : Bundle) → slice_get bs k ≡ Some b → number v b.bits ≡ slice_index store b.cell) → Spells v store bs
spells-each v store [] f = tt
spells-each v store (b ∷ bs) f = (f 0 b refl, spells-each v store bs (λ k c g. f (suc k) c g))

-- where an assignment spells a store at a cut, each bit has its value in the store
pub spelled-gives : (v : ℕ → Bool) (store : List ℕ) (bs : List Bundle) → Spells v store bs → Gives v (bits_of bs) store
unfolding is_set
spelled-gives v store bs s k p g =
    let (j, i, b, l, at, gl, e) = of-out bs p (k, g) in
    let n : number v b.bits ≡ slice_index store b.cell = spelled-at v store bs j b s at in
    let lt : slice_index store b.cell < 2 ^ length b.bits = subst (λ (x : ℕ). x < 2 ^ length b.bits) n (number-lt v b.bits) in
    let r : lit_value v l ≡ (bit_of i (slice_index store b.cell) == 1) = (numbers_are_bits v b.bits (slice_index store b.cell) lt).0 n i l gl in
    subst (λ (x : Placed). lit_value v x.lit ≡ (bit_of x.bit.bit (slice_index store x.bit.cell) == 1)) e r

-- and the other way
pub gives-spelled : (cells : List ℕ) (v : ℕ → Bool) (store : List ℕ) (bs : List Bundle) → IsStore cells store → All (IsBundle cells) bs
    → Gives v (bits_of bs) store → Spells v store bs
unfolding is_set
gives-spelled cells v store bs fits all gives = spells-each v store bs each
  where
    each : (k : ℕ) (b : Bundle) → slice_get bs k ≡ Some b → number v b.bits ≡ slice_index store b.cell
    each k b g =
        let is : IsBundle cells b = at-all (IsBundle cells) bs k b all g in
        let lt : slice_index store b.cell < 2 ^ length b.bits =
        subst (λ (w : ℕ). slice_index store b.cell < 2 ^ w) (sym is.1) (fits b.cell is.0) in
        (numbers_are_bits v b.bits (slice_index store b.cell) lt).1 (λ i l gl.
        let r = of-in bs k i b l g gl in
        gives r.0 (bit_with b.cell i l) r.1)
