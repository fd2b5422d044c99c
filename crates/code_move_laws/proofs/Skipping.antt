-- The tests of skips.
use Rattle.std.proofs.Common.{◌≡◌, ℕ, ◌^◌, ◌%◌, refl, sym, ap, ◌∙◌, subst, arith, Bool, true, false, ◌&&◌, ◌==◌, ℤ, pos, negsuc, ◌≤ℤ◌}
use Rattle.std.specs.Prelude.{int_le}
use Rattle.std.proofs.lemmas.Int.{ints}
use Rattle.std.proofs.lemmas.Bool.{eqb-true, eq-eqb, ne_eqb}
use Rattle.lv_base.specs.declared.kind.Kind.{Kind}
use Rattle.lv_base.specs.declared.kind.Model.{Model}
use Rattle.lv_base.specs.Integers.{InRange, residue, width_of}
use Rattle.slot_code.specs.Slots.{get}
use Rattle.word_laws.proofs.Residues.{low}
use Rattle.word_laws.proofs.Orders.{eq_test}
use Rattle.word_laws.proofs.Wrapping.{width_most}
use Rattle.word_laws.proofs.Answering.{le_true}
use Rattle.bv_term.specs.Numbers.{truth}
use Rattle.c_terms.specs.Numbers.{nonzero}
use Rattle.code_move_laws.specs.Skips.{ZeroSkipsAgree, EqualSkipsAgree}
use Rattle.code_move_laws.proofs.Numbers.{nonzero_slot, residues_differ}
use Rattle.code_move_laws.proofs.Reaching.{slot-read}

pub zero-skips : ZeroSkipsAgree
zero-skips g slots values store slot h has = ap nonzero (slot-read g slots values store slot slot h has refl) ∙ nonzero_slot (get slots slot) (h.any slot)

int-equal : (a b : ℤ) → (int_le a b && int_le b a) ≡ true → a ≡ b
int-equal (pos m) (pos n) e = ap pos (eqb-true m n (sym (eq_test m n) ∙ e))
int-equal (pos m) (negsuc n) e = absurd cc
int-equal (negsuc m) (pos n) e = absurd cc
int-equal (negsuc m) (negsuc n) e = ap negsuc (sym (eqb-true n m (sym (eq_test n m) ∙ e)))

int-alike : (a b : ℤ) → a ≡ b → (int_le a b && int_le b a) ≡ true
int-alike a b e =
    let up : a ≤ℤ b = subst (λ (z : ℤ). a ≤ℤ z) e (omega (arith, ints)) in
    let down : b ≤ℤ a = subst (λ (z : ℤ). z ≤ℤ a) e (omega (arith, ints)) in
    ap (λ (p : Bool). p && int_le b a) (le_true a b up) ∙ le_true b a down

-- low bits that are alike
low-alike : (k : Kind) (model : Model) (a b : ℤ) → residue 64 a ≡ residue 64 b → residue (width_of k model) a ≡ residue (width_of k model) b
low-alike k model a b e = sym (low (width_of k model) a (width_most k model)) ∙ ap (λ (n : ℕ). n % 2 ^ width_of k model) e ∙ low (width_of k model) b (width_most k model)

-- of two values of one kind the equal ones have one residue
pub residues-tell : (k : Kind) (model : Model) (a b : ℤ) → InRange k model a → InRange k model b → (residue 64 a == residue 64 b) ≡ (int_le a b && int_le b a)
residues-tell k model a b ra rb = go (int_le a b && int_le b a) refl
  where
    go : (p : Bool) → (int_le a b && int_le b a) ≡ p → (residue 64 a == residue 64 b) ≡ p
    go true e = eq-eqb (residue 64 a) (residue 64 b) (ap (residue 64) (int-equal a b e))
    go false e =
        ne_eqb (residue 64 a) (residue 64 b)
        (λ same. let same_value : a ≡ b = residues_differ k model a b ra rb (low-alike k model a b same) in let bad : true ≡ false = sym (int-alike a b same_value) ∙ e in absurd cc)

pub equal-skips : EqualSkipsAgree
equal-skips g slots values store slot v h has = ap (λ (n : ℕ). truth (n == residue 64 v)) (slot-read g slots values store slot slot h has refl)
