-- Literals that spell a number, bit by bit.
use Rattle.std.proofs.Common.{◌≡◌, ℕ, ℤ, ◌+◌, ◌*◌, ◌/◌, ◌%◌, ◌^◌, ◌<◌, ◌==◌, Bool, true, false, not, cond, List, [], ◌∷◌, length, refl, sym, ap, ◌∙◌, subst, zero, suc, arith, slice_get, Some, eq-eqb}
use Rattle.std.proofs.Math.Nat.{pow-succ'}
use Rattle.std.proofs.lemmas.Bool.{false≢true, eqb-true, ne_eqb}
use Rattle.std.proofs.lemmas.Nat.{shr-shr}
use Rattle.prop.specs.declared.Lit.{Lit}
use Rattle.prop.specs.Logic.{lit_value}
use Rattle.bit_gates.specs.Net.{bit, number}
use Rattle.bit_words.specs.Folding.{standing}
use Rattle.bv_term.specs.Numbers.{bit_of}
use Rattle.blast_laws.proofs.Words.{standing-number}
use Rattle.path_query.specs.declared.query.Bundle.{Bundle}
use Rattle.obligation_laws.specs.Draws.{AreDrawn}
use Rattle.path_laws.specs.Steps.{HasVariable, IsOf}
use Rattle.path_laws.specs.Laws.{NumbersAreBits}

literal_is : (l m : Lit) → Some l ≡ Some m → l ≡ m
literal_is l m e = cc

bundle_is : (b c : Bundle) → Some b ≡ Some c → b ≡ c
bundle_is b c e = cc

standing_is : (ls : List Lit) (k : ℕ) (l : Lit) → slice_get ls k ≡ Some l → (k < length ls) × (standing ls k ≡ l)
standing_is [] k l at = absurd cc
standing_is (m ∷ ls) zero l at = (omega arith, literal_is m l at)
standing_is (m ∷ ls) (suc k) l at = let r = standing_is ls k l at in (omega (arith, r.0), r.1)

-- a truth is that of its bit
bit_is : (b : Bool) (y : ℕ) → bit b ≡ y → b ≡ (y == 1)
bit_is true y e = sym (eq-eqb y 1 (sym e))
bit_is false y e = sym (ne_eqb y 1 (λ g. omega (arith, e, g)))

is_bit : (x : ℕ) → bit (x % 2 == 1) ≡ x % 2
is_bit x = low (x % 2 == 1) refl
  where
    low : (t : Bool) → (x % 2 == 1) ≡ t → bit t ≡ x % 2
    low true e = sym (eqb-true (x % 2) 1 e)
    low false e = let ne : x % 2 ≡ 1 → ⊥ = λ g. false≢true (sym e ∙ eq-eqb (x % 2) 1 g) in omega (arith, ne)

next_bit : (x k : ℕ) → bit_of (suc k) x ≡ bit_of k (x / 2)
next_bit x k =
    let e : 1 + k ≡ suc k = omega arith in
    ap (λ (t : ℕ). (x / 2 ^ t) % 2) (sym e) ∙ ap (λ (t : ℕ). t % 2) (sym (shr-shr x 1 k))

from_bits : (v : ℕ → Bool) (ls : List Lit) (x : ℕ) → x < 2 ^ length ls → ((k : ℕ) (l : Lit) → slice_get ls k ≡ Some l → lit_value v l ≡ (bit_of k x == 1)) → number v ls ≡ x
from_bits v [] x lt f = omega (arith, lt)
from_bits v (l ∷ ls) x lt f =
    let e : 2 ^ suc (length ls) ≡ 2 * 2 ^ length ls = pow-succ' 2 (length ls) in
    let q : x / 2 < 2 ^ length ls = omega (arith, e, lt) in
    let i = from_bits v ls (x / 2) q (λ k m at. f (suc k) m at ∙ ap (λ (y : ℕ). y == 1) (next_bit x k)) in
    let z : x / 2 ^ 0 ≡ x = omega arith in
    let b : bit (lit_value v l) ≡ x % 2 = ap bit (f 0 l refl ∙ ap (λ (y : ℕ). y % 2 == 1) z) ∙ is_bit x in
    omega (arith, i, b)

pub numbers_are_bits : NumbersAreBits
numbers_are_bits v ls x lt = (
  (λ e k l at.
      let s = standing_is ls k l at in
      ap (lit_value v) (sym s.1) ∙ bit_is (lit_value v (standing ls k)) (bit_of k x) (standing-number v k ls s.0 ∙ ap (bit_of k) e)),
  (λ f. from_bits v ls x lt f),
)

-- literals that spell one number under two assignments have the same values under both

parts_same : (a b : Bool) (n m : ℕ) → bit a + 2 * n ≡ bit b + 2 * m → (a ≡ b) × (n ≡ m)
parts_same true true n m e = (refl, omega (arith, e))
parts_same true false n m e = absurd (omega (arith, e))
parts_same false true n m e = absurd (omega (arith, e))
parts_same false false n m e = (refl, omega (arith, e))

sign_same : (p a b : Bool) → cond p a (not a) ≡ cond p b (not b) → b ≡ a
sign_same true a b e = sym e
sign_same false true true e = refl
sign_same false true false e = e
sign_same false false true e = e
sign_same false false false e = refl

value_same : (v w : ℕ → Bool) (ls : List Lit) (k : ℕ) (l : Lit) → number v ls ≡ number w ls → slice_get ls k ≡ Some l → w l.var ≡ v l.var
value_same v w [] k l e at = absurd cc
value_same v w (m ∷ ls) zero l e at =
    let p = parts_same (lit_value v m) (lit_value w m) (number v ls) (number w ls) e in
    subst (λ (t : Lit). w t.var ≡ v t.var) (literal_is m l at) (sign_same m.positive (v m.var) (w m.var) p.0)
value_same v w (m ∷ ls) (suc k) l e at =
    let p = parts_same (lit_value v m) (lit_value w m) (number v ls) (number w ls) e in
    value_same v w ls k l p.1 at

drawn_same : (ws : List ℕ) (v w : ℕ → Bool) (bs : List Bundle) (zs : List ℤ) (k x : ℕ) (b : Bundle) → AreDrawn ws v bs zs → AreDrawn ws w bs zs → slice_get bs k ≡ Some b → HasVariable b.bits x
    → w x ≡ v x
drawn_same ws v w [] zs k x b d e at h = absurd cc
drawn_same ws v w (c ∷ bs) [] k x b d e at h = absurd d
drawn_same ws v w (c ∷ bs) (z ∷ zs) zero x b d e at (j, l, there, is) =
    let there : slice_get c.bits j ≡ Some l = subst (λ (t : Bundle). slice_get t.bits j ≡ Some l) (sym (bundle_is c b at)) there in
    subst (λ (y : ℕ). w y ≡ v y) is (value_same v w c.bits j l (d.0 ∙ sym e.0) there)
drawn_same ws v w (c ∷ bs) (z ∷ zs) (suc k) x b d e at h = drawn_same ws v w bs zs k x b d.1 e.1 at h

-- the variables of draws have the same values where the same is drawn
pub draws_same : (ws : List ℕ) (v w : ℕ → Bool) (bs : List Bundle) (zs : List ℤ) (x : ℕ) → AreDrawn ws v bs zs → AreDrawn ws w bs zs → IsOf bs x → w x ≡ v x
draws_same ws v w bs zs x d e (k, b, at, h) = drawn_same ws v w bs zs k x b d e at h
