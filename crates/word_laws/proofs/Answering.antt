-- What C's operation and its term answer, together.
use Rattle.std.proofs.Common.{◌≡◌, ℕ, zero, suc, ◌+◌, ◌-◌, ◌<◌, ◌≤◌, ◌^◌, ◌%◌, ◌==◌, ◌&&◌, ◌⊎◌, inl, inr, refl, sym, ap, ◌∙◌, subst, arith, Bool, true, false, not, if◌then◌else◌, nat_lt, nat_le, lt-ltb, le-ltb, le-leb, pow_mono, List, [], ◌∷◌, Some, None, Result, Ok, Err, ℤ, pos, negsuc, ◌≤ℤ◌}
use Rattle.std.specs.Prelude.{◌<ℤ◌, int_le, int_lt}
use Rattle.std.proofs.Math.Nat.{mod-eq_of_lt, two-pow-succ}
use Rattle.std.proofs.lemmas.Int.{ints}
use Rattle.std.proofs.lemmas.Bool.{lt-leb, cases_lt}
use Rattle.lv_base.specs.declared.kind.Kind.{Kind}
use Rattle.lv_base.specs.declared.kind.Model.{Model}
use Rattle.lv_base.specs.declared.fault.ErrorKind.{ErrorKind}
use Rattle.lv_base.specs.Integers as int
use Rattle.lv_base.specs.Integers.{width_of, is_signed, is_promoted, residue, signed_of, wrapped, converted, held, is_in_range, InAny, is_amount}
use Rattle.bv_term.specs.Numbers.{truth, complement_in, sign_extended}
use Rattle.c_terms.specs.Numbers.{narrowed, widened}
use Rattle.c_terms.specs.Operations.{Failure, failure}
use Rattle.word_laws.specs.Laws.{slot, first_met}
use Rattle.word_laws.proofs.Residues.{residue_below, low, extended}
use Rattle.word_laws.proofs.Sums.{Fits, within, below, above}
use Rattle.word_laws.proofs.Wrapping.{width_some, width_most, converted_promoted, wrapped_signed, wrapped_unsigned}

-- ---- Slots

pub narrow_slot : (kind : Kind) (model : Model) (a : ℤ) → narrowed kind model (slot a) ≡ residue (width_of kind model) a
narrow_slot kind model a = go (cases_lt (width_of kind model) 64)
  where
    go : (width_of kind model < 64) ⊎ (64 ≤ width_of kind model) → narrowed kind model (slot a) ≡ residue (width_of kind model) a
    go (inl h) = ap (λ (b : Bool). if b then slot a % 2 ^ width_of kind model else slot a) (lt-ltb (width_of kind model) 64 h) ∙ low (width_of kind model) a (width_most kind model)
    go (inr h) =
        let e : 64 ≡ width_of kind model = omega (arith, h, width_most kind model) in
        ap (λ (b : Bool). if b then slot a % 2 ^ width_of kind model else slot a) (le-ltb (width_of kind model) 64 h) ∙ ap (λ (n : ℕ). residue n a) e

-- of 64 bits nothing is added
whole : (x : ℕ) → sign_extended 64 64 x ≡ x
whole x = go (cases_lt x (2 ^ 63))
  where
    go : (x < 2 ^ 63) ⊎ (2 ^ 63 ≤ x) → sign_extended 64 64 x ≡ x
    go (inl h) = ap (λ (b : Bool). if b then x + (2 ^ 64 - 2 ^ 64) else x) (lt-leb (2 ^ 63) x h)
    go (inr h) = ap (λ (b : Bool). if b then x + (2 ^ 64 - 2 ^ 64) else x) (le-leb (2 ^ 63) x h) ∙ omega arith

widen_signed : (kind : Kind) (model : Model) (x : ℕ) → is_signed kind ≡ true → widened kind model x ≡ sign_extended (width_of kind model) 64 x
widen_signed kind model x e = go (cases_lt (width_of kind model) 64)
  where
    go : (width_of kind model < 64) ⊎ (64 ≤ width_of kind model) → widened kind model x ≡ sign_extended (width_of kind model) 64 x
    go (inl h) =
        ap (λ (b : Bool). if b then x else if is_signed kind then sign_extended (width_of kind model) 64 x else x) (lt-leb 64 (width_of kind model) h)
        ∙ ap (λ (b : Bool). if b then sign_extended (width_of kind model) 64 x else x) e
    go (inr h) =
        let s : 64 ≡ width_of kind model = omega (arith, h, width_most kind model) in
        ap (λ (b : Bool). if b then x else if is_signed kind then sign_extended (width_of kind model) 64 x else x) (le-leb 64 (width_of kind model) h)
        ∙ sym (whole x) ∙ ap (λ (n : ℕ). sign_extended n 64 x) s

widen_unsigned : (kind : Kind) (model : Model) (x : ℕ) → is_signed kind ≡ false → widened kind model x ≡ x
widen_unsigned kind model x e = go (nat_le 64 (width_of kind model)) refl
  where
    go : (b : Bool) → nat_le 64 (width_of kind model) ≡ b → widened kind model x ≡ x
    go true h = ap (λ (b : Bool). if b then x else if is_signed kind then sign_extended (width_of kind model) 64 x else x) h
    go false h =
        ap (λ (b : Bool). if b then x else if is_signed kind then sign_extended (width_of kind model) 64 x else x) h
        ∙ ap (λ (b : Bool). if b then sign_extended (width_of kind model) 64 x else x) e

small : (w x : ℕ) → w ≤ 64 → x < 2 ^ w → x < 2 ^ 64
small w x le lt = let m : 2 ^ w ≤ 2 ^ 64 = pow_mono le in omega (arith, lt, m)

pub widen_slot : (kind : Kind) (model : Model) (x : ℕ) → x < 2 ^ width_of kind model → widened kind model x ≡ slot (wrapped kind model x)
widen_slot kind model x lt = go (is_signed kind) refl
  where
    go : (b : Bool) → is_signed kind ≡ b → widened kind model x ≡ slot (wrapped kind model x)
    go true e = widen_signed kind model x e ∙ sym (extended (width_of kind model) x (width_some kind model) (width_most kind model) lt) ∙ ap slot (sym (wrapped_signed kind model x e))
    go false e = widen_unsigned kind model x e ∙ sym (mod-eq_of_lt (small (width_of kind model) x (width_most kind model) lt)) ∙ ap slot (sym (wrapped_unsigned kind model x e))

-- ---- Answers

-- either both have a result, and no test is 1, or both have an error
pub data Answer (r : Result ℤ ErrorKind) (word : ℕ) (fs : List Failure) : Type 0 where
  answered : (v : ℤ) → r ≡ Ok v → word ≡ slot v → first_met fs ≡ None → Answer r word fs
  failed : (e : ErrorKind) → r ≡ Err e → first_met fs ≡ Some e → Answer r word fs

pub answer-by : (r q : Result ℤ ErrorKind) (m n : ℕ) (fs gs : List Failure) → r ≡ q → m ≡ n → fs ≡ gs → Answer q n gs → Answer r m fs
answer-by r q m n fs gs a b c h =
    subst (λ (x : Result ℤ ErrorKind). Answer x m fs) (sym a) (subst (λ (x : ℕ). Answer q x fs) (sym b) (subst (λ (x : List Failure). Answer q n x) (sym c) h))

pub le_true : (a b : ℤ) → a ≤ℤ b → int_le a b ≡ true
le_true a b h = go (int_le a b) refl
  where
    go : (p : Bool) → p ≡ int_le a b → int_le a b ≡ true
    go true e = sym e
    go false e = grind (arith, ints)

pub le_false : (a b : ℤ) → b <ℤ a → int_le a b ≡ false
le_false a b h = go (int_le a b) refl
  where
    go : (p : Bool) → p ≡ int_le a b → int_le a b ≡ false
    go false e = sym e
    go true e = grind (arith, ints)

least_signed : (kind : Kind) (model : Model) → is_signed kind ≡ true → int.least_of kind model ≡ negsuc (2 ^ (width_of kind model - 1) - 1)
least_signed kind model e = ap (λ (b : Bool). if b then negsuc (2 ^ (width_of kind model - 1) - 1) else pos 0) e

greatest_signed : (kind : Kind) (model : Model) → is_signed kind ≡ true → int.greatest_of kind model ≡ pos (2 ^ (width_of kind model - 1) - 1)
greatest_signed kind model e = ap (λ (b : Bool). if b then pos (2 ^ (width_of kind model - 1) - 1) else pos (2 ^ width_of kind model - 1)) e

range_is : (kind : Kind) (model : Model) (z : ℤ) → is_signed kind ≡ true
    → is_in_range kind model z ≡ (int_le (negsuc (2 ^ (width_of kind model - 1) - 1)) z && int_le z (pos (2 ^ (width_of kind model - 1) - 1)))
range_is kind model z e = ap (λ (l : ℤ). int_le l z && int_le z (int.greatest_of kind model)) (least_signed kind model e)
    ∙ ap (λ (g : ℤ). int_le (negsuc (2 ^ (width_of kind model - 1) - 1)) z && int_le z g) (greatest_signed kind model e)

both_is : (p q a b : Bool) → p ≡ a → q ≡ b → (p && q) ≡ (a && b)
both_is p q a b e f = ap (λ z. z && q) e ∙ ap (λ z. a && z) f

-- an exact result in a signed kind, and its test
pub held_answer : (kind : Kind) (model : Model) (error : ErrorKind) (z : ℤ) (r t : ℕ) → is_signed kind ≡ true → r < 2 ^ width_of kind model → Fits (width_of kind model) z r t
    → Answer (held kind model error z) (widened kind model r) (failure error t ∷ [])
held_answer kind model error z r t signed lr (within l h v e) =
    let test : is_in_range kind model z ≡ true = range_is kind model z signed ∙ both_is _ _ true true (le_true _ _ l) (le_true _ _ h) in
    answered z (ap (λ (b : Bool). if b then Ok z else Err error) test)
    (widen_slot kind model r lr ∙ ap slot (wrapped_signed kind model r signed ∙ sym v)) (ap (λ (n : ℕ). if n == 1 then Some error else None) e)
held_answer kind model error z r t signed lr (below l e) =
    let test : is_in_range kind model z ≡ false = range_is kind model z signed ∙ ap (λ b. b && int_le z (pos (2 ^ (width_of kind model - 1) - 1))) (le_false _ _ l) in
    failed error (ap (λ (b : Bool). if b then Ok z else Err error) test) (ap (λ (n : ℕ). if n == 1 then Some error else None) e)
held_answer kind model error z r t signed lr (above h e) =
    let test : is_in_range kind model z ≡ false = range_is kind model z signed ∙ right (int_le (negsuc (2 ^ (width_of kind model - 1) - 1)) z) _ (le_false _ _ h) in
    failed error (ap (λ (b : Bool). if b then Ok z else Err error) test) (ap (λ (n : ℕ). if n == 1 then Some error else None) e)
  where
    right : (p q : Bool) → q ≡ false → (p && q) ≡ false
    right true q e = e
    right false q e = refl

-- a result that is wrapped
pub wrapped_answer : (kind : Kind) (model : Model) (r : ℕ) → r < 2 ^ width_of kind model → Answer (Ok (wrapped kind model r)) (widened kind model r) []
wrapped_answer kind model r lr = answered (wrapped kind model r) refl (widen_slot kind model r lr) refl

pub converted_answer : (kind : Kind) (model : Model) (z : ℤ) (r : ℕ) → is_promoted kind ≡ true → residue (width_of kind model) z ≡ r → Answer (Ok (converted kind model z)) (widened kind model r) []
converted_answer kind model z r promoted e =
    answer-by _ _ _ _ [] [] (ap Ok (converted_promoted kind model z promoted)) (ap (widened kind model) (sym e)) refl
    (wrapped_answer kind model (residue (width_of kind model) z) (residue_below (width_of kind model) z))

-- a truth
pub truth_answer : (p : Bool) → Answer (Ok (int.truth p)) (truth p) []
truth_answer true = answered (pos 1) refl refl refl
truth_answer false = answered (pos 0) refl refl refl

pub turned_truth : (p : Bool) → complement_in 1 (truth p) ≡ truth (not p)
turned_truth true = refl
turned_truth false = refl

-- ---- Amounts of shifts

pub data Amount (w : ℕ) (b : ℤ) : Type 0 where
  near : (k : ℕ) → k < w → b ≡ pos k → Amount w b
  far : ((int_le (pos 0) b && int_lt b (pos w)) ≡ false) → w ≤ slot b → Amount w b

pub amount : (w : ℕ) (b : ℤ) → w ≤ 64 → InAny b → Amount w b
amount w (pos n) le h = go (cases_lt n w)
  where
    go : (n < w) ⊎ (w ≤ n) → Amount w (pos n)
    go (inl lt) = near n lt refl
    go (inr ge) =
        let s : n % 2 ^ 64 ≡ n = mod-eq_of_lt (omega (arith, ints, h.1)) in
        far (ap (λ b. b && nat_lt n w) (le-leb 0 n (omega arith)) ∙ le-ltb n w ge) (omega (arith, s, ge))
amount w (negsuc n) le h =
    let s : n % 2 ^ 64 ≡ n = mod-eq_of_lt (omega (arith, ints, h.0)) in
    far refl (omega (arith, ints, s, h.0, le))

pub below_power : (n : ℕ) → n < 2 ^ n
below_power zero = omega arith
below_power (suc n) = omega (arith, below_power n, two-pow-succ n)
