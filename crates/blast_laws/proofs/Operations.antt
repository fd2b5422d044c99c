-- Where the definitions of a word are met, its literals spell the operation on the numbers that its operands spell.
use Rattle.std.proofs.Common.{◌≡◌, ℕ, ◌+◌, ◌-◌, ◌*◌, ◌/◌, ◌%◌, ◌^◌, ◌≤◌, ◌<◌, ◌↔◌, length, List, [], ◌∷◌, map, arith, ap, sym, ◌∙◌, refl, suc, zero, Bool, true, false, cond, subst, ltb, leb, nat_lt, ◌==◌, if◌then◌else◌, bit_and, bit_or, bit_xor}
use Rattle.std.specs.Prelude.{ℤ, pos, ◌-ℤ◌, ◌<ℤ◌}
use Rattle.std.proofs.Math.Nat.{pow-succ', add-mul-mod_self_left, mod-eq_of_lt, div-eq_of_lt, mul-mod_left}
use Rattle.std.proofs.lemmas.Nat.{div-mul-add, mod-mul-add, pow-add}
use Rattle.std.proofs.lemmas.Bool.{eqb-true, eq-eqb, ltb-true, ltb-false, lt-ltb, leb-true, leb-false, le-leb, false≢true}
use Rattle.std.proofs.lemmas.Int.{ints}
use Rattle.bv_term.proofs.Narrow.{power_le}
use Rattle.prop.specs.declared.Lit.{Lit}
use Rattle.prop.specs.Logic.{negated, lit_value, LitsBelow}
use Rattle.bit_gates.specs.declared.shifters.Shift.TheVariants.{Left, Logical, Arithmetic}
use Rattle.bit_gates.specs.Net.{Meets, Agree, bit, number}
use Rattle.bit_gates.specs.Sums.{ripple}
use Rattle.bit_gates.specs.Products.{Made, product_of}
use Rattle.bit_gates.specs.Quotients.{selected, quotient}
use Rattle.bit_gates.specs.Orders.{less_of, equal_of}
use Rattle.bit_gates.specs.Shifts.{shift_of, top_of}
use Rattle.bit_gates.specs.Laws.{signed_of, Divides, Orders, Equates, Shifts}
use Rattle.bit_gates.proofs.Nets.{lit-agree}
use Rattle.bit_gates.proofs.AddLaws.{number-lt, ripple-sum, ripple-length}
use Rattle.bit_gates.proofs.ProductLaws.{number-append, product_of-number}
use Rattle.bit_gates.proofs.DivideLaws.{negated-number, selected-number, quotient-law}
use Rattle.bit_gates.proofs.OrderLaws.{less_of-law, equal_of-law}
use Rattle.bit_gates.proofs.ShiftLaws.{shift_of-law}
use Rattle.bit_gates.proofs.Exacts.{ok_below}
use Rattle.bit_words.specs.Folding.{renamed, folded, folded_made}
use Rattle.bit_words.specs.Words.{copies_of, ands, xors}
use Rattle.bit_words.proofs.FoldLaws.{not-one}
use Rattle.bit_words.proofs.FoldingLaws.{folding_told}
use Rattle.bv_term.specs.Numbers.{sum_in, difference_in, product_in, quotient_of, remainder_of, complement_in, left_in, right_in, has_sign, signed_right_in, raised, truth, sign_extended}
use Rattle.bit_blast.specs.Gates.{add_word, subtract_word, divide_word, remainder_word, or_word, equal_word, less_word, extended_to}
use Rattle.bit_blast.specs.Emission.{AreWords}
use Rattle.blast_laws.proofs.Words.{if-cases, number-agree, number-mapped, number-one, ands-number, ors-number, xors-number, copies-ones, copies-zeros, top-number}
use Rattle.blast_laws.proofs.Owes.{Below, fits-zero, Owes, owes-grounded, add-owes, subtract-owes, multiply-owes, divide-owes, remainder-owes, ands-owes, xors-owes, or-owes, shift-owes, equal-owes, less-owes, selected-owes}

-- folded definitions say what the first ones say
pub unfolded : (v : ℕ → Bool) (one : Lit) (n : ℕ) (m : Made) → lit_value v one ≡ true → Owes Below n m → Meets v n (folded_made one n m).defs
    → (w : ℕ → Bool) × Agree n v w × Meets w n m.defs × ((l : Lit) → lit_value v (renamed n (folded one n n [] m.defs).subs l) ≡ lit_value w l)
unfolded v one n m h g x = folding_told v one n m h (owes-grounded n m g) x

pub outs-seen : (v w : ℕ → Bool) (one : Lit) (n : ℕ) (m : Made) → ((l : Lit) → lit_value v (renamed n (folded one n n [] m.defs).subs l) ≡ lit_value w l)
    → number v (folded_made one n m).outs ≡ number w m.outs
outs-seen v w one n m r = number-mapped v w (renamed n (folded one n n [] m.defs).subs) m.outs r

spread-mod : (x p q s : ℕ) → x < p → x + p * q ≡ s → x ≡ s % p
spread-mod x p q s lt e = sym (ap (λ (t : ℕ). t % p) (sym e) ∙ (add-mul-mod_self_left x p q ∙ mod-eq_of_lt lt))

pub sum-told : (v : ℕ → Bool) (one : Lit) (n : ℕ) (a b : List Lit) → lit_value v one ≡ true → one.var < n → LitsBelow n a → LitsBelow n b → AreWords a b
    → Meets v n (folded_made one n (add_word one n a b)).defs
    → number v (folded_made one n (add_word one n a b)).outs ≡ sum_in (length a) (number v a) (number v b)
sum-told v one n a b h o ha hb l x =
    let m = add_word one n a b in
    let (w, ag, y, r) = unfolded v one n m h (add-owes Below 0 fits-zero one n a b (omega arith) o (ok_below n a ha) (ok_below n b hb)) x in
    let ho : lit_value w (negated one) ≡ false = not-one w one (lit-agree n v w one ag o ∙ h) in
    let c = bit (lit_value w (ripple n a b (negated one)).carry) in
    let s : number w m.outs + 2 ^ length a * c ≡ number w a + number w b + bit (lit_value w (negated one)) = ripple-sum w n a b (negated one) l.1 y in
    let z : bit (lit_value w (negated one)) ≡ 0 = ap bit ho in
    let na = number-agree n v w a ag ha in
    let nb = number-agree n v w b ag hb in
    let lt : number w m.outs < 2 ^ length a = subst (λ (k : ℕ). number w m.outs < 2 ^ k) (ripple-length n a b (negated one) l.1) (number-lt w m.outs) in
    outs-seen v w one n m r ∙ spread-mod (number w m.outs) (2 ^ length a) c (number v a + number v b) lt (omega (arith, s, z, na, nb))

pub difference-told : (v : ℕ → Bool) (one : Lit) (n : ℕ) (a b : List Lit) → lit_value v one ≡ true → one.var < n → LitsBelow n a → LitsBelow n b → AreWords a b
    → Meets v n (folded_made one n (subtract_word one n a b)).defs
    → number v (folded_made one n (subtract_word one n a b)).outs ≡ difference_in (length a) (number v a) (number v b)
difference-told v one n a b h o ha hb l x =
    let m = subtract_word one n a b in
    let nb' = map negated b in
    let lb : length nb' ≡ length b = negated-length b in
    let lab : length a ≡ length nb' = l.1 ∙ sym lb in
    let (w, ag, y, r) = unfolded v one n m h (subtract-owes Below 0 fits-zero one n a b (omega arith) o (ok_below n a ha) (ok_below n b hb)) x in
    let ho : bit (lit_value w one) ≡ 1 = ap bit (lit-agree n v w one ag o ∙ h) in
    let c = bit (lit_value w (ripple n a nb' one).carry) in
    let s : number w m.outs + 2 ^ length a * c ≡ number w a + number w nb' + bit (lit_value w one) = ripple-sum w n a nb' one lab y in
    let k : number w nb' + number w b + 1 ≡ 2 ^ length a = negated-number w b ∙ ap (λ (t : ℕ). 2 ^ t) (sym l.1) in
    let na = number-agree n v w a ag ha in
    let nb = number-agree n v w b ag hb in
    let lt : number w m.outs < 2 ^ length a = subst (λ (k : ℕ). number w m.outs < 2 ^ k) (ripple-length n a nb' one lab) (number-lt w m.outs) in
    outs-seen v w one n m r ∙ spread-mod (number w m.outs) (2 ^ length a) c (number v a + (2 ^ length a - number v b)) lt (omega (arith, s, ho, k, na, nb))
  where
    negated-length : (xs : List Lit) → length (map negated xs) ≡ length xs
    negated-length [] = refl
    negated-length (x ∷ xs) = ap suc (negated-length xs)

pub product-told : (v : ℕ → Bool) (one : Lit) (n : ℕ) (a b : List Lit) → lit_value v one ≡ true → LitsBelow n a → LitsBelow n b → AreWords a b
    → Meets v n (folded_made one n (product_of n a b)).defs
    → number v (folded_made one n (product_of n a b)).outs ≡ product_in (length a) (number v a) (number v b)
product-told v one n a b h ha hb l x =
    let m = product_of n a b in
    let (w, ag, y, r) = unfolded v one n m h (multiply-owes Below 0 fits-zero n a b (omega arith) (ok_below n a ha) (ok_below n b hb)) x in
    outs-seen v w one n m r ∙ (product_of-number w n a b l.0 l.1 y
    ∙ (ap (λ (t : ℕ). (t * number w b) % 2 ^ length b) (number-agree n v w a ag ha)
    ∙ (ap (λ (t : ℕ). (number v a * t) % 2 ^ length b) (number-agree n v w b ag hb)
    ∙ ap (λ (t : ℕ). (number v a * number v b) % 2 ^ t) (sym l.1))))

quotient-is : (a b q r : ℕ) → (b ≡ 0 → q ≡ 0) → (0 < b → (a ≡ q * b + r) × (r < b)) → q ≡ quotient_of a b
quotient-is a b q r z f =
    if-cases {A = ℕ} (b == 0) 0 (a / b) (λ (t : ℕ). q ≡ t)
    (λ e. z (eqb-true b 0 e))
    (λ e.
    let ne : b ≡ 0 → ⊥ = λ g. false≢true (sym e ∙ eq-eqb b 0 g) in
    let g = f (omega (arith, ne)) in
    sym (ap (λ (t : ℕ). t / b) g.0 ∙ div-mul-add q b r g.1))

remainder-is : (a b q r : ℕ) → (b ≡ 0 → r ≡ 0) → (0 < b → (a ≡ q * b + r) × (r < b)) → r ≡ remainder_of a b
remainder-is a b q r z f =
    if-cases {A = ℕ} (b == 0) 0 (a % b) (λ (t : ℕ). r ≡ t)
    (λ e. z (eqb-true b 0 e))
    (λ e.
    let ne : b ≡ 0 → ⊥ = λ g. false≢true (sym e ∙ eq-eqb b 0 g) in
    let g = f (omega (arith, ne)) in
    sym (ap (λ (t : ℕ). t % b) g.0 ∙ mod-mul-add q b r g.1))

pub quotient-told : (v : ℕ → Bool) (one : Lit) (n : ℕ) (a b : List Lit) → lit_value v one ≡ true → LitsBelow n a → LitsBelow n b
    → Meets v n (folded_made one n (divide_word n a b)).defs
    → number v (folded_made one n (divide_word n a b)).outs ≡ quotient_of (number v a) (number v b)
quotient-told v one n a b h ha hb x =
    let m = divide_word n a b in
    let (w, ag, y, r) = unfolded v one n m h (divide-owes Below 0 fits-zero n a b (omega arith) (ok_below n a ha) (ok_below n b hb)) x in
    let g : Divides a b (quotient n a b).quot (quotient n a b).rest w = quotient-law w n a b y in
    outs-seen v w one n m r ∙ (quotient-is (number w a) (number w b) (number w (quotient n a b).quot) (number w (quotient n a b).rest) (λ e. (g.0 e).0) g.1
    ∙ (ap (λ (t : ℕ). quotient_of t (number w b)) (number-agree n v w a ag ha) ∙ ap (λ (t : ℕ). quotient_of (number v a) t) (number-agree n v w b ag hb)))

pub remainder-told : (v : ℕ → Bool) (one : Lit) (n : ℕ) (a b : List Lit) → lit_value v one ≡ true → LitsBelow n a → LitsBelow n b
    → Meets v n (folded_made one n (remainder_word n a b)).defs
    → number v (folded_made one n (remainder_word n a b)).outs ≡ remainder_of (number v a) (number v b)
remainder-told v one n a b h ha hb x =
    let m = remainder_word n a b in
    let (w, ag, y, r) = unfolded v one n m h (remainder-owes Below 0 fits-zero n a b (omega arith) (ok_below n a ha) (ok_below n b hb)) x in
    let g : Divides a b (quotient n a b).quot (quotient n a b).rest w = quotient-law w n a b y in
    outs-seen v w one n m r ∙ (remainder-is (number w a) (number w b) (number w (quotient n a b).quot) (number w (quotient n a b).rest) (λ e. (g.0 e).1) g.1
    ∙ (ap (λ (t : ℕ). remainder_of t (number w b)) (number-agree n v w a ag ha) ∙ ap (λ (t : ℕ). remainder_of (number v a) t) (number-agree n v w b ag hb)))

pub ands-told : (v : ℕ → Bool) (one : Lit) (n : ℕ) (a b : List Lit) → lit_value v one ≡ true → LitsBelow n a → LitsBelow n b → AreWords a b
    → Meets v n (folded_made one n (ands n a b)).defs
    → number v (folded_made one n (ands n a b)).outs ≡ bit_and (number v a) (number v b)
ands-told v one n a b h ha hb l x =
    let m = ands n a b in
    let (w, ag, y, r) = unfolded v one n m h (ands-owes Below 0 fits-zero n a b (omega arith) (ok_below n a ha) (ok_below n b hb)) x in
    outs-seen v w one n m r ∙ (ands-number w n a b l.1 y
    ∙ (ap (λ (t : ℕ). bit_and t (number w b)) (number-agree n v w a ag ha) ∙ ap (λ (t : ℕ). bit_and (number v a) t) (number-agree n v w b ag hb)))

pub ors-told : (v : ℕ → Bool) (one : Lit) (n : ℕ) (a b : List Lit) → lit_value v one ≡ true → LitsBelow n a → LitsBelow n b → AreWords a b
    → Meets v n (folded_made one n (or_word n a b)).defs
    → number v (folded_made one n (or_word n a b)).outs ≡ bit_or (number v a) (number v b)
ors-told v one n a b h ha hb l x =
    let m = or_word n a b in
    let (w, ag, y, r) = unfolded v one n m h (or-owes Below 0 fits-zero n a b (omega arith) (ok_below n a ha) (ok_below n b hb)) x in
    outs-seen v w one n m r ∙ (ors-number w n a b l.1 y
    ∙ (ap (λ (t : ℕ). bit_or t (number w b)) (number-agree n v w a ag ha) ∙ ap (λ (t : ℕ). bit_or (number v a) t) (number-agree n v w b ag hb)))

pub xors-told : (v : ℕ → Bool) (one : Lit) (n : ℕ) (a b : List Lit) → lit_value v one ≡ true → LitsBelow n a → LitsBelow n b → AreWords a b
    → Meets v n (folded_made one n (xors n a b)).defs
    → number v (folded_made one n (xors n a b)).outs ≡ bit_xor (number v a) (number v b)
xors-told v one n a b h ha hb l x =
    let m = xors n a b in
    let (w, ag, y, r) = unfolded v one n m h (xors-owes Below 0 fits-zero n a b (omega arith) (ok_below n a ha) (ok_below n b hb)) x in
    outs-seen v w one n m r ∙ (xors-number w n a b l.1 y
    ∙ (ap (λ (t : ℕ). bit_xor t (number w b)) (number-agree n v w a ag ha) ∙ ap (λ (t : ℕ). bit_xor (number v a) t) (number-agree n v w b ag hb)))

pub nots-told : (v : ℕ → Bool) (a : List Lit) → number v (map negated a) ≡ complement_in (length a) (number v a)
nots-told v a = let k = negated-number v a in omega (arith, k)

-- shifts: nothing is left where the amount is not below the width
left-any : (w a b : ℕ) → (a * 2 ^ b) % 2 ^ w ≡ left_in w a b
left-any w a b =
    if-cases {A = ℕ} (nat_lt b w) ((a * 2 ^ b) % 2 ^ w) 0 (λ (t : ℕ). (a * 2 ^ b) % 2 ^ w ≡ t)
    (λ e. refl)
    (λ e.
    let le : w ≤ b = ltb-false b w e in
    let s : (b - w) + w ≡ b = omega (arith, le) in
    let p : 2 ^ b ≡ 2 ^ (b - w) * 2 ^ w = ap (λ (t : ℕ). 2 ^ t) (sym s) ∙ pow-add 2 (b - w) w in
    let q : a * 2 ^ b ≡ a * 2 ^ (b - w) * 2 ^ w = ap (λ (t : ℕ). a * t) p ∙ omega arith in
    ap (λ (t : ℕ). t % 2 ^ w) q ∙ mul-mod_left (a * 2 ^ (b - w)) (2 ^ w))

right-any : (w a b : ℕ) → a < 2 ^ w → a / 2 ^ b ≡ right_in w a b
right-any w a b lt =
    if-cases {A = ℕ} (nat_lt b w) (a / 2 ^ b) 0 (λ (t : ℕ). a / 2 ^ b ≡ t)
    (λ e. refl)
    (λ e.
    let le : w ≤ b = ltb-false b w e in
    let p : 2 ^ w ≤ 2 ^ b = power_le w b le in
    div-eq_of_lt (omega (arith, lt, p)))

pub left-told : (v : ℕ → Bool) (one : Lit) (n : ℕ) (a b : List Lit) → lit_value v one ≡ true → LitsBelow n a → LitsBelow n b → AreWords a b
    → Meets v n (folded_made one n (shift_of n Left a b)).defs
    → number v (folded_made one n (shift_of n Left a b)).outs ≡ left_in (length a) (number v a) (number v b)
left-told v one n a b h ha hb l x =
    let m = shift_of n Left a b in
    let (w, ag, y, r) = unfolded v one n m h (shift-owes Below 0 fits-zero n Left a b (omega arith) l.0 (ok_below n a ha) (ok_below n b hb)) x in
    outs-seen v w one n m r ∙ (shift_of-law w n Left a b l.0 y ∙ (left-any (length a) (number w a) (number w b)
    ∙ (ap (λ (t : ℕ). left_in (length a) t (number w b)) (number-agree n v w a ag ha) ∙ ap (λ (t : ℕ). left_in (length a) (number v a) t) (number-agree n v w b ag hb))))

pub right-told : (v : ℕ → Bool) (one : Lit) (n : ℕ) (a b : List Lit) → lit_value v one ≡ true → LitsBelow n a → LitsBelow n b → AreWords a b
    → Meets v n (folded_made one n (shift_of n Logical a b)).defs
    → number v (folded_made one n (shift_of n Logical a b)).outs ≡ right_in (length a) (number v a) (number v b)
right-told v one n a b h ha hb l x =
    let m = shift_of n Logical a b in
    let (w, ag, y, r) = unfolded v one n m h (shift-owes Below 0 fits-zero n Logical a b (omega arith) l.0 (ok_below n a ha) (ok_below n b hb)) x in
    outs-seen v w one n m r ∙ (shift_of-law w n Logical a b l.0 y ∙ (right-any (length a) (number w a) (number w b) (number-lt w a)
    ∙ (ap (λ (t : ℕ). right_in (length a) t (number w b)) (number-agree n v w a ag ha) ∙ ap (λ (t : ℕ). right_in (length a) (number v a) t) (number-agree n v w b ag hb))))

half-power : (w : ℕ) → 1 ≤ w → 2 ^ w ≡ 2 * 2 ^ (w - 1)
half-power zero h = absurd (omega (arith, h))
half-power (suc w) h = let e : suc w - 1 ≡ w = omega arith in pow-succ' 2 w ∙ ap (λ (t : ℕ). 2 * 2 ^ t) (sym e)

signed-any : (w a b o : ℕ) → 1 ≤ w → a < 2 ^ w → (2 * a < 2 ^ w → o ≡ a / 2 ^ b)
    → (2 ^ w ≤ 2 * a → o + (2 ^ w - 1 - a) / 2 ^ b ≡ 2 ^ w - 1) → o ≡ signed_right_in w a b
signed-any w a b o h lt low high =
    let p = half-power w h in
    let c : complement_in w a < 2 ^ w = omega (arith, lt) in
    if-cases {A = ℕ} (has_sign w a) (complement_in w (right_in w (complement_in w a) b)) (right_in w a b) (λ (t : ℕ). o ≡ t)
    (λ e.
    let le : 2 ^ (w - 1) ≤ a = leb-true (2 ^ (w - 1)) a e in
    let g = high (omega (arith, le, p)) in
    let k : (2 ^ w - 1 - a) / 2 ^ b ≡ right_in w (complement_in w a) b = right-any w (complement_in w a) b c in
    let q : o ≡ 2 ^ w - 1 - (2 ^ w - 1 - a) / 2 ^ b = omega (arith, g) in
    q ∙ ap (λ (t : ℕ). 2 ^ w - 1 - t) k)
    (λ e.
    let less : a < 2 ^ (w - 1) = leb-false (2 ^ (w - 1)) a e in
    low (omega (arith, less, p)) ∙ right-any w a b lt)

pub signed-told : (v : ℕ → Bool) (one : Lit) (n : ℕ) (a b : List Lit) → lit_value v one ≡ true → LitsBelow n a → LitsBelow n b → AreWords a b
    → Meets v n (folded_made one n (shift_of n Arithmetic a b)).defs
    → number v (folded_made one n (shift_of n Arithmetic a b)).outs ≡ signed_right_in (length a) (number v a) (number v b)
signed-told v one n a b h ha hb l x =
    let m = shift_of n Arithmetic a b in
    let (w, ag, y, r) = unfolded v one n m h (shift-owes Below 0 fits-zero n Arithmetic a b (omega arith) l.0 (ok_below n a ha) (ok_below n b hb)) x in
    let g : Shifts Arithmetic a b m.outs w = shift_of-law w n Arithmetic a b l.0 y in
    outs-seen v w one n m r ∙ (signed-any (length a) (number w a) (number w b) (number w m.outs) l.0 (number-lt w a) g.0 g.1
    ∙ (ap (λ (t : ℕ). signed_right_in (length a) t (number w b)) (number-agree n v w a ag ha) ∙ ap (λ (t : ℕ). signed_right_in (length a) (number v a) t) (number-agree n v w b ag hb)))

-- truths
truth-iff : (t s : Bool) → (t ≡ true → s ≡ true) → (s ≡ true → t ≡ true) → bit t ≡ truth s
truth-iff true true f g = refl
truth-iff true false f g = absurd (false≢true (f refl))
truth-iff false true f g = absurd (false≢true (g refl))
truth-iff false false f g = refl

pub equal-told : (v : ℕ → Bool) (one : Lit) (n : ℕ) (a b : List Lit) → lit_value v one ≡ true → LitsBelow n a → LitsBelow n b → AreWords a b
    → Meets v n (folded_made one n (equal_word n a b)).defs
    → number v (folded_made one n (equal_word n a b)).outs ≡ truth (number v a == number v b)
equal-told v one n a b h ha hb l x =
    let m = equal_word n a b in
    let (w, ag, y, r) = unfolded v one n m h (equal-owes Below 0 fits-zero n a b (omega arith) l (ok_below n a ha) (ok_below n b hb)) x in
    let g : Equates a b (equal_of n a b).out w = equal_of-law w n a b l.0 l.1 y in
    outs-seen v w one n m r ∙ (number-one w (equal_of n a b).out
    ∙ (truth-iff (lit_value w (equal_of n a b).out) (number w a == number w b)
    (λ t. eq-eqb (number w a) (number w b) (g.0 t)) (λ t. g.1 (eqb-true (number w a) (number w b) t))
    ∙ (ap (λ (t : ℕ). truth (t == number w b)) (number-agree n v w a ag ha) ∙ ap (λ (t : ℕ). truth (number v a == t)) (number-agree n v w b ag hb))))

pub less-told : (v : ℕ → Bool) (one : Lit) (n : ℕ) (a b : List Lit) → lit_value v one ≡ true → LitsBelow n a → LitsBelow n b → AreWords a b
    → Meets v n (folded_made one n (less_word n false a b)).defs
    → number v (folded_made one n (less_word n false a b)).outs ≡ truth (nat_lt (number v a) (number v b))
less-told v one n a b h ha hb l x =
    let m = less_word n false a b in
    let (w, ag, y, r) = unfolded v one n m h (less-owes Below 0 fits-zero n false a b (omega arith) l (ok_below n a ha) (ok_below n b hb)) x in
    let g : Orders false a b (less_of n false a b).out w = less_of-law w n false a b l.0 l.1 y in
    outs-seen v w one n m r ∙ (number-one w (less_of n false a b).out
    ∙ (truth-iff (lit_value w (less_of n false a b).out) (nat_lt (number w a) (number w b))
    (λ t. lt-ltb (number w a) (number w b) (g.0 t)) (λ t. g.1 (ltb-true (number w a) (number w b) t))
    ∙ (ap (λ (t : ℕ). truth (nat_lt t (number w b))) (number-agree n v w a ag ha) ∙ ap (λ (t : ℕ). truth (nat_lt (number v a) t)) (number-agree n v w b ag hb))))

signed-raised : (w a : ℕ) → 1 ≤ w → a < 2 ^ w → signed_of w a ≡ pos (raised w a) -ℤ pos (2 ^ (w - 1))
signed-raised w a h lt = by (ltb (2 * a) (2 ^ w)) refl
  where
    p : 2 ^ w ≡ 2 * 2 ^ (w - 1)
    p = half-power w h

    by : (t : Bool) → ltb (2 * a) (2 ^ w) ≡ t → cond t (pos a) (pos a -ℤ pos (2 ^ w)) ≡ pos (raised w a) -ℤ pos (2 ^ (w - 1))
    by true e =
        let less : 2 * a < 2 ^ w = ltb-true (2 * a) (2 ^ w) e in
        let r : raised w a ≡ a + 2 ^ (w - 1) = mod-eq_of_lt (omega (arith, less, p)) in
        omega (arith, ints, r)
    by false e =
        let le : 2 ^ w ≤ 2 * a = ltb-false (2 * a) (2 ^ w) e in
        let s : a + 2 ^ (w - 1) ≡ (a - 2 ^ (w - 1)) + 2 ^ w * 1 = omega (arith, le, p) in
        let r : raised w a ≡ a - 2 ^ (w - 1)
        = ap (λ (t : ℕ). t % 2 ^ w) s ∙ (add-mul-mod_self_left (a - 2 ^ (w - 1)) (2 ^ w) 1 ∙ mod-eq_of_lt (omega (arith, lt))) in
        let g : 2 ^ (w - 1) ≤ a = omega (arith, le, p) in
        omega (arith, ints, r, p, g)

less-raised : (w x y : ℕ) (a b : ℤ) → a ≡ pos x -ℤ pos w → b ≡ pos y -ℤ pos w → (a <ℤ b) ↔ (x < y)
less-raised w x y a b e g = (λ h. omega (arith, ints, e, g, h), λ h. omega (arith, ints, e, g, h))

pub less_signed-told : (v : ℕ → Bool) (one : Lit) (n : ℕ) (a b : List Lit) → lit_value v one ≡ true → LitsBelow n a → LitsBelow n b → AreWords a b
    → Meets v n (folded_made one n (less_word n true a b)).defs
    → number v (folded_made one n (less_word n true a b)).outs ≡ truth (nat_lt (raised (length a) (number v a)) (raised (length a) (number v b)))
less_signed-told v one n a b h ha hb l x =
    let m = less_word n true a b in
    let (w, ag, y, r) = unfolded v one n m h (less-owes Below 0 fits-zero n true a b (omega arith) l (ok_below n a ha) (ok_below n b hb)) x in
    let g : Orders true a b (less_of n true a b).out w = less_of-law w n true a b l.0 l.1 y in
    let k = length a in
    let bl : number w b < 2 ^ k = subst (λ (t : ℕ). number w b < 2 ^ t) (sym l.1) (number-lt w b) in
    let sb : signed_of (length b) (number w b) ≡ pos (raised k (number w b)) -ℤ pos (2 ^ (k - 1))
    = ap (λ (t : ℕ). signed_of t (number w b)) (sym l.1) ∙ signed-raised k (number w b) l.0 bl in
    let i = less-raised (2 ^ (k - 1)) (raised k (number w a)) (raised k (number w b)) (signed_of k (number w a)) (signed_of (length b) (number w b))
    (signed-raised k (number w a) l.0 (number-lt w a)) sb in
    outs-seen v w one n m r ∙ (number-one w (less_of n true a b).out
    ∙ (truth-iff (lit_value w (less_of n true a b).out) (nat_lt (raised k (number w a)) (raised k (number w b)))
    (λ t. lt-ltb (raised k (number w a)) (raised k (number w b)) (i.0 (g.0 t)))
    (λ t. g.1 (i.1 (ltb-true (raised k (number w a)) (raised k (number w b)) t)))
    ∙ (ap (λ (t : ℕ). truth (nat_lt (raised k t) (raised k (number w b)))) (number-agree n v w a ag ha)
    ∙ ap (λ (t : ℕ). truth (nat_lt (raised k (number v a)) (raised k t))) (number-agree n v w b ag hb))))

pub choice-told : (v : ℕ → Bool) (one : Lit) (n : ℕ) (c : Lit) (a b : List Lit) → lit_value v one ≡ true → c.var < n → LitsBelow n a → LitsBelow n b → length a ≡ length b
    → Meets v n (folded_made one n (selected n c a b)).defs
    → number v (folded_made one n (selected n c a b)).outs ≡ cond (lit_value v c) (number v a) (number v b)
choice-told v one n c a b h hc ha hb l x =
    let m = selected n c a b in
    let (w, ag, y, r) = unfolded v one n m h (selected-owes Below 0 fits-zero n c a b (omega arith) hc (ok_below n a ha) (ok_below n b hb)) x in
    outs-seen v w one n m r ∙ (selected-number w n c a b l y
    ∙ (ap (λ (t : Bool). cond t (number w a) (number w b)) (lit-agree n v w c ag hc)
    ∙ (ap (λ (t : ℕ). cond (lit_value v c) t (number w b)) (number-agree n v w a ag ha)
    ∙ ap (λ (t : ℕ). cond (lit_value v c) (number v a) t) (number-agree n v w b ag hb))))

-- extension
pub zeros-told : (v : ℕ → Bool) (one : Lit) (w : ℕ) (a : List Lit) → lit_value v one ≡ true → number v (extended_to w (negated one) a) ≡ number v a
zeros-told v one w a h =
    let c = copies-zeros v (negated one) (w - length a) (not-one v one h) in
    let p = number-append v a (copies_of (negated one) (w - length a)) in
    let z : 2 ^ length a * number v (copies_of (negated one) (w - length a)) ≡ 2 ^ length a * 0 = ap (λ (t : ℕ). 2 ^ length a * t) c in
    omega (arith, p, z)

pub signs-told : (v : ℕ → Bool) (w : ℕ) (a : List Lit) → 1 ≤ length a → length a ≤ w
    → number v (extended_to w (top_of a) a) ≡ sign_extended (length a) w (number v a)
signs-told v w a h le =
    let k = length a in
    let (low, lt, is) = top-number v a h in
    let p = number-append v a (copies_of (top_of a) (w - k)) in
    by (lit_value v (top_of a)) refl low lt is p
  where
    by : (t : Bool) → lit_value v (top_of a) ≡ t → (low : ℕ) → low < 2 ^ (length a - 1) → number v a ≡ low + 2 ^ (length a - 1) * bit (lit_value v (top_of a))
        → number v (extended_to w (top_of a) a) ≡ number v a + 2 ^ length a * number v (copies_of (top_of a) (w - length a))
        → number v (extended_to w (top_of a) a) ≡ sign_extended (length a) w (number v a)
    by true e low lt is p =
        let b : 2 ^ (length a - 1) * bit (lit_value v (top_of a)) ≡ 2 ^ (length a - 1) * 1 = ap (λ (t : Bool). 2 ^ (length a - 1) * bit t) e in
        let s : has_sign (length a) (number v a) ≡ true = le-leb (2 ^ (length a - 1)) (number v a) (omega (arith, is, b)) in
        let C = number v (copies_of (top_of a) (w - length a)) in
        let c : C + 1 ≡ 2 ^ (w - length a) = copies-ones v (top_of a) (w - length a) e in
        let i : length a + (w - length a) ≡ w = omega (arith, le) in
        let q : 2 ^ length a * (C + 1) ≡ 2 ^ w = ap (λ (t : ℕ). 2 ^ length a * t) c ∙ (sym (pow-add 2 (length a) (w - length a)) ∙ ap (λ (t : ℕ). 2 ^ t) i) in
        let d : 2 ^ length a * (C + 1) ≡ 2 ^ length a * C + 2 ^ length a = omega arith in
        let r : number v (extended_to w (top_of a) a) ≡ number v a + (2 ^ w - 2 ^ length a) = omega (arith, p, q, d) in
        r ∙ sym (ap (λ (t : Bool). if t then number v a + (2 ^ w - 2 ^ length a) else number v a) s)
    by false e low lt is p =
        let b : 2 ^ (length a - 1) * bit (lit_value v (top_of a)) ≡ 2 ^ (length a - 1) * 0 = ap (λ (t : Bool). 2 ^ (length a - 1) * bit t) e in
        let s : has_sign (length a) (number v a) ≡ false = lt-leb-false (2 ^ (length a - 1)) (number v a) (omega (arith, is, b, lt)) in
        let c : 2 ^ length a * number v (copies_of (top_of a) (w - length a)) ≡ 2 ^ length a * 0 = ap (λ (t : ℕ). 2 ^ length a * t) (copies-zeros v (top_of a) (w - length a) e) in
        let r : number v (extended_to w (top_of a) a) ≡ number v a = omega (arith, p, c) in
        r ∙ sym (ap (λ (t : Bool). if t then number v a + (2 ^ w - 2 ^ length a) else number v a) s)
      where
        lt-leb-false : (x y : ℕ) → y < x → leb x y ≡ false
        lt-leb-false x y lt = at (leb x y) refl
          where
            at : (t : Bool) → leb x y ≡ t → t ≡ false
            at true e = absurd (let le : x ≤ y = leb-true x y e in omega (arith, le, lt))
            at false e = refl
