-- What each kind of word owes: its definitions and outputs speak of its inputs and of earlier definitions.
use Rattle.std.proofs.Common.{◌≡◌, ℕ, ◌+◌, ◌-◌, ◌≤◌, ◌<◌, length, List, [], ◌∷◌, ◌++◌, map, take, drop, arith, sym, suc, zero, Bool, true, false, ltb, subst, if◌then◌else◌, ◌%◌, ◌/◌, ◌==◌}
use Rattle.std.proofs.lemmas.List.{length-append}
use Rattle.prop.specs.declared.Lit.{Lit}
use Rattle.prop.specs.Logic.{negated, positive_of}
use Rattle.bit_gates.specs.declared.netlist.Def.TheVariants.{And}
use Rattle.bit_gates.specs.declared.shifters.Shift.{Shift}
use Rattle.bit_gates.specs.Net.{Grounded}
use Rattle.bit_gates.specs.Products.{Made, product_of}
use Rattle.bit_gates.specs.Quotients.{selected}
use Rattle.bit_gates.specs.Shifts.{shift_of, top_of}
use Rattle.bit_gates.proofs.Within.{Fits, LitsOk, NetOk, ok-more, lits-more, lits-append, net_ok-append, chosen, ripple-ok, product_of-ok, quotient-ok, less_of-ok, equal_of-ok, shift_of-ok}
use Rattle.bit_gates.proofs.Exacts.{grounded_ok, fits_below}
use Rattle.bit_words.specs.Folding.{standing, folded_made}
use Rattle.bit_words.specs.Words.{copies_of, numeral_of, ands, xors}
use Rattle.bit_words.specs.Elements.{half_of, doubled, decoded, picked, stored}
use Rattle.bit_words.proofs.FoldingLaws.{Inside, fits_inside, folded_made-ok}
use Rattle.bit_blast.specs.Emission.{AreWords, cell_at}
use Rattle.bit_blast.specs.Gates.{add_word, subtract_word, divide_word, remainder_word, or_word, equal_word, less_word, extended_to}

-- what a definition may speak of lies below it
abbrev pub IsLow : (ℕ → ℕ → Type 0) → Type 0
IsLow P = (n k : ℕ) → P n k → k < n

abbrev pub Owes : (ℕ → ℕ → Type 0) → ℕ → Made → Type 0
Owes P n m = NetOk P n m.defs × LitsOk P (n + length m.defs) m.outs

abbrev pub Below : ℕ → ℕ → Type 0
Below n k = k < n

pub low-below : IsLow Below
low-below n k h = h

pub fits-zero : Fits Below 0
fits-zero = fits_below 0

pub owes-grounded : (n : ℕ) (m : Made) → Owes Below n m → Grounded n m.defs
owes-grounded n m h = grounded_ok n m.defs h.0

pub lits-take : (P : ℕ → ℕ → Type 0) (n k : ℕ) (xs : List Lit) → LitsOk P n xs → LitsOk P n (take k xs)
lits-take P n zero xs h = tt
lits-take P n (suc k) [] h = tt
lits-take P n (suc k) (x ∷ xs) h = (h.0, lits-take P n k xs h.1)

pub lits-negated : (P : ℕ → ℕ → Type 0) (n : ℕ) (xs : List Lit) → LitsOk P n xs → LitsOk P n (map negated xs)
lits-negated P n [] h = tt
lits-negated P n (x ∷ xs) h = (h.0, lits-negated P n xs h.1)

pub lits-copies : (P : ℕ → ℕ → Type 0) (n : ℕ) (l : Lit) (k : ℕ) → P n l.var → LitsOk P n (copies_of l k)
lits-copies P n l zero h = tt
lits-copies P n l (suc k) h = (h, lits-copies P n l k h)

pub lits-numeral : (P : ℕ → ℕ → Type 0) (n : ℕ) (one : Lit) (w x : ℕ) → P n one.var → LitsOk P n (numeral_of one w x)
lits-numeral P n one zero x h = tt
lits-numeral P n one (suc w) x h = (by (x % 2 == 1), lits-numeral P n one w (x / 2) h)
  where
    by : (t : Bool) → P n (if t then one else negated one).var
    by true = h
    by false = h

pub lit-standing : (P : ℕ → ℕ → Type 0) (n k : ℕ) (xs : List Lit) → k < length xs → LitsOk P n xs → P n (standing xs k).var
lit-standing P n k [] lt h = absurd (omega (arith, lt))
lit-standing P n zero (x ∷ xs) lt h = h.0
lit-standing P n (suc k) (x ∷ xs) lt h = lit-standing P n k xs (omega (arith, lt)) h.1

pub lit-top : (P : ℕ → ℕ → Type 0) (n : ℕ) (xs : List Lit) → 1 ≤ length xs → LitsOk P n xs → P n (top_of xs).var
lit-top P n [] le h = absurd (omega (arith, le))
lit-top P n (x ∷ []) le h = h.0
lit-top P n (x ∷ y ∷ ys) le h = lit-top P n (y ∷ ys) (omega arith) h.1

-- lists of cells
abbrev pub AllOk : (ℕ → ℕ → Type 0) → ℕ → List (List Lit) → Type 0
AllOk P n [] = Unit {0}
AllOk P n (c ∷ cs) = LitsOk P n c × AllOk P n cs

pub all-more : (P : ℕ → ℕ → Type 0) (lo : ℕ) → Fits P lo → (n m : ℕ) (cs : List (List Lit)) → lo ≤ n → n ≤ m → AllOk P n cs → AllOk P m cs
all-more P lo f n m [] le l h = tt
all-more P lo f n m (c ∷ cs) le l h = (lits-more P lo f n m c le l h.0, all-more P lo f n m cs le l h.1)

pub all-take : (P : ℕ → ℕ → Type 0) (n k : ℕ) (cs : List (List Lit)) → AllOk P n cs → AllOk P n (take k cs)
all-take P n zero cs h = tt
all-take P n (suc k) [] h = tt
all-take P n (suc k) (c ∷ cs) h = (h.0, all-take P n k cs h.1)

pub all-drop : (P : ℕ → ℕ → Type 0) (n k : ℕ) (cs : List (List Lit)) → AllOk P n cs → AllOk P n (drop k cs)
all-drop P n zero cs h = h
all-drop P n (suc k) [] h = tt
all-drop P n (suc k) (c ∷ cs) h = all-drop P n k cs h.1

pub all-at : (P : ℕ → ℕ → Type 0) (n k : ℕ) (cs : List (List Lit)) → AllOk P n cs → LitsOk P n (cell_at cs k)
all-at P n k [] h = tt
all-at P n zero (c ∷ cs) h = h.0
all-at P n (suc k) (c ∷ cs) h = all-at P n k cs h.1

pub at-all : (P : ℕ → ℕ → Type 0) (n : ℕ) (cs : List (List Lit)) → ((k : ℕ) → LitsOk P n (cell_at cs k)) → AllOk P n cs
at-all P n [] h = tt
at-all P n (c ∷ cs) h = (h 0, at-all P n cs (λ k. h (suc k)))

-- cells in a row, each by its number
pub all-range : (P : ℕ → ℕ → Type 0) (n : ℕ) (cs : List (List Lit)) (f m : ℕ) → ((c : ℕ) → f ≤ c → c < f + m → LitsOk P n (cell_at cs c)) → AllOk P n (take m (drop f cs))
all-range P n cs zero zero h = tt
all-range P n [] zero (suc m) h = tt
all-range P n (c ∷ cs) zero (suc m) h =
    (h 0 (omega arith) (omega arith), all-range P n cs zero m (λ k le lt. h (suc k) (omega (arith, le)) (omega (arith, lt))))
all-range P n [] (suc f) zero h = tt
all-range P n [] (suc f) (suc m) h = tt
all-range P n (c ∷ cs) (suc f) m h = all-range P n cs f m (λ k le lt. h (suc k) (omega (arith, le)) (omega (arith, lt)))

-- what is folded owes the same
pub folded-owes : (P : ℕ → ℕ → Type 0) (lo : ℕ) → Fits P lo → (one : Lit) (n : ℕ) (m : Made) → lo ≤ n → P n one.var
    → Owes (Inside P n n) n m → Owes P n (folded_made one n m)
folded-owes P lo f one n m le o h = folded_made-ok P lo f one n m le o h.0 h.1

pub inside : (P : ℕ → ℕ → Type 0) → IsLow P → (n : ℕ) (ls : List Lit) → LitsOk P n ls → LitsOk (Inside P n n) n ls
inside P low n [] h = tt
inside P low n (l ∷ ls) h = ((λ lt. h.0, low n l.var h.0), inside P low n ls h.1)

pub inside-one : (P : ℕ → ℕ → Type 0) → IsLow P → (n : ℕ) (l : Lit) → P n l.var → Inside P n n n l.var
inside-one P low n l h = (λ lt. h, low n l.var h)

pub inside-all : (P : ℕ → ℕ → Type 0) → IsLow P → (n : ℕ) (cs : List (List Lit)) → AllOk P n cs → AllOk (Inside P n n) n cs
inside-all P low n [] h = tt
inside-all P low n (c ∷ cs) h = (inside P low n c h.0, inside-all P low n cs h.1)

-- each kind
pub add-owes : (P : ℕ → ℕ → Type 0) (lo : ℕ) → Fits P lo → (one : Lit) (n : ℕ) (a b : List Lit) → lo ≤ n → P n one.var
    → LitsOk P n a → LitsOk P n b → Owes P n (add_word one n a b)
add-owes P lo f one n a b le o ha hb =
    let i = ripple-ok P lo f n a b (negated one) le ha hb o in
    (i.0, i.1.0)

pub subtract-owes : (P : ℕ → ℕ → Type 0) (lo : ℕ) → Fits P lo → (one : Lit) (n : ℕ) (a b : List Lit) → lo ≤ n → P n one.var
    → LitsOk P n a → LitsOk P n b → Owes P n (subtract_word one n a b)
subtract-owes P lo f one n a b le o ha hb =
    let i = ripple-ok P lo f n a (map negated b) one le ha (lits-negated P n b hb) o in
    (i.0, i.1.0)

pub multiply-owes : (P : ℕ → ℕ → Type 0) (lo : ℕ) → Fits P lo → (n : ℕ) (a b : List Lit) → lo ≤ n
    → LitsOk P n a → LitsOk P n b → Owes P n (product_of n a b)
multiply-owes P lo f n a b le ha hb = product_of-ok P lo f n a b le ha hb

pub divide-owes : (P : ℕ → ℕ → Type 0) (lo : ℕ) → Fits P lo → (n : ℕ) (a b : List Lit) → lo ≤ n
    → LitsOk P n a → LitsOk P n b → Owes P n (divide_word n a b)
divide-owes P lo f n a b le ha hb = let i = quotient-ok P lo f n a b le ha hb in (i.0, i.1.0)

pub remainder-owes : (P : ℕ → ℕ → Type 0) (lo : ℕ) → Fits P lo → (n : ℕ) (a b : List Lit) → lo ≤ n
    → LitsOk P n a → LitsOk P n b → Owes P n (remainder_word n a b)
remainder-owes P lo f n a b le ha hb = let i = quotient-ok P lo f n a b le ha hb in (i.0, i.1.1)

pub ands-owes : (P : ℕ → ℕ → Type 0) (lo : ℕ) → Fits P lo → (n : ℕ) (a b : List Lit) → lo ≤ n → LitsOk P n a → LitsOk P n b → Owes P n (ands n a b)
ands-owes P lo f n [] ys le hx hy = (tt, tt)
ands-owes P lo f n (x ∷ xs) [] le hx hy = (tt, tt)
ands-owes P lo f n (x ∷ xs) (y ∷ ys) le hx hy =
    let r = ands (suc n) xs ys in
    let i = ands-owes P lo f (suc n) xs ys (omega (arith, le)) (lits-more P lo f n (suc n) xs le (omega arith) hx.1)
    (lits-more P lo f n (suc n) ys le (omega arith) hy.1) in
    let e : suc n + length r.defs ≡ n + suc (length r.defs) = omega arith in (
      ((hx.0, hy.0), i.0),
      (
        ok-more P lo f (suc n) (n + suc (length r.defs)) n (omega (arith, le)) (omega arith) (f.fresh n le),
        subst (λ (t : ℕ). LitsOk P t r.outs) e i.1,
      ),
    )

pub xors-owes : (P : ℕ → ℕ → Type 0) (lo : ℕ) → Fits P lo → (n : ℕ) (a b : List Lit) → lo ≤ n → LitsOk P n a → LitsOk P n b → Owes P n (xors n a b)
xors-owes P lo f n [] ys le hx hy = (tt, tt)
xors-owes P lo f n (x ∷ xs) [] le hx hy = (tt, tt)
xors-owes P lo f n (x ∷ xs) (y ∷ ys) le hx hy =
    let r = xors (suc n) xs ys in
    let i = xors-owes P lo f (suc n) xs ys (omega (arith, le)) (lits-more P lo f n (suc n) xs le (omega arith) hx.1)
    (lits-more P lo f n (suc n) ys le (omega arith) hy.1) in
    let e : suc n + length r.defs ≡ n + suc (length r.defs) = omega arith in (
      ((hx.0, hy.0), i.0),
      (
        ok-more P lo f (suc n) (n + suc (length r.defs)) n (omega (arith, le)) (omega arith) (f.fresh n le),
        subst (λ (t : ℕ). LitsOk P t r.outs) e i.1,
      ),
    )

pub or-owes : (P : ℕ → ℕ → Type 0) (lo : ℕ) → Fits P lo → (n : ℕ) (a b : List Lit) → lo ≤ n
    → LitsOk P n a → LitsOk P n b → Owes P n (or_word n a b)
or-owes P lo f n a b le ha hb =
    let i = ands-owes P lo f n (map negated a) (map negated b) le (lits-negated P n a ha) (lits-negated P n b hb) in
    let m = ands n (map negated a) (map negated b) in
    (i.0, lits-negated P (n + length m.defs) m.outs i.1)

pub shift-owes : (P : ℕ → ℕ → Type 0) (lo : ℕ) → Fits P lo → (n : ℕ) (how : Shift) (a b : List Lit) → lo ≤ n → 1 ≤ length a
    → LitsOk P n a → LitsOk P n b → Owes P n (shift_of n how a b)
shift-owes P lo f n how a b le h ha hb = shift_of-ok P lo f n how a b le h ha hb

pub equal-owes : (P : ℕ → ℕ → Type 0) (lo : ℕ) → Fits P lo → (n : ℕ) (a b : List Lit) → lo ≤ n → AreWords a b
    → LitsOk P n a → LitsOk P n b → Owes P n (equal_word n a b)
equal-owes P lo f n a b le w ha hb = let i = equal_of-ok P lo f n a b le w.0 w.1 ha hb in (i.0, (i.1, tt))

pub less-owes : (P : ℕ → ℕ → Type 0) (lo : ℕ) → Fits P lo → (n : ℕ) (s : Bool) (a b : List Lit) → lo ≤ n → AreWords a b
    → LitsOk P n a → LitsOk P n b → Owes P n (less_word n s a b)
less-owes P lo f n s a b le w ha hb = let i = less_of-ok P lo f n s a b le w.0 w.1 ha hb in (i.0, (i.1, tt))

pub selected-owes : (P : ℕ → ℕ → Type 0) (lo : ℕ) → Fits P lo → (n : ℕ) (c : Lit) (xs ys : List Lit) → lo ≤ n → P n c.var → LitsOk P n xs → LitsOk P n ys
    → Owes P n (selected n c xs ys)
selected-owes P lo f n c [] ys le hc hx hy = (tt, tt)
selected-owes P lo f n c (x ∷ xs) [] le hc hx hy = (tt, tt)
selected-owes P lo f n c (x ∷ xs) (y ∷ ys) le hc hx hy =
    let r = selected (suc n) c xs ys in
    let i = selected-owes P lo f (suc n) c xs ys (omega (arith, le)) (f.later n c.var le hc) (lits-more P lo f n (suc n) xs le (omega arith) hx.1)
    (lits-more P lo f n (suc n) ys le (omega arith) hy.1) in
    let e : suc n + length r.defs ≡ n + suc (length r.defs) = omega arith in (
      ((hc, hx.0, hy.0), i.0),
      (
        ok-more P lo f (suc n) (n + suc (length r.defs)) n (omega (arith, le)) (omega arith) (f.fresh n le),
        subst (λ (t : ℕ). LitsOk P t r.outs) e i.1,
      ),
    )

doubled-owes : (P : ℕ → ℕ → Type 0) (lo : ℕ) → Fits P lo → (n : ℕ) (b : Lit) (count : ℕ) (hs : List Lit) → lo ≤ n → P n b.var → LitsOk P n hs
    → Owes P n (doubled n b count hs)
doubled-owes P lo f n b count [] le hb hh = (tt, tt)
doubled-owes P lo f n b count (x ∷ hs) le hb hh =
    let k = suc (suc n) in
    let r = doubled k b (count - 2) hs in
    let i = doubled-owes P lo f k b (count - 2) hs (omega (arith, le)) (ok-more P lo f n k b.var le (omega arith) hb)
    (lits-more P lo f n k hs le (omega arith) hh.1) in
    let e : k + length r.defs ≡ n + suc (suc (length r.defs)) = omega arith in
    let s : n + 1 ≡ suc n = omega arith in
    chosen {A = Made} (ltb 1 count)
    (record { defs = And x (negated b) ∷ And x b ∷ r.defs; outs = positive_of n ∷ positive_of (suc n) ∷ r.outs })
    (record { defs = And x (negated b) ∷ []; outs = positive_of n ∷ [] })
    (λ t. Owes P n t)
    (λ t. (
      ((hh.0, hb), ((f.later n x.var le hh.0, f.later n b.var le hb), i.0)),
      (
        ok-more P lo f (suc n) (n + suc (suc (length r.defs))) n (omega (arith, le)) (omega arith) (f.fresh n le),
        (
          ok-more P lo f k (n + suc (suc (length r.defs))) (suc n) (omega (arith, le)) (omega arith) (f.fresh (suc n) (omega (arith, le))),
          subst (λ (t : ℕ). LitsOk P t r.outs) e i.1,
        ),
      ),
    ))
    (λ t. (((hh.0, hb), tt), (subst (λ (t : ℕ). P t n) (sym s) (f.fresh n le), tt)))

pub decoded-owes : (P : ℕ → ℕ → Type 0) (lo : ℕ) → Fits P lo → (n : ℕ) (e : Lit) (bs : List Lit) (count : ℕ) → lo ≤ n → P n e.var → LitsOk P n bs
    → Owes P n (decoded n e bs count)
decoded-owes P lo f n e [] count le he hb = (tt, (ok-more P lo f n (n + 0) e.var le (omega arith) he, tt))
decoded-owes P lo f n e (b ∷ bs) count le he hb =
    let r = decoded n e bs (half_of count) in
    let k = n + length r.defs in
    let s = doubled k b count r.outs in
    let i = decoded-owes P lo f n e bs (half_of count) le he hb.1 in
    let j = doubled-owes P lo f k b count r.outs (omega (arith, le)) (ok-more P lo f n k b.var le (omega arith) hb.0) i.1 in
    let l : k + length s.defs ≡ n + length (r.defs ++ s.defs) = omega (arith, length-append r.defs s.defs) in
    (net_ok-append P n r.defs s.defs i.0 j.0, subst (λ (t : ℕ). LitsOk P t s.outs) l j.1)

pub picked-owes : (P : ℕ → ℕ → Type 0) (lo : ℕ) → Fits P lo → (n : ℕ) (es : List Lit) (cs : List (List Lit)) (z : List Lit) → lo ≤ n
    → LitsOk P n es → AllOk P n cs → LitsOk P n z → Owes P n (picked n es cs z)
picked-owes P lo f n [] cs z le he hc hz = (tt, lits-more P lo f n (n + 0) z le (omega arith) hz)
picked-owes P lo f n (e ∷ es) [] z le he hc hz = (tt, lits-more P lo f n (n + 0) z le (omega arith) hz)
picked-owes P lo f n (e ∷ es) (c ∷ cs) z le he hc hz =
    let r = picked n es cs z in
    let k = n + length r.defs in
    let s = selected k e c r.outs in
    let i = picked-owes P lo f n es cs z le he.1 hc.1 hz in
    let j = selected-owes P lo f k e c r.outs (omega (arith, le)) (ok-more P lo f n k e.var le (omega arith) he.0)
    (lits-more P lo f n k c le (omega arith) hc.0) i.1 in
    let l : k + length s.defs ≡ n + length (r.defs ++ s.defs) = omega (arith, length-append r.defs s.defs) in
    (net_ok-append P n r.defs s.defs i.0 j.0, subst (λ (t : ℕ). LitsOk P t s.outs) l j.1)

-- cells that a value is stored among
pub stored-owes : (P : ℕ → ℕ → Type 0) (lo : ℕ) → Fits P lo → IsLow P → (one : Lit) (n : ℕ) (es : List Lit) (cs : List (List Lit)) (value : List Lit) → lo ≤ n
    → P n one.var → LitsOk P n es → AllOk P n cs → LitsOk P n value
    → NetOk P n (stored one n es cs value).defs × AllOk P (n + length (stored one n es cs value).defs) (stored one n es cs value).cells
stored-owes P lo f low one n [] cs value le o he hc hv = (tt, tt)
stored-owes P lo f low one n (e ∷ es) [] value le o he hc hv = (tt, tt)
stored-owes P lo f low one n (e ∷ es) (c ∷ cs) value le o he hc hv =
    let m = selected n e value c in
    let s = folded_made one n m in
    let k = n + length s.defs in
    let r = stored one k es cs value in
    let i = folded-owes P lo f one n m le o (selected-owes (Inside P n n) n (fits_inside P n n) n e value c (omega arith)
    (inside-one P low n e he.0) (inside P low n value hv) (inside P low n c hc.0)) in
    let j = stored-owes P lo f low one k es cs value (omega (arith, le)) (ok-more P lo f n k one.var le (omega arith) o)
    (lits-more P lo f n k es le (omega arith) he.1) (all-more P lo f n k cs le (omega arith) hc.1) (lits-more P lo f n k value le (omega arith) hv) in
    let l : k + length r.defs ≡ n + length (s.defs ++ r.defs) = omega (arith, length-append s.defs r.defs) in (
      net_ok-append P n s.defs r.defs i.0 j.0,
      (
        lits-more P lo f k (n + length (s.defs ++ r.defs)) s.outs (omega (arith, le)) (omega (arith, l)) i.1,
        subst (λ (t : ℕ). AllOk P t r.cells) l j.1,
      ),
    )

pub extended-owes : (P : ℕ → ℕ → Type 0) (n w : ℕ) (l : Lit) (a : List Lit) → P n l.var → LitsOk P n a → LitsOk P n (extended_to w l a)
extended-owes P n w l a hl ha = lits-append P n a (copies_of l (w - length a)) ha (lits-copies P n l (w - length a) hl)
