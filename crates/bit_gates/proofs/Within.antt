use Rattle.std.proofs.Common.{◌≡◌, ℕ, ◌+◌, ◌-◌, ◌*◌, ◌≤◌, length, List, [], ◌∷◌, ◌++◌, take, drop, map, arith, sym, refl, suc, zero, Bool, true, false, not, cond, ltb, eqb, subst}
use Rattle.std.specs.Bool.{beq}
use Rattle.std.proofs.lemmas.List.{length-append, length-take-le, length-drop}
use Rattle.prop.specs.declared.Lit.{Lit}
use Rattle.prop.specs.Logic.{negated, positive_of}
use Rattle.bit_gates.specs.declared.netlist.Def.{Def}
use Rattle.bit_gates.specs.declared.netlist.Def.TheVariants.{And, Xor, Select, Sum, Carry, Same, Fixed}
use Rattle.bit_gates.specs.declared.shifters.Shift.{Shift}
use Rattle.bit_gates.specs.declared.shifters.Shift.TheVariants.{Left, Logical, Arithmetic}
use Rattle.bit_gates.specs.Singles.{Chained, and_of, xor_of, turned, select_of}
use Rattle.bit_gates.specs.Sums.{ripple, half_ripple}
use Rattle.bit_gates.specs.Products.{Made, masked, row, product, product_of}
use Rattle.bit_gates.specs.Quotients.{shifted, selected, div_step, zeros, divided, none_of, quotient}
use Rattle.bit_gates.specs.Orders.{below, ordered, topped, less_of, alike, equal_of}
use Rattle.bit_gates.specs.Shifts.{filled, emptied, joined, right_stage, stage, last_stage, stages, top_of, shift_of}

-- P n k says that a definition of the variable n may speak of the variable k. From lo on this lasts, and each variable
-- that has a definition may be spoken of afterwards
pub record Fits (P : ℕ → ℕ → Type 0) (lo : ℕ) : Type 0 where
  pub later : (n k : ℕ) → lo ≤ n → P n k → P (suc n) k
  pub fresh : (n : ℕ) → lo ≤ n → P (suc n) n

abbrev pub LitsOk : (ℕ → ℕ → Type 0) → ℕ → List Lit → Type 0
LitsOk P n [] = Unit {0}
LitsOk P n (l ∷ ls) = P n l.var × LitsOk P n ls

abbrev pub DefOk : (ℕ → ℕ → Type 0) → ℕ → Def → Type 0
DefOk P n (And a b) = P n a.var × P n b.var
DefOk P n (Xor a b) = P n a.var × P n b.var
DefOk P n (Select c a b) = P n c.var × P n a.var × P n b.var
DefOk P n (Sum a b c) = P n a.var × P n b.var × P n c.var
DefOk P n (Carry a b c) = P n a.var × P n b.var × P n c.var
DefOk P n (Same e a b) = P n e.var × P n a.var × P n b.var
DefOk P n (Fixed b) = Unit {0}

abbrev pub NetOk : (ℕ → ℕ → Type 0) → ℕ → List Def → Type 0
NetOk P n [] = Unit {0}
NetOk P n (d ∷ ds) = DefOk P n d × NetOk P (suc n) ds

later-by : (P : ℕ → ℕ → Type 0) (lo : ℕ) → Fits P lo → (j n k : ℕ) → lo ≤ n → P n k → P (n + j) k
later-by P lo f zero n k le h = subst (λ (t : ℕ). P t k) e h
  where
    e : n ≡ n + 0
    e = omega arith
later-by P lo f (suc j) n k le h =
    subst (λ (t : ℕ). P t k) e (f.later (n + j) k (omega arith) (later-by P lo f j n k le h))
  where
    e : suc (n + j) ≡ n + suc j
    e = omega arith

pub ok-more : (P : ℕ → ℕ → Type 0) (lo : ℕ) → Fits P lo → (n m k : ℕ) → lo ≤ n → n ≤ m → P n k → P m k
ok-more P lo f n m k le l h = subst (λ (t : ℕ). P t k) e (later-by P lo f (m - n) n k le h)
  where
    e : n + (m - n) ≡ m
    e = omega arith

pub lits-more : (P : ℕ → ℕ → Type 0) (lo : ℕ) → Fits P lo → (n m : ℕ) (ls : List Lit) → lo ≤ n → n ≤ m → LitsOk P n ls → LitsOk P m ls
lits-more P lo f n m [] le l h = tt
lits-more P lo f n m (x ∷ ls) le l h = (ok-more P lo f n m x.var le l h.0, lits-more P lo f n m ls le l h.1)

pub lits-append : (P : ℕ → ℕ → Type 0) (n : ℕ) (xs ys : List Lit) → LitsOk P n xs → LitsOk P n ys → LitsOk P n (xs ++ ys)
lits-append P n [] ys h g = g
lits-append P n (x ∷ xs) ys h g = (h.0, lits-append P n xs ys h.1 g)

pub lits-left : (P : ℕ → ℕ → Type 0) (n : ℕ) (xs ys : List Lit) → LitsOk P n (xs ++ ys) → LitsOk P n xs
lits-left P n [] ys h = tt
lits-left P n (x ∷ xs) ys h = (h.0, lits-left P n xs ys h.1)

pub lits-right : (P : ℕ → ℕ → Type 0) (n : ℕ) (xs ys : List Lit) → LitsOk P n (xs ++ ys) → LitsOk P n ys
lits-right P n [] ys h = h
lits-right P n (x ∷ xs) ys h = lits-right P n xs ys h.1

lits-take : (P : ℕ → ℕ → Type 0) (n k : ℕ) (xs : List Lit) → LitsOk P n xs → LitsOk P n (take k xs)
lits-take P n zero xs h = tt
lits-take P n (suc k) [] h = tt
lits-take P n (suc k) (x ∷ xs) h = (h.0, lits-take P n k xs h.1)

lits-drop : (P : ℕ → ℕ → Type 0) (n k : ℕ) (xs : List Lit) → LitsOk P n xs → LitsOk P n (drop k xs)
lits-drop P n zero xs h = h
lits-drop P n (suc k) [] h = tt
lits-drop P n (suc k) (x ∷ xs) h = lits-drop P n k xs h.1

lits-negated : (P : ℕ → ℕ → Type 0) (n : ℕ) (xs : List Lit) → LitsOk P n xs → LitsOk P n (map negated xs)
lits-negated P n [] h = tt
lits-negated P n (x ∷ xs) h = (h.0, lits-negated P n xs h.1)

pub net_ok-append : (P : ℕ → ℕ → Type 0) (n : ℕ) (xs ys : List Def) → NetOk P n xs → NetOk P (n + length xs) ys → NetOk P n (xs ++ ys)
net_ok-append P n [] ys g h = subst (λ (k : ℕ). NetOk P k ys) (omega arith) h
net_ok-append P n (x ∷ xs) ys g h = (g.0, net_ok-append P (suc n) xs ys g.1 (subst (λ (k : ℕ). NetOk P k ys) (omega arith) h))

pub chosen : {A : Type 0} (t : Bool) (m k : A) (Q : A → Type 0) → (t ≡ true → Q m) → (t ≡ false → Q k) → Q (cond t m k)
chosen true m k Q f g = f refl
chosen false m k Q f g = g refl

pub topped-length : (xs ys : List Lit) → 1 ≤ length xs → length xs ≡ length ys → length (topped xs ys) ≡ length xs
topped-length xs ys h e =
    let a = length-append (take (length xs - 1) xs) (drop (length ys - 1) ys) in
    let b = length-take-le (length xs - 1) xs (omega arith) in
    let c = length-drop (length ys - 1) ys in
    omega arith

-- what each gate owes: its definitions speak of inputs and earlier definitions, and so do its outputs
pub ripple-ok : (P : ℕ → ℕ → Type 0) (lo : ℕ) → Fits P lo → (n : ℕ) (xs ys : List Lit) (c : Lit) → lo ≤ n → LitsOk P n xs → LitsOk P n ys → P n c.var
    → NetOk P n (ripple n xs ys c).defs × (LitsOk P (n + length (ripple n xs ys c).defs) (ripple n xs ys c).outs
    × P (n + length (ripple n xs ys c).defs) (ripple n xs ys c).carry.var)
ripple-ok P lo f n [] ys c le hx hy hc = (tt, (tt, ok-more P lo f n (n + 0) c.var le (omega arith) hc))
ripple-ok P lo f n (x ∷ xs) [] c le hx hy hc = (tt, (tt, ok-more P lo f n (n + 0) c.var le (omega arith) hc))
ripple-ok P lo f n (x ∷ xs) (y ∷ ys) c le hx hy hc =
    let m = suc (suc n) in
    let r = ripple m xs ys (positive_of (suc n)) in
    let i = ripple-ok P lo f m xs ys (positive_of (suc n)) (omega arith) (lits-more P lo f n m xs le (omega arith) hx.1)
    (lits-more P lo f n m ys le (omega arith) hy.1) (f.fresh (suc n) (omega arith)) in
    let e : m + length r.defs ≡ n + suc (suc (length r.defs)) = omega arith in (
      (
        (hx.0, hy.0, hc),
        (
          (f.later n x.var le hx.0, f.later n y.var le hy.0, f.later n c.var le hc),
          i.0,
        ),
      ),
      (
        (
          ok-more P lo f (suc n) (n + suc (suc (length r.defs))) n (omega arith) (omega arith) (f.fresh n le),
          subst (λ (t : ℕ). LitsOk P t r.outs) e i.1.0,
        ),
        subst (λ (t : ℕ). P t r.carry.var) e i.1.1,
      ),
    )

half-ok : (P : ℕ → ℕ → Type 0) (lo : ℕ) → Fits P lo → (n : ℕ) (xs ys : List Lit) → lo ≤ n → LitsOk P n xs → LitsOk P n ys
    → NetOk P n (half_ripple n xs ys).defs × LitsOk P (n + length (half_ripple n xs ys).defs) (half_ripple n xs ys).outs
half-ok P lo f n [] ys le hx hy = (tt, tt)
half-ok P lo f n (x ∷ xs) [] le hx hy = (tt, tt)
half-ok P lo f n (x ∷ xs) (y ∷ ys) le hx hy =
    let m = suc (suc n) in
    let r = ripple m xs ys (positive_of (suc n)) in
    let i = ripple-ok P lo f m xs ys (positive_of (suc n)) (omega arith) (lits-more P lo f n m xs le (omega arith) hx.1)
    (lits-more P lo f n m ys le (omega arith) hy.1) (f.fresh (suc n) (omega arith)) in
    let e : m + length r.defs ≡ n + suc (suc (length r.defs)) = omega arith in (
      ((hx.0, hy.0), ((f.later n x.var le hx.0, f.later n y.var le hy.0), i.0)),
      (
        ok-more P lo f (suc n) (n + suc (suc (length r.defs))) n (omega arith) (omega arith) (f.fresh n le),
        subst (λ (t : ℕ). LitsOk P t r.outs) e i.1.0,
      ),
    )

masked-ok : (P : ℕ → ℕ → Type 0) (lo : ℕ) → Fits P lo → (n : ℕ) (xs : List Lit) (b : Lit) → lo ≤ n → LitsOk P n xs → P n b.var
    → NetOk P n (masked n xs b).defs × LitsOk P (n + length (masked n xs b).defs) (masked n xs b).outs
masked-ok P lo f n [] b le hx hb = (tt, tt)
masked-ok P lo f n (x ∷ xs) b le hx hb =
    let r = masked (suc n) xs b in
    let i = masked-ok P lo f (suc n) xs b (omega arith) (lits-more P lo f n (suc n) xs le (omega arith) hx.1) (f.later n b.var le hb) in
    let e : suc n + length r.defs ≡ n + suc (length r.defs) = omega arith in (
      ((hx.0, hb), i.0),
      (
        ok-more P lo f (suc n) (n + suc (length r.defs)) n (omega arith) (omega arith) (f.fresh n le),
        subst (λ (t : ℕ). LitsOk P t r.outs) e i.1,
      ),
    )

filled-ok : (P : ℕ → ℕ → Type 0) (lo : ℕ) → Fits P lo → (n : ℕ) (c : Lit) (xs : List Lit) (z : Lit) → lo ≤ n → P n c.var → LitsOk P n xs → P n z.var
    → NetOk P n (filled n c xs z).defs × LitsOk P (n + length (filled n c xs z).defs) (filled n c xs z).outs
filled-ok P lo f n c [] z le hc hx hz = (tt, tt)
filled-ok P lo f n c (x ∷ xs) z le hc hx hz =
    let r = filled (suc n) c xs z in
    let i = filled-ok P lo f (suc n) c xs z (omega arith) (f.later n c.var le hc) (lits-more P lo f n (suc n) xs le (omega arith) hx.1) (f.later n z.var le hz) in
    let e : suc n + length r.defs ≡ n + suc (length r.defs) = omega arith in (
      ((hc, hx.0, hz), i.0),
      (
        ok-more P lo f (suc n) (n + suc (length r.defs)) n (omega arith) (omega arith) (f.fresh n le),
        subst (λ (t : ℕ). LitsOk P t r.outs) e i.1,
      ),
    )

selected-ok : (P : ℕ → ℕ → Type 0) (lo : ℕ) → Fits P lo → (n : ℕ) (c : Lit) (xs ys : List Lit) → lo ≤ n → P n c.var → LitsOk P n xs → LitsOk P n ys
    → NetOk P n (selected n c xs ys).defs × LitsOk P (n + length (selected n c xs ys).defs) (selected n c xs ys).outs
selected-ok P lo f n c [] ys le hc hx hy = (tt, tt)
selected-ok P lo f n c (x ∷ xs) [] le hc hx hy = (tt, tt)
selected-ok P lo f n c (x ∷ xs) (y ∷ ys) le hc hx hy =
    let r = selected (suc n) c xs ys in
    let i = selected-ok P lo f (suc n) c xs ys (omega arith) (f.later n c.var le hc) (lits-more P lo f n (suc n) xs le (omega arith) hx.1)
    (lits-more P lo f n (suc n) ys le (omega arith) hy.1) in
    let e : suc n + length r.defs ≡ n + suc (length r.defs) = omega arith in (
      ((hc, hx.0, hy.0), i.0),
      (
        ok-more P lo f (suc n) (n + suc (length r.defs)) n (omega arith) (omega arith) (f.fresh n le),
        subst (λ (t : ℕ). LitsOk P t r.outs) e i.1,
      ),
    )

row-ok : (P : ℕ → ℕ → Type 0) (lo : ℕ) → Fits P lo → (n : ℕ) (x : Lit) (xs : List Lit) (b : Lit) (low : List Lit) → lo ≤ n → P n x.var → LitsOk P n xs → P n b.var → LitsOk P n low
    → NetOk P n (row n x xs b low).defs × LitsOk P (n + length (row n x xs b low).defs) (row n x xs b low).outs
row-ok P lo f n x xs b low le h hx hb hl =
    let m = masked (suc n) xs b in
    let k = suc n + length m.defs in
    let s = half_ripple k m.outs low in
    let i = masked-ok P lo f (suc n) xs b (omega arith) (lits-more P lo f n (suc n) xs le (omega arith) hx) (f.later n b.var le hb) in
    let j = half-ok P lo f k m.outs low (omega arith) i.1 (lits-more P lo f n k low le (omega arith) hl) in
    let l : length (m.defs ++ s.defs) ≡ length m.defs + length s.defs = length-append m.defs s.defs in
    let e : k + length s.defs ≡ n + suc (length (m.defs ++ s.defs)) = omega arith in (
      ((h, hb), net_ok-append P (suc n) m.defs s.defs i.0 j.0),
      (
        ok-more P lo f (suc n) (n + suc (length (m.defs ++ s.defs))) n (omega arith) (omega arith) (f.fresh n le),
        subst (λ (t : ℕ). LitsOk P t s.outs) e j.1,
      ),
    )

product-ok : (P : ℕ → ℕ → Type 0) (lo : ℕ) → Fits P lo → (n : ℕ) (x : Lit) (xs ys : List Lit) → lo ≤ n → P n x.var → LitsOk P n xs → LitsOk P n ys
    → NetOk P n (product n x xs ys).defs × LitsOk P (n + length (product n x xs ys).defs) (product n x xs ys).outs
product-ok P lo f n x xs [] le h hx hy = (tt, tt)
product-ok P lo f n x xs (y ∷ ys) le h hx hy =
    let m = product n x xs ys in
    let k = n + length m.defs in
    let ts = take (length m.outs) xs in
    let s = row k x ts y m.outs in
    let i = product-ok P lo f n x xs ys le h hx hy.1 in
    let j = row-ok P lo f k x ts y m.outs (omega arith) (ok-more P lo f n k x.var le (omega arith) h)
    (lits-more P lo f n k ts le (omega arith) (lits-take P n (length m.outs) xs hx)) (ok-more P lo f n k y.var le (omega arith) hy.0) i.1 in
    let l : length (m.defs ++ s.defs) ≡ length m.defs + length s.defs = length-append m.defs s.defs in
    let e : k + length s.defs ≡ n + length (m.defs ++ s.defs) = omega arith in
    (net_ok-append P n m.defs s.defs i.0 j.0, subst (λ (t : ℕ). LitsOk P t s.outs) e j.1)

pub product_of-ok : (P : ℕ → ℕ → Type 0) (lo : ℕ) → Fits P lo → (n : ℕ) (xs ys : List Lit) → lo ≤ n → LitsOk P n xs → LitsOk P n ys
    → NetOk P n (product_of n xs ys).defs × LitsOk P (n + length (product_of n xs ys).defs) (product_of n xs ys).outs
product_of-ok P lo f n [] ys le hx hy = (tt, tt)
product_of-ok P lo f n (x ∷ xs) ys le hx hy = product-ok P lo f n x xs ys le hx.0 hx.1 hy

shifted-ok : (P : ℕ → ℕ → Type 0) (n : ℕ) (a : Lit) (xs : List Lit) → P n a.var → LitsOk P n xs → LitsOk P n (shifted a xs).low × P n (shifted a xs).top.var
shifted-ok P n a [] h hx = (tt, h)
shifted-ok P n a (x ∷ xs) h hx = let i = shifted-ok P n x xs hx.0 hx.1 in ((h, i.0), i.1)

zeros-ok : (P : ℕ → ℕ → Type 0) (n : ℕ) (z : Lit) (b : List Lit) → P n z.var → LitsOk P n (zeros z b)
zeros-ok P n z [] h = tt
zeros-ok P n z (x ∷ b) h = (h, zeros-ok P n z b h)

step-ok : (P : ℕ → ℕ → Type 0) (lo : ℕ) → Fits P lo → (n : ℕ) (one a : Lit) (r nb : List Lit) → lo ≤ n → P n one.var → P n a.var → LitsOk P n r → LitsOk P n nb
    → NetOk P n (div_step n one a r nb).defs × (P (n + length (div_step n one a r nb).defs) (div_step n one a r nb).quot.var
    × LitsOk P (n + length (div_step n one a r nb).defs) (div_step n one a r nb).rest)
step-ok P lo f n one a r nb le ho ha hr hb =
    let p = shifted a r in
    let pf = shifted-ok P n a r ha hr in
    let s = ripple n p.low nb one in
    let sf = ripple-ok P lo f n p.low nb one le pf.0 hb ho in
    let k = n + length s.defs in
    let q = negated (positive_of k) in
    let t = selected (suc k) q s.outs p.low in
    let tf = selected-ok P lo f (suc k) q s.outs p.low (omega arith) (f.fresh k (omega arith)) (lits-more P lo f k (suc k) s.outs (omega arith) (omega arith) sf.1.0)
    (lits-more P lo f n (suc k) p.low le (omega arith) pf.0) in
    let d = And (negated p.top) (negated s.carry) in
    let l : length (s.defs ++ d ∷ t.defs) ≡ length s.defs + suc (length t.defs) = length-append s.defs (d ∷ t.defs) in
    let e : suc k + length t.defs ≡ n + length (s.defs ++ d ∷ t.defs) = omega arith in (
      net_ok-append P n s.defs (d ∷ t.defs) sf.0 ((ok-more P lo f n k p.top.var le (omega arith) pf.1, sf.1.1), tf.0),
      (
        ok-more P lo f (suc k) (n + length (s.defs ++ d ∷ t.defs)) k (omega arith) (omega arith) (f.fresh k (omega arith)),
        subst (λ (i : ℕ). LitsOk P i t.outs) e tf.1,
      ),
    )

divided-ok : (P : ℕ → ℕ → Type 0) (lo : ℕ) → Fits P lo → (n : ℕ) (one : Lit) (xs b : List Lit) → lo ≤ n → P n one.var → LitsOk P n xs → LitsOk P n b
    → NetOk P n (divided n one xs b).defs × (LitsOk P (n + length (divided n one xs b).defs) (divided n one xs b).quot
    × LitsOk P (n + length (divided n one xs b).defs) (divided n one xs b).rest)
divided-ok P lo f n one [] b le ho hx hb =
    (tt, (tt, lits-more P lo f n (n + 0) (zeros (negated one) b) le (omega arith) (zeros-ok P n (negated one) b ho)))
divided-ok P lo f n one (a ∷ xs) b le ho hx hb =
    let d = divided n one xs b in
    let i = divided-ok P lo f n one xs b le ho hx.1 hb in
    let k = n + length d.defs in
    let nb = map negated b in
    let s = div_step k one a d.rest nb in
    let j = step-ok P lo f k one a d.rest nb (omega arith) (ok-more P lo f n k one.var le (omega arith) ho) (ok-more P lo f n k a.var le (omega arith) hx.0)
    i.1.1 (lits-more P lo f n k nb le (omega arith) (lits-negated P n b hb)) in
    let l : length (d.defs ++ s.defs) ≡ length d.defs + length s.defs = length-append d.defs s.defs in
    let e : k + length s.defs ≡ n + length (d.defs ++ s.defs) = omega arith in (
      net_ok-append P n d.defs s.defs i.0 j.0,
      (
        (
          subst (λ (t : ℕ). P t s.quot.var) e j.1.0,
          lits-more P lo f k (n + length (d.defs ++ s.defs)) d.quot (omega arith) (omega arith) i.1.0,
        ),
        subst (λ (t : ℕ). LitsOk P t s.rest) e j.1.1,
      ),
    )

none_of-ok : (P : ℕ → ℕ → Type 0) (lo : ℕ) → Fits P lo → (n : ℕ) (z : Lit) (b : List Lit) → lo ≤ n → P n z.var → LitsOk P n b
    → NetOk P n (none_of n z b).defs × P (n + length (none_of n z b).defs) (none_of n z b).out.var
none_of-ok P lo f n z [] le h hb = (tt, ok-more P lo f n (n + 0) z.var le (omega arith) h)
none_of-ok P lo f n z (x ∷ b) le h hb =
    let r = none_of (suc n) (positive_of n) b in
    let i = none_of-ok P lo f (suc n) (positive_of n) b (omega arith) (f.fresh n le) (lits-more P lo f n (suc n) b le (omega arith) hb.1) in
    let e : suc n + length r.defs ≡ n + suc (length r.defs) = omega arith in
    (((h, hb.0), i.0), subst (λ (t : ℕ). P t r.out.var) e i.1)

pub quotient-ok : (P : ℕ → ℕ → Type 0) (lo : ℕ) → Fits P lo → (n : ℕ) (xs b : List Lit) → lo ≤ n → LitsOk P n xs → LitsOk P n b
    → NetOk P n (quotient n xs b).defs × (LitsOk P (n + length (quotient n xs b).defs) (quotient n xs b).quot
    × LitsOk P (n + length (quotient n xs b).defs) (quotient n xs b).rest)
quotient-ok P lo f n xs b le hx hb =
    let one = positive_of n in
    let d = divided (suc n) one xs b in
    let k = suc n + length d.defs in
    let z = none_of k one b in
    let l = k + length z.defs in
    let q = masked l d.quot (negated z.out) in
    let o = l + length q.defs in
    let r = masked o d.rest (negated z.out) in
    let df = divided-ok P lo f (suc n) one xs b (omega arith) (f.fresh n le) (lits-more P lo f n (suc n) xs le (omega arith) hx) (lits-more P lo f n (suc n) b le (omega arith) hb) in
    let zf = none_of-ok P lo f k one b (omega arith) (ok-more P lo f (suc n) k n (omega arith) (omega arith) (f.fresh n le)) (lits-more P lo f n k b le (omega arith) hb) in
    let qf = masked-ok P lo f l d.quot (negated z.out) (omega arith) (lits-more P lo f k l d.quot (omega arith) (omega arith) df.1.0) zf.1 in
    let rf = masked-ok P lo f o d.rest (negated z.out) (omega arith) (lits-more P lo f k o d.rest (omega arith) (omega arith) df.1.1) (ok-more P lo f l o z.out.var (omega arith) (omega arith) zf.1) in
    let l1 : length (q.defs ++ r.defs) ≡ length q.defs + length r.defs = length-append q.defs r.defs in
    let l2 : length (z.defs ++ (q.defs ++ r.defs)) ≡ length z.defs + length (q.defs ++ r.defs) = length-append z.defs (q.defs ++ r.defs) in
    let l3 : length (d.defs ++ (z.defs ++ (q.defs ++ r.defs))) ≡ length d.defs + length (z.defs ++ (q.defs ++ r.defs)) = length-append d.defs (z.defs ++ (q.defs ++ r.defs)) in
    let e : o + length r.defs ≡ n + suc (length (d.defs ++ (z.defs ++ (q.defs ++ r.defs)))) = omega arith in (
      (
        tt,
        net_ok-append P (suc n) d.defs (z.defs ++ (q.defs ++ r.defs)) df.0
            (net_ok-append P k z.defs (q.defs ++ r.defs) zf.0 (net_ok-append P l q.defs r.defs qf.0 rf.0)),
      ),
      (
        lits-more P lo f o (n + suc (length (d.defs ++ (z.defs ++ (q.defs ++ r.defs))))) q.outs (omega arith) (omega arith) qf.1,
        subst (λ (t : ℕ). LitsOk P t r.outs) e rf.1,
      ),
    )

below-ok : (P : ℕ → ℕ → Type 0) (lo : ℕ) → Fits P lo → (n : ℕ) (l : Lit) (xs ys : List Lit) → lo ≤ n → P n l.var → LitsOk P n xs → LitsOk P n ys
    → NetOk P n (below n l xs ys).defs × P (n + length (below n l xs ys).defs) (below n l xs ys).out.var
below-ok P lo f n l [] ys le hl hx hy = (tt, ok-more P lo f n (n + 0) l.var le (omega arith) hl)
below-ok P lo f n l (x ∷ xs) [] le hl hx hy = (tt, ok-more P lo f n (n + 0) l.var le (omega arith) hl)
below-ok P lo f n l (x ∷ xs) (y ∷ ys) le hl hx hy =
    let r = below (suc n) (positive_of n) xs ys in
    let i = below-ok P lo f (suc n) (positive_of n) xs ys (omega arith) (f.fresh n le) (lits-more P lo f n (suc n) xs le (omega arith) hx.1)
    (lits-more P lo f n (suc n) ys le (omega arith) hy.1) in
    let e : suc n + length r.defs ≡ n + suc (length r.defs) = omega arith in
    (((hx.0, hy.0, hl), i.0), subst (λ (t : ℕ). P t r.out.var) e i.1)

ordered-ok : (P : ℕ → ℕ → Type 0) (lo : ℕ) → Fits P lo → (n : ℕ) (xs ys : List Lit) → lo ≤ n → 1 ≤ length xs → length xs ≡ length ys → LitsOk P n xs → LitsOk P n ys
    → NetOk P n (ordered n xs ys).defs × P (n + length (ordered n xs ys).defs) (ordered n xs ys).out.var
ordered-ok P lo f n [] ys le h e hx hy = absurd (omega arith)
ordered-ok P lo f n (x ∷ xs) [] le h e hx hy = absurd (omega arith)
ordered-ok P lo f n (x ∷ xs) (y ∷ ys) le h e hx hy =
    let r = below (suc n) (positive_of n) xs ys in
    let i = below-ok P lo f (suc n) (positive_of n) xs ys (omega arith) (f.fresh n le) (lits-more P lo f n (suc n) xs le (omega arith) hx.1)
    (lits-more P lo f n (suc n) ys le (omega arith) hy.1) in
    let e : suc n + length r.defs ≡ n + suc (length r.defs) = omega arith in
    (((hx.0, hy.0), i.0), subst (λ (t : ℕ). P t r.out.var) e i.1)

pub less_of-ok : (P : ℕ → ℕ → Type 0) (lo : ℕ) → Fits P lo → (n : ℕ) (s : Bool) (xs ys : List Lit) → lo ≤ n → 1 ≤ length xs → length xs ≡ length ys → LitsOk P n xs → LitsOk P n ys
    → NetOk P n (less_of n s xs ys).defs × P (n + length (less_of n s xs ys).defs) (less_of n s xs ys).out.var
less_of-ok P lo f n false xs ys le h e hx hy = ordered-ok P lo f n xs ys le h e hx hy
less_of-ok P lo f n true xs ys le h e hx hy =
    let a = topped-length xs ys h e in
    let b = topped-length ys xs (omega arith) (sym e) in
    ordered-ok P lo f n (topped xs ys) (topped ys xs) le (omega arith) (omega arith)
    (lits-append P n (take (length xs - 1) xs) (drop (length ys - 1) ys) (lits-take P n (length xs - 1) xs hx) (lits-drop P n (length ys - 1) ys hy))
    (lits-append P n (take (length ys - 1) ys) (drop (length xs - 1) xs) (lits-take P n (length ys - 1) ys hy) (lits-drop P n (length xs - 1) xs hx))

alike-ok : (P : ℕ → ℕ → Type 0) (lo : ℕ) → Fits P lo → (n : ℕ) (l : Lit) (xs ys : List Lit) → lo ≤ n → P n l.var → LitsOk P n xs → LitsOk P n ys
    → NetOk P n (alike n l xs ys).defs × P (n + length (alike n l xs ys).defs) (alike n l xs ys).out.var
alike-ok P lo f n l [] ys le hl hx hy = (tt, ok-more P lo f n (n + 0) l.var le (omega arith) hl)
alike-ok P lo f n l (x ∷ xs) [] le hl hx hy = (tt, ok-more P lo f n (n + 0) l.var le (omega arith) hl)
alike-ok P lo f n l (x ∷ xs) (y ∷ ys) le hl hx hy =
    let r = alike (suc n) (positive_of n) xs ys in
    let i = alike-ok P lo f (suc n) (positive_of n) xs ys (omega arith) (f.fresh n le) (lits-more P lo f n (suc n) xs le (omega arith) hx.1)
    (lits-more P lo f n (suc n) ys le (omega arith) hy.1) in
    let e : suc n + length r.defs ≡ n + suc (length r.defs) = omega arith in
    (((hl, hx.0, hy.0), i.0), subst (λ (t : ℕ). P t r.out.var) e i.1)

pub equal_of-ok : (P : ℕ → ℕ → Type 0) (lo : ℕ) → Fits P lo → (n : ℕ) (xs ys : List Lit) → lo ≤ n → 1 ≤ length xs → length xs ≡ length ys → LitsOk P n xs → LitsOk P n ys
    → NetOk P n (equal_of n xs ys).defs × P (n + length (equal_of n xs ys).defs) (equal_of n xs ys).out.var
equal_of-ok P lo f n [] ys le h e hx hy = absurd (omega arith)
equal_of-ok P lo f n (x ∷ xs) [] le h e hx hy = absurd (omega arith)
equal_of-ok P lo f n (x ∷ xs) (y ∷ ys) le h e hx hy =
    let r = alike (suc n) (positive_of n) xs ys in
    let i = alike-ok P lo f (suc n) (positive_of n) xs ys (omega arith) (f.fresh n le) (lits-more P lo f n (suc n) xs le (omega arith) hx.1)
    (lits-more P lo f n (suc n) ys le (omega arith) hy.1) in
    let e : suc n + length r.defs ≡ n + suc (length r.defs) = omega arith in
    (((hx.0, hy.0), i.0), subst (λ (t : ℕ). P t r.out.var) e i.1)

pub and_of-ok : (P : ℕ → ℕ → Type 0) (lo : ℕ) → Fits P lo → (n : ℕ) (a b : Lit) → lo ≤ n → P n a.var → P n b.var
    → NetOk P n (and_of n a b).defs × P (n + length (and_of n a b).defs) (and_of n a b).out.var
and_of-ok P lo f n a b le ha hb =
    let one : P (n + 1) n = ok-more P lo f (suc n) (n + 1) n (omega arith) (omega arith) (f.fresh n le) in
    chosen {A = Chained} (eqb a.var b.var)
    (cond (beq a.positive b.positive) (record { defs = []; out = a }) (record { defs = Fixed false ∷ []; out = positive_of n }))
    (record { defs = And a b ∷ []; out = positive_of n }) (λ m. NetOk P n m.defs × P (n + length m.defs) m.out.var)
    (λ e. chosen {A = Chained} (beq a.positive b.positive) (record { defs = []; out = a }) (record { defs = Fixed false ∷ []; out = positive_of n })
    (λ m. NetOk P n m.defs × P (n + length m.defs) m.out.var)
    (λ g. (tt, ok-more P lo f n (n + 0) a.var le (omega arith) ha)) (λ g. ((tt, tt), one)))
    (λ e. (((ha, hb), tt), one))

pub xor_of-ok : (P : ℕ → ℕ → Type 0) (lo : ℕ) → Fits P lo → (n : ℕ) (a b : Lit) → lo ≤ n → P n a.var → P n b.var
    → NetOk P n (xor_of n a b).defs × P (n + length (xor_of n a b).defs) (xor_of n a b).out.var
xor_of-ok P lo f n a b le ha hb =
    let one : P (n + 1) n = ok-more P lo f (suc n) (n + 1) n (omega arith) (omega arith) (f.fresh n le) in
    chosen {A = Chained} (eqb a.var b.var)
    (record { defs = Fixed (not (beq a.positive b.positive)) ∷ []; out = positive_of n })
    (record { defs = Xor a b ∷ []; out = positive_of n }) (λ m. NetOk P n m.defs × P (n + length m.defs) m.out.var)
    (λ e. ((tt, tt), one)) (λ e. (((ha, hb), tt), one))

pub select_of-ok : (P : ℕ → ℕ → Type 0) (lo : ℕ) → Fits P lo → (n : ℕ) (c a b : Lit) → lo ≤ n → P n c.var → P n a.var → P n b.var
    → NetOk P n (select_of n c a b).defs × P (n + length (select_of n c a b).defs) (select_of n c a b).out.var
select_of-ok P lo f n c a b le hc ha hb =
    let one : P (n + 1) n = ok-more P lo f (suc n) (n + 1) n (omega arith) (omega arith) (f.fresh n le) in
    let q1 : Chained = cond (beq a.positive b.positive) (record { defs = []; out = a }) (turned (xor_of n c a)) in
    let q2 : Chained = cond (beq c.positive a.positive) (turned (and_of n (negated c) (negated b))) (and_of n (negated c) b) in
    let q3 : Chained = cond (beq c.positive b.positive) (and_of n c a) (turned (and_of n c (negated a))) in
    let q4 : Chained = record { defs = Select c a b ∷ []; out = positive_of n } in
    let q5 : Chained = cond (eqb c.var b.var) q3 q4 in
    let q6 : Chained = cond (eqb c.var a.var) q2 q5 in
    chosen {A = Chained} (eqb a.var b.var) q1 q6 (λ m. NetOk P n m.defs × P (n + length m.defs) m.out.var)
    (λ e. chosen {A = Chained} (beq a.positive b.positive) (record { defs = []; out = a }) (turned (xor_of n c a))
    (λ m. NetOk P n m.defs × P (n + length m.defs) m.out.var)
    (λ g. (tt, ok-more P lo f n (n + 0) a.var le (omega arith) ha)) (λ g. xor_of-ok P lo f n c a le hc ha))
    (λ e. chosen {A = Chained} (eqb c.var a.var) q2 q5 (λ m. NetOk P n m.defs × P (n + length m.defs) m.out.var)
    (λ g. chosen {A = Chained} (beq c.positive a.positive) (turned (and_of n (negated c) (negated b))) (and_of n (negated c) b)
    (λ m. NetOk P n m.defs × P (n + length m.defs) m.out.var)
    (λ h. and_of-ok P lo f n (negated c) (negated b) le hc hb) (λ h. and_of-ok P lo f n (negated c) b le hc hb))
    (λ g. chosen {A = Chained} (eqb c.var b.var) q3 q4 (λ m. NetOk P n m.defs × P (n + length m.defs) m.out.var)
    (λ h. chosen {A = Chained} (beq c.positive b.positive) (and_of n c a) (turned (and_of n c (negated a)))
    (λ m. NetOk P n m.defs × P (n + length m.defs) m.out.var)
    (λ k. and_of-ok P lo f n c a le hc ha) (λ k. and_of-ok P lo f n c (negated a) le hc ha))
    (λ h. (((hc, ha, hb), tt), one))))

emptied-ok : (P : ℕ → ℕ → Type 0) (lo : ℕ) → Fits P lo → (n : ℕ) (how : Shift) (z c : Lit) (xs : List Lit) → lo ≤ n → P n z.var → P n c.var → LitsOk P n xs
    → NetOk P n (emptied n how z c xs).defs × LitsOk P (n + length (emptied n how z c xs).defs) (emptied n how z c xs).outs
emptied-ok P lo f n Left z c xs le hz hc hx = masked-ok P lo f n xs c le hx hc
emptied-ok P lo f n Logical z c xs le hz hc hx = masked-ok P lo f n xs c le hx hc
emptied-ok P lo f n Arithmetic z c xs le hz hc hx = filled-ok P lo f n c xs z le hc hx hz

joined-ok : (P : ℕ → ℕ → Type 0) (lo : ℕ) → Fits P lo → (n : ℕ) (p q : Made) → lo ≤ n
    → NetOk P n p.defs × LitsOk P (n + length p.defs) p.outs
    → NetOk P (n + length p.defs) q.defs × LitsOk P (n + length p.defs + length q.defs) q.outs
    → NetOk P n (joined p q).defs × LitsOk P (n + length (joined p q).defs) (joined p q).outs
joined-ok P lo f n p q le h g =
    let l : length (p.defs ++ q.defs) ≡ length p.defs + length q.defs = length-append p.defs q.defs in
    let e : n + length p.defs + length q.defs ≡ n + length (p.defs ++ q.defs) = omega arith in (
      net_ok-append P n p.defs q.defs h.0 g.0,
      lits-append P (n + length (p.defs ++ q.defs)) p.outs q.outs
          (lits-more P lo f (n + length p.defs) (n + length (p.defs ++ q.defs)) p.outs (omega arith) (omega arith) h.1)
          (subst (λ (t : ℕ). LitsOk P t q.outs) e g.1),
    )

right_stage-ok : (P : ℕ → ℕ → Type 0) (lo : ℕ) → Fits P lo → (n : ℕ) (how : Shift) (z : Lit) (k : ℕ) (b : Lit) (xs : List Lit) → lo ≤ n → P n z.var → P n b.var → LitsOk P n xs
    → NetOk P n (right_stage n how z k b xs).defs × LitsOk P (n + length (right_stage n how z k b xs).defs) (right_stage n how z k b xs).outs
right_stage-ok P lo f n how z k b xs le hz hb hx =
    let s = selected n b (drop k xs) (take (length xs - k) xs) in
    let m = n + length s.defs in
    let hi = drop (length xs - k) xs in
    joined-ok P lo f n s (emptied m how z (negated b) hi) le
    (selected-ok P lo f n b (drop k xs) (take (length xs - k) xs) le hb (lits-drop P n k xs hx) (lits-take P n (length xs - k) xs hx))
    (emptied-ok P lo f m how z (negated b) hi (omega arith) (ok-more P lo f n m z.var le (omega arith) hz) (ok-more P lo f n m b.var le (omega arith) hb)
    (lits-more P lo f n m hi le (omega arith) (lits-drop P n (length xs - k) xs hx)))

stage-ok : (P : ℕ → ℕ → Type 0) (lo : ℕ) → Fits P lo → (n : ℕ) (how : Shift) (z : Lit) (k : ℕ) (b : Lit) (xs : List Lit) → lo ≤ n → P n z.var → P n b.var → LitsOk P n xs
    → NetOk P n (stage n how z k b xs).defs × LitsOk P (n + length (stage n how z k b xs).defs) (stage n how z k b xs).outs
stage-ok P lo f n Logical z k b xs le hz hb hx = right_stage-ok P lo f n Logical z k b xs le hz hb hx
stage-ok P lo f n Arithmetic z k b xs le hz hb hx = right_stage-ok P lo f n Arithmetic z k b xs le hz hb hx
stage-ok P lo f n Left z k b xs le hz hb hx =
    let p = masked n (take k xs) (negated b) in
    let m = n + length p.defs in
    joined-ok P lo f n p (selected m b (take (length xs - k) xs) (drop k xs)) le
    (masked-ok P lo f n (take k xs) (negated b) le (lits-take P n k xs hx) hb)
    (selected-ok P lo f m b (take (length xs - k) xs) (drop k xs) (omega arith) (ok-more P lo f n m b.var le (omega arith) hb)
    (lits-more P lo f n m (take (length xs - k) xs) le (omega arith) (lits-take P n (length xs - k) xs hx))
    (lits-more P lo f n m (drop k xs) le (omega arith) (lits-drop P n k xs hx)))

last_stage-ok : (P : ℕ → ℕ → Type 0) (lo : ℕ) → Fits P lo → (n : ℕ) (how : Shift) (z : Lit) (xs : List Lit) (b : Lit) (bs : List Lit) → lo ≤ n → P n z.var → LitsOk P n xs → P n b.var → LitsOk P n bs
    → NetOk P n (last_stage n how z xs b bs).defs × LitsOk P (n + length (last_stage n how z xs b bs).defs) (last_stage n how z xs b bs).outs
last_stage-ok P lo f n how z xs b bs le hz hx hb hbs =
    let c = none_of n (negated b) bs in
    let k = n + length c.defs in
    let m = emptied k how z c.out xs in
    let i = none_of-ok P lo f n (negated b) bs le hb hbs in
    let j = emptied-ok P lo f k how z c.out xs (omega arith) (ok-more P lo f n k z.var le (omega arith) hz) i.1 (lits-more P lo f n k xs le (omega arith) hx) in
    let l : length (c.defs ++ m.defs) ≡ length c.defs + length m.defs = length-append c.defs m.defs in
    let e : k + length m.defs ≡ n + length (c.defs ++ m.defs) = omega arith in
    (net_ok-append P n c.defs m.defs i.0 j.0, subst (λ (t : ℕ). LitsOk P t m.outs) e j.1)

stages-ok : (P : ℕ → ℕ → Type 0) (lo : ℕ) → Fits P lo → (n : ℕ) (how : Shift) (z : Lit) (k : ℕ) (xs bs : List Lit) → lo ≤ n → P n z.var → LitsOk P n xs → LitsOk P n bs
    → NetOk P n (stages n how z k xs bs).defs × LitsOk P (n + length (stages n how z k xs bs).defs) (stages n how z k xs bs).outs
stages-ok P lo f n how z k xs [] le hz hx hb = (tt, lits-more P lo f n (n + 0) xs le (omega arith) hx)
stages-ok P lo f n how z k xs (b ∷ bs) le hz hx hb =
    let s = stage n how z k b xs in
    let m = n + length s.defs in
    let r = stages m how z (2 * k) s.outs bs in
    let i = stage-ok P lo f n how z k b xs le hz hb.0 hx in
    let j = stages-ok P lo f m how z (2 * k) s.outs bs (omega arith) (ok-more P lo f n m z.var le (omega arith) hz) i.1 (lits-more P lo f n m bs le (omega arith) hb.1) in
    let l : length (s.defs ++ r.defs) ≡ length s.defs + length r.defs = length-append s.defs r.defs in
    let e : m + length r.defs ≡ n + length (s.defs ++ r.defs) = omega arith in
    chosen {A = Made} (ltb k (length xs)) (record { defs = s.defs ++ r.defs; outs = r.outs }) (last_stage n how z xs b bs)
    (λ t. NetOk P n t.defs × LitsOk P (n + length t.defs) t.outs)
    (λ h. (net_ok-append P n s.defs r.defs i.0 j.0, subst (λ (t : ℕ). LitsOk P t r.outs) e j.1))
    (λ h. last_stage-ok P lo f n how z xs b bs le hz hx hb.0 hb.1)

top_of-ok : (P : ℕ → ℕ → Type 0) (n : ℕ) (xs : List Lit) → 1 ≤ length xs → LitsOk P n xs → P n (top_of xs).var
top_of-ok P n [] h g = absurd (omega arith)
top_of-ok P n (x ∷ []) h g = g.0
top_of-ok P n (x ∷ y ∷ ys) h g = top_of-ok P n (y ∷ ys) (omega arith) g.1

pub shift_of-ok : (P : ℕ → ℕ → Type 0) (lo : ℕ) → Fits P lo → (n : ℕ) (how : Shift) (xs bs : List Lit) → lo ≤ n → 1 ≤ length xs → LitsOk P n xs → LitsOk P n bs
    → NetOk P n (shift_of n how xs bs).defs × LitsOk P (n + length (shift_of n how xs bs).defs) (shift_of n how xs bs).outs
shift_of-ok P lo f n how xs bs le h hx hb = stages-ok P lo f n how (top_of xs) 1 xs bs le (top_of-ok P n xs h hx) hx hb
