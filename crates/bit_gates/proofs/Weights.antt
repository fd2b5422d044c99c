use Rattle.std.proofs.Common.{◌≡◌, ℕ, ◌+◌, ◌-◌, ◌*◌, ◌^◌, ◌≤◌, ◌<◌, length, List, [], ◌∷◌, ◌++◌, take, map, arith, ap, sym, ◌∙◌, refl, suc, zero, Bool, true, false, cond, ltb, eqb, subst, drop, not}
use Rattle.std.specs.Bool.{beq}
use Rattle.std.proofs.lemmas.Bool.{ltb-true}
use Rattle.std.proofs.Math.Nat.{pow-succ'}
use Rattle.std.proofs.lemmas.List.{length-take-le, length-drop, length-map}
use Rattle.prop.specs.declared.Lit.{Lit}
use Rattle.prop.specs.Logic.{negated, positive_of, count}
use Rattle.bit_gates.specs.declared.netlist.Def.{Def}
use Rattle.bit_gates.specs.declared.netlist.Def.TheVariants.{And, Xor, Select, Sum, Carry, Same, Fixed}
use Rattle.bit_gates.specs.Net.{def_clauses, net_clauses}
use Rattle.bit_gates.specs.declared.shifters.Shift.{Shift}
use Rattle.bit_gates.specs.declared.shifters.Shift.TheVariants.{Left, Logical, Arithmetic}
use Rattle.bit_gates.specs.Singles.{Chained, and_of, xor_of, turned, select_of}
use Rattle.bit_gates.specs.Sums.{ripple, half_ripple}
use Rattle.bit_gates.specs.Products.{Made, masked, row, product, product_of}
use Rattle.bit_gates.specs.Quotients.{shifted, selected, div_step, divided, none_of, quotient}
use Rattle.bit_gates.specs.Orders.{below, ordered, topped, less_of, alike, equal_of}
use Rattle.bit_gates.specs.Shifts.{filled, emptied, right_stage, stage, last_stage, stages, top_of, shift_of}
use Rattle.bit_gates.proofs.Cuts.{count-append}
use Rattle.bit_gates.proofs.AddLaws.{ripple-length}
use Rattle.bit_gates.proofs.ProductLaws.{product-length, masked-length}
use Rattle.bit_gates.proofs.DivideLaws.{shifted-length, divided-length}
use Rattle.bit_gates.proofs.Within.{chosen, topped-length}
use Rattle.bit_gates.proofs.Lengths.{stage-length}

abbrev pub weight : Def → ℕ
weight (And a b) = 7
weight (Xor a b) = 12
weight (Select c a b) = 18
weight (Sum a b c) = 32
weight (Carry a b c) = 18
weight (Same e a b) = 16
weight (Fixed b) = 1

abbrev pub weights : List Def → ℕ
weights [] = 0
weights (d ∷ ds) = weight d + weights ds

pub def-count : (o : Lit) (d : Def) → count (def_clauses o d) ≡ weight d
def-count o (And a b) = refl
def-count o (Xor a b) = refl
def-count o (Select c a b) = refl
def-count o (Sum a b c) = refl
def-count o (Carry a b c) = refl
def-count o (Same e a b) = refl
def-count o (Fixed true) = refl
def-count o (Fixed false) = refl

pub net-count : (n : ℕ) (ds : List Def) → count (net_clauses n ds) ≡ weights ds
net-count n [] = refl
net-count n (d ∷ ds) =
    let a = count-append (def_clauses (positive_of n) d) (net_clauses (suc n) ds) in
    let b = def-count (positive_of n) d in
    let c = net-count (suc n) ds in
    omega arith

pub weights-append : (xs ys : List Def) → weights (xs ++ ys) ≡ weights xs + weights ys
weights-append [] ys = omega arith
weights-append (x ∷ xs) ys = let i = weights-append xs ys in omega arith

pub ripple-weights : (n : ℕ) (xs ys : List Lit) (c : Lit) → length xs ≡ length ys → weights (ripple n xs ys c).defs ≡ 50 * length xs
ripple-weights n [] ys c e = refl
ripple-weights n (x ∷ xs) [] c e = absurd (omega arith)
ripple-weights n (x ∷ xs) (y ∷ ys) c e = let i = ripple-weights (suc (suc n)) xs ys (positive_of (suc n)) (omega arith) in omega arith

half-weights : (n : ℕ) (xs ys : List Lit) → length xs ≡ length ys → weights (half_ripple n xs ys).defs ≤ 50 * length xs
half-weights n [] ys e = omega arith
half-weights n (x ∷ xs) [] e = omega arith
half-weights n (x ∷ xs) (y ∷ ys) e = let i = ripple-weights (suc (suc n)) xs ys (positive_of (suc n)) (omega arith) in omega arith

pub masked-weights : (n : ℕ) (xs : List Lit) (b : Lit) → weights (masked n xs b).defs ≡ 7 * length xs
masked-weights n [] b = refl
masked-weights n (x ∷ xs) b = let i = masked-weights (suc n) xs b in omega arith

row-weights : (n : ℕ) (x : Lit) (xs : List Lit) (b : Lit) (low : List Lit) → length xs ≡ length low → weights (row n x xs b low).defs ≤ 7 + 57 * length xs
row-weights n x xs b low e =
    let m = masked (suc n) xs b in
    let l = masked-length (suc n) xs b in
    let s = half_ripple (suc n + length m.defs) m.outs low in
    let a = weights-append m.defs s.defs in
    let b1 = masked-weights (suc n) xs b in
    let c = half-weights (suc n + length m.defs) m.outs low (omega arith) in
    omega arith

square : (l a b : ℕ) → a ≤ 29 * (l * l) → b ≤ 7 + 57 * l → a + b ≤ 29 * (suc l * suc l)
square l a b h g = omega arith

product-weights : (n : ℕ) (x : Lit) (xs ys : List Lit) → length ys ≤ suc (length xs)
    → weights (product n x xs ys).defs ≤ 29 * (length ys * length ys)
product-weights n x xs [] e = omega arith
product-weights n x xs (y ∷ ys) e =
    let m = product n x xs ys in
    let s = row (n + length m.defs) x (take (length m.outs) xs) y m.outs in
    let a = weights-append m.defs s.defs in
    let i = product-weights n x xs ys (omega arith) in
    let lm : length m.outs ≡ length ys = product-length n x xs ys (omega arith) in
    let lt = length-take-le (length m.outs) xs (omega arith) in
    let r = row-weights (n + length m.defs) x (take (length m.outs) xs) y m.outs lt in
    let q = square (length ys) (weights m.defs) (weights s.defs) i (omega arith) in
    omega arith

pub product_of-weights : (n : ℕ) (xs ys : List Lit) → length xs ≡ length ys
    → weights (product_of n xs ys).defs ≤ 29 * (length xs * length xs)
product_of-weights n [] ys e = omega arith
product_of-weights n (x ∷ xs) ys e =
    subst (λ (t : ℕ). weights (product n x xs ys).defs ≤ 29 * (t * t)) (sym e) (product-weights n x xs ys (omega arith))

pub selected-weights : (n : ℕ) (c : Lit) (xs ys : List Lit) → length xs ≡ length ys → weights (selected n c xs ys).defs ≡ 18 * length xs
selected-weights n c [] ys e = refl
selected-weights n c (x ∷ xs) [] e = absurd (omega arith)
selected-weights n c (x ∷ xs) (y ∷ ys) e = let i = selected-weights (suc n) c xs ys (omega arith) in omega arith

filled-weights : (n : ℕ) (c : Lit) (xs : List Lit) (z : Lit) → weights (filled n c xs z).defs ≡ 18 * length xs
filled-weights n c [] z = refl
filled-weights n c (x ∷ xs) z = let i = filled-weights (suc n) c xs z in omega arith

pub none_of-weights : (n : ℕ) (z : Lit) (b : List Lit) → weights (none_of n z b).defs ≡ 7 * length b
none_of-weights n z [] = refl
none_of-weights n z (x ∷ b) = let i = none_of-weights (suc n) (positive_of n) b in omega arith

step-weights : (n : ℕ) (one a : Lit) (r b : List Lit) → length r ≡ length b → weights (div_step n one a r (map negated b)).defs ≡ 68 * length b + 7
step-weights n one a r b e =
    let p = shifted a r in
    let pl = shifted-length a r in
    let nb = map negated b in
    let nl : length nb ≡ length b = length-map b negated in
    let s = ripple n p.low nb one in
    let k = n + length s.defs in
    let q = negated (positive_of k) in
    let sl : length s.outs ≡ length p.low = ripple-length n p.low nb one (pl ∙ (e ∙ sym nl)) in
    let t = selected (suc k) q s.outs p.low in
    let w1 = ripple-weights n p.low nb one (pl ∙ (e ∙ sym nl)) in
    let w2 = selected-weights (suc k) q s.outs p.low sl in
    let a1 = weights-append s.defs (And (negated p.top) (negated s.carry) ∷ t.defs) in
    omega arith

times : (l b a s : ℕ) → a ≡ l * (68 * b + 7) → s ≡ 68 * b + 7 → a + s ≡ suc l * (68 * b + 7)
times l b a s e f = omega arith

divided-weights : (n : ℕ) (one : Lit) (xs b : List Lit) → weights (divided n one xs b).defs ≡ length xs * (68 * length b + 7)
divided-weights n one [] b = omega arith
divided-weights n one (a ∷ xs) b =
    let d = divided n one xs b in
    let k = n + length d.defs in
    let s = div_step k one a d.rest (map negated b) in
    let i = divided-weights n one xs b in
    let j = step-weights k one a d.rest b (divided-length n one xs b) in
    weights-append d.defs s.defs ∙ times (length xs) (length b) (weights d.defs) (weights s.defs) i j

divided-quot : (n : ℕ) (one : Lit) (xs b : List Lit) → length (divided n one xs b).quot ≡ length xs
divided-quot n one [] b = refl
divided-quot n one (a ∷ xs) b = ap suc (divided-quot n one xs b)

whole : (w x d z q r : ℕ) → x ≡ w → d ≡ x * (68 * w + 7) → z ≡ 7 * w → q ≡ 7 * x → r ≡ 7 * w
    → 1 + (d + (z + (q + r))) ≡ 68 * (x * x) + 28 * x + 1
whole w x d z q r e1 e2 e3 e4 e5 = let f = ap (λ (t : ℕ). x * (68 * t + 7)) (sym e1) in omega arith

pub quotient-weights : (n : ℕ) (xs b : List Lit) → length xs ≡ length b
    → weights (quotient n xs b).defs ≡ 68 * (length xs * length xs) + 28 * length xs + 1
quotient-weights n xs b e =
    let one = positive_of n in
    let d = divided (suc n) one xs b in
    let k = suc n + length d.defs in
    let z = none_of k one b in
    let l = k + length z.defs in
    let q = masked l d.quot (negated z.out) in
    let o = l + length q.defs in
    let r = masked o d.rest (negated z.out) in
    let a1 = weights-append d.defs (z.defs ++ (q.defs ++ r.defs)) in
    let a2 = weights-append z.defs (q.defs ++ r.defs) in
    let a3 = weights-append q.defs r.defs in
    let ql = divided-quot (suc n) one xs b in
    let rl = divided-length (suc n) one xs b in
    let wq = masked-weights l d.quot (negated z.out) in
    let wr = masked-weights o d.rest (negated z.out) in
    let h = whole (length b) (length xs) (weights d.defs) (weights z.defs) (weights q.defs) (weights r.defs) e
    (divided-weights (suc n) one xs b) (none_of-weights k one b) (omega arith) (omega arith) in
    omega arith

below-weights : (n : ℕ) (l : Lit) (xs ys : List Lit) → length xs ≡ length ys → weights (below n l xs ys).defs ≡ 18 * length xs
below-weights n l [] ys e = refl
below-weights n l (x ∷ xs) [] e = absurd (omega arith)
below-weights n l (x ∷ xs) (y ∷ ys) e = let i = below-weights (suc n) (positive_of n) xs ys (omega arith) in omega arith

ordered-weights : (n : ℕ) (xs ys : List Lit) → 1 ≤ length xs → length xs ≡ length ys → weights (ordered n xs ys).defs + 11 ≡ 18 * length xs
ordered-weights n [] ys h e = absurd (omega arith)
ordered-weights n (x ∷ xs) [] h e = absurd (omega arith)
ordered-weights n (x ∷ xs) (y ∷ ys) h e = let i = below-weights (suc n) (positive_of n) xs ys (omega arith) in omega arith

pub less_of-weights : (n : ℕ) (s : Bool) (xs ys : List Lit) → 1 ≤ length xs → length xs ≡ length ys → weights (less_of n s xs ys).defs + 11 ≡ 18 * length xs
less_of-weights n false xs ys h e = ordered-weights n xs ys h e
less_of-weights n true xs ys h e =
    let a = topped-length xs ys h e in
    let b = topped-length ys xs (omega arith) (sym e) in
    ordered-weights n (topped xs ys) (topped ys xs) (omega arith) (omega arith) ∙ ap (λ (t : ℕ). 18 * t) a

alike-weights : (n : ℕ) (l : Lit) (xs ys : List Lit) → length xs ≡ length ys → weights (alike n l xs ys).defs ≡ 16 * length xs
alike-weights n l [] ys e = refl
alike-weights n l (x ∷ xs) [] e = absurd (omega arith)
alike-weights n l (x ∷ xs) (y ∷ ys) e = let i = alike-weights (suc n) (positive_of n) xs ys (omega arith) in omega arith

pub equal_of-weights : (n : ℕ) (xs ys : List Lit) → 1 ≤ length xs → length xs ≡ length ys → weights (equal_of n xs ys).defs + 4 ≡ 16 * length xs
equal_of-weights n [] ys h e = absurd (omega arith)
equal_of-weights n (x ∷ xs) [] h e = absurd (omega arith)
equal_of-weights n (x ∷ xs) (y ∷ ys) h e = let i = alike-weights (suc n) (positive_of n) xs ys (omega arith) in omega arith

pub and_of-weights : (n : ℕ) (a b : Lit) → weights (and_of n a b).defs ≤ 7
and_of-weights n a b =
    chosen {A = Chained} (eqb a.var b.var)
    (cond (beq a.positive b.positive) (record { defs = []; out = a }) (record { defs = Fixed false ∷ []; out = positive_of n }))
    (record { defs = And a b ∷ []; out = positive_of n }) (λ m. weights m.defs ≤ 7)
    (λ e. chosen {A = Chained} (beq a.positive b.positive) (record { defs = []; out = a }) (record { defs = Fixed false ∷ []; out = positive_of n })
    (λ m. weights m.defs ≤ 7) (λ g. omega arith) (λ g. omega arith))
    (λ e. omega arith)

pub xor_of-weights : (n : ℕ) (a b : Lit) → weights (xor_of n a b).defs ≤ 12
xor_of-weights n a b =
    chosen {A = Chained} (eqb a.var b.var)
    (record { defs = Fixed (not (beq a.positive b.positive)) ∷ []; out = positive_of n })
    (record { defs = Xor a b ∷ []; out = positive_of n }) (λ m. weights m.defs ≤ 12) (λ e. omega arith) (λ e. omega arith)

pub select_of-weights : (n : ℕ) (c a b : Lit) → weights (select_of n c a b).defs ≤ 18
select_of-weights n c a b =
    let q1 : Chained = cond (beq a.positive b.positive) (record { defs = []; out = a }) (turned (xor_of n c a)) in
    let q2 : Chained = cond (beq c.positive a.positive) (turned (and_of n (negated c) (negated b))) (and_of n (negated c) b) in
    let q3 : Chained = cond (beq c.positive b.positive) (and_of n c a) (turned (and_of n c (negated a))) in
    let q4 : Chained = record { defs = Select c a b ∷ []; out = positive_of n } in
    let q5 : Chained = cond (eqb c.var b.var) q3 q4 in
    let q6 : Chained = cond (eqb c.var a.var) q2 q5 in
    let x1 = xor_of-weights n c a in
    let a1 = and_of-weights n (negated c) (negated b) in
    let a2 = and_of-weights n (negated c) b in
    let a3 = and_of-weights n c a in
    let a4 = and_of-weights n c (negated a) in
    chosen {A = Chained} (eqb a.var b.var) q1 q6 (λ m. weights m.defs ≤ 18)
    (λ e. chosen {A = Chained} (beq a.positive b.positive) (record { defs = []; out = a }) (turned (xor_of n c a)) (λ m. weights m.defs ≤ 18)
    (λ g. omega arith) (λ g. omega arith))
    (λ e. chosen {A = Chained} (eqb c.var a.var) q2 q5 (λ m. weights m.defs ≤ 18)
    (λ g. chosen {A = Chained} (beq c.positive a.positive) (turned (and_of n (negated c) (negated b))) (and_of n (negated c) b) (λ m. weights m.defs ≤ 18)
    (λ h. omega arith) (λ h. omega arith))
    (λ g. chosen {A = Chained} (eqb c.var b.var) q3 q4 (λ m. weights m.defs ≤ 18)
    (λ h. chosen {A = Chained} (beq c.positive b.positive) (and_of n c a) (turned (and_of n c (negated a))) (λ m. weights m.defs ≤ 18)
    (λ k. omega arith) (λ k. omega arith))
    (λ h. omega arith)))

emptied-weights : (n : ℕ) (how : Shift) (z c : Lit) (xs : List Lit) → weights (emptied n how z c xs).defs ≤ 18 * length xs
emptied-weights n Left z c xs = let i = masked-weights n xs c in omega arith
emptied-weights n Logical z c xs = let i = masked-weights n xs c in omega arith
emptied-weights n Arithmetic z c xs = let i = filled-weights n c xs z in omega arith

right_stage-weights : (n : ℕ) (how : Shift) (z : Lit) (k : ℕ) (b : Lit) (xs : List Lit) → k ≤ length xs → weights (right_stage n how z k b xs).defs ≤ 18 * length xs
right_stage-weights n how z k b xs le =
    let s = selected n b (drop k xs) (take (length xs - k) xs) in
    let hi = drop (length xs - k) xs in
    let m = emptied (n + length s.defs) how z (negated b) hi in
    let a = weights-append s.defs m.defs in
    let l1 = length-drop k xs in
    let l2 = length-take-le (length xs - k) xs (omega arith) in
    let l3 = length-drop (length xs - k) xs in
    let w1 = selected-weights n b (drop k xs) (take (length xs - k) xs) (omega arith) in
    let w2 = emptied-weights (n + length s.defs) how z (negated b) hi in
    omega arith

stage-weights : (n : ℕ) (how : Shift) (z : Lit) (k : ℕ) (b : Lit) (xs : List Lit) → k ≤ length xs → weights (stage n how z k b xs).defs ≤ 18 * length xs
stage-weights n Logical z k b xs le = right_stage-weights n Logical z k b xs le
stage-weights n Arithmetic z k b xs le = right_stage-weights n Arithmetic z k b xs le
stage-weights n Left z k b xs le =
    let p = masked n (take k xs) (negated b) in
    let m = n + length p.defs in
    let s = selected m b (take (length xs - k) xs) (drop k xs) in
    let a = weights-append p.defs s.defs in
    let l1 = length-drop k xs in
    let l2 = length-take-le (length xs - k) xs (omega arith) in
    let l3 = length-take-le k xs le in
    let w1 = masked-weights n (take k xs) (negated b) in
    let w2 = selected-weights m b (take (length xs - k) xs) (drop k xs) (omega arith) in
    omega arith

last_stage-weights : (n : ℕ) (how : Shift) (z : Lit) (xs : List Lit) (b : Lit) (bs : List Lit)
    → weights (last_stage n how z xs b bs).defs ≤ 18 * length xs + 7 * length bs
last_stage-weights n how z xs b bs =
    let c = none_of n (negated b) bs in
    let m = emptied (n + length c.defs) how z c.out xs in
    let a = weights-append c.defs m.defs in
    let w1 = none_of-weights n (negated b) bs in
    let w2 = emptied-weights (n + length c.defs) how z c.out xs in
    omega arith

more-stages : (w j b s r : ℕ) → s ≤ 18 * w → r ≤ 18 * (w * j) + 18 * w + 7 * b → s + r ≤ 18 * (w * suc j) + 18 * w + 7 * suc b
more-stages w j b s r h g = omega arith

stages-step : (n : ℕ) (how : Shift) (z : Lit) (k : ℕ) (b : Lit) (xs bs : List Lit) (j : ℕ) → length xs ≤ k * 2 ^ j → k < length xs
    → (r : List Def) → ((i : ℕ) → length (stage n how z k b xs).outs ≤ (2 * k) * 2 ^ i
    → weights r ≤ 18 * (length (stage n how z k b xs).outs * i) + 18 * length (stage n how z k b xs).outs + 7 * length bs)
    → weights ((stage n how z k b xs).defs ++ r) ≤ 18 * (length xs * j) + 18 * length xs + 7 * suc (length bs)
stages-step n how z k b xs bs zero h lt r ih = absurd (omega arith)
stages-step n how z k b xs bs (suc j) h lt r ih =
    let s = stage n how z k b xs in
    let sl : length s.outs ≡ length xs = stage-length n how z k b xs (omega arith) in
    let p = pow-succ' 2 j in
    let e : k * 2 ^ suc j ≡ (2 * k) * 2 ^ j = ap (λ (t : ℕ). k * t) p ∙ omega arith in
    let i2 : weights r ≤ 18 * (length xs * j) + 18 * length xs + 7 * length bs
    = subst (λ (t : ℕ). weights r ≤ 18 * (t * j) + 18 * t + 7 * length bs) sl (ih j (omega arith)) in
    let w = stage-weights n how z k b xs (omega arith) in
    let m = more-stages (length xs) j (length bs) (weights s.defs) (weights r) w i2 in
    let a = weights-append s.defs r in
    omega arith

stages-weights : (n : ℕ) (how : Shift) (z : Lit) (k : ℕ) (xs bs : List Lit) (j : ℕ) → length xs ≤ k * 2 ^ j
    → weights (stages n how z k xs bs).defs ≤ 18 * (length xs * j) + 18 * length xs + 7 * length bs
stages-weights n how z k xs [] j h = omega arith
stages-weights n how z k xs (b ∷ bs) j h =
    let s = stage n how z k b xs in
    let r = stages (n + length s.defs) how z (2 * k) s.outs bs in
    chosen {A = Made} (ltb k (length xs)) (record { defs = s.defs ++ r.defs; outs = r.outs }) (last_stage n how z xs b bs)
    (λ t. weights t.defs ≤ 18 * (length xs * j) + 18 * length xs + 7 * suc (length bs))
    (λ e. stages-step n how z k b xs bs j h (ltb-true k (length xs) e) r.defs
    (λ i q. stages-weights (n + length s.defs) how z (2 * k) s.outs bs i q))
    (λ e. let l = last_stage-weights n how z xs b bs in omega arith)

pub shift_of-weights : (n : ℕ) (how : Shift) (xs bs : List Lit) (j : ℕ) → length xs ≡ length bs → length xs ≤ 2 ^ j
    → weights (shift_of n how xs bs).defs ≤ (18 * j + 25) * length xs
shift_of-weights n how xs bs j e h =
    let i = stages-weights n how (top_of xs) 1 xs bs j (omega arith) in
    omega arith

-- the literals after a net's clauses
pub count_after : (old new : List (List Lit)) (n : ℕ) (ds : List Def) → new ≡ old ++ net_clauses n ds → count new ≡ count old + weights ds
count_after old new n ds e =
    let a = ap count e in
    let b = count-append old (net_clauses n ds) in
    let c = net-count n ds in
    omega arith
