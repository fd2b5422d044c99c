use Rattle.std.proofs.Common.{◌≡◌, ℕ, ◌+◌, ◌≤◌, ◌<◌, length, List, [], ◌∷◌, ◌++◌, arith, Bool}
use Rattle.prop.specs.declared.Lit.{Lit}
use Rattle.prop.specs.Logic.{LitsBelow}
use Rattle.bit_gates.specs.declared.shifters.Shift.{Shift}
use Rattle.bit_gates.specs.Net.{net_clauses}
use Rattle.bit_gates.specs.Singles.{and_of, xor_of, select_of}
use Rattle.bit_gates.specs.Sums.{ripple}
use Rattle.bit_gates.specs.Products.{product_of}
use Rattle.bit_gates.specs.Quotients.{quotient}
use Rattle.bit_gates.specs.Orders.{less_of, equal_of}
use Rattle.bit_gates.specs.Shifts.{shift_of}
use Rattle.bit_gates.specs.Laws.{Exact, Scope, Ands, Xors, Selects, Adds, Multiplies, Divides, Orders, Equates, Shifts}
use Rattle.bit_gates.proofs.Within.{Fits, LitsOk, NetOk, lits-left, lits-right, lits-append, and_of-ok, xor_of-ok, select_of-ok, ripple-ok, product_of-ok, quotient-ok, less_of-ok, equal_of-ok, shift_of-ok}
use Rattle.bit_gates.proofs.Exacts.{exact_from, scope_from, grounded_from, lits_below-append}
use Rattle.bit_gates.proofs.SingleLaws.{and_of-law, xor_of-law, select_of-law}
use Rattle.bit_gates.proofs.AddLaws.{ripple-sum}
use Rattle.bit_gates.proofs.ProductLaws.{product_of-number}
use Rattle.bit_gates.proofs.DivideLaws.{quotient-law}
use Rattle.bit_gates.proofs.OrderLaws.{less_of-law, equal_of-law}
use Rattle.bit_gates.proofs.ShiftLaws.{shift_of-law}

-- the law and the scope of each gate's definitions
and_owes : (n : ℕ) (a b : Lit) → (P : ℕ → ℕ → Type 0) → Fits P n → LitsOk P n (a ∷ b ∷ [])
    → NetOk P n (and_of n a b).defs × LitsOk P (n + length (and_of n a b).defs) ((and_of n a b).out ∷ [])
and_owes n a b P f h =
    let i = and_of-ok P n f n a b (omega arith) h.0 h.1.0 in
    (i.0, (i.1, tt))

pub and_exact : (n : ℕ) (a b : Lit) → a.var < n → b.var < n
    → Exact n (net_clauses n (and_of n a b).defs) (Ands a b (and_of n a b).out)
and_exact n a b ha hb =
    let m = and_of n a b in
    exact_from n m.defs (Ands a b m.out)
    (grounded_from n m.defs (a ∷ b ∷ []) (m.out ∷ []) (and_owes n a b) (ha, (hb, tt)))
    (λ v g. and_of-law v n a b g)

pub and_scope : (n : ℕ) (a b : Lit) → Scope n (n + length (and_of n a b).defs) (a ∷ b ∷ []) (net_clauses n (and_of n a b).defs) ((and_of n a b).out ∷ [])
and_scope n a b =
    let m = and_of n a b in
    scope_from n m.defs (a ∷ b ∷ []) (m.out ∷ []) (and_owes n a b)

xor_owes : (n : ℕ) (a b : Lit) → (P : ℕ → ℕ → Type 0) → Fits P n → LitsOk P n (a ∷ b ∷ [])
    → NetOk P n (xor_of n a b).defs × LitsOk P (n + length (xor_of n a b).defs) ((xor_of n a b).out ∷ [])
xor_owes n a b P f h =
    let i = xor_of-ok P n f n a b (omega arith) h.0 h.1.0 in
    (i.0, (i.1, tt))

pub xor_exact : (n : ℕ) (a b : Lit) → a.var < n → b.var < n
    → Exact n (net_clauses n (xor_of n a b).defs) (Xors a b (xor_of n a b).out)
xor_exact n a b ha hb =
    let m = xor_of n a b in
    exact_from n m.defs (Xors a b m.out)
    (grounded_from n m.defs (a ∷ b ∷ []) (m.out ∷ []) (xor_owes n a b) (ha, (hb, tt)))
    (λ v g. xor_of-law v n a b g)

pub xor_scope : (n : ℕ) (a b : Lit) → Scope n (n + length (xor_of n a b).defs) (a ∷ b ∷ []) (net_clauses n (xor_of n a b).defs) ((xor_of n a b).out ∷ [])
xor_scope n a b =
    let m = xor_of n a b in
    scope_from n m.defs (a ∷ b ∷ []) (m.out ∷ []) (xor_owes n a b)

select_owes : (n : ℕ) (c a b : Lit) → (P : ℕ → ℕ → Type 0) → Fits P n → LitsOk P n (c ∷ a ∷ b ∷ [])
    → NetOk P n (select_of n c a b).defs × LitsOk P (n + length (select_of n c a b).defs) ((select_of n c a b).out ∷ [])
select_owes n c a b P f h =
    let i = select_of-ok P n f n c a b (omega arith) h.0 h.1.0 h.1.1.0 in
    (i.0, (i.1, tt))

pub select_exact : (n : ℕ) (c a b : Lit) → c.var < n → a.var < n → b.var < n
    → Exact n (net_clauses n (select_of n c a b).defs) (Selects c a b (select_of n c a b).out)
select_exact n c a b hc ha hb =
    let m = select_of n c a b in
    exact_from n m.defs (Selects c a b m.out)
    (grounded_from n m.defs (c ∷ a ∷ b ∷ []) (m.out ∷ []) (select_owes n c a b) (hc, (ha, (hb, tt))))
    (λ v g. select_of-law v n c a b g)

pub select_scope : (n : ℕ) (c a b : Lit) → Scope n (n + length (select_of n c a b).defs) (c ∷ a ∷ b ∷ []) (net_clauses n (select_of n c a b).defs) ((select_of n c a b).out ∷ [])
select_scope n c a b =
    let m = select_of n c a b in
    scope_from n m.defs (c ∷ a ∷ b ∷ []) (m.out ∷ []) (select_owes n c a b)

add_owes : (n : ℕ) (xs ys : List Lit) (c : Lit) → (P : ℕ → ℕ → Type 0) → Fits P n → LitsOk P n (c ∷ (xs ++ ys))
    → NetOk P n (ripple n xs ys c).defs × LitsOk P (n + length (ripple n xs ys c).defs) ((ripple n xs ys c).carry ∷ (ripple n xs ys c).outs)
add_owes n xs ys c P f h =
    let i = ripple-ok P n f n xs ys c (omega arith) (lits-left P n xs ys h.1) (lits-right P n xs ys h.1) h.0 in
    (i.0, (i.1.1, i.1.0))

pub add_exact : (n : ℕ) (xs ys : List Lit) (c : Lit) → length xs ≡ length ys → LitsBelow n xs → LitsBelow n ys → c.var < n
    → Exact n (net_clauses n (ripple n xs ys c).defs) (Adds xs ys c (ripple n xs ys c).outs (ripple n xs ys c).carry)
add_exact n xs ys c e hx hy hc =
    let m = ripple n xs ys c in
    exact_from n m.defs (Adds xs ys c m.outs m.carry)
    (grounded_from n m.defs (c ∷ (xs ++ ys)) (m.carry ∷ m.outs) (add_owes n xs ys c) (hc, lits_below-append n xs ys hx hy))
    (λ v g. ripple-sum v n xs ys c e g)

pub add_scope : (n : ℕ) (xs ys : List Lit) (c : Lit) → Scope n (n + length (ripple n xs ys c).defs) (c ∷ (xs ++ ys)) (net_clauses n (ripple n xs ys c).defs) ((ripple n xs ys c).carry ∷ (ripple n xs ys c).outs)
add_scope n xs ys c =
    let m = ripple n xs ys c in
    scope_from n m.defs (c ∷ (xs ++ ys)) (m.carry ∷ m.outs) (add_owes n xs ys c)

product_owes : (n : ℕ) (xs ys : List Lit) → (P : ℕ → ℕ → Type 0) → Fits P n → LitsOk P n (xs ++ ys)
    → NetOk P n (product_of n xs ys).defs × LitsOk P (n + length (product_of n xs ys).defs) (product_of n xs ys).outs
product_owes n xs ys P f h =
    let i = product_of-ok P n f n xs ys (omega arith) (lits-left P n xs ys h) (lits-right P n xs ys h) in
    i

pub product_exact : (n : ℕ) (xs ys : List Lit) → 1 ≤ length xs → length xs ≡ length ys → LitsBelow n xs → LitsBelow n ys
    → Exact n (net_clauses n (product_of n xs ys).defs) (Multiplies xs ys (product_of n xs ys).outs)
product_exact n xs ys l e hx hy =
    let m = product_of n xs ys in
    exact_from n m.defs (Multiplies xs ys m.outs)
    (grounded_from n m.defs (xs ++ ys) m.outs (product_owes n xs ys) (lits_below-append n xs ys hx hy))
    (λ v g. product_of-number v n xs ys l e g)

pub product_scope : (n : ℕ) (xs ys : List Lit) → Scope n (n + length (product_of n xs ys).defs) (xs ++ ys) (net_clauses n (product_of n xs ys).defs) (product_of n xs ys).outs
product_scope n xs ys =
    let m = product_of n xs ys in
    scope_from n m.defs (xs ++ ys) m.outs (product_owes n xs ys)

quotient_owes : (n : ℕ) (xs ys : List Lit) → (P : ℕ → ℕ → Type 0) → Fits P n → LitsOk P n (xs ++ ys)
    → NetOk P n (quotient n xs ys).defs × LitsOk P (n + length (quotient n xs ys).defs) ((quotient n xs ys).quot ++ (quotient n xs ys).rest)
quotient_owes n xs ys P f h =
    let i = quotient-ok P n f n xs ys (omega arith) (lits-left P n xs ys h) (lits-right P n xs ys h) in
    (i.0, lits-append P (n + length (quotient n xs ys).defs) (quotient n xs ys).quot (quotient n xs ys).rest i.1.0 i.1.1)

pub quotient_exact : (n : ℕ) (xs ys : List Lit) → LitsBelow n xs → LitsBelow n ys
    → Exact n (net_clauses n (quotient n xs ys).defs) (Divides xs ys (quotient n xs ys).quot (quotient n xs ys).rest)
quotient_exact n xs ys hx hy =
    let m = quotient n xs ys in
    exact_from n m.defs (Divides xs ys m.quot m.rest)
    (grounded_from n m.defs (xs ++ ys) (m.quot ++ m.rest) (quotient_owes n xs ys) (lits_below-append n xs ys hx hy))
    (λ v g. quotient-law v n xs ys g)

pub quotient_scope : (n : ℕ) (xs ys : List Lit) → Scope n (n + length (quotient n xs ys).defs) (xs ++ ys) (net_clauses n (quotient n xs ys).defs) ((quotient n xs ys).quot ++ (quotient n xs ys).rest)
quotient_scope n xs ys =
    let m = quotient n xs ys in
    scope_from n m.defs (xs ++ ys) (m.quot ++ m.rest) (quotient_owes n xs ys)

less_owes : (n : ℕ) (s : Bool) (xs ys : List Lit) → 1 ≤ length xs → length xs ≡ length ys → (P : ℕ → ℕ → Type 0) → Fits P n → LitsOk P n (xs ++ ys)
    → NetOk P n (less_of n s xs ys).defs × LitsOk P (n + length (less_of n s xs ys).defs) ((less_of n s xs ys).out ∷ [])
less_owes n s xs ys l e P f h =
    let i = less_of-ok P n f n s xs ys (omega arith) l e (lits-left P n xs ys h) (lits-right P n xs ys h) in
    (i.0, (i.1, tt))

pub less_exact : (n : ℕ) (s : Bool) (xs ys : List Lit) → 1 ≤ length xs → length xs ≡ length ys → LitsBelow n xs → LitsBelow n ys
    → Exact n (net_clauses n (less_of n s xs ys).defs) (Orders s xs ys (less_of n s xs ys).out)
less_exact n s xs ys l e hx hy =
    let m = less_of n s xs ys in
    exact_from n m.defs (Orders s xs ys m.out)
    (grounded_from n m.defs (xs ++ ys) (m.out ∷ []) (less_owes n s xs ys l e) (lits_below-append n xs ys hx hy))
    (λ v g. less_of-law v n s xs ys l e g)

pub less_scope : (n : ℕ) (s : Bool) (xs ys : List Lit) → 1 ≤ length xs → length xs ≡ length ys → Scope n (n + length (less_of n s xs ys).defs) (xs ++ ys) (net_clauses n (less_of n s xs ys).defs) ((less_of n s xs ys).out ∷ [])
less_scope n s xs ys l e =
    let m = less_of n s xs ys in
    scope_from n m.defs (xs ++ ys) (m.out ∷ []) (less_owes n s xs ys l e)

equal_owes : (n : ℕ) (xs ys : List Lit) → 1 ≤ length xs → length xs ≡ length ys → (P : ℕ → ℕ → Type 0) → Fits P n → LitsOk P n (xs ++ ys)
    → NetOk P n (equal_of n xs ys).defs × LitsOk P (n + length (equal_of n xs ys).defs) ((equal_of n xs ys).out ∷ [])
equal_owes n xs ys l e P f h =
    let i = equal_of-ok P n f n xs ys (omega arith) l e (lits-left P n xs ys h) (lits-right P n xs ys h) in
    (i.0, (i.1, tt))

pub equal_exact : (n : ℕ) (xs ys : List Lit) → 1 ≤ length xs → length xs ≡ length ys → LitsBelow n xs → LitsBelow n ys
    → Exact n (net_clauses n (equal_of n xs ys).defs) (Equates xs ys (equal_of n xs ys).out)
equal_exact n xs ys l e hx hy =
    let m = equal_of n xs ys in
    exact_from n m.defs (Equates xs ys m.out)
    (grounded_from n m.defs (xs ++ ys) (m.out ∷ []) (equal_owes n xs ys l e) (lits_below-append n xs ys hx hy))
    (λ v g. equal_of-law v n xs ys l e g)

pub equal_scope : (n : ℕ) (xs ys : List Lit) → 1 ≤ length xs → length xs ≡ length ys → Scope n (n + length (equal_of n xs ys).defs) (xs ++ ys) (net_clauses n (equal_of n xs ys).defs) ((equal_of n xs ys).out ∷ [])
equal_scope n xs ys l e =
    let m = equal_of n xs ys in
    scope_from n m.defs (xs ++ ys) (m.out ∷ []) (equal_owes n xs ys l e)

shift_owes : (n : ℕ) (how : Shift) (xs ys : List Lit) → 1 ≤ length xs → (P : ℕ → ℕ → Type 0) → Fits P n → LitsOk P n (xs ++ ys)
    → NetOk P n (shift_of n how xs ys).defs × LitsOk P (n + length (shift_of n how xs ys).defs) (shift_of n how xs ys).outs
shift_owes n how xs ys l P f h =
    let i = shift_of-ok P n f n how xs ys (omega arith) l (lits-left P n xs ys h) (lits-right P n xs ys h) in
    i

pub shift_exact : (n : ℕ) (how : Shift) (xs ys : List Lit) → 1 ≤ length xs → LitsBelow n xs → LitsBelow n ys
    → Exact n (net_clauses n (shift_of n how xs ys).defs) (Shifts how xs ys (shift_of n how xs ys).outs)
shift_exact n how xs ys l hx hy =
    let m = shift_of n how xs ys in
    exact_from n m.defs (Shifts how xs ys m.outs)
    (grounded_from n m.defs (xs ++ ys) m.outs (shift_owes n how xs ys l) (lits_below-append n xs ys hx hy))
    (λ v g. shift_of-law v n how xs ys l g)

pub shift_scope : (n : ℕ) (how : Shift) (xs ys : List Lit) → 1 ≤ length xs → Scope n (n + length (shift_of n how xs ys).defs) (xs ++ ys) (net_clauses n (shift_of n how xs ys).defs) (shift_of n how xs ys).outs
shift_scope n how xs ys l =
    let m = shift_of n how xs ys in
    scope_from n m.defs (xs ++ ys) m.outs (shift_owes n how xs ys l)
