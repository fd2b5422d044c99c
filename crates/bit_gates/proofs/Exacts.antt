use Rattle.std.proofs.Common.{◌≡◌, ℕ, ◌+◌, ◌≤◌, ◌<◌, length, List, [], ◌∷◌, ◌++◌, arith, suc, true, false, Bool}
use Rattle.prop.specs.declared.Lit.{Lit}
use Rattle.prop.specs.Logic.{positive_of, LitsBelow}
use Rattle.bit_gates.specs.declared.netlist.Def.{Def}
use Rattle.bit_gates.specs.declared.netlist.Def.TheVariants.{And, Xor, Select, Sum, Carry, Same, Fixed}
use Rattle.bit_gates.specs.Net.{def_clauses, net_clauses, DefBelow, Meets, Grounded, extended}
use Rattle.bit_gates.specs.Laws.{Exact, AllIn, ClausesIn, From, Scope}
use Rattle.bit_gates.proofs.Nets.{meets_from_hold, hold_from_meets, extended-agree, extended-meets}
use Rattle.bit_gates.proofs.Within.{Fits, LitsOk, DefOk, NetOk}

pub exact_from : (n : ℕ) (ds : List Def) (Told : (ℕ → Bool) → Type 0) → Grounded n ds → ((v : ℕ → Bool) → Meets v n ds → Told v)
    → Exact n (net_clauses n ds) Told
exact_from n ds Told g f = record {
  extends = λ v. (extended n ds v, extended-agree n ds v, hold_from_meets (extended n ds v) n ds (extended-meets n ds v g));
  told = λ v h. f v (meets_from_hold v n ds h);
}

-- a definition may speak of the variables below its own
pub fits_below : (lo : ℕ) → Fits (λ n k. k < n) lo
fits_below lo = record { later = λ n k le h. omega (arith, h); fresh = λ n le. omega arith }

pub ok_below : (n : ℕ) (ls : List Lit) → LitsBelow n ls → LitsOk (λ n k. k < n) n ls
ok_below n [] h = tt
ok_below n (l ∷ ls) h = (h.0, ok_below n ls h.1)

pub below_ok : (n : ℕ) (ls : List Lit) → LitsOk (λ n k. k < n) n ls → LitsBelow n ls
below_ok n [] h = tt
below_ok n (l ∷ ls) h = (h.0, below_ok n ls h.1)

pub grounded_ok : (n : ℕ) (ds : List Def) → NetOk (λ n k. k < n) n ds → Grounded n ds
grounded_ok n [] h = tt
grounded_ok n (d ∷ ds) h = (one n d h.0, grounded_ok (suc n) ds h.1)
  where
    one : (n : ℕ) (d : Def) → DefOk (λ n k. k < n) n d → DefBelow n d
    one n (And a b) h = h
    one n (Xor a b) h = h
    one n (Select c a b) h = h
    one n (Sum a b c) h = h
    one n (Carry a b c) h = h
    one n (Same e a b) h = h
    one n (Fixed b) h = h

-- a test that the inputs' variables and those from n up to below m pass
abbrev pub Passes : (ℕ → Bool) → ℕ → ℕ → ℕ → Type 0
Passes p m n k = n ≤ m → p k ≡ true

pub fits_passes : (p : ℕ → Bool) (n m : ℕ) → From p n m → Fits (Passes p m) n
fits_passes p n m f = record {
  later = λ i k le h l. h (omega arith);
  fresh = λ i le l. f i le (omega arith);
}

pub ok_in : (p : ℕ → Bool) (m n : ℕ) (ls : List Lit) → AllIn p ls → LitsOk (Passes p m) n ls
ok_in p m n [] h = tt
ok_in p m n (l ∷ ls) h = (λ le. h.0, ok_in p m n ls h.1)

pub in_ok : (p : ℕ → Bool) (m n : ℕ) (ls : List Lit) → n ≤ m → LitsOk (Passes p m) n ls → AllIn p ls
in_ok p m n [] le h = tt
in_ok p m n (l ∷ ls) le h = (h.0 le, in_ok p m n ls le h.1)

clauses_in-append : (p : ℕ → Bool) (xs ys : List (List Lit)) → ClausesIn p xs → ClausesIn p ys → ClausesIn p (xs ++ ys)
clauses_in-append p [] ys h g = g
clauses_in-append p (x ∷ xs) ys h g = (h.0, clauses_in-append p xs ys h.1 g)

def_in : (p : ℕ → Bool) (m n : ℕ) (d : Def) → n ≤ m → p n ≡ true → DefOk (Passes p m) n d → ClausesIn p (def_clauses (positive_of n) d)
def_in p m n (And a b) le o h = let x = h.0 le in let y = h.1 le in search (x, y, o)
def_in p m n (Xor a b) le o h = let x = h.0 le in let y = h.1 le in search (x, y, o)
def_in p m n (Select c a b) le o h = let x = h.0 le in let y = h.1 le in let z = h.2 le in search (x, y, z, o)
def_in p m n (Sum a b c) le o h = let x = h.0 le in let y = h.1 le in let z = h.2 le in search (x, y, z, o)
def_in p m n (Carry a b c) le o h = let x = h.0 le in let y = h.1 le in let z = h.2 le in search (x, y, z, o)
def_in p m n (Same e a b) le o h = let x = h.0 le in let y = h.1 le in let z = h.2 le in search (x, y, z, o)
def_in p m n (Fixed true) le o h = ((o, tt), tt)
def_in p m n (Fixed false) le o h = ((o, tt), tt)

net_in : (p : ℕ → Bool) (m n : ℕ) (ds : List Def) → n + length ds ≤ m → From p n m → NetOk (Passes p m) n ds → ClausesIn p (net_clauses n ds)
net_in p m n [] le f h = tt
net_in p m n (d ∷ ds) le f h =
    clauses_in-append p (def_clauses (positive_of n) d) (net_clauses (suc n) ds)
    (def_in p m n d (omega arith) (f n (omega arith) (omega arith)) h.0)
    (net_in p m (suc n) ds (omega arith) (λ k l g. f k (omega arith) g) h.1)

-- both, from what a gate owes
pub scope_from : (n : ℕ) (ds : List Def) (ins outs : List Lit)
    → ((P : ℕ → ℕ → Type 0) → Fits P n → LitsOk P n ins → NetOk P n ds × LitsOk P (n + length ds) outs)
    → Scope n (n + length ds) ins (net_clauses n ds) outs
scope_from n ds ins outs owes p f h =
    let m = n + length ds in
    let i = owes (Passes p m) (fits_passes p n m f) (ok_in p m n ins h) in
    (net_in p m n ds (omega arith) f i.0, in_ok p m m outs (omega arith) i.1)

pub grounded_from : (n : ℕ) (ds : List Def) (ins outs : List Lit)
    → ((P : ℕ → ℕ → Type 0) → Fits P n → LitsOk P n ins → NetOk P n ds × LitsOk P (n + length ds) outs)
    → LitsBelow n ins → Grounded n ds
grounded_from n ds ins outs owes h = grounded_ok n ds (owes (λ n k. k < n) (fits_below n) (ok_below n ins h)).0

pub lits_below-append : (n : ℕ) (xs ys : List Lit) → LitsBelow n xs → LitsBelow n ys → LitsBelow n (xs ++ ys)
lits_below-append n [] ys h g = g
lits_below-append n (x ∷ xs) ys h g = (h.0, lits_below-append n xs ys h.1 g)
