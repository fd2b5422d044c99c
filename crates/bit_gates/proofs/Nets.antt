use Rattle.std.proofs.Common.{◌≡◌, ℕ, ◌+◌, ◌<◌, length, List, [], ◌∷◌, ◌++◌, arith, ap, sym, ◌∙◌, refl, suc, Bool, true, false, not, ◌&&◌, ◌||◌, cond, subst}
use Rattle.std.proofs.lemmas.Bool.{eq-eqb, ne_eqb, and_parts, and_from, false≢true}
use Rattle.prop.specs.declared.Lit.{Lit}
use Rattle.prop.specs.Logic.{negated, positive_of, lit_value, clause_holds, all_hold}
use Rattle.bit_gates.specs.declared.netlist.Def.{Def}
use Rattle.bit_gates.specs.declared.netlist.Def.TheVariants.{And, Xor, Select, Sum, Carry, Same, Fixed}
use Rattle.bit_gates.specs.Net.{xor, majority, def_value, def_clauses, net_clauses, Meets, DefBelow, Grounded, changed, extended, Agree}

abbrev same : Bool → Bool → Bool
same true b = b
same false b = not b

pub value-negated : (v : ℕ → Bool) (l : Lit) → lit_value v (negated l) ≡ not (lit_value v l)
value-negated v l = by l.positive (v l.var)
  where
    by : (p b : Bool) → cond (not p) b (not b) ≡ not (cond p b (not b))
    by true true = refl
    by true false = refl
    by false true = refl
    by false false = refl

by-Xor : (o a b : Bool) → ((not o || (a || (b || false))) && ((not o || (not a || (not b || false))) && ((o || (not a || (b || false))) && ((o || (a || (not b || false))) && true)))) ≡ same o (xor a b)
by-Xor true true true = refl
by-Xor true true false = refl
by-Xor true false true = refl
by-Xor true false false = refl
by-Xor false true true = refl
by-Xor false true false = refl
by-Xor false false true = refl
by-Xor false false false = refl

by-And : (o a b : Bool) → ((not o || (a || false)) && ((not o || (b || false)) && ((o || (not a || (not b || false))) && true))) ≡ same o (a && b)
by-And true true true = refl
by-And true true false = refl
by-And true false true = refl
by-And true false false = refl
by-And false true true = refl
by-And false true false = refl
by-And false false true = refl
by-And false false false = refl

by-Select : (o c a b : Bool) → ((not o || (not c || (a || false))) && ((not o || (c || (b || false))) && ((o || (not c || (not a || false))) && ((o || (c || (not b || false))) && ((not o || (a || (b || false))) && ((o || (not a || (not b || false))) && true)))))) ≡ same o (cond c a b)
by-Select true true true true = refl
by-Select true true true false = refl
by-Select true true false true = refl
by-Select true true false false = refl
by-Select true false true true = refl
by-Select true false true false = refl
by-Select true false false true = refl
by-Select true false false false = refl
by-Select false true true true = refl
by-Select false true true false = refl
by-Select false true false true = refl
by-Select false true false false = refl
by-Select false false true true = refl
by-Select false false true false = refl
by-Select false false false true = refl
by-Select false false false false = refl

by-Sum : (o a b c : Bool) → ((o || (not a || (b || (c || false)))) && ((o || (a || (not b || (c || false)))) && ((o || (a || (b || (not c || false)))) && ((o || (not a || (not b || (not c || false)))) && ((not o || (a || (b || (c || false)))) && ((not o || (not a || (not b || (c || false)))) && ((not o || (not a || (b || (not c || false)))) && ((not o || (a || (not b || (not c || false)))) && true)))))))) ≡ same o (xor a (xor b c))
by-Sum true true true true = refl
by-Sum true true true false = refl
by-Sum true true false true = refl
by-Sum true true false false = refl
by-Sum true false true true = refl
by-Sum true false true false = refl
by-Sum true false false true = refl
by-Sum true false false false = refl
by-Sum false true true true = refl
by-Sum false true true false = refl
by-Sum false true false true = refl
by-Sum false true false false = refl
by-Sum false false true true = refl
by-Sum false false true false = refl
by-Sum false false false true = refl
by-Sum false false false false = refl

by-Carry : (o a b c : Bool) → ((o || (not a || (not b || false))) && ((o || (not a || (not c || false))) && ((o || (not b || (not c || false))) && ((not o || (a || (b || false))) && ((not o || (a || (c || false))) && ((not o || (b || (c || false))) && true)))))) ≡ same o (majority a b c)
by-Carry true true true true = refl
by-Carry true true true false = refl
by-Carry true true false true = refl
by-Carry true true false false = refl
by-Carry true false true true = refl
by-Carry true false true false = refl
by-Carry true false false true = refl
by-Carry true false false false = refl
by-Carry false true true true = refl
by-Carry false true true false = refl
by-Carry false true false true = refl
by-Carry false true false false = refl
by-Carry false false true true = refl
by-Carry false false true false = refl
by-Carry false false false true = refl
by-Carry false false false false = refl

by-Same : (o e a b : Bool) → ((not o || (e || false)) && ((not o || (not a || (b || false))) && ((not o || (a || (not b || false))) && ((o || (not e || (a || (b || false)))) && ((o || (not e || (not a || (not b || false)))) && true))))) ≡ same o (e && not (xor a b))
by-Same true true true true = refl
by-Same true true true false = refl
by-Same true true false true = refl
by-Same true true false false = refl
by-Same true false true true = refl
by-Same true false true false = refl
by-Same true false false true = refl
by-Same true false false false = refl
by-Same false true true true = refl
by-Same false true true false = refl
by-Same false true false true = refl
by-Same false true false false = refl
by-Same false false true true = refl
by-Same false false true false = refl
by-Same false false false true = refl
by-Same false false false false = refl

-- the clauses of a definition hold exactly where its variable has its value
pub def-exact : (v : ℕ → Bool) (n : ℕ) (d : Def) → all_hold v (def_clauses (positive_of n) d) ≡ same (v n) (def_value v d)
def-exact v n (Xor a b) = simp (value-negated v a, value-negated v b) (by-Xor (v n) (lit_value v a) (lit_value v b))
def-exact v n (And a b) = simp (value-negated v a, value-negated v b) (by-And (v n) (lit_value v a) (lit_value v b))
def-exact v n (Select c a b) = simp (value-negated v c, value-negated v a, value-negated v b) (by-Select (v n) (lit_value v c) (lit_value v a) (lit_value v b))
def-exact v n (Sum a b c) = simp (value-negated v a, value-negated v b, value-negated v c) (by-Sum (v n) (lit_value v a) (lit_value v b) (lit_value v c))
def-exact v n (Carry a b c) = simp (value-negated v a, value-negated v b, value-negated v c) (by-Carry (v n) (lit_value v a) (lit_value v b) (lit_value v c))
def-exact v n (Same e a b) = simp (value-negated v e, value-negated v a, value-negated v b) (by-Same (v n) (lit_value v e) (lit_value v a) (lit_value v b))
def-exact v n (Fixed true) = fixed (v n)
  where
    fixed : (o : Bool) → ((o || false) && true) ≡ same o true
    fixed true = refl
    fixed false = refl
def-exact v n (Fixed false) = fixed (v n)
  where
    fixed : (o : Bool) → ((not o || false) && true) ≡ same o false
    fixed true = refl
    fixed false = refl

same-true : (x y : Bool) → same x y ≡ true → x ≡ y
same-true true y e = sym e
same-true false true e = absurd (false≢true e)
same-true false false e = refl

same-refl : (x y : Bool) → x ≡ y → same x y ≡ true
same-refl true y e = sym e
same-refl false true e = absurd (false≢true e)
same-refl false false e = refl

pub all_hold-append : (v : ℕ → Bool) (xs ys : List (List Lit)) → all_hold v (xs ++ ys) ≡ (all_hold v xs && all_hold v ys)
all_hold-append v [] ys = refl
all_hold-append v (x ∷ xs) ys = rw (all_hold-append v xs ys) (sym (assoc (clause_holds v x) (all_hold v xs) (all_hold v ys)))
  where
    assoc : (a b c : Bool) → ((a && b) && c) ≡ (a && (b && c))
    assoc true b c = refl
    assoc false b c = refl

-- the clauses of definitions hold exactly where the definitions are met
pub meets_from_hold : (v : ℕ → Bool) (n : ℕ) (ds : List Def) → all_hold v (net_clauses n ds) ≡ true → Meets v n ds
meets_from_hold v n [] h = tt
meets_from_hold v n (d ∷ ds) h =
    let p = and_parts (all_hold v (def_clauses (positive_of n) d)) (all_hold v (net_clauses (suc n) ds))
    (sym (all_hold-append v (def_clauses (positive_of n) d) (net_clauses (suc n) ds)) ∙ h) in
    (same-true (v n) (def_value v d) (sym (def-exact v n d) ∙ p.0), meets_from_hold v (suc n) ds p.1)

pub hold_from_meets : (v : ℕ → Bool) (n : ℕ) (ds : List Def) → Meets v n ds → all_hold v (net_clauses n ds) ≡ true
hold_from_meets v n [] h = refl
hold_from_meets v n (d ∷ ds) h =
    all_hold-append v (def_clauses (positive_of n) d) (net_clauses (suc n) ds)
    ∙ and_from (all_hold v (def_clauses (positive_of n) d)) (all_hold v (net_clauses (suc n) ds))
    (def-exact v n d ∙ same-refl (v n) (def_value v d) h.0) (hold_from_meets v (suc n) ds h.1)

pub lit-agree : (n : ℕ) (v w : ℕ → Bool) (l : Lit) → Agree n v w → l.var < n → lit_value w l ≡ lit_value v l
lit-agree n v w l h lt = ap (λ b. cond l.positive b (not b)) (h l.var lt)

pub def-agree : (n : ℕ) (v w : ℕ → Bool) (d : Def) → Agree n v w → DefBelow n d → def_value w d ≡ def_value v d
def-agree n v w (And a b) h lt = rw (lit-agree n v w a h lt.0, lit-agree n v w b h lt.1)
def-agree n v w (Xor a b) h lt = rw (lit-agree n v w a h lt.0, lit-agree n v w b h lt.1)
def-agree n v w (Select c a b) h lt = rw (lit-agree n v w c h lt.0, lit-agree n v w a h lt.1, lit-agree n v w b h lt.2)
def-agree n v w (Sum a b c) h lt = rw (lit-agree n v w a h lt.0, lit-agree n v w b h lt.1, lit-agree n v w c h lt.2)
def-agree n v w (Carry a b c) h lt = rw (lit-agree n v w a h lt.0, lit-agree n v w b h lt.1, lit-agree n v w c h lt.2)
def-agree n v w (Same e a b) h lt = rw (lit-agree n v w e h lt.0, lit-agree n v w a h lt.1, lit-agree n v w b h lt.2)
def-agree n v w (Fixed b) h lt = refl

-- the variables below n keep their values
pub extended-agree : (n : ℕ) (ds : List Def) (v : ℕ → Bool) → Agree n v (extended n ds v)
extended-agree n [] v k lt = refl
extended-agree n (d ∷ ds) v k lt =
    extended-agree (suc n) ds (changed v n (def_value v d)) k (omega arith)
    ∙ ap (λ t. cond t (def_value v d) (v k)) (ne_eqb n k (λ e. omega arith))

-- and the definitions are met
pub extended-meets : (n : ℕ) (ds : List Def) (v : ℕ → Bool) → Grounded n ds → Meets (extended n ds v) n ds
extended-meets n [] v g = tt
extended-meets n (d ∷ ds) v g = (
  (extended-agree (suc n) ds (changed v n (def_value v d)) n (omega arith)
      ∙ ap (λ t. cond t (def_value v d) (v n)) (eq-eqb n n refl))
      ∙ sym (def-agree n v (extended n (d ∷ ds) v) d (extended-agree n (d ∷ ds) v) g.0),
  extended-meets (suc n) ds (changed v n (def_value v d)) g.1,
)

pub meets-append : (v : ℕ → Bool) (n : ℕ) (xs ys : List Def) → Meets v n (xs ++ ys) → Meets v n xs × Meets v (n + length xs) ys
meets-append v n [] ys h = (tt, subst (λ (k : ℕ). Meets v k ys) (omega arith) h)
meets-append v n (x ∷ xs) ys h =
    let r = meets-append v (suc n) xs ys h.1 in
    ((h.0, r.0), subst (λ (k : ℕ). Meets v k ys) (omega arith) r.1)
