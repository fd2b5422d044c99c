-- Bits in another order, and assignments that agree where a cut looks.
use Rattle.std.proofs.Common.{◌≡◌, ℕ, ◌<◌, ◌⊎◌, inl, inr, Bool, true, false, not, ◌&&◌, ◌||◌, List, [], ◌∷◌, ◌++◌, cond, nat_eq, take, Some, slice_get, zero, suc, refl, sym, ap, ◌∙◌, subst, arith}
use Rattle.std.proofs.lemmas.Bool.{cases_eq, eq-eqb, ne_eqb, or_cases, or_left, or_right}
use Rattle.prop.specs.declared.Lit.{Lit}
use Rattle.prop.specs.Logic.{lit_value}
use Rattle.prop.specs.Trues.{listed}
use Rattle.resolution_log.specs.declared.Chain.{Chain}
use Rattle.resolution_log.specs.Codes.{all_vars, vars_of}
use Rattle.interpolants.specs.declared.items.Placed.{Placed}
use Rattle.interpolants.specs.Meanings.{Agree, HasBit, read, said}
use Rattle.interpolants.specs.Placings.{SameBits}
use Rattle.interpolants.specs.Rules.{cut_truth, is_before, is_behind, last_of, leaves, some_holds, truths_after}
use Rattle.interpolants.proofs.Agreeing.{read-at}

-- whether a variable is that of a bit
none-of : (x : ℕ) → HasBit [] x → ⊥
none-of x (p, (k, g, e)) = absurd cc

none-more : (p : Placed) (ps : List Placed) (x : ℕ) → (p.lit.var ≡ x → ⊥) → (HasBit ps x → ⊥) → HasBit (p ∷ ps) x → ⊥
none-more p ps x differs none (q, (zero, g, e)) =
    let s : p ≡ q = cc in differs (ap (λ (r : Placed). r.lit.var) s ∙ e)
none-more p ps x differs none (q, (suc k, g, e)) = none (q, (k, g, e))

has-cases : (ps : List Placed) (x : ℕ) → HasBit ps x ⊎ (HasBit ps x → ⊥)
has-cases [] x = inr (none-of x)
has-cases (p ∷ ps) x = way (cases_eq p.lit.var x) (has-cases ps x)
  where
    way : (p.lit.var ≡ x) ⊎ (p.lit.var ≡ x → ⊥) → HasBit ps x ⊎ (HasBit ps x → ⊥) → HasBit (p ∷ ps) x ⊎ (HasBit (p ∷ ps) x → ⊥)
    way (inl e) r = inl (p, (0, refl, e))
    way (inr n) (inl (q, (k, g, e))) = inl (q, (suc k, g, e))
    way (inr n) (inr none) = inr (none-more p ps x n none)

read-none : (ps : List Placed) (store : List ℕ) (x : ℕ) → (HasBit ps x → ⊥) → read ps store x ≡ false
read-none [] store x none = refl
read-none (p ∷ ps) store x none =
    let n : nat_eq p.lit.var x ≡ false = ne_eqb p.lit.var x (λ e. none (p, (0, refl, e))) in
    ap (λ (c : Bool). cond c (said store p) (read ps store x)) n
    ∙ read-none ps store x (λ h. none (h.0, (suc h.1.0, h.1.1, h.1.2)))

-- the same bits in another order
pub other-way : (ps qs : List Placed) → SameBits ps qs → SameBits qs ps
other-way ps qs s p = ((s p).1, (s p).0)

pub same-has : (ps qs : List Placed) (x : ℕ) → SameBits ps qs → HasBit ps x → HasBit qs x
same-has ps qs x s (p, (k, g, e)) = let r = (s p).0 (k, g) in (p, (r.0, r.1, e))

pub same-agree : (ps qs : List Placed) (store : List ℕ) → SameBits ps qs → Agree ps store → Agree qs store
same-agree ps qs store s h i j p q a b e =
    let m = (s p).1 (i, a) in
    let n = (s q).1 (j, b) in
    h m.0 n.0 p q m.1 n.1 e

pub same-read : (ps qs : List Placed) (store : List ℕ) (x : ℕ) → SameBits ps qs → Agree ps store → read ps store x ≡ read qs store x
same-read ps qs store x s h = way (has-cases ps x)
  where
    way : HasBit ps x ⊎ (HasBit ps x → ⊥) → read ps store x ≡ read qs store x
    way (inl (p, (k, g, e))) =
        let r = (s p).0 (k, g) in
        read-at ps store x k p h g e ∙ sym (read-at qs store x r.0 p (same-agree ps qs store s h) r.1 e)
    way (inr none) =
        read-none ps store x none ∙ sym (read-none qs store x (λ has. none (same-has qs ps x (other-way ps qs s) has)))

-- assignments that agree on a clause where it is known behind
and-alike : (b x y : Bool) → (b ≡ true → x ≡ y) → (b && x) ≡ (b && y)
and-alike true x y e = e refl
and-alike false x y e = refl

some-alike : (b v w : ℕ → Bool) (c : List Lit) → ((x : ℕ) → listed (vars_of c) x ≡ true → b x ≡ true → v x ≡ w x) → some_holds b v c ≡ some_holds b w c
some-alike b v w [] same = refl
some-alike b v w (l ∷ c) same =
    let here : (b l.var && lit_value v l) ≡ (b l.var && lit_value w l) =
    and-alike (b l.var) (lit_value v l) (lit_value w l)
    (λ e. ap (λ (x : Bool). cond l.positive x (not x)) (same l.var (or_left (nat_eq l.var l.var) (listed (vars_of c) l.var) (eq-eqb l.var l.var refl)) e)) in
    ap (λ (x : Bool). x || some_holds b v c) here
    ∙ ap (λ (y : Bool). (b l.var && lit_value w l) || y)
    (some-alike b v w c (λ x h. same x (or_right (nat_eq l.var x) (listed (vars_of c) x) h)))

pub listed-left : (xs ys : List ℕ) (x : ℕ) → listed xs x ≡ true → listed (xs ++ ys) x ≡ true
listed-left [] ys x h = absurd cc
listed-left (y ∷ xs) ys x h =
    elim (or_cases (nat_eq y x) (listed xs x) h) [ inl a ↦ or_left _ _ a | inr b ↦ or_right _ _ (listed-left xs ys x b) ]

pub listed-right : (xs ys : List ℕ) (x : ℕ) → listed ys x ≡ true → listed (xs ++ ys) x ≡ true
listed-right [] ys x h = h
listed-right (y ∷ xs) ys x h = or_right _ _ (listed-right xs ys x h)

leaves-alike : (b v w : ℕ → Bool) (edge : ℕ) (cs : List (List Lit))
    → ((x : ℕ) → listed (all_vars (take edge cs)) x ≡ true → b x ≡ true → v x ≡ w x) → leaves b v edge cs ≡ leaves b w edge cs
leaves-alike b v w edge [] same = refl
leaves-alike b v w zero (c ∷ cs) same = ap (λ (xs : List Bool). true ∷ xs) (leaves-alike b v w zero cs same)
leaves-alike b v w (suc edge) (c ∷ cs) same =
    ap (λ (x : Bool). x ∷ leaves b v edge cs) (some-alike b v w c (λ x h. same x (listed-left (vars_of c) (all_vars (take edge cs)) x h)))
    ∙ ap (λ (xs : List Bool). some_holds b w c ∷ xs)
    (leaves-alike b v w edge cs (λ x h. same x (listed-right (vars_of c) (all_vars (take edge cs)) x h)))

-- the truth at a cut depends on the variables that occur before and behind it
pub cut-alike : (clauses : List (List Lit)) (log : List Chain) (edge : ℕ) (v w : ℕ → Bool)
    → ((x : ℕ) → is_before clauses edge x ≡ true → is_behind clauses edge x ≡ true → v x ≡ w x)
    → cut_truth clauses log edge v ≡ cut_truth clauses log edge w
cut-alike clauses log edge v w same =
    ap (λ (xs : List Bool). last_of (truths_after (is_behind clauses edge) xs log)) (leaves-alike (is_behind clauses edge) v w edge clauses same)

-- where a variable occurs
var-at : (c : List Lit) (k : ℕ) (l : Lit) → slice_get c k ≡ Some l → listed (vars_of c) l.var ≡ true
var-at [] k l h = absurd cc
var-at (m ∷ c) zero l h =
    let e : m ≡ l = cc in or_left _ _ (eq-eqb m.var l.var (ap (λ (x : Lit). x.var) e))
var-at (m ∷ c) (suc k) l h = or_right _ _ (var-at c k l h)

pub before-at : (cs : List (List Lit)) (edge n k : ℕ) (c : List Lit) (l : Lit) → n < edge → slice_get cs n ≡ Some c → slice_get c k ≡ Some l
    → is_before cs edge l.var ≡ true
before-at [] edge n k c l lt g h = absurd cc
before-at (d ∷ cs) zero n k c l lt g h = absurd (omega (arith, lt))
before-at (d ∷ cs) (suc edge) zero k c l lt g h =
    let e : d ≡ c = cc in
    listed-left (vars_of d) (all_vars (take edge cs)) l.var (subst (λ (x : List Lit). listed (vars_of x) l.var ≡ true) (sym e) (var-at c k l h))
before-at (d ∷ cs) (suc edge) (suc n) k c l lt g h =
    listed-right (vars_of d) (all_vars (take edge cs)) l.var (before-at cs edge n k c l (omega (arith, lt)) g h)

-- stores in which each bit says the same
pub reads-alike : (ps : List Placed) (one other : List ℕ) (x : ℕ) → ((k : ℕ) (p : Placed) → slice_get ps k ≡ Some p → said one p ≡ said other p)
    → read ps one x ≡ read ps other x
reads-alike [] one other x same = refl
reads-alike (p ∷ ps) one other x same =
    ap (λ (b : Bool). cond (nat_eq p.lit.var x) b (read ps one x)) (same 0 p refl)
    ∙ ap (λ (b : Bool). cond (nat_eq p.lit.var x) (said other p) b) (reads-alike ps one other x (λ k q g. same (suc k) q g))
