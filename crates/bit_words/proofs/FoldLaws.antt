-- One folded definition: its literal has the definition's value, it has no more literals in its clauses, and it speaks of
-- the inputs and of `one` alone.
use Rattle.std.proofs.Common.{◌≡◌, ℕ, ◌≤◌, length, List, [], ◌∷◌, arith, ap, sym, ◌∙◌, refl, Bool, true, false, not, ◌&&◌, ◌||◌, cond, eqb, subst, ◌⊎◌, inl, inr}
use Rattle.std.specs.Bool.{beq}
use Rattle.std.proofs.lemmas.Bool.{eqb-true, false≢true}
use Rattle.prop.specs.declared.Lit.{Lit}
use Rattle.prop.specs.Logic.{negated, lit_value}
use Rattle.bit_gates.specs.declared.netlist.Def.{Def}
use Rattle.bit_gates.specs.declared.netlist.Def.TheVariants.{And, Xor, Select, Sum, Carry, Same, Fixed}
use Rattle.bit_gates.specs.Net.{xor, majority, Meets, def_value}
use Rattle.bit_gates.specs.Singles.{Chained, turned}
use Rattle.bit_gates.proofs.Nets.{value-negated}
use Rattle.bit_gates.proofs.Weights.{weight, weights}
use Rattle.bit_words.specs.declared.folds.Relation.{Relation}
use Rattle.bit_words.specs.declared.folds.Relation.TheVariants.{Equal, Opposite, Apart}
use Rattle.bit_words.specs.Folds.{relation_of, by, known, defined, and_in, or_in, xor_in, alike_in, under_of, branch_in, select_in, odd_in, sum_in, most_in, carry_in, same_in, def_in}

pub chosen_by : {A : Type 0} (r : Relation) (x y z : A) (Q : A → Type 0) → (r ≡ Equal → Q x) → (r ≡ Opposite → Q y) → (r ≡ Apart → Q z) → Q (by r x y z)
chosen_by Equal x y z Q f g h = f refl
chosen_by Opposite x y z Q f g h = g refl
chosen_by Apart x y z Q f g h = h refl

is_equal : Relation → Bool
is_equal Equal = true
is_equal Opposite = false
is_equal Apart = false

is_opposite : Relation → Bool
is_opposite Equal = false
is_opposite Opposite = true
is_opposite Apart = false

tests-equal : (s t : Bool) → cond s (cond t Equal Opposite) Apart ≡ Equal → (s ≡ true) × (t ≡ true)
unfolding is_equal
tests-equal true true e = (refl, refl)
tests-equal true false e = absurd (false≢true (ap is_equal e))
tests-equal false t e = absurd (false≢true (ap is_equal e))

tests-opposite : (s t : Bool) → cond s (cond t Equal Opposite) Apart ≡ Opposite → (s ≡ true) × (t ≡ false)
unfolding is_opposite
tests-opposite true true e = absurd (false≢true (ap is_opposite e))
tests-opposite true false e = (refl, refl)
tests-opposite false t e = absurd (false≢true (ap is_opposite e))

both-same : (p q x : Bool) → beq p q ≡ true → cond p x (not x) ≡ cond q x (not x)
both-same true true x e = refl
both-same true false x e = absurd (false≢true e)
both-same false true x e = absurd (false≢true e)
both-same false false x e = refl

both-apart : (p q x : Bool) → beq p q ≡ false → cond p x (not x) ≡ not (cond q x (not x))
both-apart true true x e = absurd (false≢true (sym e))
both-apart true false true e = refl
both-apart true false false e = refl
both-apart false true x e = refl
both-apart false false x e = absurd (false≢true (sym e))

pub equal-value : (v : ℕ → Bool) (a b : Lit) → relation_of a b ≡ Equal → lit_value v a ≡ lit_value v b
equal-value v a b e =
    let t = tests-equal (eqb a.var b.var) (beq a.positive b.positive) e in
    ap (λ (k : ℕ). cond a.positive (v k) (not (v k))) (eqb-true a.var b.var t.0) ∙ both-same a.positive b.positive (v b.var) t.1

pub opposite-value : (v : ℕ → Bool) (a b : Lit) → relation_of a b ≡ Opposite → lit_value v a ≡ not (lit_value v b)
opposite-value v a b e =
    let t = tests-opposite (eqb a.var b.var) (beq a.positive b.positive) e in
    ap (λ (k : ℕ). cond a.positive (v k) (not (v k))) (eqb-true a.var b.var t.0) ∙ both-apart a.positive b.positive (v b.var) t.1

-- a constant
pub one-value : (v : ℕ → Bool) (a one : Lit) → relation_of a one ≡ Equal → lit_value v one ≡ true → lit_value v a ≡ true
one-value v a one e h = equal-value v a one e ∙ h

pub zero-value : (v : ℕ → Bool) (a one : Lit) → relation_of a one ≡ Opposite → lit_value v one ≡ true → lit_value v a ≡ false
zero-value v a one e h = opposite-value v a one e ∙ ap not h

pub not-one : (v : ℕ → Bool) (one : Lit) → lit_value v one ≡ true → lit_value v (negated one) ≡ false
not-one v one h = value-negated v one ∙ ap not h

-- the variable is that of one of the literals
abbrev pub Among : List Lit → ℕ → Type 0
Among [] k = ⊥
Among (l ∷ ls) k = (k ≡ l.var) ⊎ Among ls k

abbrev pub DefAmong : List Lit → Def → Type 0
DefAmong ls (And a b) = Among ls a.var × Among ls b.var
DefAmong ls (Xor a b) = Among ls a.var × Among ls b.var
DefAmong ls (Select c a b) = Among ls c.var × Among ls a.var × Among ls b.var
DefAmong ls (Sum a b c) = Among ls a.var × Among ls b.var × Among ls c.var
DefAmong ls (Carry a b c) = Among ls a.var × Among ls b.var × Among ls c.var
DefAmong ls (Same e a b) = Among ls e.var × Among ls a.var × Among ls b.var
DefAmong ls (Fixed b) = Unit {0}

abbrev pub NetAmong : List Lit → List Def → Type 0
NetAmong ls [] = Unit {0}
NetAmong ls (d ∷ ds) = DefAmong ls d × NetAmong ls ds

pub record FoldOk (one : Lit) (n : ℕ) (ins : List Lit) (w : ℕ) (value : (ℕ → Bool) → Bool) (m : Chained) : Type 0 where
  pub told : (v : ℕ → Bool) → lit_value v one ≡ true → Meets v n m.defs → lit_value v m.out ≡ value v
  pub few : weights m.defs ≤ w
  pub short : length m.defs ≤ 1
  pub among : NetAmong (one ∷ ins) m.defs
  pub out : Among (one ∷ ins) m.out.var ⊎ ((m.out.var ≡ n) × (length m.defs ≡ 1))

ok_known : (one : Lit) (n : ℕ) (ins : List Lit) (w : ℕ) (value : (ℕ → Bool) → Bool) (l : Lit) → Among (one ∷ ins) l.var
    → ((v : ℕ → Bool) → lit_value v one ≡ true → lit_value v l ≡ value v) → FoldOk one n ins w value (known l)
ok_known one n ins w value l i f = record {
  told = λ v h m. f v h;
  few = omega arith;
  short = omega arith;
  among = tt;
  out = inl i;
}

ok_defined : (one : Lit) (n : ℕ) (ins : List Lit) (w : ℕ) (value : (ℕ → Bool) → Bool) (d : Def) → weight d ≤ w → DefAmong (one ∷ ins) d
    → ((v : ℕ → Bool) → def_value v d ≡ value v) → FoldOk one n ins w value (defined n d)
ok_defined one n ins w value d le i f = record {
  told = λ v h m. m.0 ∙ f v;
  few = omega arith;
  short = omega arith;
  among = (i, tt);
  out = inr (refl, refl);
}

ok_turned : (one : Lit) (n : ℕ) (ins : List Lit) (w : ℕ) (value : (ℕ → Bool) → Bool) (m : Chained) → FoldOk one n ins w value m
    → FoldOk one n ins w (λ v. not (value v)) (turned m)
ok_turned one n ins w value m k = record {
  told = λ v h g. value-negated v m.out ∙ ap not (k.told v h g);
  few = k.few;
  short = k.short;
  among = k.among;
  out = k.out;
}

wider : (one : Lit) (ins more : List Lit) → ((k : ℕ) → Among ins k → Among (one ∷ more) k) → (k : ℕ) → Among (one ∷ ins) k → Among (one ∷ more) k
wider one ins more f k (inl e) = inl e
wider one ins more f k (inr i) = f k i

def_wider : (xs ys : List Lit) (d : Def) → ((k : ℕ) → Among xs k → Among ys k) → DefAmong xs d → DefAmong ys d
def_wider xs ys (And a b) f i = (f a.var i.0, f b.var i.1)
def_wider xs ys (Xor a b) f i = (f a.var i.0, f b.var i.1)
def_wider xs ys (Select c a b) f i = (f c.var i.0, f a.var i.1, f b.var i.2)
def_wider xs ys (Sum a b c) f i = (f a.var i.0, f b.var i.1, f c.var i.2)
def_wider xs ys (Carry a b c) f i = (f a.var i.0, f b.var i.1, f c.var i.2)
def_wider xs ys (Same e a b) f i = (f e.var i.0, f a.var i.1, f b.var i.2)
def_wider xs ys (Fixed b) f i = tt

net_wider : (xs ys : List Lit) (ds : List Def) → ((k : ℕ) → Among xs k → Among ys k) → NetAmong xs ds → NetAmong ys ds
net_wider xs ys [] f i = tt
net_wider xs ys (d ∷ ds) f i = (def_wider xs ys d f i.0, net_wider xs ys ds f i.1)

-- the same literal for other inputs, a greater weight and an equal value
ok_more : (one : Lit) (n : ℕ) (ins more : List Lit) (w u : ℕ) (value other : (ℕ → Bool) → Bool) (m : Chained) → FoldOk one n ins w value m
    → w ≤ u → ((k : ℕ) → Among ins k → Among (one ∷ more) k) → ((v : ℕ → Bool) → lit_value v one ≡ true → value v ≡ other v)
    → FoldOk one n more u other m
ok_more one n ins more w u value other m k le i f = record {
  told = λ v h g. k.told v h g ∙ f v h;
  few = omega (arith, k.few);
  short = k.short;
  among = net_wider (one ∷ ins) (one ∷ more) m.defs (wider one ins more i) k.among;
  out = elim k.out [ inl a ↦ inl (wider one ins more i m.out.var a) | inr b ↦ inr b ];
}

-- two inputs among others
two : (one : Lit) (more : List Lit) (a b : Lit) → Among (one ∷ more) a.var → Among (one ∷ more) b.var → (k : ℕ) → Among (a ∷ b ∷ []) k → Among (one ∷ more) k
two one more a b i j k (inl e) = subst (λ (t : ℕ). Among (one ∷ more) t) (sym e) i
two one more a b i j k (inr (inl e)) = subst (λ (t : ℕ). Among (one ∷ more) t) (sym e) j
two one more a b i j k (inr (inr h)) = absurd h

pub and_ok : (one : Lit) (n : ℕ) (a b : Lit) → FoldOk one n (a ∷ b ∷ []) 7 (λ v. lit_value v a && lit_value v b) (and_in one n a b)
and_ok one n a b =
    let ins : List Lit = a ∷ b ∷ [] in
    let value : (ℕ → Bool) → Bool = λ v. lit_value v a && lit_value v b in
    let Q : Chained → Type 0 = FoldOk one n ins 7 value in
    let last : Chained = by (relation_of a b) (known a) (known (negated one)) (defined n (And a b)) in
    let rest : Chained = by (relation_of b one) (known a) (known b) last in
    chosen_by (relation_of a one) (known b) (known a) rest Q
    (λ e. ok_known one n ins 7 value b (inr (inr (inl refl))) (λ v h. left-true (lit_value v a) (lit_value v b) (one-value v a one e h)))
    (λ e. ok_known one n ins 7 value a (inr (inl refl)) (λ v h. left-false (lit_value v a) (lit_value v b) (zero-value v a one e h)))
    (λ e. chosen_by (relation_of b one) (known a) (known b) last Q
    (λ f. ok_known one n ins 7 value a (inr (inl refl)) (λ v h. right-true (lit_value v a) (lit_value v b) (one-value v b one f h)))
    (λ f. ok_known one n ins 7 value b (inr (inr (inl refl))) (λ v h. right-false (lit_value v a) (lit_value v b) (zero-value v b one f h)))
    (λ f. chosen_by (relation_of a b) (known a) (known (negated one)) (defined n (And a b)) Q
    (λ g. ok_known one n ins 7 value a (inr (inl refl)) (λ v h. alike (lit_value v a) (lit_value v b) (equal-value v a b g)))
    (λ g. ok_known one n ins 7 value (negated one) (inl refl) (λ v h. not-one v one h ∙ never (lit_value v a) (lit_value v b) (opposite-value v a b g)))
    (λ g. ok_defined one n ins 7 value (And a b) (omega arith) (inr (inl refl), inr (inr (inl refl))) (λ v. refl))))
  where
    left-true : (x y : Bool) → x ≡ true → y ≡ (x && y)
    left-true true y e = refl
    left-true false y e = absurd (false≢true e)

    left-false : (x y : Bool) → x ≡ false → x ≡ (x && y)
    left-false true y e = absurd (false≢true (sym e))
    left-false false y e = refl

    right-true : (x y : Bool) → y ≡ true → x ≡ (x && y)
    right-true true y e = sym e
    right-true false y e = refl

    right-false : (x y : Bool) → y ≡ false → y ≡ (x && y)
    right-false true y e = refl
    right-false false y e = e

    alike : (x y : Bool) → x ≡ y → x ≡ (x && y)
    alike true y e = e
    alike false y e = refl

    never : (x y : Bool) → x ≡ not y → false ≡ (x && y)
    never true true e = sym e
    never true false e = refl
    never false y e = refl

pub or_ok : (one : Lit) (n : ℕ) (a b : Lit) → FoldOk one n (a ∷ b ∷ []) 7 (λ v. lit_value v a || lit_value v b) (or_in one n a b)
or_ok one n a b =
    let m = and_in one n (negated a) (negated b) in
    let value : (ℕ → Bool) → Bool = λ v. lit_value v (negated a) && lit_value v (negated b) in
    ok_more one n (a ∷ b ∷ []) (a ∷ b ∷ []) 7 7 (λ v. not (value v)) (λ v. lit_value v a || lit_value v b) (turned m)
    (ok_turned one n (a ∷ b ∷ []) 7 value m
    (ok_more one n (negated a ∷ negated b ∷ []) (a ∷ b ∷ []) 7 7 value value m (and_ok one n (negated a) (negated b)) (omega arith)
    (two one (a ∷ b ∷ []) (negated a) (negated b) (inr (inl refl)) (inr (inr (inl refl)))) (λ v h. refl)))
    (omega arith) (two one (a ∷ b ∷ []) a b (inr (inl refl)) (inr (inr (inl refl))))
    (λ v h. by-not (lit_value v a) (lit_value v b) (lit_value v (negated a)) (lit_value v (negated b)) (value-negated v a) (value-negated v b))
  where
    by-not : (x y p q : Bool) → p ≡ not x → q ≡ not y → not (p && q) ≡ (x || y)
    by-not x y p q e f = rw (e, f) (plain x y)
      where
        plain : (x y : Bool) → not (not x && not y) ≡ (x || y)
        plain true y = refl
        plain false true = refl
        plain false false = refl

pub xor_ok : (one : Lit) (n : ℕ) (a b : Lit) → FoldOk one n (a ∷ b ∷ []) 12 (λ v. xor (lit_value v a) (lit_value v b)) (xor_in one n a b)
xor_ok one n a b =
    let ins : List Lit = a ∷ b ∷ [] in
    let value : (ℕ → Bool) → Bool = λ v. xor (lit_value v a) (lit_value v b) in
    let Q : Chained → Type 0 = FoldOk one n ins 12 value in
    let last : Chained = by (relation_of a b) (known (negated one)) (known one) (defined n (Xor a b)) in
    let rest : Chained = by (relation_of b one) (known (negated a)) (known a) last in
    chosen_by (relation_of a one) (known (negated b)) (known b) rest Q
    (λ e. ok_known one n ins 12 value (negated b) (inr (inr (inl refl))) (λ v h. value-negated v b ∙ left-true (lit_value v a) (lit_value v b) (one-value v a one e h)))
    (λ e. ok_known one n ins 12 value b (inr (inr (inl refl))) (λ v h. left-false (lit_value v a) (lit_value v b) (zero-value v a one e h)))
    (λ e. chosen_by (relation_of b one) (known (negated a)) (known a) last Q
    (λ f. ok_known one n ins 12 value (negated a) (inr (inl refl)) (λ v h. value-negated v a ∙ right-true (lit_value v a) (lit_value v b) (one-value v b one f h)))
    (λ f. ok_known one n ins 12 value a (inr (inl refl)) (λ v h. right-false (lit_value v a) (lit_value v b) (zero-value v b one f h)))
    (λ f. chosen_by (relation_of a b) (known (negated one)) (known one) (defined n (Xor a b)) Q
    (λ g. ok_known one n ins 12 value (negated one) (inl refl) (λ v h. not-one v one h ∙ alike (lit_value v a) (lit_value v b) (equal-value v a b g)))
    (λ g. ok_known one n ins 12 value one (inl refl) (λ v h. h ∙ never (lit_value v a) (lit_value v b) (opposite-value v a b g)))
    (λ g. ok_defined one n ins 12 value (Xor a b) (omega arith) (inr (inl refl), inr (inr (inl refl))) (λ v. refl))))
  where
    left-true : (x y : Bool) → x ≡ true → not y ≡ xor x y
    left-true true y e = refl
    left-true false y e = absurd (false≢true e)

    left-false : (x y : Bool) → x ≡ false → y ≡ xor x y
    left-false true y e = absurd (false≢true (sym e))
    left-false false y e = refl

    right-true : (x y : Bool) → y ≡ true → not x ≡ xor x y
    right-true true true e = refl
    right-true true false e = absurd (false≢true e)
    right-true false true e = refl
    right-true false false e = absurd (false≢true e)

    right-false : (x y : Bool) → y ≡ false → x ≡ xor x y
    right-false true true e = absurd (false≢true (sym e))
    right-false true false e = refl
    right-false false true e = absurd (false≢true (sym e))
    right-false false false e = refl

    alike : (x y : Bool) → x ≡ y → false ≡ xor x y
    alike true true e = refl
    alike true false e = sym e
    alike false true e = e
    alike false false e = refl

    never : (x y : Bool) → x ≡ not y → true ≡ xor x y
    never true true e = e
    never true false e = refl
    never false true e = refl
    never false false e = sym e

pub alike_ok : (one : Lit) (n : ℕ) (a b : Lit) → FoldOk one n (a ∷ b ∷ []) 12 (λ v. not (xor (lit_value v a) (lit_value v b))) (alike_in one n a b)
alike_ok one n a b = ok_turned one n (a ∷ b ∷ []) 12 (λ v. xor (lit_value v a) (lit_value v b)) (xor_in one n a b) (xor_ok one n a b)

all2 : (f g : Bool → Bool → Bool) → f true true ≡ g true true → f true false ≡ g true false → f false true ≡ g false true
    → f false false ≡ g false false → (x y : Bool) → f x y ≡ g x y
all2 f g a b c d true true = a
all2 f g a b c d true false = b
all2 f g a b c d false true = c
all2 f g a b c d false false = d

-- two functions of three truth values agree where the first is a constant, the first two are equal, or complements
const3 : (k : Bool) (f g : Bool → Bool → Bool → Bool) → f k true true ≡ g k true true → f k true false ≡ g k true false
    → f k false true ≡ g k false true → f k false false ≡ g k false false → (x y z : Bool) → x ≡ k → f x y z ≡ g x y z
const3 k f g a b c d x y z e = subst (λ (t : Bool). f t y z ≡ g t y z) (sym e) (all2 (f k) (g k) a b c d y z)

same3 : (f g : Bool → Bool → Bool → Bool) → f true true true ≡ g true true true → f true true false ≡ g true true false
    → f false false true ≡ g false false true → f false false false ≡ g false false false
    → (x y z : Bool) → x ≡ y → f x y z ≡ g x y z
same3 f g a b c d x y z e = subst (λ (t : Bool). f t y z ≡ g t y z) (sym e) (all2 (λ y z. f y y z) (λ y z. g y y z) a b c d y z)

apart3 : (f g : Bool → Bool → Bool → Bool) → f false true true ≡ g false true true → f false true false ≡ g false true false
    → f true false true ≡ g true false true → f true false false ≡ g true false false
    → (x y z : Bool) → x ≡ not y → f x y z ≡ g x y z
apart3 f g a b c d x y z e = subst (λ (t : Bool). f t y z ≡ g t y z) (sym e) (all2 (λ y z. f (not y) y z) (λ y z. g (not y) y z) a b c d y z)

from_and : (one : Lit) (n : ℕ) (ins : List Lit) (w : ℕ) (value : (ℕ → Bool) → Bool) (x y : Lit) → 7 ≤ w
    → Among (one ∷ ins) x.var → Among (one ∷ ins) y.var
    → ((v : ℕ → Bool) → lit_value v one ≡ true → (lit_value v x && lit_value v y) ≡ value v) → FoldOk one n ins w value (and_in one n x y)
from_and one n ins w value x y le i j f =
    ok_more one n (x ∷ y ∷ []) ins 7 w (λ v. lit_value v x && lit_value v y) value (and_in one n x y) (and_ok one n x y) le
    (two one ins x y i j) f

from_or : (one : Lit) (n : ℕ) (ins : List Lit) (w : ℕ) (value : (ℕ → Bool) → Bool) (x y : Lit) → 7 ≤ w
    → Among (one ∷ ins) x.var → Among (one ∷ ins) y.var
    → ((v : ℕ → Bool) → lit_value v one ≡ true → (lit_value v x || lit_value v y) ≡ value v) → FoldOk one n ins w value (or_in one n x y)
from_or one n ins w value x y le i j f =
    ok_more one n (x ∷ y ∷ []) ins 7 w (λ v. lit_value v x || lit_value v y) value (or_in one n x y) (or_ok one n x y) le
    (two one ins x y i j) f

from_xor : (one : Lit) (n : ℕ) (ins : List Lit) (w : ℕ) (value : (ℕ → Bool) → Bool) (x y : Lit) → 12 ≤ w
    → Among (one ∷ ins) x.var → Among (one ∷ ins) y.var
    → ((v : ℕ → Bool) → lit_value v one ≡ true → (xor (lit_value v x) (lit_value v y)) ≡ value v) → FoldOk one n ins w value (xor_in one n x y)
from_xor one n ins w value x y le i j f =
    ok_more one n (x ∷ y ∷ []) ins 12 w (λ v. xor (lit_value v x) (lit_value v y)) value (xor_in one n x y) (xor_ok one n x y) le
    (two one ins x y i j) f

from_alike : (one : Lit) (n : ℕ) (ins : List Lit) (w : ℕ) (value : (ℕ → Bool) → Bool) (x y : Lit) → 12 ≤ w
    → Among (one ∷ ins) x.var → Among (one ∷ ins) y.var
    → ((v : ℕ → Bool) → lit_value v one ≡ true → (not (xor (lit_value v x) (lit_value v y))) ≡ value v) → FoldOk one n ins w value (alike_in one n x y)
from_alike one n ins w value x y le i j f =
    ok_more one n (x ∷ y ∷ []) ins 12 w (λ v. not (xor (lit_value v x) (lit_value v y))) value (alike_in one n x y) (alike_ok one n x y) le
    (two one ins x y i j) f

-- what a literal is where another is true
under-value : (v : ℕ → Bool) (one c a : Lit) → lit_value v one ≡ true → lit_value v c ≡ true → lit_value v (under_of one c a) ≡ lit_value v a
under-value v one c a h g =
    chosen_by (relation_of a c) one (negated one) a (λ l. lit_value v l ≡ lit_value v a)
    (λ e. h ∙ sym (equal-value v a c e ∙ g))
    (λ e. not-one v one h ∙ sym (opposite-value v a c e ∙ ap not g))
    (λ e. refl)

under-among : (one c a : Lit) (ins : List Lit) → Among (one ∷ ins) a.var → Among (one ∷ ins) (under_of one c a).var
under-among one c a ins i =
    chosen_by (relation_of a c) one (negated one) a (λ l. Among (one ∷ ins) l.var) (λ e. inl refl) (λ e. inl refl) (λ e. i)

by-branch : (c a a2 b b2 : Bool) → (c ≡ true → a2 ≡ a) → (c ≡ false → b2 ≡ b) → cond c a2 b2 ≡ cond c a b
by-branch true a a2 b b2 f g = f refl
by-branch false a a2 b b2 f g = g refl

three : (one : Lit) (more : List Lit) (a b c : Lit) → Among (one ∷ more) a.var → Among (one ∷ more) b.var → Among (one ∷ more) c.var
    → (k : ℕ) → Among (a ∷ b ∷ c ∷ []) k → Among (one ∷ more) k
three one more a b c i j h k (inl e) = subst (λ (t : ℕ). Among (one ∷ more) t) (sym e) i
three one more a b c i j h k (inr r) = two one more b c j h k r

pub branch_ok : (one : Lit) (n : ℕ) (c a b : Lit) → FoldOk one n (c ∷ a ∷ b ∷ []) 18 (λ v. cond (lit_value v c) (lit_value v a) (lit_value v b)) (branch_in one n c a b)
branch_ok one n c a b =
    let ins : List Lit = c ∷ a ∷ b ∷ [] in
    let value : (ℕ → Bool) → Bool = λ v. cond (lit_value v c) (lit_value v a) (lit_value v b) in
    let Q : Chained → Type 0 = FoldOk one n ins 18 value in
    let q1 : Chained = defined n (Select c a b) in
    let q2 : Chained = by (relation_of b one) (or_in one n (negated c) a) (and_in one n c a) q1 in
    chosen_by (relation_of a one) (or_in one n c b) (and_in one n (negated c) b) q2 Q
    (λ e. from_or one n ins 18 value c b (omega arith) (inr (inl refl)) (inr (inr (inr (inl refl)))) (λ v h. const3 true (λ a c b. c || b) (λ a c b. cond c a b) refl refl refl refl (lit_value v a) (lit_value v c) (lit_value v b) (one-value v a one e h)))
    (λ e. from_and one n ins 18 value (negated c) b (omega arith) (inr (inl refl)) (inr (inr (inr (inl refl)))) (λ v h. ap (λ (t : Bool). t && lit_value v b) (value-negated v c) ∙ const3 false (λ a c b. not c && b) (λ a c b. cond c a b) refl refl refl refl (lit_value v a) (lit_value v c) (lit_value v b) (zero-value v a one e h)))
    (λ o. chosen_by (relation_of b one) (or_in one n (negated c) a) (and_in one n c a) q1 Q
    (λ e. from_or one n ins 18 value (negated c) a (omega arith) (inr (inl refl)) (inr (inr (inl refl))) (λ v h. ap (λ (t : Bool). t || lit_value v a) (value-negated v c) ∙ const3 true (λ b c a. not c || a) (λ b c a. cond c a b) refl refl refl refl (lit_value v b) (lit_value v c) (lit_value v a) (one-value v b one e h)))
    (λ e. from_and one n ins 18 value c a (omega arith) (inr (inl refl)) (inr (inr (inl refl))) (λ v h. const3 false (λ b c a. c && a) (λ b c a. cond c a b) refl refl refl refl (lit_value v b) (lit_value v c) (lit_value v a) (zero-value v b one e h)))
    (λ o. ok_defined one n ins 18 value (Select c a b) (omega arith) ((inr (inl refl)), (inr (inr (inl refl))), (inr (inr (inr (inl refl))))) (λ v. refl)))

pub select_ok : (one : Lit) (n : ℕ) (c a b : Lit) → FoldOk one n (c ∷ a ∷ b ∷ []) 18 (λ v. cond (lit_value v c) (lit_value v a) (lit_value v b)) (select_in one n c a b)
select_ok one n c a b =
    let ins : List Lit = c ∷ a ∷ b ∷ [] in
    let value : (ℕ → Bool) → Bool = λ v. cond (lit_value v c) (lit_value v a) (lit_value v b) in
    let Q : Chained → Type 0 = FoldOk one n ins 18 value in
    let a2 = under_of one c a in
    let b2 = under_of one (negated c) b in
    let q1 : Chained = branch_in one n c a2 b2 in
    let q2 : Chained = by (relation_of a b) (known a) (alike_in one n c a) q1 in
    chosen_by (relation_of c one) (known a) (known b) q2 Q
    (λ e. ok_known one n ins 18 value a (inr (inr (inl refl))) (λ v h. const3 true (λ c a b. a) (λ c a b. cond c a b) refl refl refl refl (lit_value v c) (lit_value v a) (lit_value v b) (one-value v c one e h)))
    (λ e. ok_known one n ins 18 value b (inr (inr (inr (inl refl)))) (λ v h. const3 false (λ c a b. b) (λ c a b. cond c a b) refl refl refl refl (lit_value v c) (lit_value v a) (lit_value v b) (zero-value v c one e h)))
    (λ o. chosen_by (relation_of a b) (known a) (alike_in one n c a) q1 Q
    (λ e. ok_known one n ins 18 value a (inr (inr (inl refl))) (λ v h. same3 (λ a b c. a) (λ a b c. cond c a b) refl refl refl refl (lit_value v a) (lit_value v b) (lit_value v c) (equal-value v a b e)))
    (λ e. from_alike one n ins 18 value c a (omega arith) (inr (inl refl)) (inr (inr (inl refl))) (λ v h. apart3 (λ a b c. not (xor c a)) (λ a b c. cond c a b) refl refl refl refl (lit_value v a) (lit_value v b) (lit_value v c) (opposite-value v a b e)))
    (λ o. ok_more one n (c ∷ a2 ∷ b2 ∷ []) ins 18 18 (λ v. cond (lit_value v c) (lit_value v a2) (lit_value v b2)) value q1 (branch_ok one n c a2 b2) (omega arith)
    (three one ins c a2 b2 (inr (inl refl)) (under-among one c a ins (inr (inr (inl refl)))) (under-among one (negated c) b ins (inr (inr (inr (inl refl))))))
    (λ v h. by-branch (lit_value v c) (lit_value v a) (lit_value v a2) (lit_value v b) (lit_value v b2) (λ g. under-value v one c a h g) (λ g. under-value v one (negated c) b h (value-negated v c ∙ ap not g)))))

pub odd_ok : (one : Lit) (n : ℕ) (a b c : Lit) → FoldOk one n (a ∷ b ∷ c ∷ []) 32 (λ v. xor (lit_value v a) (xor (lit_value v b) (lit_value v c))) (odd_in one n a b c)
odd_ok one n a b c =
    let ins : List Lit = a ∷ b ∷ c ∷ [] in
    let value : (ℕ → Bool) → Bool = λ v. xor (lit_value v a) (xor (lit_value v b) (lit_value v c)) in
    let Q : Chained → Type 0 = FoldOk one n ins 32 value in
    let q1 : Chained = defined n (Sum a b c) in
    let q2 : Chained = by (relation_of a c) (known b) (known (negated b)) q1 in
    let q3 : Chained = by (relation_of a b) (known c) (known (negated c)) q2 in
    let q4 : Chained = by (relation_of c one) (alike_in one n a b) (xor_in one n a b) q3 in
    chosen_by (relation_of b one) (alike_in one n a c) (xor_in one n a c) q4 Q
    (λ e. from_alike one n ins 32 value a c (omega arith) (inr (inl refl)) (inr (inr (inr (inl refl)))) (λ v h. const3 true (λ b a c. not (xor a c)) (λ b a c. xor a (xor b c)) refl refl refl refl (lit_value v b) (lit_value v a) (lit_value v c) (one-value v b one e h)))
    (λ e. from_xor one n ins 32 value a c (omega arith) (inr (inl refl)) (inr (inr (inr (inl refl)))) (λ v h. const3 false (λ b a c. xor a c) (λ b a c. xor a (xor b c)) refl refl refl refl (lit_value v b) (lit_value v a) (lit_value v c) (zero-value v b one e h)))
    (λ o. chosen_by (relation_of c one) (alike_in one n a b) (xor_in one n a b) q3 Q
    (λ e. from_alike one n ins 32 value a b (omega arith) (inr (inl refl)) (inr (inr (inl refl))) (λ v h. const3 true (λ c a b. not (xor a b)) (λ c a b. xor a (xor b c)) refl refl refl refl (lit_value v c) (lit_value v a) (lit_value v b) (one-value v c one e h)))
    (λ e. from_xor one n ins 32 value a b (omega arith) (inr (inl refl)) (inr (inr (inl refl))) (λ v h. const3 false (λ c a b. xor a b) (λ c a b. xor a (xor b c)) refl refl refl refl (lit_value v c) (lit_value v a) (lit_value v b) (zero-value v c one e h)))
    (λ o. chosen_by (relation_of a b) (known c) (known (negated c)) q2 Q
    (λ e. ok_known one n ins 32 value c (inr (inr (inr (inl refl)))) (λ v h. same3 (λ a b c. c) (λ a b c. xor a (xor b c)) refl refl refl refl (lit_value v a) (lit_value v b) (lit_value v c) (equal-value v a b e)))
    (λ e. ok_known one n ins 32 value (negated c) (inr (inr (inr (inl refl)))) (λ v h. value-negated v c ∙ apart3 (λ a b c. not c) (λ a b c. xor a (xor b c)) refl refl refl refl (lit_value v a) (lit_value v b) (lit_value v c) (opposite-value v a b e)))
    (λ o. chosen_by (relation_of a c) (known b) (known (negated b)) q1 Q
    (λ e. ok_known one n ins 32 value b (inr (inr (inl refl))) (λ v h. same3 (λ a c b. b) (λ a c b. xor a (xor b c)) refl refl refl refl (lit_value v a) (lit_value v c) (lit_value v b) (equal-value v a c e)))
    (λ e. ok_known one n ins 32 value (negated b) (inr (inr (inl refl))) (λ v h. value-negated v b ∙ apart3 (λ a c b. not b) (λ a c b. xor a (xor b c)) refl refl refl refl (lit_value v a) (lit_value v c) (lit_value v b) (opposite-value v a c e)))
    (λ o. ok_defined one n ins 32 value (Sum a b c) (omega arith) ((inr (inl refl)), (inr (inr (inl refl))), (inr (inr (inr (inl refl))))) (λ v. refl)))))

pub sum_ok : (one : Lit) (n : ℕ) (a b c : Lit) → FoldOk one n (a ∷ b ∷ c ∷ []) 32 (λ v. xor (lit_value v a) (xor (lit_value v b) (lit_value v c))) (sum_in one n a b c)
sum_ok one n a b c =
    let ins : List Lit = a ∷ b ∷ c ∷ [] in
    let value : (ℕ → Bool) → Bool = λ v. xor (lit_value v a) (xor (lit_value v b) (lit_value v c)) in
    let Q : Chained → Type 0 = FoldOk one n ins 32 value in
    let q1 : Chained = odd_in one n a b c in
    let q2 : Chained = by (relation_of b c) (known a) (known (negated a)) q1 in
    chosen_by (relation_of a one) (alike_in one n b c) (xor_in one n b c) q2 Q
    (λ e. from_alike one n ins 32 value b c (omega arith) (inr (inr (inl refl))) (inr (inr (inr (inl refl)))) (λ v h. const3 true (λ a b c. not (xor b c)) (λ a b c. xor a (xor b c)) refl refl refl refl (lit_value v a) (lit_value v b) (lit_value v c) (one-value v a one e h)))
    (λ e. from_xor one n ins 32 value b c (omega arith) (inr (inr (inl refl))) (inr (inr (inr (inl refl)))) (λ v h. const3 false (λ a b c. xor b c) (λ a b c. xor a (xor b c)) refl refl refl refl (lit_value v a) (lit_value v b) (lit_value v c) (zero-value v a one e h)))
    (λ o. chosen_by (relation_of b c) (known a) (known (negated a)) q1 Q
    (λ e. ok_known one n ins 32 value a (inr (inl refl)) (λ v h. same3 (λ b c a. a) (λ b c a. xor a (xor b c)) refl refl refl refl (lit_value v b) (lit_value v c) (lit_value v a) (equal-value v b c e)))
    (λ e. ok_known one n ins 32 value (negated a) (inr (inl refl)) (λ v h. value-negated v a ∙ apart3 (λ b c a. not a) (λ b c a. xor a (xor b c)) refl refl refl refl (lit_value v b) (lit_value v c) (lit_value v a) (opposite-value v b c e)))
    (λ o. odd_ok one n a b c))

pub most_ok : (one : Lit) (n : ℕ) (a b c : Lit) → FoldOk one n (a ∷ b ∷ c ∷ []) 18 (λ v. majority (lit_value v a) (lit_value v b) (lit_value v c)) (most_in one n a b c)
most_ok one n a b c =
    let ins : List Lit = a ∷ b ∷ c ∷ [] in
    let value : (ℕ → Bool) → Bool = λ v. majority (lit_value v a) (lit_value v b) (lit_value v c) in
    let Q : Chained → Type 0 = FoldOk one n ins 18 value in
    let q1 : Chained = defined n (Carry a b c) in
    let q2 : Chained = by (relation_of a c) (known a) (known b) q1 in
    let q3 : Chained = by (relation_of a b) (known a) (known c) q2 in
    let q4 : Chained = by (relation_of c one) (or_in one n a b) (and_in one n a b) q3 in
    chosen_by (relation_of b one) (or_in one n a c) (and_in one n a c) q4 Q
    (λ e. from_or one n ins 18 value a c (omega arith) (inr (inl refl)) (inr (inr (inr (inl refl)))) (λ v h. const3 true (λ b a c. a || c) (λ b a c. majority a b c) refl refl refl refl (lit_value v b) (lit_value v a) (lit_value v c) (one-value v b one e h)))
    (λ e. from_and one n ins 18 value a c (omega arith) (inr (inl refl)) (inr (inr (inr (inl refl)))) (λ v h. const3 false (λ b a c. a && c) (λ b a c. majority a b c) refl refl refl refl (lit_value v b) (lit_value v a) (lit_value v c) (zero-value v b one e h)))
    (λ o. chosen_by (relation_of c one) (or_in one n a b) (and_in one n a b) q3 Q
    (λ e. from_or one n ins 18 value a b (omega arith) (inr (inl refl)) (inr (inr (inl refl))) (λ v h. const3 true (λ c a b. a || b) (λ c a b. majority a b c) refl refl refl refl (lit_value v c) (lit_value v a) (lit_value v b) (one-value v c one e h)))
    (λ e. from_and one n ins 18 value a b (omega arith) (inr (inl refl)) (inr (inr (inl refl))) (λ v h. const3 false (λ c a b. a && b) (λ c a b. majority a b c) refl refl refl refl (lit_value v c) (lit_value v a) (lit_value v b) (zero-value v c one e h)))
    (λ o. chosen_by (relation_of a b) (known a) (known c) q2 Q
    (λ e. ok_known one n ins 18 value a (inr (inl refl)) (λ v h. same3 (λ a b c. a) (λ a b c. majority a b c) refl refl refl refl (lit_value v a) (lit_value v b) (lit_value v c) (equal-value v a b e)))
    (λ e. ok_known one n ins 18 value c (inr (inr (inr (inl refl)))) (λ v h. apart3 (λ a b c. c) (λ a b c. majority a b c) refl refl refl refl (lit_value v a) (lit_value v b) (lit_value v c) (opposite-value v a b e)))
    (λ o. chosen_by (relation_of a c) (known a) (known b) q1 Q
    (λ e. ok_known one n ins 18 value a (inr (inl refl)) (λ v h. same3 (λ a c b. a) (λ a c b. majority a b c) refl refl refl refl (lit_value v a) (lit_value v c) (lit_value v b) (equal-value v a c e)))
    (λ e. ok_known one n ins 18 value b (inr (inr (inl refl))) (λ v h. apart3 (λ a c b. b) (λ a c b. majority a b c) refl refl refl refl (lit_value v a) (lit_value v c) (lit_value v b) (opposite-value v a c e)))
    (λ o. ok_defined one n ins 18 value (Carry a b c) (omega arith) ((inr (inl refl)), (inr (inr (inl refl))), (inr (inr (inr (inl refl))))) (λ v. refl)))))

pub carry_ok : (one : Lit) (n : ℕ) (a b c : Lit) → FoldOk one n (a ∷ b ∷ c ∷ []) 18 (λ v. majority (lit_value v a) (lit_value v b) (lit_value v c)) (carry_in one n a b c)
carry_ok one n a b c =
    let ins : List Lit = a ∷ b ∷ c ∷ [] in
    let value : (ℕ → Bool) → Bool = λ v. majority (lit_value v a) (lit_value v b) (lit_value v c) in
    let Q : Chained → Type 0 = FoldOk one n ins 18 value in
    let q1 : Chained = most_in one n a b c in
    let q2 : Chained = by (relation_of b c) (known b) (known a) q1 in
    chosen_by (relation_of a one) (or_in one n b c) (and_in one n b c) q2 Q
    (λ e. from_or one n ins 18 value b c (omega arith) (inr (inr (inl refl))) (inr (inr (inr (inl refl)))) (λ v h. const3 true (λ a b c. b || c) (λ a b c. majority a b c) refl refl refl refl (lit_value v a) (lit_value v b) (lit_value v c) (one-value v a one e h)))
    (λ e. from_and one n ins 18 value b c (omega arith) (inr (inr (inl refl))) (inr (inr (inr (inl refl)))) (λ v h. const3 false (λ a b c. b && c) (λ a b c. majority a b c) refl refl refl refl (lit_value v a) (lit_value v b) (lit_value v c) (zero-value v a one e h)))
    (λ o. chosen_by (relation_of b c) (known b) (known a) q1 Q
    (λ e. ok_known one n ins 18 value b (inr (inr (inl refl))) (λ v h. same3 (λ b c a. b) (λ b c a. majority a b c) refl refl refl refl (lit_value v b) (lit_value v c) (lit_value v a) (equal-value v b c e)))
    (λ e. ok_known one n ins 18 value a (inr (inl refl)) (λ v h. apart3 (λ b c a. a) (λ b c a. majority a b c) refl refl refl refl (lit_value v b) (lit_value v c) (lit_value v a) (opposite-value v b c e)))
    (λ o. most_ok one n a b c))

pub same_ok : (one : Lit) (n : ℕ) (s a b : Lit) → FoldOk one n (s ∷ a ∷ b ∷ []) 16 (λ v. lit_value v s && not (xor (lit_value v a) (lit_value v b))) (same_in one n s a b)
same_ok one n s a b =
    let ins : List Lit = s ∷ a ∷ b ∷ [] in
    let value : (ℕ → Bool) → Bool = λ v. lit_value v s && not (xor (lit_value v a) (lit_value v b)) in
    let Q : Chained → Type 0 = FoldOk one n ins 16 value in
    let q1 : Chained = defined n (Same s a b) in
    let q2 : Chained = by (relation_of b one) (and_in one n s a) (and_in one n s (negated a)) q1 in
    let q3 : Chained = by (relation_of a one) (and_in one n s b) (and_in one n s (negated b)) q2 in
    let q4 : Chained = by (relation_of a b) (known s) (known (negated one)) q3 in
    chosen_by (relation_of s one) (alike_in one n a b) (known s) q4 Q
    (λ e. from_alike one n ins 16 value a b (omega arith) (inr (inr (inl refl))) (inr (inr (inr (inl refl)))) (λ v h. const3 true (λ s a b. not (xor a b)) (λ s a b. s && not (xor a b)) refl refl refl refl (lit_value v s) (lit_value v a) (lit_value v b) (one-value v s one e h)))
    (λ e. ok_known one n ins 16 value s (inr (inl refl)) (λ v h. const3 false (λ s a b. s) (λ s a b. s && not (xor a b)) refl refl refl refl (lit_value v s) (lit_value v a) (lit_value v b) (zero-value v s one e h)))
    (λ o. chosen_by (relation_of a b) (known s) (known (negated one)) q3 Q
    (λ e. ok_known one n ins 16 value s (inr (inl refl)) (λ v h. same3 (λ a b s. s) (λ a b s. s && not (xor a b)) refl refl refl refl (lit_value v a) (lit_value v b) (lit_value v s) (equal-value v a b e)))
    (λ e. ok_known one n ins 16 value (negated one) (inl refl) (λ v h. not-one v one h ∙ apart3 (λ a b s. false) (λ a b s. s && not (xor a b)) refl refl refl refl (lit_value v a) (lit_value v b) (lit_value v s) (opposite-value v a b e)))
    (λ o. chosen_by (relation_of a one) (and_in one n s b) (and_in one n s (negated b)) q2 Q
    (λ e. from_and one n ins 16 value s b (omega arith) (inr (inl refl)) (inr (inr (inr (inl refl)))) (λ v h. const3 true (λ a b s. s && b) (λ a b s. s && not (xor a b)) refl refl refl refl (lit_value v a) (lit_value v b) (lit_value v s) (one-value v a one e h)))
    (λ e. from_and one n ins 16 value s (negated b) (omega arith) (inr (inl refl)) (inr (inr (inr (inl refl)))) (λ v h. ap (λ (t : Bool). lit_value v s && t) (value-negated v b) ∙ const3 false (λ a b s. s && not b) (λ a b s. s && not (xor a b)) refl refl refl refl (lit_value v a) (lit_value v b) (lit_value v s) (zero-value v a one e h)))
    (λ o. chosen_by (relation_of b one) (and_in one n s a) (and_in one n s (negated a)) q1 Q
    (λ e. from_and one n ins 16 value s a (omega arith) (inr (inl refl)) (inr (inr (inl refl))) (λ v h. const3 true (λ b a s. s && a) (λ b a s. s && not (xor a b)) refl refl refl refl (lit_value v b) (lit_value v a) (lit_value v s) (one-value v b one e h)))
    (λ e. from_and one n ins 16 value s (negated a) (omega arith) (inr (inl refl)) (inr (inr (inl refl))) (λ v h. ap (λ (t : Bool). lit_value v s && t) (value-negated v a) ∙ const3 false (λ b a s. s && not a) (λ b a s. s && not (xor a b)) refl refl refl refl (lit_value v b) (lit_value v a) (lit_value v s) (zero-value v b one e h)))
    (λ o. ok_defined one n ins 16 value (Same s a b) (omega arith) ((inr (inl refl)), (inr (inr (inl refl))), (inr (inr (inr (inl refl))))) (λ v. refl)))))

-- the literals of a definition
abbrev pub ins_of : Def → List Lit
ins_of (And a b) = a ∷ b ∷ []
ins_of (Xor a b) = a ∷ b ∷ []
ins_of (Select c a b) = c ∷ a ∷ b ∷ []
ins_of (Sum a b c) = a ∷ b ∷ c ∷ []
ins_of (Carry a b c) = a ∷ b ∷ c ∷ []
ins_of (Same e a b) = e ∷ a ∷ b ∷ []
ins_of (Fixed b) = []

pub def_ok : (one : Lit) (n : ℕ) (d : Def) → FoldOk one n (ins_of d) (weight d) (λ v. def_value v d) (def_in one n d)
def_ok one n (And a b) = and_ok one n a b
def_ok one n (Xor a b) = xor_ok one n a b
def_ok one n (Select c a b) = select_ok one n c a b
def_ok one n (Sum a b c) = sum_ok one n a b c
def_ok one n (Carry a b c) = carry_ok one n a b c
def_ok one n (Same e a b) = same_ok one n e a b
def_ok one n (Fixed true) = ok_known one n [] 1 (λ v. true) one (inl refl) (λ v h. h)
def_ok one n (Fixed false) = ok_known one n [] 1 (λ v. false) (negated one) (inl refl) (λ v h. not-one v one h)
