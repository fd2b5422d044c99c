-- What the terms weigh that have to be done for a term, against the terms below an operation.
use Rattle.std.proofs.Common.{◌≡◌, ℕ, ◌+◌, ◌-◌, ◌≤◌, ◌<◌, length, List, [], ◌∷◌, arith, ap, sym, ◌∙◌, refl, suc, zero, Bool, true, false, not, ◌&&◌, ◌||◌, cond, eqb, subst}
use Rattle.std.proofs.lemmas.Bool.{false≢true, eq-eqb, ne_eqb}
use Rattle.prop.specs.Trues.{listed}
use Rattle.bv_term.specs.declared.term.Term.{Term}
use Rattle.bv_term.specs.WellFormed.{Table}
use Rattle.bit_blast.specs.Done.{Known, is_done}
use Rattle.bit_blast.specs.Cone.{operands_at, wants, falling, cone_of}
use Rattle.blast_laws.specs.Bounds.{bounds_of}
use Rattle.path_weight_laws.specs.Weights.{nothing_done, terms_below}

-- what is needed by the first is needed by the second
abbrev Within : (ℕ → Bool) → (ℕ → Bool) → Type 0
Within p q = (j : ℕ) → p j ≡ true → q j ≡ true

-- nothing that is needed is done
abbrev IsNew : (ℕ → Bool) → (ℕ → Bool) → Type 0
IsNew p done = (j : ℕ) → p j ≡ true → done j ≡ false

-- what is needed once the term k is, too
abbrev pub more : List Term → (ℕ → Bool) → ℕ → (ℕ → Bool) → ℕ → Bool
more ts done k p j = p j || wants ts done k j

pub or_left : (a b : Bool) → a ≡ true → (a || b) ≡ true
or_left true b e = refl
or_left false b e = absurd (false≢true e)

pub or_right : (a b : Bool) → b ≡ true → (a || b) ≡ true
or_right true b e = refl
or_right false b e = e

or_both : (a b c d : Bool) → (a ≡ true → c ≡ true) → (b ≡ true → d ≡ true) → (a || b) ≡ true → (c || d) ≡ true
or_both true b c d f g e = or_left c d (f refl)
or_both false b c d f g e = or_right c d (g e)

pub or_either : (a b : Bool) (P : Type 0) → (a ≡ true → P) → (b ≡ true → P) → (a || b) ≡ true → P
or_either true b P f g e = f refl
or_either false b P f g e = g e

and_any : (a b : Bool) → (a && not b) ≡ true → (a && true) ≡ true
and_any true b e = refl
and_any false b e = absurd (false≢true e)

and_new : (a b : Bool) → (a && not b) ≡ true → b ≡ false
and_new true true e = sym e
and_new true false e = refl
and_new false b e = absurd (false≢true e)

and_first : (a b : Bool) → (a && not b) ≡ true → a ≡ true
and_first true b e = refl
and_first false b e = absurd (false≢true e)

more_within : (ts : List Term) (done : ℕ → Bool) (k : ℕ) (p q : ℕ → Bool) → Within p q → Within (more ts done k p) (more ts nothing_done k q)
more_within ts done k p q m j =
    or_both (p j) (wants ts done k j) (q j) (wants ts nothing_done k j) (m j) (and_any (listed (operands_at ts k) j) (done j))

still_within : (ts : List Term) (done : ℕ → Bool) (k : ℕ) (p q : ℕ → Bool) → Within p q → Within p (more ts done k q)
still_within ts done k p q m j e = or_left (q j) (wants ts done k j) (m j e)

more_new : (ts : List Term) (done : ℕ → Bool) (k : ℕ) (p : ℕ → Bool) → IsNew p done → IsNew (more ts done k p) done
more_new ts done k p n j =
    or_either (p j) (wants ts done k j) (done j ≡ false) (n j) (and_new (listed (operands_at ts k) j) (done j))

-- a turn: whether the term k is needed, and the terms behind it where it is and where it is not
turn_less : (table : Table) (k : ℕ) (a c : Bool) (xs ys us vs : List ℕ) → (a ≡ true → c ≡ true) → bounds_of table xs ≤ bounds_of table us
    → bounds_of table ys ≤ bounds_of table us → bounds_of table ys ≤ bounds_of table vs
    → bounds_of table (cond a (k ∷ xs) ys) ≤ bounds_of table (cond c (k ∷ us) vs)
turn_less table k true true xs ys us vs f l m n = omega (arith, l)
turn_less table k true false xs ys us vs f l m n = absurd (false≢true (f refl))
turn_less table k false true xs ys us vs f l m n = omega (arith, m)
turn_less table k false false xs ys us vs f l m n = n

-- what needs less, some of it being done, weighs less
falling_less : (table : Table) (done : ℕ → Bool) (k : ℕ) (p q : ℕ → Bool) → Within p q
    → bounds_of table (falling table.terms done k p) ≤ bounds_of table (falling table.terms nothing_done k q)
falling_less table done zero p q m = omega arith
falling_less table done (suc k) p q m =
    let ts = table.terms in
    let P = more ts done k p in
    let Q = more ts nothing_done k q in
    turn_less table k (p k) (q k) (falling ts done k P) (falling ts done k p) (falling ts nothing_done k Q) (falling ts nothing_done k q) (m k)
    (falling_less table done k P Q (more_within ts done k p q m))
    (falling_less table done k p Q (still_within ts nothing_done k p q m))
    (falling_less table done k p q m)

-- the same of two lists that have no term in common
turn_both : (table : Table) (k : ℕ) (a b c : Bool) (xs ys us vs ws zs : List ℕ) → (a ≡ true → c ≡ true) → (b ≡ true → c ≡ true) → (a ≡ true → b ≡ true → ⊥)
    → (a ≡ true → bounds_of table xs + bounds_of table vs ≤ bounds_of table ws)
    → (a ≡ false → bounds_of table ys + bounds_of table us ≤ bounds_of table ws)
    → (a ≡ false → bounds_of table ys + bounds_of table vs ≤ bounds_of table ws)
    → (a ≡ false → bounds_of table ys + bounds_of table vs ≤ bounds_of table zs)
    → bounds_of table (cond a (k ∷ xs) ys) + bounds_of table (cond b (k ∷ us) vs) ≤ bounds_of table (cond c (k ∷ ws) zs)
turn_both table k true true c xs ys us vs ws zs f g n h1 h2 h3 h4 = absurd (n refl refl)
turn_both table k true false true xs ys us vs ws zs f g n h1 h2 h3 h4 = let i = h1 refl in omega (arith, i)
turn_both table k true false false xs ys us vs ws zs f g n h1 h2 h3 h4 = absurd (false≢true (f refl))
turn_both table k false true true xs ys us vs ws zs f g n h1 h2 h3 h4 = let i = h2 refl in omega (arith, i)
turn_both table k false true false xs ys us vs ws zs f g n h1 h2 h3 h4 = absurd (false≢true (g refl))
turn_both table k false false true xs ys us vs ws zs f g n h1 h2 h3 h4 = let i = h3 refl in omega (arith, i)
turn_both table k false false false xs ys us vs ws zs f g n h1 h2 h3 h4 = h4 refl

-- each of these is done
abbrev AreDone : List ℕ → (ℕ → Bool) → Type 0
AreDone ks done = (j : ℕ) → listed ks j ≡ true → done j ≡ true

-- two lists, the second without what the first has, weigh together at most what needs both
falling_both : (table : Table) (d e : ℕ → Bool) (k : ℕ) (p r q : ℕ → Bool) → Within p q → Within r q → IsNew r e → AreDone (falling table.terms d k p) e
    → bounds_of table (falling table.terms d k p) + bounds_of table (falling table.terms e k r) ≤ bounds_of table (falling table.terms nothing_done k q)
falling_both table d e zero p r q m n new all = omega arith
falling_both table d e (suc k) p r q m n new all =
    let ts = table.terms in
    let P = more ts d k p in
    let R = more ts e k r in
    let Q = more ts nothing_done k q in
    let xs = falling ts d k P in
    let ys = falling ts d k p in
    let at : (b : Bool) → p k ≡ b → AreDone (cond b (k ∷ xs) ys) e = λ b g. subst (λ (t : Bool). AreDone (cond t (k ∷ xs) ys) e) g all in
    let apart : p k ≡ true → r k ≡ true → ⊥
    = λ g h. false≢true (sym (new k h) ∙ at true g k (or_left (eqb k k) (listed xs k) (eq-eqb k k refl))) in
    let up : p k ≡ true → AreDone xs e = λ g j l. at true g j (or_right (eqb k j) (listed xs j) l) in
    let down : p k ≡ false → AreDone ys e = λ g. at false g in
    turn_both table k (p k) (r k) (q k) xs ys (falling ts e k R) (falling ts e k r) (falling ts nothing_done k Q) (falling ts nothing_done k q) (m k) (n k) apart
    (λ g. falling_both table d e k P r Q (more_within ts d k p q m) (still_within ts nothing_done k r q n) new (up g))
    (λ g. falling_both table d e k p R Q (still_within ts nothing_done k p q m) (more_within ts e k r q n) (more_new ts e k r new) (down g))
    (λ g. falling_both table d e k p r Q (still_within ts nothing_done k p q m) (still_within ts nothing_done k r q n) new (down g))
    (λ g. falling_both table d e k p r q m n new (down g))

-- above what is needed nothing is added
falling_above : (ts : List Term) (done : ℕ → Bool) (k m : ℕ) (p : ℕ → Bool) → ((j : ℕ) → k ≤ j → p j ≡ false) → falling ts done (m + k) p ≡ falling ts done k p
falling_above ts done k zero p h =
    let e : 0 + k ≡ k = omega arith in
    ap (λ (i : ℕ). falling ts done i p) e
falling_above ts done k (suc m) p h =
    let e : suc m + k ≡ suc (m + k) = omega arith in
    let i = m + k in
    ap (λ (t : ℕ). falling ts done t p) e
    ∙ (ap (λ (t : Bool). cond t (i ∷ falling ts done i (more ts done i p)) (falling ts done i p)) (h i (omega arith)) ∙ falling_above ts done k m p h)

-- what has to be done for a term, from the end of the table on
cone_whole : (ts : List Term) (done : List Known) (t : ℕ) → t < length ts
    → cone_of ts done t ≡ falling ts (is_done done) (length ts) (λ j. eqb t j && not (is_done done j))
cone_whole ts done t lt =
    let p : ℕ → Bool = λ j. eqb t j && not (is_done done j) in
    let m = length ts - suc t in
    let e : m + suc t ≡ length ts = omega (arith, lt) in
    let none : (j : ℕ) → suc t ≤ j → p j ≡ false = λ j le. ap (λ (b : Bool). b && not (is_done done j)) (ne_eqb t j (λ s. omega (arith, s, le))) in
    sym (falling_above ts (is_done done) (suc t) m p none) ∙ ap (λ (i : ℕ). falling ts (is_done done) i p) e

root_within : (done : List Known) (t : ℕ) (q : ℕ → Bool) → ((j : ℕ) → eqb t j ≡ true → q j ≡ true) → Within (λ j. eqb t j && not (is_done done j)) q
root_within done t q h j e = h j (and_first (eqb t j) (is_done done j) e)

-- what a term adds at most
pub cone_less : (table : Table) (done : List Known) (t : ℕ) → t < length table.terms
    → bounds_of table (cone_of table.terms done t) ≤ bounds_of table (terms_below table (t ∷ []))
cone_less table done t lt =
    let ts = table.terms in
    let q = listed (t ∷ []) in
    let l = falling_less table (is_done done) (length ts) (λ j. eqb t j && not (is_done done j)) q (root_within done t q (λ j e. or_left (eqb t j) false e)) in
    subst (λ (ks : List ℕ). bounds_of table ks ≤ bounds_of table (terms_below table (t ∷ []))) (sym (cone_whole ts done t lt)) l

-- what two terms add at most, the second once the first is done
pub cones_less : (table : Table) (d e : List Known) (i t : ℕ) → i < length table.terms → t < length table.terms
    → ((j : ℕ) → listed (cone_of table.terms d i) j ≡ true → is_done e j ≡ true)
    → bounds_of table (cone_of table.terms d i) + bounds_of table (cone_of table.terms e t) ≤ bounds_of table (terms_below table (i ∷ t ∷ []))
cones_less table d e i t li lt all =
    let ts = table.terms in
    let q = listed (i ∷ t ∷ []) in
    let p : ℕ → Bool = λ j. eqb i j && not (is_done d j) in
    let r : ℕ → Bool = λ j. eqb t j && not (is_done e j) in
    let a = cone_whole ts d i li in
    let b = cone_whole ts e t lt in
    let done : AreDone (falling ts (is_done d) (length ts) p) (is_done e) = subst (λ (ks : List ℕ). AreDone ks (is_done e)) a all in
    let l = falling_both table (is_done d) (is_done e) (length ts) p r q
    (root_within d i q (λ j g. or_left (eqb i j) (eqb t j || false) g))
    (root_within e t q (λ j g. or_right (eqb i j) (eqb t j || false) (or_left (eqb t j) false g)))
    (λ j g. and_new (eqb t j) (is_done e j) g) done in
    let w = bounds_of table (terms_below table (i ∷ t ∷ [])) in
    subst (λ (ks : List ℕ). bounds_of table ks + bounds_of table (cone_of ts e t) ≤ w) (sym a)
    (subst (λ (ks : List ℕ). bounds_of table (falling ts (is_done d) (length ts) p) + bounds_of table ks ≤ w) (sym b) l)
