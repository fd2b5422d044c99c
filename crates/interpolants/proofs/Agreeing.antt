-- Bits whose literals have one variable.
use Rattle.std.proofs.Common.{◌≡◌, ℕ, ◌⊎◌, inl, inr, Bool, true, false, not, ◌&&◌, List, [], ◌∷◌, ◌++◌, length, cond, nat_eq, Option, Some, None, slice_get, zero, suc, refl, sym, ap, ◌∙◌, subst}
use Rattle.std.proofs.Common.{Result, Ok, Err}
use Rattle.std.specs.Prelude.{IfOk}
use Rattle.std.specs.HashMap.{get}
use Rattle.std.proofs.lemmas.Bool.{eqb-true, eq-eqb, and_parts, and_from, cases_eq, ne_eqb}
use Rattle.prop.specs.Steps.{same_sign}
use Rattle.prop.specs.declared.Lit.{Lit}
use Rattle.prop.specs.Logic.{lit_value}
use Rattle.formula_diagrams.specs.Truths.{choice, is_set}
use Rattle.interpolants.specs.declared.items.Formula.{Formula}
use Rattle.interpolants.specs.declared.items.Placed.{Placed}
use Rattle.interpolants.specs.declared.items.Twins.{Twins}
use Rattle.interpolants.specs.declared.placing.CutBits.{CutBits}
use Rattle.interpolants.specs.Meanings.{said, read, Agree, IsBitOf, HasBit, twin_agrees, agree_from, IsPlacing, IsPaired}

-- places in a list that grows by one
abbrev IsIn : List Placed → ℕ → Placed → Type 0
IsIn ps k p = slice_get ps k ≡ Some p

in-left : (ps : List Placed) (u p : Placed) (k : ℕ) → IsIn ps k p → IsIn (ps ++ u ∷ []) k p
in-left [] u p k h = absurd cc
in-left (q ∷ ps) u p zero h = h
in-left (q ∷ ps) u p (suc k) h = in-left ps u p k h

in-last : (ps : List Placed) (u : Placed) → IsIn (ps ++ u ∷ []) (length ps) u
in-last [] u = refl
in-last (q ∷ ps) u = in-last ps u

in-either : (ps : List Placed) (u p : Placed) (k : ℕ) → IsIn (ps ++ u ∷ []) k p → IsIn ps k p ⊎ (u ≡ p)
in-either [] u p zero h = let e : u ≡ p = cc in inr e
in-either [] u p (suc k) h = absurd cc
in-either (q ∷ ps) u p zero h = inl h
in-either (q ∷ ps) u p (suc k) h = in-either ps u p k h

-- what a store reads where all agree
agree-tail : (p : Placed) (ps : List Placed) (store : List ℕ) → Agree (p ∷ ps) store → Agree ps store
agree-tail p ps store h i j q r a b e = h (suc i) (suc j) q r a b e

read-here : (p : Placed) (ps : List Placed) (store : List ℕ) (x : ℕ) (b : Bool) → nat_eq p.lit.var x ≡ b
    → read (p ∷ ps) store x ≡ cond b (said store p) (read ps store x)
read-here p ps store x b e = ap (λ (c : Bool). cond c (said store p) (read ps store x)) e

pub read-at : (ps : List Placed) (store : List ℕ) (x k : ℕ) (q : Placed) → Agree ps store → slice_get ps k ≡ Some q → q.lit.var ≡ x
    → read ps store x ≡ said store q
read-at [] store x k q h g e = absurd cc
read-at (p ∷ ps) store x zero q h g e =
    let same : p ≡ q = cc in
    let v : p.lit.var ≡ x = ap (λ (r : Placed). r.lit.var) same ∙ e in
    read-here p ps store x true (eq-eqb p.lit.var x v) ∙ ap (said store) same
read-at (p ∷ ps) store x (suc k) q h g e = way (cases_eq p.lit.var x) (read-at ps store x k q (agree-tail p ps store h) g e)
  where
    way : (p.lit.var ≡ x) ⊎ (p.lit.var ≡ x → ⊥) → read ps store x ≡ said store q → read (p ∷ ps) store x ≡ said store q
    way (inl v) r = read-here p ps store x true (eq-eqb p.lit.var x v) ∙ h 0 (suc k) p q refl g (v ∙ sym e)
    way (inr n) r = read-here p ps store x false (ne_eqb p.lit.var x n) ∙ r

-- a literal by a bit of its variable
sign-by : (a b x : Bool) → same_sign (choice a b (not b)) x ≡ cond b (same_sign a x) (not (same_sign a x))
sign-by true true x = refl
sign-by true false x = refl
sign-by false true x = refl
sign-by false false true = refl
sign-by false false false = refl

pub literal-by : (ps : List Placed) (store : List ℕ) (l : Lit) (q : Placed) (b : Bool) → Agree ps store → IsBitOf ps l.var q
    → b ≡ choice q.lit.positive l.positive (not l.positive) → same_sign b (is_set store q.bit) ≡ lit_value (read ps store) l
literal-by ps store l q b h g e =
    ap (λ (c : Bool). same_sign c (is_set store q.bit)) e ∙ sign-by q.lit.positive l.positive (is_set store q.bit)
    ∙ ap (λ (x : Bool). cond l.positive x (not x)) (sym (read-at ps store l.var g.0 q h g.1 g.2))

pub literal-result : {E : Type 0} (r : Result Formula E) (T : Formula → List ℕ → Bool) (ps : List Placed) (store : List ℕ) (l : Lit) (q : Placed) (b : Bool)
    → Agree ps store → IsBitOf ps l.var q → b ≡ choice q.lit.positive l.positive (not l.positive)
    → IfOk r (λ f. (s : List ℕ) → T f s ≡ same_sign b (is_set s q.bit)) → IfOk r (λ f. T f store ≡ lit_value (read ps store) l)
literal-result (Ok f) T ps store l q b h g e t = t store ∙ literal-by ps store l q b h g e
literal-result (Err x) T ps store l q b h g e t = tt

-- twins
agree-push : (store : List ℕ) (b : Bool) (ts : List Twins) (t : Twins) → agree_from store b (ts ++ t ∷ []) ≡ (twin_agrees store t && agree_from store b ts)
agree-push store b [] t = refl
agree-push store b (u ∷ ts) t = agree-push store (twin_agrees store u && b) ts t

choice-same : (x y : Bool) → choice x y (not y) ≡ true → x ≡ y
choice-same true y e = sym e
choice-same false true e = absurd cc
choice-same false false e = refl

same-choice : (x y : Bool) → x ≡ y → choice x y (not y) ≡ true
same-choice true y e = sym e
same-choice false true e = absurd cc
same-choice false false e = refl

-- all agree, once one more does
agree-more : (ps : List Placed) (u : Placed) (store : List ℕ) → Agree ps store
    → ((k : ℕ) (p : Placed) → IsIn ps k p → p.lit.var ≡ u.lit.var → said store p ≡ said store u) → Agree (ps ++ u ∷ []) store
agree-more ps u store h one i j p q a b e = way (in-either ps u p i a) (in-either ps u q j b)
  where
    way : IsIn ps i p ⊎ (u ≡ p) → IsIn ps j q ⊎ (u ≡ q) → said store p ≡ said store q
    way (inl x) (inl y) = h i j p q x y e
    way (inl x) (inr y) =
        let v : p.lit.var ≡ u.lit.var = e ∙ ap (λ (r : Placed). r.lit.var) (sym y) in
        one i p x v ∙ ap (said store) y
    way (inr x) (inl y) =
        let v : q.lit.var ≡ u.lit.var = sym e ∙ ap (λ (r : Placed). r.lit.var) (sym x) in
        ap (said store) (sym x) ∙ sym (one j q y v)
    way (inr x) (inr y) = ap (said store) (sym x ∙ y)

agree-less : (ps : List Placed) (u : Placed) (store : List ℕ) → Agree (ps ++ u ∷ []) store → Agree ps store
agree-less ps u store h i j p q a b e = h i j p q (in-left ps u p i a) (in-left ps u q j b) e

-- places after one more is noted
abbrev Noted : CutBits → CutBits → Placed → Type 0
Noted mid new p =
    (x : ℕ) → get nat_eq new.places x ≡ cond (nat_eq p.lit.var x) (Some (length mid.bits.items)) (get nat_eq mid.places x)

all-alone : (old : CutBits) (p : Placed) (store : List ℕ) → IsPlacing old → (HasBit old.bits.items p.lit.var → ⊥)
    → agree_from store true old.twins.items ≡ true → Agree (old.bits.items ++ p ∷ []) store
all-alone old p store h lone a =
    agree-more old.bits.items p store (h.all store a) (λ k q g e. absurd (lone (q, (k, g, e))))

all-paired : (old : CutBits) (p q : Placed) (store : List ℕ) → IsPlacing old → IsBitOf old.bits.items p.lit.var q
    → agree_from store true (old.twins.items ++ record { one = p; other = q } ∷ []) ≡ true → Agree (old.bits.items ++ p ∷ []) store
all-paired old p q store h g a =
    let t : Twins = record { one = p; other = q } in
    let parts = and_parts (twin_agrees store t) (agree_from store true old.twins.items) (sym (agree-push store true old.twins.items t) ∙ a) in
    let before : Agree old.bits.items store = h.all store parts.1 in
    let same : said store p ≡ said store q = choice-same (said store p) (said store q) parts.0 in
    agree-more old.bits.items p store before (λ k r i e. before k g.0 r q i g.1 (e ∙ sym g.2) ∙ sym same)

each-paired : (old : CutBits) (p q : Placed) (store : List ℕ) → IsPlacing old → IsBitOf old.bits.items p.lit.var q
    → Agree (old.bits.items ++ p ∷ []) store → agree_from store true (old.twins.items ++ record { one = p; other = q } ∷ []) ≡ true
each-paired old p q store h g a =
    let t : Twins = record { one = p; other = q } in
    let ps : List Placed = old.bits.items in
    let same : said store p ≡ said store q =
    a (length ps) g.0 p q (in-last ps p) (in-left ps p q g.0 g.1) (sym g.2) in
    agree-push store true old.twins.items t
    ∙ and_from (twin_agrees store t) (agree_from store true old.twins.items) (same-choice (said store p) (said store q) same) (h.each store (agree-less ps p store a))

found-more : (ps : List Placed) (p : Placed) (m : ℕ → Option ℕ) (x k : ℕ)
    → ((x k : ℕ) → m x ≡ Some k → (q : Placed) × (slice_get ps k ≡ Some q) × (q.lit.var ≡ x)) → (b : Bool) → nat_eq p.lit.var x ≡ b
    → cond b (Some (length ps)) (m x) ≡ Some k → (q : Placed) × (slice_get (ps ++ p ∷ []) k ≡ Some q) × (q.lit.var ≡ x)
found-more ps p m x k h true e g =
    let n : length ps ≡ k = cc in
    (p, subst (λ (i : ℕ). IsIn (ps ++ p ∷ []) i p) n (in-last ps p), eqb-true p.lit.var x e)
found-more ps p m x k h false e g = let (q, i, v) = h x k g in (q, in-left ps p q k i, v)

none-more : (ps : List Placed) (p : Placed) (m : ℕ → Option ℕ) (x : ℕ) → ((x : ℕ) → m x ≡ None → HasBit ps x → ⊥) → (b : Bool) → nat_eq p.lit.var x ≡ b
    → cond b (Some (length ps)) (m x) ≡ None → HasBit (ps ++ p ∷ []) x → ⊥
none-more ps p m x h true e g w = absurd cc
none-more ps p m x h false e g w = way (in-either ps p w.0 w.1.0 w.1.1)
  where
    way : IsIn ps w.1.0 w.0 ⊎ (p ≡ w.0) → ⊥
    way (inl i) = h x g (w.0, (w.1.0, i, w.1.2))
    way (inr q) =
        let v : p.lit.var ≡ x = ap (λ (r : Placed). r.lit.var) q ∙ w.1.2 in
        let t : nat_eq p.lit.var x ≡ true = eq-eqb p.lit.var x v in
        absurd cc

pub placing-more : (old mid new : CutBits) (p : Placed) → IsPlacing old → IsPaired old mid p
    → ((x : ℕ) → get nat_eq new.places x ≡ cond (nat_eq p.lit.var x) (Some (length mid.bits.items)) (get nat_eq mid.places x))
    → new.bits.items ≡ mid.bits.items ++ p ∷ [] → new.twins.items ≡ mid.twins.items → IsPlacing new
placing-more old mid new p h w noted e f =
    let ps : List Placed = old.bits.items in
    let b : new.bits.items ≡ ps ++ p ∷ [] = e ∙ ap (λ (qs : List Placed). qs ++ p ∷ []) w.bits in
    let m : ℕ → Option ℕ = λ x. get nat_eq old.places x in
    let n : (x : ℕ) → get nat_eq new.places x ≡ cond (nat_eq p.lit.var x) (Some (length ps)) (m x) =
    λ x. noted x ∙ ap (λ (qs : List Placed). cond (nat_eq p.lit.var x) (Some (length qs)) (get nat_eq mid.places x)) w.bits
    ∙ ap (λ (o : Option ℕ). cond (nat_eq p.lit.var x) (Some (length ps)) o) (w.places x) in
    record {
      found = λ x k g.
          subst (λ (qs : List Placed). (q : Placed) × (slice_get qs k ≡ Some q) × (q.lit.var ≡ x)) (sym b)
          (found-more ps p m x k h.found (nat_eq p.lit.var x) refl (sym (n x) ∙ g));
      none = λ x g has.
          none-more ps p m x h.none (nat_eq p.lit.var x) refl (sym (n x) ∙ g) (subst (λ (qs : List Placed). HasBit qs x) b has);
      all = λ store a.
          subst (λ (qs : List Placed). Agree qs store) (sym b) (all-way store w.twins (subst (λ (ts : List Twins). agree_from store true ts ≡ true) f a));
      each = λ store a.
          subst (λ (ts : List Twins). agree_from store true ts ≡ true) (sym f) (each-way store w.twins (subst (λ (qs : List Placed). Agree qs store) b a));
    }
  where
    all-way : (store : List ℕ) → ((HasBit old.bits.items p.lit.var → ⊥) × (mid.twins.items ≡ old.twins.items))
        ⊎ ((q : Placed) × IsBitOf old.bits.items p.lit.var q × (mid.twins.items ≡ old.twins.items ++ record { one = p; other = q } ∷ []))
        → agree_from store true mid.twins.items ≡ true → Agree (old.bits.items ++ p ∷ []) store
    all-way store (inl lone) a = all-alone old p store h lone.0 (subst (λ (ts : List Twins). agree_from store true ts ≡ true) lone.1 a)
    all-way store (inr one) a =
        all-paired old p one.0 store h one.1 (subst (λ (ts : List Twins). agree_from store true ts ≡ true) one.2 a)

    each-way : (store : List ℕ) → ((HasBit old.bits.items p.lit.var → ⊥) × (mid.twins.items ≡ old.twins.items))
        ⊎ ((q : Placed) × IsBitOf old.bits.items p.lit.var q × (mid.twins.items ≡ old.twins.items ++ record { one = p; other = q } ∷ []))
        → Agree (old.bits.items ++ p ∷ []) store → agree_from store true mid.twins.items ≡ true
    each-way store (inl lone) a =
        subst (λ (ts : List Twins). agree_from store true ts ≡ true) (sym lone.1) (h.each store (agree-less old.bits.items p store a))
    each-way store (inr one) a =
        subst (λ (ts : List Twins). agree_from store true ts ≡ true) (sym one.2) (each-paired old p one.0 store h one.1 a)
