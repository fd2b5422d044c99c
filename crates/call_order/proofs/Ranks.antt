-- How many functions a function leads to. Without a cycle it is less for those that are called.
use Rattle.std.proofs.Common.{◌≡◌, ◌⊎◌, inl, inr, ℕ, zero, suc, ◌<◌, ◌≤◌, ◌+◌, ◌-◌, Bool, true, false, ◌||◌, List, [], length, get_or, refl, ap, ◌∙◌, sym, subst, arith, eq-eqb}
use Rattle.std.specs.Prelude.{nat_eq, nat_lt, not}
use Rattle.std.specs.List.{list_any, list_all}
use Rattle.std.proofs.lemmas.Bool.{ltb-true, ltb-false}
use Rattle.c_typed.specs.Rules.{leads, has}
use Rattle.call_order.specs.Order.{bit}
use Rattle.call_order.specs.Layers.{IsBounded, HasNoCycle}
use Rattle.call_order.proofs.Bools.{or_first, or_second, true_is_not_false, all_at, any_same, any_more, any_in, all_in, not_true}

-- ---- How many numbers below a number pass a test

abbrev pub tally : (ℕ → Bool) → ℕ → ℕ
tally f zero = 0
tally f (suc m) = bit (f m) + tally f m

bit_le : (b : Bool) → bit b ≤ 1
bit_le true = omega arith
bit_le false = omega arith

bit_more : (a b : Bool) → (a ≡ true → b ≡ true) → bit a ≤ bit b
bit_more true b h = subst (λ (z : Bool). 1 ≤ bit z) (sym (h refl)) (omega arith)
bit_more false b h = omega arith

pub tally_le : (f : ℕ → Bool) (m : ℕ) → tally f m ≤ m
tally_le f zero = omega arith
tally_le f (suc m) = omega (arith, bit_le (f m), tally_le f m)

pub tally_more : (f g : ℕ → Bool) (m : ℕ) → ((x : ℕ) → x < m → f x ≡ true → g x ≡ true) → tally f m ≤ tally g m
tally_more f g zero h = omega arith
tally_more f g (suc m) h = omega (arith, bit_more (f m) (g m) (h m (omega arith)), tally_more f g m (λ x k. h x (omega (arith, k))))

pub tally_less : (f g : ℕ → Bool) (m x : ℕ) → ((y : ℕ) → y < m → f y ≡ true → g y ≡ true) → x < m → f x ≡ false → g x ≡ true → tally f m < tally g m
tally_less f g zero x h k a b = absurd (omega (arith, k))
tally_less f g (suc m) x h k a b = by (λ j. tally_less f g m x (λ y i. h y (omega (arith, i))) j a b) (nat_lt x m) refl
  where
    by : (x < m → tally f m < tally g m) → (c : Bool) → c ≡ nat_lt x m → bit (f m) + tally f m < bit (g m) + tally g m
    by ih true e = omega (arith, bit_more (f m) (g m) (h m (omega arith)), ih (ltb-true x m (sym e)))
    by ih false e =
        let here : x ≡ m = omega (arith, k, ltb-false x m (sym e)) in
        let low : bit (f m) ≡ 0 = ap (λ z. bit (f z)) (sym here) ∙ ap bit a in
        let high : bit (g m) ≡ 1 = ap (λ z. bit (g z)) (sym here) ∙ ap bit b in
        omega (arith, low, high, tally_more f g m (λ y j. h y (omega (arith, j))))

tally_same : (f g : ℕ → Bool) (m : ℕ) → ((x : ℕ) → x < m → f x ≡ true → g x ≡ true) → tally g m ≤ tally f m → (x : ℕ) → x < m → g x ≡ f x
tally_same f g m h e x k = by (f x) (g x) refl refl
  where
    by : (a b : Bool) → a ≡ f x → b ≡ g x → b ≡ a
    by true true p q = refl
    by false false p q = refl
    by true false p q = absurd (true_is_not_false (g x) (h x k (sym p)) (sym q))
    by false true p q = absurd (omega (arith, e, tally_less f g m x h k (sym p) (sym q)))

-- ---- More calls than functions lead no further

module _ (graph : List (List ℕ)) (bounded : IsBounded graph) where
  in_bounds : (x : ℕ) → x < length graph → list_all (λ f. nat_lt f (length graph)) (get_or graph x []) ≡ true
  in_bounds x h = all_at (λ fs. list_all (λ f. nat_lt f (length graph)) fs) graph x [] bounded h

  pub callee_there : (x c : ℕ) → x < length graph → has (get_or graph x []) c ≡ true → c < length graph
  callee_there x c h k = ltb-true c (length graph) (all_in (λ f. nat_lt f (length graph)) (get_or graph x []) c (in_bounds x h) k)

  leads_more : (k x y : ℕ) → leads graph k x y ≡ true → leads graph (suc k) x y ≡ true
  leads_more zero x y h = or_first (nat_eq x y) _ h
  leads_more (suc k) x y h = by (λ f. leads_more k f y) (nat_eq x y) refl
    where
      by : ((f : ℕ) → leads graph k f y ≡ true → leads graph (suc k) f y ≡ true) → (b : Bool) → b ≡ nat_eq x y → (nat_eq x y || list_any (λ f. leads graph (suc k) f y) (get_or graph x [])) ≡ true
      by ih true e = or_first (nat_eq x y) _ (sym e)
      by ih false e =
          or_second (nat_eq x y) _
          (any_more (λ f. leads graph k f y) (λ f. leads graph (suc k) f y) (get_or graph x []) ih
          (ap (λ z. z || list_any (λ f. leads graph k f y) (get_or graph x [])) e ∙ h))

  abbrev Stationary : ℕ → ℕ → Type 0
  Stationary y k = (x : ℕ) → x < length graph → leads graph (suc k) x y ≡ leads graph k x y

  stays : (y k : ℕ) → Stationary y k → Stationary y (suc k)
  stays y k s x h = ap (λ z. nat_eq x y || z) (any_same (length graph) (λ f. leads graph (suc k) f y) (λ f. leads graph k f y) (get_or graph x []) (in_bounds x h) s)

  abbrev count : ℕ → ℕ → ℕ
  count y k = tally (λ x. leads graph k x y) (length graph)

  grows : (y k : ℕ) → y < length graph → Stationary y k ⊎ (k < count y k)
  grows y zero h =
      let some : tally (λ x. false) (length graph) < count y zero = tally_less (λ x. false) (λ x. nat_eq x y) (length graph) y (λ x j f. absurd (true_is_not_false false f refl)) h refl (eq-eqb y y refl) in
      inr (omega (arith, some))
  grows y (suc k) h = split (grows y k h)
    where
      split : Stationary y k ⊎ (k < count y k) → Stationary y (suc k) ⊎ (suc k < count y (suc k))
      split (inl s) = inl (stays y k s)
      split (inr m) = by (nat_lt (count y k) (count y (suc k))) refl
        where
          by : (b : Bool) → b ≡ nat_lt (count y k) (count y (suc k)) → Stationary y (suc k) ⊎ (suc k < count y (suc k))
          by true e = inr (omega (arith, m, ltb-true (count y k) (count y (suc k)) (sym e)))
          by false e =
              inl (stays y k (tally_same (λ x. leads graph k x y) (λ x. leads graph (suc k) x y) (length graph) (λ x j. leads_more k x y) (ltb-false (count y k) (count y (suc k)) (sym e))))

  pub closed : (y x : ℕ) → y < length graph → x < length graph → leads graph (suc (length graph)) x y ≡ leads graph (length graph) x y
  closed y x h k = split (grows y (length graph) h)
    where
      split : Stationary y (length graph) ⊎ (length graph < count y (length graph)) → leads graph (suc (length graph)) x y ≡ leads graph (length graph) x y
      split (inl s) = s x k
      split (inr m) = absurd (omega (arith, m, tally_le (λ z. leads graph (length graph) z y) (length graph)))

  -- one more, and so on
  abbrev more : ℕ → ℕ → ℕ
  more zero k = k
  more (suc j) k = suc (more j k)

  more_is : (j k : ℕ) → more j k ≡ k + j
  more_is zero k = omega arith
  more_is (suc j) k = omega (arith, more_is j k)

  leads_on : (j k x y : ℕ) → leads graph k x y ≡ true → leads graph (more j k) x y ≡ true
  leads_on zero k x y h = h
  leads_on (suc j) k x y h = leads_more (more j k) x y (leads_on j k x y h)

  stays_on : (j y k : ℕ) → Stationary y k → Stationary y (more j k)
  stays_on zero y k s = s
  stays_on (suc j) y k s = stays y (more j k) (stays_on j y k s)

  same_on : (j y k x : ℕ) → Stationary y k → x < length graph → leads graph (more j k) x y ≡ leads graph k x y
  same_on zero y k x s h = refl
  same_on (suc j) y k x s h = stays_on j y k s x h ∙ same_on j y k x s h

  -- calls that lead there do so by as many as there are functions
  pub always : (k x y : ℕ) → x < length graph → y < length graph → leads graph k x y ≡ true → leads graph (length graph) x y ≡ true
  always k x y h i l = by (nat_lt k (length graph)) refl
    where
      by : (b : Bool) → b ≡ nat_lt k (length graph) → leads graph (length graph) x y ≡ true
      by true e =
          let short : k < length graph = ltb-true k (length graph) (sym e) in
          ap (λ z. leads graph z x y) (let d : length graph ≡ more (length graph - k) k = omega (arith, short, more_is (length graph - k) k) in d)
          ∙ leads_on (length graph - k) k x y l
      by false e =
          let long : length graph ≤ k = ltb-false k (length graph) (sym e) in
          sym (same_on (k - length graph) y (length graph) x (λ z j. closed y z i j) h)
          ∙ ap (λ z. leads graph z x y) (let d : more (k - length graph) (length graph) ≡ k = omega (arith, long, more_is (k - length graph) (length graph)) in d)
          ∙ l

  -- ---- Ranks

  abbrev pub rank : ℕ → ℕ
  rank x = tally (λ y. leads graph (length graph) x y) (length graph)

  pub leads_itself : (n x : ℕ) → leads graph n x x ≡ true
  leads_itself zero x = eq-eqb x x refl
  leads_itself (suc n) x = or_first (nat_eq x x) _ (eq-eqb x x refl)

  leads_through : (x c y : ℕ) → x < length graph → y < length graph → has (get_or graph x []) c ≡ true → leads graph (length graph) c y ≡ true → leads graph (length graph) x y ≡ true
  leads_through x c y h j k m =
      sym (closed y x j h) ∙ or_second (nat_eq x y) _ (any_in (λ f. leads graph (length graph) f y) (get_or graph x []) c k m)

  pub rank_less : HasNoCycle graph → (x c : ℕ) → x < length graph → has (get_or graph x []) c ≡ true → rank c < rank x
  rank_less acyclic x c h k =
      tally_less (λ y. leads graph (length graph) c y) (λ y. leads graph (length graph) x y) (length graph) x (λ y j m. leads_through x c y h j k m) h
      (not_true (leads graph (length graph) c x) (all_in (λ z. not (leads graph (length graph) z x)) (get_or graph x []) c (acyclic x h) k))
      (leads_itself (length graph) x)

  pub rank_le : (x : ℕ) → rank x ≤ length graph
  rank_le x = tally_le (λ y. leads graph (length graph) x y) (length graph)

  pub rank_some : (x : ℕ) → x < length graph → 0 < rank x
  rank_some x h =
      let some : tally (λ y. false) (length graph) < rank x = tally_less (λ y. false) (λ y. leads graph (length graph) x y) (length graph) x (λ y j f. absurd (true_is_not_false false f refl)) h refl (leads_itself (length graph) x) in
      omega (arith, some)
