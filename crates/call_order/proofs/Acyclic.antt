-- Where each function is taken behind those that it calls there is no cycle.
use Rattle.std.proofs.Common.{◌≡◌, ℕ, zero, suc, ◌<◌, ◌≤◌, ◌+◌, Bool, true, false, ◌||◌, List, [], ◌∷◌, ◌++◌, get_or, refl, ap, ◌∙◌, sym, subst, arith, append_assoc}
use Rattle.std.specs.Prelude.{nat_eq, not}
use Rattle.std.specs.List.{list_any, list_all}
use Rattle.std.proofs.lemmas.Bool.{eqb-true}
use Rattle.c_typed.specs.Rules.{leads, has}
use Rattle.call_order.specs.Order.{bit, times, callees_first}
use Rattle.call_order.proofs.Bools.{and_first, and_second, or_first, or_second, true_is_not_false, all_in, all_of, has_head}

module _ (graph : List (List ℕ)) where
  -- what these functions call is among them
  abbrev Closed : List ℕ → Type 0
  Closed fs = (f : ℕ) → has fs f ≡ true → list_all (has fs) (get_or graph f []) ≡ true

  has_append : (fs : List ℕ) (g f : ℕ) → has (fs ++ g ∷ []) f ≡ true → has fs f ≡ false → f ≡ g
  has_append [] g f h n = by (nat_eq f g) refl
    where
      by : (b : Bool) → b ≡ nat_eq f g → f ≡ g
      by true e = eqb-true f g (sym e)
      by false e = absurd (true_is_not_false (nat_eq f g || false) h (ap (λ z. z || false) (sym e)))
  has_append (k ∷ fs) g f h n = by (has_append fs g f) (nat_eq f k) refl
    where
      by : (has (fs ++ g ∷ []) f ≡ true → has fs f ≡ false → f ≡ g) → (b : Bool) → b ≡ nat_eq f k → f ≡ g
      by ih true e = absurd (true_is_not_false (nat_eq f k || list_any (nat_eq f) fs) (or_first (nat_eq f k) _ (sym e)) n)
      by ih false e = ih (ap (λ z. z || has (fs ++ g ∷ []) f) e ∙ h) (ap (λ z. z || has fs f) e ∙ n)

  has_left : (fs : List ℕ) (g f : ℕ) → has fs f ≡ true → has (fs ++ g ∷ []) f ≡ true
  has_left [] g f h = absurd (true_is_not_false false h refl)
  has_left (k ∷ fs) g f h = by (has_left fs g f) (nat_eq f k) refl
    where
      by : (has fs f ≡ true → has (fs ++ g ∷ []) f ≡ true) → (b : Bool) → b ≡ nat_eq f k → (nat_eq f k || has (fs ++ g ∷ []) f) ≡ true
      by ih true e = or_first (nat_eq f k) _ (sym e)
      by ih false e = or_second (nat_eq f k) _ (ih (ap (λ z. z || has fs f) e ∙ h))

  -- an element that passes stands among others of which this holds
  some_in : (p : ℕ → Bool) (fs gs : List ℕ) (y : ℕ) → ((g : ℕ) → has fs g ≡ true → p g ≡ true → has fs y ≡ true) → list_all (has fs) gs ≡ true → list_any p gs ≡ true → has fs y ≡ true
  some_in p fs [] y ih a t = absurd (true_is_not_false false t refl)
  some_in p fs (g ∷ gs) y ih a t = split (some_in p fs gs y ih (and_second (has fs g) _ a)) (p g) refl
    where
      split : (list_any p gs ≡ true → has fs y ≡ true) → (b : Bool) → b ≡ p g → has fs y ≡ true
      split rest true e = ih g (and_first (has fs g) _ a) (sym e)
      split rest false e = rest (ap (λ z. z || list_any p gs) e ∙ t)

  stays_in : (fs : List ℕ) → Closed fs → (n x y : ℕ) → has fs x ≡ true → leads graph n x y ≡ true → has fs y ≡ true
  stays_in fs c zero x y h l = ap (has fs) (sym (eqb-true x y l)) ∙ h
  stays_in fs c (suc n) x y h l = by (λ g k m. stays_in fs c n g y k m) (nat_eq x y) refl
    where
      by : ((g : ℕ) → has fs g ≡ true → leads graph n g y ≡ true → has fs y ≡ true) → (b : Bool) → b ≡ nat_eq x y → has fs y ≡ true
      by ih true e = ap (has fs) (sym (eqb-true x y (sym e))) ∙ h
      by ih false e = some_in (λ f. leads graph n f y) fs (get_or graph x []) y ih (c x h) (ap (λ z. z || list_any (λ f. leads graph n f y) (get_or graph x [])) e ∙ l)

  times_two : (f : ℕ) (xs ys : List ℕ) → times f (xs ++ ys) ≡ times f xs + times f ys
  times_two f [] ys = omega arith
  times_two f (x ∷ xs) ys = omega (arith, times_two f xs ys)

  has_times : (f : ℕ) (xs : List ℕ) → has xs f ≡ true → 0 < times f xs
  has_times f [] h = absurd (true_is_not_false false h refl)
  has_times f (x ∷ xs) h = by (has_times f xs) (nat_eq f x) refl
    where
      by : (has xs f ≡ true → 0 < times f xs) → (b : Bool) → b ≡ nat_eq f x → 0 < bit (nat_eq f x) + times f xs
      by ih true e = let one : bit (nat_eq f x) ≡ 1 = ap bit (sym e) in omega (arith, one)
      by ih false e = let rest : 0 < times f xs = ih (ap (λ z. z || has xs f) e ∙ h) in omega (arith, rest)

  not_false : (b : Bool) → (b ≡ true → ⊥) → not b ≡ true
  not_false true h = absurd (h refl)
  not_false false h = refl

  called : (before rest : List ℕ) (g : ℕ) → callees_first graph before (g ∷ rest) ≡ true → list_all (has before) (get_or graph g []) ≡ true
  called before rest g b = and_first (list_all (has before) (get_or graph g [])) _ b

  alone : (before rest : List ℕ) (g : ℕ) → times g (before ++ g ∷ rest) ≤ 1 → has before g ≡ true → ⊥
  alone before rest g once k = omega (arith, once, times_two g before (g ∷ rest), has_times g before k, has_times g (g ∷ rest) (has_head g rest))

  wider : (before : List ℕ) (g : ℕ) → Closed before → list_all (has before) (get_or graph g []) ≡ true → Closed (before ++ g ∷ [])
  wider before g c b x k = split (has before x) refl
    where
      split : (z : Bool) → z ≡ has before x → list_all (has (before ++ g ∷ [])) (get_or graph x []) ≡ true
      split true e = all_of (has (before ++ g ∷ [])) (get_or graph x []) (λ y j. has_left before g y (all_in (has before) (get_or graph x []) y (c x (sym e)) j))
      split false e =
          subst (λ (z : ℕ). list_all (has (before ++ g ∷ [])) (get_or graph z []) ≡ true) (sym (has_append before g x k (sym e)))
          (all_of (has (before ++ g ∷ [])) (get_or graph g []) (λ y j. has_left before g y (all_in (has before) (get_or graph g []) y b j)))

  -- nothing that a function calls leads back to it
  pub none_back : (n : ℕ) (before order : List ℕ) → Closed before → callees_first graph before order ≡ true → ((f : ℕ) → times f (before ++ order) ≤ 1) →
      (f : ℕ) → has order f ≡ true → list_all (λ c. not (leads graph n c f)) (get_or graph f []) ≡ true
  none_back n before [] c b once f h = absurd (true_is_not_false false h refl)
  none_back n before (g ∷ rest) c b once f h =
      by (none_back n (before ++ g ∷ []) rest (wider before g c (called before rest g b)) (and_second (list_all (has before) (get_or graph g [])) _ b)
      (λ x. subst (λ (z : List ℕ). times x z ≤ 1) (sym (append_assoc before (g ∷ []) rest)) (once x)) f)
      (nat_eq f g) refl
    where
      by : (has rest f ≡ true → list_all (λ y. not (leads graph n y f)) (get_or graph f []) ≡ true) → (z : Bool) → z ≡ nat_eq f g → list_all (λ y. not (leads graph n y f)) (get_or graph f []) ≡ true
      by ih true e =
          subst (λ (z : ℕ). list_all (λ y. not (leads graph n y z)) (get_or graph z []) ≡ true) (sym (eqb-true f g (sym e)))
          (all_of (λ y. not (leads graph n y g)) (get_or graph g [])
          (λ y j. not_false (leads graph n y g) (λ l. alone before rest g (once g) (stays_in before c n y g (all_in (has before) (get_or graph g []) y (called before rest g b) j) l))))
      by ih false e = ih (ap (λ z. z || has rest f) e ∙ h)
