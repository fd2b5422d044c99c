-- Functions that are taken round by round, each behind those that it calls, are an order of all where there is no cycle.
use Rattle.std.proofs.Common.{◌≡◌, ◌≢◌, ℕ, zero, suc, ◌<◌, ◌≤◌, ◌+◌, Bool, true, false, ◌||◌, if◌then◌else◌, List, [], ◌∷◌, ◌++◌, length, get_or, set, replicate, refl, ap, ◌∙◌, sym, subst, arith, append_assoc, append-nil, length-append, length-set, get_or-set_same, get_or-set_other, zero-add}
use Rattle.std.specs.Prelude.{nat_eq, nat_lt, ◌&&◌, not}
use Rattle.std.specs.List.{list_any, list_all}
use Rattle.std.proofs.lemmas.Bool.{ltb-true, ltb-false, lt-ltb, eqb-true, eqb-false}
use Rattle.std.proofs.lemmas.List.{get_or-replicate, get_or_at}
use Rattle.c_typed.specs.Rules.{has}
use Rattle.call_order.specs.Order.{bit, times, callees_first}
use Rattle.call_order.specs.Layers.{IsBounded, HasNoCycle}
use Rattle.call_order.specs.Peel.{Taking, start, is_ready, take_if, visit, round, is_whole, unless_whole, next_round, rounds, finish_if, finished, visit_at, visits, guided, WholeAcyclic, OrdersFound}
use Rattle.call_order.proofs.Bools.{and_first, and_second, and_both, true_is_not_false, all_at, all_in, all_of, all_append}
use Rattle.call_order.proofs.Acyclic.{none_back}
use Rattle.call_order.proofs.Ranks.{rank, rank_less, rank_le, rank_some, callee_there}

times_append : (f : ℕ) (xs : List ℕ) (x : ℕ) → times f (xs ++ x ∷ []) ≡ times f xs + bit (nat_eq f x)
times_append f [] x = omega arith
times_append f (y ∷ xs) x = omega (arith, times_append f xs x)

first_append : (graph : List (List ℕ)) (before xs : List ℕ) (f : ℕ) → callees_first graph before xs ≡ true → list_all (has (before ++ xs)) (get_or graph f []) ≡ true → callees_first graph before (xs ++ f ∷ []) ≡ true
first_append graph before [] f h k = and_both _ true (ap (λ z. list_all (has z) (get_or graph f [])) (sym (append-nil before)) ∙ k) refl
first_append graph before (y ∷ xs) f h k =
    and_both (list_all (has before) (get_or graph y [])) _ (and_first (list_all (has before) (get_or graph y [])) _ h)
    (first_append graph (before ++ y ∷ []) xs f (and_second (list_all (has before) (get_or graph y [])) _ h)
    (ap (λ z. list_all (has z) (get_or graph f [])) (append_assoc before (y ∷ []) xs) ∙ k))

-- what stands among these stands there
stands : (f : ℕ) (xs : List ℕ) → times f xs ≡ 1 → has xs f ≡ true
stands f [] h = absurd (omega (arith, h))
stands f (x ∷ xs) h = by (stands f xs) (nat_eq f x) refl
  where
    by : (times f xs ≡ 1 → has xs f ≡ true) → (b : Bool) → b ≡ nat_eq f x → (nat_eq f x || list_any (nat_eq f) xs) ≡ true
    by ih true e = ap (λ z. z || list_any (nat_eq f) xs) (sym e)
    by ih false e = ap (λ z. z || list_any (nat_eq f) xs) (sym e) ∙ ih (sym (zero-add (times f xs)) ∙ ap (λ z. bit z + times f xs) e ∙ h)

record Peeled (graph : List (List ℕ)) (st : Taking) : Type 0 where
  count : length st.taken ≡ length graph
  below : list_all (λ f. nat_lt f (length graph)) st.order ≡ true
  once : (f : ℕ) → f < length graph → times f st.order ≡ bit (get_or st.taken f false)
  behind : callees_first graph [] st.order ≡ true

length_replicate : (n : ℕ) → length (replicate n false) ≡ n
length_replicate zero = refl
length_replicate (suc n) = omega (arith, length_replicate n)

bit_small : (b : Bool) → bit b ≤ 1
bit_small true = omega arith
bit_small false = omega arith

-- what is not below does not stand there
stands_not : (n f : ℕ) (xs : List ℕ) → list_all (λ g. nat_lt g n) xs ≡ true → n ≤ f → times f xs ≡ 0
stands_not n f [] b h = refl
stands_not n f (x ∷ xs) b h =
    let small : x < n = ltb-true x n (and_first (nat_lt x n) _ b) in
    let none : bit (nat_eq f x) ≡ 0 = differs (nat_eq f x) refl small in
    let rest : times f xs ≡ 0 = stands_not n f xs (and_second (nat_lt x n) _ b) h in
    omega (arith, none, rest)
  where
    differs : (c : Bool) → c ≡ nat_eq f x → x < n → bit (nat_eq f x) ≡ 0
    differs true e s = absurd (omega (arith, s, h, eqb-true f x (sym e)))
    differs false e s = ap bit (sym e)

module _ (graph : List (List ℕ)) (bounded : IsBounded graph) where
  taken_stand : (st : Taking) (f : ℕ) → Peeled graph st → f < length graph → is_ready st.taken (get_or graph f []) ≡ true → list_all (has st.order) (get_or graph f []) ≡ true
  taken_stand st f p h r =
      all_of (has st.order) (get_or graph f [])
      (λ c k. stands c st.order (p.once c (callee_there graph bounded f c h k) ∙ ap bit (all_in (λ g. get_or st.taken g false) (get_or graph f []) c r k)))

  taking_is : (st : Taking) (f : ℕ) → Peeled graph st → f < length graph → get_or st.taken f false ≡ false → is_ready st.taken (get_or graph f []) ≡ true → Peeled graph (take_if true f st)
  taking_is st f p h n r = record {
    count = length-set st.taken f true ∙ p.count;
    below = all_append (λ g. nat_lt g (length graph)) st.order f p.below (lt-ltb f (length graph) h);
    once = λ g k. times_append g st.order f ∙ at g k (nat_eq g f) refl;
    behind = first_append graph [] st.order f p.behind (taken_stand st f p h r);
  }
    where
      at : (g : ℕ) → g < length graph → (b : Bool) → b ≡ nat_eq g f → times g st.order + bit (nat_eq g f) ≡ bit (get_or (set st.taken f true) g false)
      at g k true e =
          let same : g ≡ f = eqb-true g f (sym e) in
          let one : bit (nat_eq g f) ≡ 1 = ap bit (sym e) in
          let before : times g st.order ≡ 0 = p.once g k ∙ ap (λ z. bit (get_or st.taken z false)) same ∙ ap bit n in
          let now : bit (get_or (set st.taken f true) g false) ≡ 1 = ap (λ z. bit (get_or (set st.taken f true) z false)) same ∙ ap bit (get_or-set_same st.taken f true false (omega (arith, h, p.count))) in
          omega (arith, one, before, now)
      at g k false e =
          let none : bit (nat_eq g f) ≡ 0 = ap bit (sym e) in
          let other : g ≢ f = eqb-false g f (sym e) in
          let now : bit (get_or (set st.taken f true) g false) ≡ bit (get_or st.taken g false) = ap bit (get_or-set_other st.taken f g true false other) in
          omega (arith, none, now, p.once g k)

  visit_is : (st : Taking) (f : ℕ) → Peeled graph st → f < length graph → Peeled graph (visit f (get_or graph f []) st)
  visit_is st f p h = by (get_or st.taken f false) (is_ready st.taken (get_or graph f [])) refl refl
    where
      by : (a b : Bool) → a ≡ get_or st.taken f false → b ≡ is_ready st.taken (get_or graph f []) → Peeled graph (take_if (not (get_or st.taken f false) && is_ready st.taken (get_or graph f [])) f st)
      by true b e r = subst (λ (z : Bool). Peeled graph (take_if (not z && is_ready st.taken (get_or graph f [])) f st)) e p
      by false true e r =
          subst (λ (z : Bool). Peeled graph (take_if (not z && is_ready st.taken (get_or graph f [])) f st)) e
          (subst (λ (z : Bool). Peeled graph (take_if z f st)) r (taking_is st f p h (sym e) (sym r)))
      by false false e r =
          subst (λ (z : Bool). Peeled graph (take_if (not z && is_ready st.taken (get_or graph f [])) f st)) e
          (subst (λ (z : Bool). Peeled graph (take_if z f st)) r p)

  -- what is taken stays so
  take_keeps : (b : Bool) (st : Taking) (f g : ℕ) → length st.taken ≡ length graph → f < length graph → get_or st.taken g false ≡ true → get_or (take_if b f st).taken g false ≡ true
  take_keeps false st f g c h t = t
  take_keeps true st f g c h t = by (nat_eq g f) refl
    where
      by : (b : Bool) → b ≡ nat_eq g f → get_or (set st.taken f true) g false ≡ true
      by true e = ap (λ z. get_or (set st.taken f true) z false) (eqb-true g f (sym e)) ∙ get_or-set_same st.taken f true false (omega (arith, c, h))
      by false e = get_or-set_other st.taken f g true false (eqb-false g f (sym e)) ∙ t

  -- what is ready is taken
  visit_takes : (st : Taking) (f : ℕ) → length st.taken ≡ length graph → f < length graph → is_ready st.taken (get_or graph f []) ≡ true → get_or (visit f (get_or graph f []) st).taken f false ≡ true
  visit_takes st f c h r = by (get_or st.taken f false) refl
    where
      by : (a : Bool) → a ≡ get_or st.taken f false → get_or (take_if (not (get_or st.taken f false) && is_ready st.taken (get_or graph f [])) f st).taken f false ≡ true
      by true e = take_keeps _ st f f c h (sym e)
      by false e =
          ap (λ z. get_or (take_if (not z && is_ready st.taken (get_or graph f [])) f st).taken f false) (sym e)
          ∙ ap (λ z. get_or (take_if z f st).taken f false) r
          ∙ get_or-set_same st.taken f true false (omega (arith, c, h))

  -- ---- What is taken stands in order, with or without cycles

  round_peeled : (done rest : List (List ℕ)) (st : Taking) → done ++ rest ≡ graph → Peeled graph st → Peeled graph (round (length done) rest st)
  round_peeled done [] st e p = p
  round_peeled done (fs ∷ rest) st e p =
      let here : get_or graph (length done) [] ≡ fs = ap (λ z. get_or z (length done) []) (sym e) ∙ get_or_at done fs rest [] (length done) refl in
      let h : length done < length graph = omega (arith, ap length e, length-append done (fs ∷ rest)) in
      let next : length done + 1 ≡ length (done ++ fs ∷ []) = omega (arith, length-append done (fs ∷ [])) in
      let v : Taking = visit (length done) fs st in
      let p1 : Peeled graph v = subst (λ (z : List ℕ). Peeled graph (visit (length done) z st)) here (visit_is st (length done) p h) in
      subst (λ (z : ℕ). Peeled graph (round z rest v)) (sym next) (round_peeled (done ++ fs ∷ []) rest v (append_assoc done (fs ∷ []) rest ∙ e) p1)

  start_peeled : Peeled graph (start (length graph))
  start_peeled = record {
    count = length_replicate (length graph);
    below = refl;
    once = λ f h. sym (ap bit (get_or-replicate (length graph) f false false h));
    behind = refl;
  }

  visits_peeled : (fs : List ℕ) (st : Taking) → Peeled graph st → Peeled graph (visits graph fs st)
  visits_peeled [] st p = p
  visits_peeled (f ∷ fs) st p = visits_peeled fs (visit_at graph f st) (by (nat_lt f (length graph)) refl)
    where
      by : (b : Bool) → b ≡ nat_lt f (length graph) → Peeled graph (if nat_lt f (length graph) then visit f (get_or graph f []) st else st)
      by true e =
          subst (λ (z : Bool). Peeled graph (if z then visit f (get_or graph f []) st else st)) e (visit_is st f p (ltb-true f (length graph) (sym e)))
      by false e = subst (λ (z : Bool). Peeled graph (if z then visit f (get_or graph f []) st else st)) e p

  guided_peeled : (guess : List ℕ) → Peeled graph (guided graph guess)
  guided_peeled guess = visits_peeled guess (start (length graph)) start_peeled

  module _ (acyclic : HasNoCycle graph) where
    -- each function of at most this rank is taken
    abbrev Reached : ℕ → Taking → Type 0
    Reached k st = (f : ℕ) → f < length graph → rank graph bounded f ≤ k → get_or st.taken f false ≡ true

    -- and among the first functions each of one more
    abbrev Passed : ℕ → ℕ → Taking → Type 0
    Passed k m st = (f : ℕ) → f < m → f < length graph → rank graph bounded f ≤ k + 1 → get_or st.taken f false ≡ true

    ready : (k : ℕ) (st : Taking) (f : ℕ) → Reached k st → f < length graph → rank graph bounded f ≤ k + 1 → is_ready st.taken (get_or graph f []) ≡ true
    ready k st f re h le =
        all_of (λ g. get_or st.taken g false) (get_or graph f [])
        (λ c j. re c (callee_there graph bounded f c h j) (omega (arith, le, rank_less graph bounded acyclic f c h j)))

    passed_more : (k m : ℕ) (st : Taking) → Peeled graph st → m < length graph → Reached k st → Passed k m st → Passed k (m + 1) (visit m (get_or graph m []) st)
    passed_more k m st p h re pa f j l le = by (nat_lt f m) refl
      where
        by : (b : Bool) → b ≡ nat_lt f m → get_or (visit m (get_or graph m []) st).taken f false ≡ true
        by true e = take_keeps _ st m f p.count h (pa f (ltb-true f m (sym e)) l le)
        by false e =
            let here : f ≡ m = omega (arith, j, ltb-false f m (sym e)) in
            ap (λ z. get_or (visit m (get_or graph m []) st).taken z false) here
            ∙ visit_takes st m p.count h (ready k st m re h (subst (λ (z : ℕ). rank graph bounded z ≤ k + 1) here le))

    record After (k : ℕ) (st : Taking) : Type 0 where
      peeled : Peeled graph st
      reached : Reached k st

    round_is : (k : ℕ) (done rest : List (List ℕ)) (st : Taking) → done ++ rest ≡ graph → Peeled graph st → Reached k st → Passed k (length done) st → After (k + 1) (round (length done) rest st)
    round_is k done [] st e p re pa = record {
      peeled = p;
      reached = λ f h le. pa f (omega (arith, h, ap length e, length-append done [])) h le;
    }
    round_is k done (fs ∷ rest) st e p re pa =
        let here : get_or graph (length done) [] ≡ fs = ap (λ z. get_or z (length done) []) (sym e) ∙ get_or_at done fs rest [] (length done) refl in
        let h : length done < length graph = omega (arith, ap length e, length-append done (fs ∷ rest)) in
        let next : length done + 1 ≡ length (done ++ fs ∷ []) = omega (arith, length-append done (fs ∷ [])) in
        let v : Taking = visit (length done) fs st in
        let p1 : Peeled graph v = subst (λ (z : List ℕ). Peeled graph (visit (length done) z st)) here (visit_is st (length done) p h) in
        let re1 : Reached k v = λ f j le. take_keeps _ st (length done) f p.count h (re f j le) in
        let pa0 : Passed k (length done + 1) v = subst (λ (z : List ℕ). Passed k (length done + 1) (visit (length done) z st)) here (passed_more k (length done) st p h re pa) in
        let pa1 : Passed k (length (done ++ fs ∷ [])) v = subst (λ (z : ℕ). Passed k z v) next pa0 in
        subst (λ (z : ℕ). After (k + 1) (round z rest v)) (sym next)
        (round_is k (done ++ fs ∷ []) rest v (append_assoc done (fs ∷ []) rest ∙ e) p1 re1 pa1)

    next_is : (k : ℕ) (st : Taking) → After k st → After (k + 1) (next_round graph st)
    next_is k st a = by (is_whole st.taken) refl
      where
        by : (b : Bool) → b ≡ is_whole st.taken → After (k + 1) (unless_whole (is_whole st.taken) graph st)
        by true e =
            subst (λ (z : Bool). After (k + 1) (unless_whole z graph st)) e
            (record { peeled = a.peeled; reached = λ f h le. all_at (λ t. t) st.taken f false (sym e) (omega (arith, h, a.peeled.count)) })
        by false e =
            subst (λ (z : Bool). After (k + 1) (unless_whole z graph st)) e
            (round_is k [] graph st refl a.peeled a.reached (λ f j. absurd (omega (arith, j))))

    rounds_are : (n : ℕ) (st : Taking) → Peeled graph st → After n (rounds graph n st)
    rounds_are zero st p = record { peeled = p; reached = λ f h le. absurd (omega (arith, le, rank_some graph bounded f h)) }
    rounds_are (suc n) st p =
        subst (λ (z : ℕ). After z (next_round graph (rounds graph n st))) (let e : n + 1 ≡ suc n = omega arith in e)
        (next_is n (rounds graph n st) (rounds_are n st p))

    finished_is : (st : Taking) → Peeled graph st → After (length graph) (finished graph st)
    finished_is st p = by (is_whole st.taken) refl
      where
        by : (b : Bool) → b ≡ is_whole st.taken → After (length graph) (finish_if (is_whole st.taken) graph st)
        by true e =
            subst (λ (z : Bool). After (length graph) (finish_if z graph st)) e
            (record { peeled = p; reached = λ f h le. all_at (λ t. t) st.taken f false (sym e) (omega (arith, h, p.count)) })
        by false e = subst (λ (z : Bool). After (length graph) (finish_if z graph st)) e (rounds_are (length graph) st p)

pub orders_found : OrdersFound
orders_found graph guess bounded acyclic =
    let a = finished_is graph bounded acyclic (guided graph guess) (guided_peeled graph bounded guess) in
    record {
      below = a.peeled.below;
      once = λ f h. a.peeled.once f h ∙ ap bit (a.reached f h (rank_le graph bounded f));
      behind = a.peeled.behind;
    }

pub whole_acyclic : WholeAcyclic
whole_acyclic graph guess bounded whole f h =
    none_back graph (length graph) [] (guided graph guess).order (λ x k. absurd (true_is_not_false false k refl)) p.behind once f
    (stands f (guided graph guess).order (p.once f h ∙ ap bit (all_at (λ t. t) (guided graph guess).taken f false whole (omega (arith, h, p.count)))))
  where
    p : Peeled graph (guided graph guess)
    p = guided_peeled graph bounded guess

    once : (x : ℕ) → times x (guided graph guess).order ≤ 1
    once x = by (nat_lt x (length graph)) refl
      where
        by : (b : Bool) → b ≡ nat_lt x (length graph) → times x (guided graph guess).order ≤ 1
        by true e = omega (arith, p.once x (ltb-true x (length graph) (sym e)), bit_small (get_or (guided graph guess).taken x false))
        by false e = omega (arith, stands_not (length graph) x (guided graph guess).order p.below (ltb-false x (length graph) (sym e)))
