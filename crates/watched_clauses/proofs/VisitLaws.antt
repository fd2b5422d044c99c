-- What each finding does to the invariant of the watched literals.
use Rattle.std.proofs.Common.{◌≡◌, ℕ, ◌+◌, ◌-◌, ◌*◌, ◌/◌, ◌<◌, ◌≤◌, Bool, true, false, cond, not, ◌&&◌, ◌||◌, List, [], ◌∷◌, ◌++◌, Option, Some, None, zero, suc, ◌⊎◌, inl, inr, refl, sym, ap, ◌∙◌, subst, arith, nat_eq, nat_le, length, get_or, set, take, drop, slice_get, length-set, get_or-set_same, get_or-set_other, get_or-take, drop-cons, take-take, length-take-le}
use Rattle.std.proofs.lemmas.Bool.{cases_Bool, both_ways, eqb-true, eq-eqb, ne_eqb, false_from_ne_true, or_cases, or_left, or_right, and_parts, and_from, cases_eq, cases_lt, le-leb, leb-true}
use Rattle.std.proofs.lemmas.List.{take-set-le, take_all}
use Rattle.std.specs.List.{swap_remove}
use Rattle.prop.specs.Trues.{listed}
use Rattle.resolution_log.proofs.Places.{listed_at, listed_true}
use Rattle.dense_trail.specs.Dense.{negation, is_true, level_of, Quiet}
use Rattle.dense_trail.proofs.CodeLaws.{negation_half, negation_twice, negation_ne, negation_swap, same_half}
use Rattle.dense_trail.proofs.ValueLaws.{listed_append, listed_left, listed_right, listed_last, listed_one, listed_head, truth_same, truth_other, truth_grows, truth_new, true_below}
use Rattle.watched_clauses.specs.declared.looking.Watch.{Watch}
use Rattle.watched_clauses.specs.Judge.{first_of, second_of, pair_of, none_watched, AreWatched}
use Rattle.watched_clauses.specs.Watching.{lists_in, waits_in, Excused, Watched, Alone, Watching, lists_but, waits_but}
use Rattle.watched_clauses.proofs.WatchLaws.{excused_waits, excused_true, excused_cases, excused_by, watched_by, watching_at, watching_by, but_here, but_there, but_more, waits_more, waits_rest, take_next, take_some}

same_default : (xs : List ℕ) (j d e : ℕ) → j < length xs → get_or xs j d ≡ get_or xs j e
same_default [] j d e lt = absurd (omega arith)
same_default (x ∷ xs) zero d e lt = refl
same_default (x ∷ xs) (suc j) d e lt = same_default xs j d e (omega (arith, lt))

-- the last takes the place of one
module _ (xs : List ℕ) (i d : ℕ) (lt : i < length xs) where
  abbrev last : ℕ
  last = get_or xs (length xs - 1) d

  removed_at : (j : ℕ) → j + 1 < length xs → get_or (swap_remove xs i d) j 0 ≡ get_or (set xs i last) j 0
  removed_at j h = get_or-take (length xs - 1) (set xs i last) j 0 (omega (arith, h))

  pub removed_length : length (swap_remove xs i d) ≡ length xs - 1
  removed_length = length-take-le (length xs - 1) (set xs i last) (omega (arith, length-set xs i last))

  pub removed_listed : (k : ℕ) → (get_or xs i 0 ≡ k → ⊥) → listed xs k ≡ true → listed (swap_remove xs i d) k ≡ true
  removed_listed k n h = go (listed_true xs k h)
    where
      stay : (j : ℕ) → j + 1 < length xs → (j ≡ i → ⊥) → get_or xs j 0 ≡ k → listed (swap_remove xs i d) k ≡ true
      stay j le ne e = listed_at (swap_remove xs i d) k j (omega (arith, le, removed_length)) (removed_at j le ∙ get_or-set_other xs i j last 0 ne ∙ e)

      moved : i + 1 < length xs → get_or xs (length xs - 1) d ≡ k → listed (swap_remove xs i d) k ≡ true
      moved le e = listed_at (swap_remove xs i d) k i (omega (arith, le, removed_length)) (removed_at i le ∙ get_or-set_same xs i last 0 lt ∙ e)

      read : (j : ℕ) → j < length xs → get_or xs j d ≡ get_or xs j 0
      read j l = same_default xs j d 0 l

      go : (j : ℕ) × (j < length xs) × (get_or xs j 0 ≡ k) → listed (swap_remove xs i d) k ≡ true
      go (j, l, e) = elim (cases_eq j i) [
        | inl q ↦ absurd (n (subst (λ w. get_or xs w 0 ≡ k) q e))
        | inr q ↦ elim (cases_lt (j + 1) (length xs)) [
          | inl a ↦ stay j a q e
          | inr b ↦ (let at : j ≡ length xs - 1 = omega (arith, b, l) in
              let e2 : get_or xs (length xs - 1) 0 ≡ k = subst (λ w. get_or xs w 0 ≡ k) at e in
              let end : length xs - 1 < length xs = omega (arith, l) in
              let more : i + 1 < length xs = less at q in
              moved more (read (length xs - 1) end ∙ e2))
        ]
      ]
        where
          less : j ≡ length xs - 1 → (j ≡ i → ⊥) → i + 1 < length xs
          less at q = elim (cases_lt (i + 1) (length xs)) [ inl a ↦ a | inr b ↦ absurd (q (omega (arith, at, b, lt, l))) ]

  pub removed_back : (k : ℕ) → listed (swap_remove xs i d) k ≡ true → listed xs k ≡ true
  removed_back k h = go (listed_true (swap_remove xs i d) k h)
    where
      read : (j : ℕ) → j < length xs → get_or xs j d ≡ get_or xs j 0
      read j l = same_default xs j d 0 l

      go : (j : ℕ) × (j < length (swap_remove xs i d)) × (get_or (swap_remove xs i d) j 0 ≡ k) → listed xs k ≡ true
      go (j, l, e) =
          let le : j + 1 < length xs = omega (arith, l, removed_length, lt) in
          let e2 : get_or (set xs i last) j 0 ≡ k = sym (removed_at j le) ∙ e in
          elim (cases_eq j i) [
            | inl q ↦ (let end : length xs - 1 < length xs = omega (arith, le) in
                let e3 : get_or (set xs i last) i 0 ≡ k = subst (λ w. get_or (set xs i last) w 0 ≡ k) q e2 in
                listed_at xs k (length xs - 1) end (sym (read (length xs - 1) end) ∙ sym (get_or-set_same xs i last 0 lt) ∙ e3))
            | inr q ↦ listed_at xs k j (omega (arith, le)) (sym (get_or-set_other xs i j last 0 q) ∙ e2)
          ]

  pub removed_take : take i (swap_remove xs i d) ≡ take i xs
  removed_take = take-take i (length xs - 1) (set xs i last) (omega (arith, lt)) ∙ take-set-le i xs i last (omega arith)

module _ (rows : List (List ℕ)) (watches : List Watch) (lists : List (List ℕ)) (truth : List Bool) (levels : List ℕ) (level : ℕ) (queue rest : List ℕ) (a : ℕ) (list : List ℕ) (i k0 : ℕ) (lt : i < length list) (here : get_or list i 0 ≡ k0) (s : Watching rows watches (lists_but lists a list) (waits_but rest a (take (i + 1) list)) truth levels level queue) where
  pub number_here : k0 < length rows
  number_here = s.numbers a k0 (but_here lists a list k0 ∙ listed_at list k0 i lt here)

  left_on : (k : ℕ) → (k ≡ k0 → ⊥) → listed (take (i + 1) list) k ≡ true → listed (take i list) k ≡ true
  left_on k n h = elim (take_next list i k lt h) [ inl e ↦ absurd (n (sym e ∙ here)) | inr b ↦ b ]

  module _ (d : ℕ) (list2 : List ℕ) (is : list2 ≡ swap_remove list i d) where
    stays : (k : ℕ) → (k ≡ k0 → ⊥) → listed list k ≡ true → listed list2 k ≡ true
    stays k n h = subst (λ w. listed w k ≡ true) (sym is) (removed_listed list i d lt k (λ e. n (sym e ∙ here)) h)

    back : (k : ℕ) → listed list2 k ≡ true → listed list k ≡ true
    back k h = removed_back list i d lt k (subst (λ w. listed w k ≡ true) is h)

    front : take i list2 ≡ take i list
    front = ap (take i) is ∙ removed_take list i d lt

    waits_on : (k : ℕ) → (k ≡ k0 → ⊥) → (x : ℕ) → waits_but rest a (take (i + 1) list) x k ≡ true → waits_but rest a (take i list2) x k ≡ true
    waits_on k n x h = waits_more rest a (take (i + 1) list) (take i list2) x k (λ e l. subst (λ w. listed w k ≡ true) (sym front) (left_on k n l)) h

    pub visit_gone : (first_of watches k0 ≡ a → ⊥) → (second_of watches k0 ≡ a → ⊥) → Watching rows watches (lists_but lists a list2) (waits_but rest a (take i list2)) truth levels level queue
    visit_gone n m = watching_by rows watches (lists_but lists a list) (lists_but lists a list2) (waits_but rest a (take (i + 1) list)) (waits_but rest a (take i list2)) truth levels level queue k0 number_here
        (λ k ne x h. but_more lists a list list2 x k (stays k ne) h)
        (λ k ne x h w. waits_on k ne x w)
        (λ x k h. s.numbers x k (but_more lists a list2 list x k (back k) h))
        (λ r g ne w. record {
          in_first = w.in_first;
          in_second = w.in_second;
          at_first = but_there lists a list2 (first_of watches k0) k0 n ∙ sym (but_there lists a list (first_of watches k0) k0 n) ∙ w.at_first;
          at_second = but_there lists a list2 (second_of watches k0) k0 m ∙ sym (but_there lists a list (second_of watches k0) k0 m) ∙ w.at_second;
          first = excused_by (waits_but rest a (take (i + 1) list)) (waits_but rest a (take i list2)) truth levels k0 (first_of watches k0) (second_of watches k0) (λ h. or_left _ _ (waits_rest rest a (take (i + 1) list) (first_of watches k0) k0 n h)) w.first;
          second = excused_by (waits_but rest a (take (i + 1) list)) (waits_but rest a (take i list2)) truth levels k0 (second_of watches k0) (first_of watches k0) (λ h. or_left _ _ (waits_rest rest a (take (i + 1) list) (second_of watches k0) k0 m h)) w.second;
        })
        s

    module _ (quiet : Quiet truth) (falsified : is_true truth (negation a) ≡ true) (other open' : ℕ) (aw : AreWatched (first_of watches k0) (second_of watches k0) a other) where
      not_true : is_true truth a ≡ true → ⊥
      not_true h = both_ways (is_true truth (negation a)) (quiet a h) falsified

      differ : (r : List ℕ) → slice_get rows k0 ≡ Some r → nat_eq (first_of watches k0) (second_of watches k0) ≡ false
      differ r g = elim (cases_Bool (nat_eq (first_of watches k0) (second_of watches k0))) [
        | inr f ↦ f
        | inl t ↦ (let e = eqb-true (first_of watches k0) (second_of watches k0) t in
            let al = s.one k0 r g t in
            absurd (not_true (elim aw [ inl p ↦ subst (λ w. is_true truth w ≡ true) p.0 al.holds | inr p ↦ subst (λ w. is_true truth w ≡ true) (e ∙ p.0) al.holds ])))
      ]

      other_ne : (r : List ℕ) → slice_get rows k0 ≡ Some r → other ≡ a → ⊥
      other_ne r g e = both_ways (nat_eq (first_of watches k0) (second_of watches k0)) (differ r g) (eq-eqb (first_of watches k0) (second_of watches k0) (elim aw [ inl p ↦ p.0 ∙ sym e ∙ sym p.1 | inr p ↦ p.1 ∙ e ∙ sym p.0 ]))

      -- what is known of the other one
      pub old_in : (r : List ℕ) → slice_get rows k0 ≡ Some r → listed r other ≡ true
      old_in r g = let w = s.two k0 r g (differ r g) in elim aw [ inl p ↦ subst (λ z. listed r z ≡ true) p.1 w.in_second | inr p ↦ subst (λ z. listed r z ≡ true) p.1 w.in_first ]

      old_at : (r : List ℕ) → slice_get rows k0 ≡ Some r → lists_but lists a list other k0 ≡ true
      old_at r g = let w = s.two k0 r g (differ r g) in elim aw [ inl p ↦ subst (λ z. lists_but lists a list z k0 ≡ true) p.1 w.at_second | inr p ↦ subst (λ z. lists_but lists a list z k0 ≡ true) p.1 w.at_first ]

      old_excuse : (r : List ℕ) → slice_get rows k0 ≡ Some r → Excused (waits_but rest a (take (i + 1) list)) truth levels k0 other a
      old_excuse r g =
          let w = s.two k0 r g (differ r g) in
          elim aw [
            | inl p ↦ subst (λ z. Excused (waits_but rest a (take (i + 1) list)) truth levels k0 z a) p.1 (subst (λ z. Excused (waits_but rest a (take (i + 1) list)) truth levels k0 (second_of watches k0) z) p.0 w.second)
            | inr p ↦ subst (λ z. Excused (waits_but rest a (take (i + 1) list)) truth levels k0 z a) p.1 (subst (λ z. Excused (waits_but rest a (take (i + 1) list)) truth levels k0 (first_of watches k0) z) p.0 w.first)
          ]

      other_rest : (r : List ℕ) → slice_get rows k0 ≡ Some r → is_true truth (negation other) ≡ true → listed rest (negation other) ≡ true
      other_rest r g f = elim (excused_cases (waits_but rest a (take (i + 1) list)) truth levels k0 other a (old_excuse r g) f) [ inl w ↦ waits_rest rest a (take (i + 1) list) other k0 (other_ne r g) w | inr t ↦ absurd (not_true t.0) ]

      module _ (watches2 : List Watch) (lists2 : List (List ℕ)) (w_is : watches2 ≡ set watches k0 (record { first = other; second = open'; pair = false })) (l_is : lists2 ≡ set lists open' (get_or lists open' [] ++ (k0 ∷ []))) (in_lists : open' < length lists) (is_open : is_true truth (negation open') ≡ false) (open_ne : open' ≡ other → ⊥) (r0 : List ℕ) (get0 : slice_get rows k0 ≡ Some r0) (has_open : listed r0 open' ≡ true) where
        in_watches : k0 < length watches
        in_watches = omega (arith, number_here, s.paired)

        first_is : first_of watches2 k0 ≡ other
        first_is = ap (λ w. first_of w k0) w_is ∙ ap (λ (w : Watch). w.first) (get_or-set_same watches k0 (record { first = other; second = open'; pair = false }) none_watched in_watches)

        second_is : second_of watches2 k0 ≡ open'
        second_is = ap (λ w. second_of w k0) w_is ∙ ap (λ (w : Watch). w.second) (get_or-set_same watches k0 (record { first = other; second = open'; pair = false }) none_watched in_watches)

        same_pair : (k : ℕ) → (k ≡ k0 → ⊥) → (first_of watches2 k ≡ first_of watches k) × (second_of watches2 k ≡ second_of watches k) × (pair_of watches2 k ≡ pair_of watches k)
        same_pair k n =
            let e = ap (λ w. get_or w k none_watched) w_is ∙ get_or-set_other watches k0 k (record { first = other; second = open'; pair = false }) none_watched n in
            (ap (λ (w : Watch). w.first) e, ap (λ (w : Watch). w.second) e, ap (λ (w : Watch). w.pair) e)

        no_pair : pair_of watches2 k0 ≡ false
        no_pair = ap (λ w. pair_of w k0) w_is ∙ ap (λ (w : Watch). w.pair) (get_or-set_same watches k0 (record { first = other; second = open'; pair = false }) none_watched in_watches)

        open_not_a : open' ≡ a → ⊥
        open_not_a e = both_ways (is_true truth (negation open')) is_open (subst (λ w. is_true truth (negation w) ≡ true) (sym e) falsified)

        grow : (x k : ℕ) → lists_in lists x k ≡ true → lists_in lists2 x k ≡ true
        grow x k h = elim (cases_eq x open') [
          | inl e ↦ subst (λ w. lists_in lists2 w k ≡ true) (sym e) (subst (λ w. listed w k ≡ true) (sym (ap (λ w. get_or w open' []) l_is ∙ get_or-set_same lists open' (get_or lists open' [] ++ (k0 ∷ [])) [] in_lists)) (listed_left (get_or lists open' []) (k0 ∷ []) k (subst (λ w. lists_in lists w k ≡ true) e h)))
          | inr n ↦ subst (λ w. listed w k ≡ true) (sym (ap (λ w. get_or w x []) l_is ∙ get_or-set_other lists open' x (get_or lists open' [] ++ (k0 ∷ [])) [] n)) h
        ]

        shrink : (x k : ℕ) → lists_in lists2 x k ≡ true → (lists_in lists x k ≡ true) ⊎ (k ≡ k0)
        shrink x k h = elim (cases_eq x open') [
          | inl e ↦ (let h2 : listed (get_or lists open' [] ++ (k0 ∷ [])) k ≡ true = subst (λ w. listed w k ≡ true) (ap (λ w. get_or w open' []) l_is ∙ get_or-set_same lists open' (get_or lists open' [] ++ (k0 ∷ [])) [] in_lists) (subst (λ w. lists_in lists2 w k ≡ true) e h) in
              elim (listed_append (get_or lists open' []) (k0 ∷ []) k h2) [ inl b ↦ inl (subst (λ w. lists_in lists w k ≡ true) (sym e) b) | inr b ↦ inr (sym (listed_one k0 k b)) ])
          | inr n ↦ inl (subst (λ w. listed w k ≡ true) (ap (λ w. get_or w x []) l_is ∙ get_or-set_other lists open' x (get_or lists open' [] ++ (k0 ∷ [])) [] n) h)
        ]

        last_in : lists_in lists2 open' k0 ≡ true
        last_in = subst (λ w. listed w k0 ≡ true) (sym (ap (λ w. get_or w open' []) l_is ∙ get_or-set_same lists open' (get_or lists open' [] ++ (k0 ∷ [])) [] in_lists)) (listed_last (get_or lists open' []) k0)

        new_watched : Watched (lists_but lists2 a list2) (waits_but rest a (take i list2)) truth levels r0 k0 other open'
        new_watched = record {
          in_first = old_in r0 get0;
          in_second = has_open;
          at_first = but_there lists2 a list2 other k0 (other_ne r0 get0) ∙ grow other k0 (sym (but_there lists a list other k0 (other_ne r0 get0)) ∙ old_at r0 get0);
          at_second = but_there lists2 a list2 open' k0 open_not_a ∙ last_in;
          first = λ f. excused_waits (waits_but rest a (take i list2)) truth levels k0 other open' (or_left _ _ (other_rest r0 get0 f)) f;
          second = λ f. absurd (both_ways (is_true truth (negation open')) is_open f);
        }

        new_here : (r : List ℕ) → slice_get rows k0 ≡ Some r → Watched (lists_but lists2 a list2) (waits_but rest a (take i list2)) truth levels r k0 (first_of watches2 k0) (second_of watches2 k0)
        new_here r g =
            let e : r0 ≡ r = cc (get0, g) in
            let w1 = subst (λ w. Watched (lists_but lists2 a list2) (waits_but rest a (take i list2)) truth levels w k0 other open') e new_watched in
            let w2 = subst (λ w. Watched (lists_but lists2 a list2) (waits_but rest a (take i list2)) truth levels r k0 w open') (sym first_is) w1 in
            subst (λ w. Watched (lists_but lists2 a list2) (waits_but rest a (take i list2)) truth levels r k0 (first_of watches2 k0) w) (sym second_is) w2

        pub visit_move : Watching rows watches2 (lists_but lists2 a list2) (waits_but rest a (take i list2)) truth levels level queue
        visit_move = watching_at rows watches watches2 (lists_but lists a list) (lists_but lists2 a list2) (waits_but rest a (take (i + 1) list)) (waits_but rest a (take i list2)) truth levels level queue k0
            (ap length w_is ∙ length-set watches k0 (record { first = other; second = open'; pair = false }))
            same_pair
            (λ r g t. absurd (both_ways (pair_of watches2 k0) no_pair t)) (
              subst (λ w. w < length truth) (sym first_is) (s.below k0 r0 other get0 (old_in r0 get0)),
              subst (λ w. w < length truth) (sym second_is) (s.below k0 r0 open' get0 has_open),
            )
            (λ k ne x h. elim (cases_eq x a) [
              | inl e ↦ subst (λ w. lists_but lists2 a list2 w k ≡ true) (sym e) (but_here lists2 a list2 k ∙ stays k ne (sym (but_here lists a list k) ∙ subst (λ w. lists_but lists a list w k ≡ true) e h))
              | inr n ↦ but_there lists2 a list2 x k n ∙ grow x k (sym (but_there lists a list x k n) ∙ h)
            ])
            (λ k ne x h w. waits_on k ne x w)
            (λ x k h. elim (cases_eq x a) [
              | inl e ↦ s.numbers a k (but_here lists a list k ∙ back k (sym (but_here lists2 a list2 k) ∙ subst (λ w. lists_but lists2 a list2 w k ≡ true) e h))
              | inr n ↦ elim (shrink x k (sym (but_there lists2 a list2 x k n) ∙ h)) [ inl b ↦ s.numbers x k (but_there lists a list x k n ∙ b) | inr b ↦ subst (λ w. w < length rows) (sym b) number_here ]
            ])
            (λ r g n. new_here r g)
            (λ r g t. absurd (open_ne (sym second_is ∙ sym (eqb-true (first_of watches2 k0) (second_of watches2 k0) t) ∙ first_is)))
            s

  pub visit_met : Quiet truth → level_of levels a ≡ level → (other : ℕ) → AreWatched (first_of watches k0) (second_of watches k0) a other → is_true truth other ≡ true → Watching rows watches (lists_but lists a list) (waits_but rest a (take i list)) truth levels level queue
  visit_met quiet at other aw h = watching_by rows watches (lists_but lists a list) (lists_but lists a list) (waits_but rest a (take (i + 1) list)) (waits_but rest a (take i list)) truth levels level queue k0 number_here
      (λ k ne x g. g)
      (λ k ne x g w. waits_more rest a (take (i + 1) list) (take i list) x k (λ e l. left_on k ne l) w)
      s.numbers
      (λ r g ne w. record {
        in_first = w.in_first;
        in_second = w.in_second;
        at_first = w.at_first;
        at_second = w.at_second;
        first = elim aw [ inl p ↦ done (first_of watches k0) (second_of watches k0) p.0 p.1 | inr p ↦ away (first_of watches k0) (second_of watches k0) p.1 ];
        second = elim aw [ inl p ↦ away (second_of watches k0) (first_of watches k0) p.1 | inr p ↦ done (second_of watches k0) (first_of watches k0) p.0 p.1 ];
      })
      s
    where
      done : (x y : ℕ) → x ≡ a → y ≡ other → Excused (waits_but rest a (take i list)) truth levels k0 x y
      done x y p q = excused_true (waits_but rest a (take i list)) truth levels k0 x y (subst (λ w. is_true truth w ≡ true) (sym q) h) (let t : level_of levels y ≤ level = s.top y (subst (λ w. is_true truth w ≡ true) (sym q) h) in let e : level_of levels x ≡ level = ap (level_of levels) p ∙ at in omega (arith, t, e))

      away : (x y : ℕ) → x ≡ other → Excused (waits_but rest a (take i list)) truth levels k0 x y
      away x y p f = absurd (both_ways (is_true truth (negation x)) (quiet x (subst (λ w. is_true truth w ≡ true) (sym p) h)) f)
