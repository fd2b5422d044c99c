-- One clause after the other of the list of a literal that became false, at the values of the code.
use Rattle.std.proofs.Common.{◌≡◌, ℕ, ◌+◌, ◌-◌, ◌*◌, ◌/◌, ◌<◌, ◌≤◌, Bool, true, false, cond, not, ◌&&◌, ◌||◌, List, [], ◌∷◌, ◌++◌, Option, Some, None, zero, suc, ◌⊎◌, inl, inr, refl, sym, ap, ◌∙◌, subst, arith, nat_eq, nat_le, length, get_or, set, take, drop, slice_get, length-set, drop-cons, length-append, drop-drop}
use Rattle.std.proofs.lemmas.Bool.{both_ways, eq-eqb, or_cases, or_left, or_right, cases_eq}
use Rattle.std.proofs.lemmas.List.{drop-append-le, get_or_default}
use Rattle.std.specs.List.{swap_remove}
use Rattle.prop.specs.Trues.{listed}
use Rattle.resolution_log.specs.Codes.{AllBelow}
use Rattle.resolution_log.proofs.MarkLaws.{all_below_from}
use Rattle.resolution_log.proofs.Places.{listed_at}
use Rattle.dense_trail.specs.declared.Trail.{Trail}
use Rattle.dense_trail.specs.Dense.{negation, is_true, level_of, Quiet}
use Rattle.dense_trail.proofs.CodeLaws.{half_below, negation_below, negation_twice}
use Rattle.dense_trail.proofs.ValueLaws.{listed_left, listed_last, listed_right, listed_head, truth_same, truth_grows, true_below}
use Rattle.watched_clauses.specs.declared.looking.Watch.{Watch}
use Rattle.watched_clauses.specs.declared.looking.Finding.{Finding}
use Rattle.watched_clauses.specs.declared.looking.Finding.TheVariants.{Elsewhere, Met, Open, Lone, Clash}
use Rattle.watched_clauses.specs.Judge.{first_of, second_of, AreWatched, IsFinding}
use Rattle.watched_clauses.specs.Watching.{lists_in, waits_in, Watching, lists_but, waits_but, Linked}
use Rattle.watched_clauses.specs.Kept.{KeepsWatch, IsLinked, IsFalse}
use Rattle.watched_clauses.specs.Passing.{Passing}
use Rattle.watched_clauses.proofs.WatchLaws.{but_here}
use Rattle.watched_clauses.proofs.VisitLaws.{visit_gone, visit_met, visit_move, number_here, removed_length, old_in}
use Rattle.watched_clauses.proofs.QueueLaws.{visit_start, visit_end, visit_stop, watching_push, level_stays, level_negation, linked_implied}

pub row_some : (rows : List (List ℕ)) (k : ℕ) → k < length rows → (r : List ℕ) × (slice_get rows k ≡ Some r)
row_some [] k lt = absurd (omega arith)
row_some (x ∷ rows) zero lt = (x, refl)
row_some (x ∷ rows) (suc k) lt = row_some rows k (omega (arith, lt))

pub listed_drop : (xs : List ℕ) (n k : ℕ) → listed (drop n xs) k ≡ true → listed xs k ≡ true
listed_drop xs zero k h = h
listed_drop [] (suc n) k h = h
listed_drop (x ∷ xs) (suc n) k h = or_right _ _ (listed_drop xs n k h)

-- the first of the queue
pub queue_is : (codes : List ℕ) (head p : ℕ) → head < length codes → get_or codes head 0 ≡ p → drop head codes ≡ p ∷ drop (head + 1) codes
queue_is codes head p lt h =
    let q : suc head ≡ head + 1 = omega arith in
    drop-cons codes head 0 lt ∙ ap (λ w. w ∷ drop (suc head) codes) h ∙ ap (λ w. p ∷ drop w codes) q

moved : (rows : List (List ℕ)) (watches : List Watch) (lists : List (List ℕ)) (a : ℕ) (list left : List ℕ) (level : ℕ) (truth truth2 : List Bool) (levels levels2 rest rest2 queue queue2 : List ℕ) → truth ≡ truth2 → levels ≡ levels2 → rest ≡ rest2 → queue ≡ queue2 → Watching rows watches (lists_but lists a list) (waits_but rest a left) truth levels level queue → Watching rows watches (lists_but lists a list) (waits_but rest2 a left) truth2 levels2 level queue2
moved rows watches lists a list left level truth truth2 levels levels2 rest rest2 queue queue2 e f g h s =
    let s1 = subst (λ w. Watching rows watches (lists_but lists a list) (waits_but rest a left) w levels level queue) e s in
    let s2 = subst (λ w. Watching rows watches (lists_but lists a list) (waits_but rest a left) truth2 w level queue) f s1 in
    let s3 = subst (λ w. Watching rows watches (lists_but lists a list) (waits_but w a left) truth2 levels2 level queue) g s2 in
    subst (λ w. Watching rows watches (lists_but lists a list) (waits_but rest2 a left) truth2 levels2 level w) h s3

module _ (rows : List (List ℕ)) (watches : List Watch) (lists : List (List ℕ)) (t : Trail) (level head a : ℕ) (lt : head < length t.codes.items) (first : get_or t.codes.items head 0 ≡ negation a) (all : length lists ≡ length t.truth.items) (k : KeepsWatch rows watches lists t level head) where
  first_true : is_true t.truth.items (negation a) ≡ true
  first_true = t.valued (negation a) ∙ listed_at t.codes.items (negation a) head lt first

  pub first_below : a < length lists
  first_below =
      let p = true_below t.truth.items (negation a) first_true in
      let q = negation_below (negation a) (length t.levels.items) (omega (arith, p, t.wide)) in
      omega (arith, q, negation_twice a, t.wide, all)

  pub pass_start : (lists2 : List (List ℕ)) (list : List ℕ) (i : ℕ) → list ≡ get_or lists a [] → lists2 ≡ set lists a [] → i ≡ length list → Passing rows watches lists2 t level head a list i
  pass_start lists2 list i l_is is i_is = record {
    watching = subst (λ w. Watching rows watches (lists_but lists2 a list) (waits_but (drop (head + 1) t.codes.items) a (take w list)) t.truth.items t.levels.items level (drop head t.codes.items)) (sym i_is) (visit_start rows watches lists lists2 t.truth.items t.levels.items level (drop head t.codes.items) (drop (head + 1) t.codes.items) a list l_is is (queue_is t.codes.items head (negation a) lt first) k);
    within = omega (arith, i_is);
    waiting = lt;
    first = first;
    falsified = first_true;
    at = sym (level_negation t.levels.items a) ∙ k.queued (negation a) (subst (λ w. listed w (negation a) ≡ true) (sym (queue_is t.codes.items head (negation a) lt first)) (listed_head (negation a) (drop (head + 1) t.codes.items)));
    lists_all = ap length is ∙ length-set lists a [] ∙ all;
  }

module _ (rows : List (List ℕ)) (watches : List Watch) (lists : List (List ℕ)) (t : Trail) (level head a : ℕ) (list : List ℕ) (i : ℕ) (p : Passing rows watches lists t level head a list i) where
  pub pass_below : a < length lists
  pass_below =
      let b = true_below t.truth.items (negation a) p.falsified in
      let q = negation_below (negation a) (length t.levels.items) (omega (arith, b, t.wide)) in
      omega (arith, q, negation_twice a, t.wide, p.lists_all)

  -- all were looked at
  pub pass_end : (lists2 : List (List ℕ)) → i ≤ 0 → lists2 ≡ set lists a list → KeepsWatch rows watches lists2 t level (head + 1)
  pass_end lists2 none is = visit_end rows watches lists lists2 t.truth.items t.levels.items level (drop head t.codes.items) (drop (head + 1) t.codes.items) a list i none is pass_below (λ z h. subst (λ w. listed w z ≡ true) (sym (queue_is t.codes.items head (negation a) p.waiting p.first)) (or_right _ _ h)) p.watching

  pub pass_stop : (lists2 : List (List ℕ)) → lists2 ≡ set lists a list → KeepsWatch rows watches lists2 t level head
  pass_stop lists2 is = visit_stop rows watches lists lists2 t.truth.items t.levels.items level (drop head t.codes.items) (drop (head + 1) t.codes.items) a list i is pass_below (queue_is t.codes.items head (negation a) p.waiting p.first) p.watching

  module _ (pos : 0 < i) (n : ℕ) (at : n ≡ get_or list (i - 1) n) where
    in_list : i - 1 < length list
    in_list = omega (arith, pos, p.within)

    here : get_or list (i - 1) 0 ≡ n
    here = get_or_default list (i - 1) 0 n in_list ∙ sym at

    s : Watching rows watches (lists_but lists a list) (waits_but (drop (head + 1) t.codes.items) a (take ((i - 1) + 1) list)) t.truth.items t.levels.items level (drop head t.codes.items)
    s = let q : i ≡ (i - 1) + 1 = omega (arith, pos) in subst (λ w. Watching rows watches (lists_but lists a list) (waits_but (drop (head + 1) t.codes.items) a (take w list)) t.truth.items t.levels.items level (drop head t.codes.items)) q p.watching

    pub pass_number : n < length rows
    pass_number = number_here rows watches lists t.truth.items t.levels.items level (drop head t.codes.items) (drop (head + 1) t.codes.items) a list (i - 1) n in_list here s

    pub pass_watch : n < length watches
    pass_watch = omega (arith, pass_number, s.paired)

    pub pass_row : (r : List ℕ) → slice_get rows n ≡ Some r → AllBelow (length t.truth.items) r
    pass_row r g = all_below_from (length t.truth.items) r (λ z h. s.below n r z g h)

    pub pass_met : ((r : List ℕ) → slice_get rows n ≡ Some r → IsFinding t.truth.items a (first_of watches n) (second_of watches n) r Met) → Passing rows watches lists t level head a list (i - 1)
    pass_met f =
        let (r, g) = row_some rows n pass_number in
        let (other, aw, h) = f r g in
        record {
          watching = visit_met rows watches lists t.truth.items t.levels.items level (drop head t.codes.items) (drop (head + 1) t.codes.items) a list (i - 1) n in_list here s t.quiet p.at other aw h;
          within = omega (arith, p.within);
          waiting = p.waiting;
          first = p.first;
          falsified = p.falsified;
          at = p.at;
          lists_all = p.lists_all;
        }

    module _ (d : ℕ) (list2 : List ℕ) (is : list2 ≡ swap_remove list (i - 1) d) where
      still : i - 1 ≤ length list2
      still = omega (arith, ap length is, removed_length list (i - 1) d in_list, pos, p.within)

      pub pass_gone : ((r : List ℕ) → slice_get rows n ≡ Some r → IsFinding t.truth.items a (first_of watches n) (second_of watches n) r Elsewhere) → Passing rows watches lists t level head a list2 (i - 1)
      pass_gone f =
          let (r, g) = row_some rows n pass_number in
          let e = f r g in
          record {
            watching = visit_gone rows watches lists t.truth.items t.levels.items level (drop head t.codes.items) (drop (head + 1) t.codes.items) a list (i - 1) n in_list here s d list2 is e.0 e.1;
            within = still;
            waiting = p.waiting;
            first = p.first;
            falsified = p.falsified;
            at = p.at;
            lists_all = p.lists_all;
          }

      pub pass_move : (other open' : ℕ) (watches2 : List Watch) (lists2 : List (List ℕ)) → ((r : List ℕ) → slice_get rows n ≡ Some r → IsFinding t.truth.items a (first_of watches n) (second_of watches n) r (Open other open')) → watches2 ≡ set watches n (record { first = other; second = open'; pair = false }) → lists2 ≡ set lists open' (get_or lists open' [] ++ (n ∷ [])) → Passing rows watches2 lists2 t level head a list2 (i - 1)
      pass_move other open' watches2 lists2 f w_is l_is =
          let (r, g) = row_some rows n pass_number in
          let (aw, not_true, has_open, ne, is_open) = f r g in
          let b = s.below n r open' g has_open in
          record {
            watching = visit_move rows watches lists t.truth.items t.levels.items level (drop head t.codes.items) (drop (head + 1) t.codes.items) a list (i - 1) n in_list here s d list2 is t.quiet p.falsified other open' aw watches2 lists2 w_is l_is (omega (arith, b, p.lists_all)) is_open ne r g has_open;
            within = still;
            waiting = p.waiting;
            first = p.first;
            falsified = p.falsified;
            at = p.at;
            lists_all = ap length l_is ∙ length-set lists open' (get_or lists open' [] ++ (n ∷ [])) ∙ p.lists_all;
          }

    pub pass_open : (other open' : ℕ) → ((r : List ℕ) → slice_get rows n ≡ Some r → IsFinding t.truth.items a (first_of watches n) (second_of watches n) r (Open other open')) → open' < length lists
    pass_open other open' f =
        let (r, g) = row_some rows n pass_number in
        let (aw, not_true, has_open, ne, is_open) = f r g in
        let b = s.below n r open' g has_open in
        omega (arith, b, p.lists_all)

    pub pass_false : ((r : List ℕ) → slice_get rows n ≡ Some r → IsFinding t.truth.items a (first_of watches n) (second_of watches n) r Clash) → IsFalse rows t n
    pass_false f = let (r, g) = row_some rows n pass_number in (r, g, f r g)

    module _ (other : ℕ) (f : (r : List ℕ) → slice_get rows n ≡ Some r → IsFinding t.truth.items a (first_of watches n) (second_of watches n) r (Lone other)) where
      abbrev row : List ℕ
      row = (row_some rows n pass_number).0

      row_is : slice_get rows n ≡ Some row
      row_is = (row_some rows n pass_number).1

      found : IsFinding t.truth.items a (first_of watches n) (second_of watches n) row (Lone other)
      found = f row row_is

      pub lone_below : other < length t.truth.items
      lone_below = elim found.0 [ inl q ↦ subst (λ w. w < length t.truth.items) q.1 (s.seconds n pass_watch) | inr q ↦ subst (λ w. w < length t.truth.items) q.1 (s.firsts n pass_watch) ]

      pub lone_free : is_true t.truth.items other ≡ false
      lone_free = found.1

      pub lone_free_not : is_true t.truth.items (negation other) ≡ false
      lone_free_not = found.2

      half : other / 2 < length t.levels.items
      half = half_below other (length t.levels.items) (let b = lone_below in omega (arith, b, t.wide))

      module _ (t2 : Trail) (codes_is : t2.codes.items ≡ t.codes.items ++ (other ∷ [])) (truth_is : t2.truth.items ≡ set t.truth.items other true) (levels_is : t2.levels.items ≡ set t.levels.items (other / 2) level) where
        rest_is : drop (head + 1) t2.codes.items ≡ drop (head + 1) t.codes.items ++ (other ∷ [])
        rest_is = ap (drop (head + 1)) codes_is ∙ drop-append-le (head + 1) t.codes.items (other ∷ []) (omega (arith, p.waiting))

        queue2_is : drop head t2.codes.items ≡ drop head t.codes.items ++ (other ∷ [])
        queue2_is = ap (drop head) codes_is ∙ drop-append-le head t.codes.items (other ∷ []) (omega (arith, p.waiting))

        pushed : Watching rows watches (lists_but lists a list) (waits_but (drop (head + 1) t.codes.items ++ (other ∷ [])) a (take ((i - 1) + 1) list)) (set t.truth.items other true) (set t.levels.items (other / 2) level) level (drop head t.codes.items ++ (other ∷ []))
        pushed = watching_push rows watches (lists_but lists a list) (waits_but (drop (head + 1) t.codes.items) a (take ((i - 1) + 1) list)) (waits_but (drop (head + 1) t.codes.items ++ (other ∷ [])) a (take ((i - 1) + 1) list)) t.truth.items t.levels.items level (drop head t.codes.items) other lone_below half lone_free lone_free_not
            (λ z h. t.valued z ∙ listed_drop t.codes.items head z h)
            (λ x k h. elim (or_cases (listed (drop (head + 1) t.codes.items) (negation x)) (nat_eq x a && listed (take ((i - 1) + 1) list) k) h) [ inl b ↦ or_left _ _ (listed_left (drop (head + 1) t.codes.items) (other ∷ []) (negation x) b) | inr b ↦ or_right _ _ b ])
            (λ x k e. or_left _ _ (subst (λ w. listed (drop (head + 1) t.codes.items ++ (other ∷ [])) w ≡ true) (sym e) (listed_last (drop (head + 1) t.codes.items) other)))
            s

        pushed2 : Watching rows watches (lists_but lists a list) (waits_but (drop (head + 1) t2.codes.items) a (take ((i - 1) + 1) list)) t2.truth.items t2.levels.items level (drop head t2.codes.items)
        pushed2 = moved rows watches lists a list (take ((i - 1) + 1) list) level (set t.truth.items other true) t2.truth.items (set t.levels.items (other / 2) level) t2.levels.items (drop (head + 1) t.codes.items ++ (other ∷ [])) (drop (head + 1) t2.codes.items) (drop head t.codes.items ++ (other ∷ [])) (drop head t2.codes.items) (sym truth_is) (sym levels_is) (sym rest_is) (sym queue2_is) pushed

        true2 : (z : ℕ) → is_true t.truth.items z ≡ true → is_true t2.truth.items z ≡ true
        true2 z h = ap (λ w. is_true w z) truth_is ∙ truth_grows t.truth.items other z lone_below h

        at2 : level_of t2.levels.items a ≡ level
        at2 = sym (level_negation t2.levels.items a) ∙ ap (λ w. level_of w (negation a)) levels_is ∙ level_stays t.truth.items t.levels.items other level (negation a) lone_free lone_free_not p.falsified ∙ level_negation t.levels.items a ∙ p.at

        grown : head < length t2.codes.items
        grown = omega (arith, ap length codes_is, length-append t.codes.items (other ∷ []), p.waiting)

        first2 : get_or t2.codes.items head 0 ≡ negation a
        first2 = ap (λ w. get_or w head 0) codes_is ∙ get_left t.codes.items (other ∷ []) head p.waiting ∙ p.first
          where
            get_left : (xs ys : List ℕ) (j : ℕ) → j < length xs → get_or (xs ++ ys) j 0 ≡ get_or xs j 0
            get_left [] ys j lt = absurd (omega arith)
            get_left (x ∷ xs) ys zero lt = refl
            get_left (x ∷ xs) ys (suc j) lt = get_left xs ys j (omega (arith, lt))

        pub pass_lone : Passing rows watches lists t2 level head a list (i - 1)
        pass_lone = record {
          watching = visit_met rows watches lists t2.truth.items t2.levels.items level (drop head t2.codes.items) (drop (head + 1) t2.codes.items) a list (i - 1) n in_list here pushed2 t2.quiet at2 other found.0 (ap (λ w. is_true w other) truth_is ∙ truth_same t.truth.items other true lone_below);
          within = omega (arith, p.within);
          waiting = grown;
          first = first2;
          falsified = true2 (negation a) p.falsified;
          at = at2;
          lists_all = p.lists_all ∙ sym (ap length truth_is ∙ length-set t.truth.items other true);
        }

        pub lone_linked : t2.reasons.items ≡ set t.reasons.items (other / 2) (Some n) → (vars : List ℕ) → IsLinked vars rows level t → IsLinked vars rows level t2
        lone_linked reasons_is vars l =
            let in_it : listed row other ≡ true = old_in rows watches lists t.truth.items t.levels.items level (drop head t.codes.items) (drop (head + 1) t.codes.items) a list (i - 1) n in_list here s 0 (swap_remove list (i - 1) 0) refl t.quiet p.falsified other 0 found.0 row row_is in
            let r = linked_implied vars rows level t.codes.items t.levels.items t.reasons.items t.truth.items l t.valued t.wide t.long s.below other n row lone_below lone_free lone_free_not row_is in_it found.3 in
            let r1 = subst (λ w. Linked vars rows level w (set t.levels.items (other / 2) level) (set t.reasons.items (other / 2) (Some n))) (sym codes_is) r in
            let r2 = subst (λ w. Linked vars rows level t2.codes.items w (set t.reasons.items (other / 2) (Some n))) (sym levels_is) r1 in
            subst (λ w. Linked vars rows level t2.codes.items t2.levels.items w) (sym reasons_is) r2
