-- What is learned joins: the trail goes back, the literal becomes true, and the clause is watched.
use Rattle.std.proofs.Common.{◌≡◌, ℕ, ◌+◌, ◌-◌, ◌*◌, ◌/◌, ◌<◌, ◌≤◌, Bool, true, false, cond, ◌&&◌, ◌||◌, List, [], ◌∷◌, ◌++◌, Option, Some, None, slice_get, zero, suc, ◌⊎◌, inl, inr, refl, sym, ap, ◌∙◌, subst, arith, nat_eq, nat_le, length, get_or, set, take, drop, length-set, length-append, take-append-drop, get_or-set_other, get_or-set_same, drop_at}
use Rattle.std.proofs.lemmas.Bool.{cases_Bool, both_ways, eqb-true, eq-eqb, ne_eqb, false_from_ne_true, and_parts, and_from, cases_lt, cases_eq, le-leb, leb-true}
use Rattle.std.specs.List.Sorted.{IsStrictlyIncreasing}
use Rattle.prop.specs.declared.Lit.{Lit}
use Rattle.prop.specs.Logic.{negated}
use Rattle.prop.specs.Trues.{listed}
use Rattle.prop.specs.Steps.{has, Has, In}
use Rattle.prop.proofs.Sets.{negated_twice}
use Rattle.resolution_log.specs.Codes.{code_of, AllBelow}
use Rattle.resolution_log.specs.declared.Chain.{Chain}
use Rattle.resolution_log.proofs.MarkLaws.{all_below_listed}
use Rattle.clause_learning.specs.declared.Entry.{Entry}
use Rattle.clause_learning.specs.Trail.{set_in, Set, set_at, SetAt, below_of, ToldSet, Learnt, Back, Holds}
use Rattle.clause_learning.specs.Covers.{RisesFrom, last_level}
use Rattle.clause_learning.specs.Solve.{State}
use Rattle.clause_learning.proofs.TrailLaws.{Set-at, SetAt-append, SetAt-left}
use Rattle.clause_learning.proofs.JumpLaws.{below_from, back_start}
use Rattle.clause_learning.proofs.AnalysisLaws.{below_all}
use Rattle.clause_learning.proofs.StateLaws.{state_learn}
use Rattle.clause_learning.proofs.StoreLaws.{rises_push, last_push}
use Rattle.dense_trail.specs.declared.Trail.{Trail}
use Rattle.dense_trail.specs.Dense.{negation, is_true, level_of, lit_at, lits_of, known_of, entries_of}
use Rattle.dense_trail.proofs.CodeLaws.{negation_half, negation_twice, negation_below, half_below, code_at, lit_code, code_negated, lit_negation, lit_inj, same_half}
use Rattle.dense_trail.proofs.ValueLaws.{listed_append, listed_left, true_below, truth_same, truth_other, listed_last}
use Rattle.dense_trail.proofs.EntryLaws.{entries_append, set_listed, at_listed, set_code, at_code, has_code, known_push, known_length}
use Rattle.watched_clauses.specs.declared.looking.Watch.{Watch}
use Rattle.watched_clauses.specs.Judge.{first_of, second_of}
use Rattle.watched_clauses.specs.Watching.{lists_in, waits_in, Excused, Watched, Alone, Watching, Linked}
use Rattle.watched_clauses.specs.Kept.{KeepsWatch, IsLinked}
use Rattle.watched_clauses.proofs.WatchLaws.{excused_cases, excused_true, watched_by}
use Rattle.watched_clauses.proofs.JudgeLaws.{pair_cases, pair_from}
use Rattle.watched_clauses.proofs.QueueLaws.{linked_is, level_negation, watching_push}
use Rattle.conflict_analysis.specs.Walk.{first_entries, AreAbove, IsTaught}
use Rattle.cdcl_solver.specs.Stops.{trail_entries}
use Rattle.cdcl_solver.specs.Learning.{IsHighest, with_watch}
use Rattle.cdcl_solver.proofs.GoneLaws.{watching_back, gone_back, gone_wide, gone_set, gone_at, gone_old, gone_still, gone_stays}
use Rattle.cdcl_solver.proofs.ListLaws.{get_push, get_lt, first_old, second_old, first_new, second_new, pair_old, pair_new, two_all, with_grow, with_first, with_second, with_back}

take_in : (xs : List ℕ) (i k : ℕ) → listed (take i xs) k ≡ true → listed xs k ≡ true
take_in xs i k h = subst (λ w. listed w k ≡ true) (take-append-drop i xs) (listed_left (take i xs) (drop i xs) k h)

-- one more clause is watched
pub watching_add : (rows : List (List ℕ)) (watches : List Watch) (lists : List (List ℕ)) (truth : List Bool) (levels queue : List ℕ) (level : ℕ) (r : List ℕ) (w : Watch) → w.first < length lists → w.second < length lists → length lists ≡ length truth → ((z : ℕ) → listed r z ≡ true → z < length truth) → listed r w.first ≡ true → is_true truth w.first ≡ true → is_true truth (negation w.first) ≡ false → (nat_eq w.first w.second ≡ true → ((z : ℕ) → listed r z ≡ true → z ≡ w.first) × (level_of levels w.first ≡ 0)) → (nat_eq w.first w.second ≡ false → (listed r w.second ≡ true) × (level_of levels w.first ≤ level_of levels w.second)) → (w.pair ≡ true → (z : ℕ) → listed r z ≡ true → (z ≡ w.first) ⊎ (z ≡ w.second)) → Watching rows watches (lists_in lists) (waits_in queue) truth levels level queue → Watching (rows ++ (r ∷ [])) (watches ++ (w ∷ [])) (lists_in (with_watch lists w (length rows))) (waits_in queue) truth levels level queue
watching_add rows watches lists truth levels queue level r w lt lt2 all small in_first holds holds_not one' two' pair' s = record {
  paired = omega (arith, length-append watches (w ∷ []), length-append rows (r ∷ []), s.paired);
  below = λ k x z g h. elim (get_push rows r k x g) [ inl p ↦ s.below k x z p.0 h | inr p ↦ small z (subst (λ c. listed c z ≡ true) p.1 h) ];
  firsts = λ k h. elim (cases_lt k (length watches)) [ inl a ↦ subst (λ z. z < length truth) (sym (first_old watches w k a)) (s.firsts k a) | inr a ↦ subst (λ z. z < length truth) (sym (first_new watches w k (omega (arith, a, h, length-append watches (w ∷ []))))) (omega (arith, lt, all)) ];
  seconds = λ k h. elim (cases_lt k (length watches)) [ inl a ↦ subst (λ z. z < length truth) (sym (second_old watches w k a)) (s.seconds k a) | inr a ↦ subst (λ z. z < length truth) (sym (second_new watches w k (omega (arith, a, h, length-append watches (w ∷ []))))) (omega (arith, lt2, all)) ];
  numbers = λ x k h. elim (with_back lists w (length rows) lt lt2 x k h) [ inl a ↦ (let q = s.numbers x k a in omega (arith, q, length-append rows (r ∷ []))) | inr a ↦ omega (arith, a, length-append rows (r ∷ [])) ];
  pairs = λ k x g. pair_from (watches ++ (w ∷ [])) k x (λ t z h. elim (get_push rows r k x g) [
    | inl p ↦ (let a : k < length watches = omega (arith, p.1, s.paired) in elim (pair_cases watches k x (s.pairs k x p.0) (sym (pair_old watches w k a) ∙ t) z h) [ inl q ↦ inl (q ∙ sym (first_old watches w k a)) | inr q ↦ inr (q ∙ sym (second_old watches w k a)) ])
    | inr p ↦ (let e : k ≡ length watches = omega (arith, p.0, s.paired) in elim (pair' (sym (pair_new watches w k e) ∙ t) z (subst (λ c. listed c z ≡ true) p.1 h)) [ inl q ↦ inl (q ∙ sym (first_new watches w k e)) | inr q ↦ inr (q ∙ sym (second_new watches w k e)) ])
  ]);
  two = λ k x g n. elim (get_push rows r k x g) [
    | inl p ↦ (let a : k < length watches = omega (arith, p.1, s.paired) in
        let n2 = subst (λ z. nat_eq (first_of watches k) z ≡ false) (second_old watches w k a) (subst (λ z. nat_eq z (second_of (watches ++ (w ∷ [])) k) ≡ false) (first_old watches w k a) n) in
        let o = watched_by (lists_in lists) (lists_in (with_watch lists w (length rows))) (waits_in queue) (waits_in queue) truth levels x k (first_of watches k) (second_of watches k) (λ z h. with_grow lists w (length rows) lt lt2 z k h) (λ z h v. v) (s.two k x p.0 n2) in
        subst (λ z. Watched (lists_in (with_watch lists w (length rows))) (waits_in queue) truth levels x k (first_of (watches ++ (w ∷ [])) k) z) (sym (second_old watches w k a)) (subst (λ z. Watched (lists_in (with_watch lists w (length rows))) (waits_in queue) truth levels x k z (second_of watches k)) (sym (first_old watches w k a)) o))
    | inr p ↦ (let e : k ≡ length watches = omega (arith, p.0, s.paired) in
        let n2 : nat_eq w.first w.second ≡ false = subst (λ z. nat_eq w.first z ≡ false) (second_new watches w k e) (subst (λ z. nat_eq z (second_of (watches ++ (w ∷ [])) k) ≡ false) (first_new watches w k e) n) in
        let o = subst (λ z. Watched (lists_in (with_watch lists w (length rows))) (waits_in queue) truth levels z k w.first w.second) (sym p.1) (subst (λ z. Watched (lists_in (with_watch lists w (length rows))) (waits_in queue) truth levels r z w.first w.second) (sym p.0) (made n2)) in
        subst (λ z. Watched (lists_in (with_watch lists w (length rows))) (waits_in queue) truth levels x k (first_of (watches ++ (w ∷ [])) k) z) (sym (second_new watches w k e)) (subst (λ z. Watched (lists_in (with_watch lists w (length rows))) (waits_in queue) truth levels x k z w.second) (sym (first_new watches w k e)) o))
  ];
  one = λ k x g n. elim (get_push rows r k x g) [
    | inl p ↦ (let a : k < length watches = omega (arith, p.1, s.paired) in
        let n2 = subst (λ z. nat_eq (first_of watches k) z ≡ true) (second_old watches w k a) (subst (λ z. nat_eq z (second_of (watches ++ (w ∷ [])) k) ≡ true) (first_old watches w k a) n) in
        subst (Alone truth levels x) (sym (first_old watches w k a)) (s.one k x p.0 n2))
    | inr p ↦ (let e : k ≡ length watches = omega (arith, p.0, s.paired) in
        let n2 : nat_eq w.first w.second ≡ true = subst (λ z. nat_eq w.first z ≡ true) (second_new watches w k e) (subst (λ z. nat_eq z (second_of (watches ++ (w ∷ [])) k) ≡ true) (first_new watches w k e) n) in
        let o = one' n2 in
        subst (Alone truth levels x) (sym (first_new watches w k e)) (record { only = λ z h. o.0 z (subst (λ c. listed c z ≡ true) p.1 h); holds = holds; low = o.1 }))
  ];
  top = s.top;
  queued = s.queued;
}
  where
    made : nat_eq w.first w.second ≡ false → Watched (lists_in (with_watch lists w (length rows))) (waits_in queue) truth levels r (length rows) w.first w.second
    made n = record {
      in_first = in_first;
      in_second = (two' n).0;
      at_first = with_first lists w (length rows) lt lt2 n;
      at_second = with_second lists w (length rows) lt lt2 n;
      first = λ f. absurd (both_ways (is_true truth (negation w.first)) holds_not f);
      second = excused_true (waits_in queue) truth levels (length rows) w.second w.first holds (two' n).1;
    }

module _ (vars : List ℕ) (rows : List (List ℕ)) (t : Trail) (level : ℕ) (l : IsLinked vars rows level t) (k : ℕ) (clause : List ℕ) (pairs : List (ℕ × ℕ)) (uip left : ℕ) (taught : IsTaught vars rows t level k clause pairs (Some uip) left) (above : AreAbove t level left) (fits : AllBelow (2 * length vars) clause) (in_clause : listed clause uip ≡ true) where
  abbrev before : List Entry
  before = first_entries vars t left

  abbrev u : Lit
  u = lit_at vars uip

  as_vars : length t.truth.items ≡ 2 * length vars
  as_vars = omega (arith, t.wide, l.wide)

  deep : 0 < level
  deep = taught.told.uip.0

  learnt : Learnt level before taught.whole u
  learnt = taught.told.uip.1

  in_small : (z : ℕ) → listed clause z ≡ true → z < 2 * length vars
  in_small z h = all_below_listed (2 * length vars) clause fits z h

  pub uip_small : uip < 2 * length vars
  uip_small = in_small uip in_clause

  whole_has : (z : ℕ) → listed clause z ≡ true → Has taught.whole (lit_at vars z)
  whole_has z h = taught.same.from (lit_at vars z) (has_code vars clause (lit_at vars z) l.up fits ∙ ap (listed clause) (code_at vars z l.up (in_small z h)) ∙ h)

  small_codes : (xs : List ℕ) → ((j : ℕ) → listed xs j ≡ true → listed t.codes.items j ≡ true) → (j : ℕ) → listed xs j ≡ true → j < 2 * length vars
  small_codes xs f j h = let lt = true_below t.truth.items j (t.valued j ∙ f j h) in omega (arith, lt, as_vars)

  before_at : (m : Lit) (n : ℕ) → set_at n before m ≡ (listed (take left t.codes.items) (code_of vars m) && nat_le (level_of t.levels.items (code_of vars m)) n)
  before_at m n = at_listed vars t.levels.items t.reasons.items (take left t.codes.items) m n l.up (small_codes (take left t.codes.items) (λ j h. take_in t.codes.items left j h))

  before_set : (m : Lit) → set_in before m ≡ listed (take left t.codes.items) (code_of vars m)
  before_set m = set_listed vars t.levels.items t.reasons.items (take left t.codes.items) m l.up (small_codes (take left t.codes.items) (λ j h. take_in t.codes.items left j h))

  -- the others are false before, at lower levels
  other_low : (z : ℕ) → listed clause z ≡ true → (z ≡ uip → ⊥) → (listed (take left t.codes.items) (negation z) ≡ true) × (level_of t.levels.items z ≤ level - 1)
  other_low z h n =
      let lt = in_small z h in
      let s = learnt.below (lit_at vars z) (whole_has z h) (λ e. n (lit_inj vars z uip l.up lt uip_small e)) in
      let c_is : code_of vars (negated (lit_at vars z)) ≡ negation z = code_negated vars (lit_at vars z) ∙ ap negation (code_at vars z l.up lt) in
      let p = and_parts (listed (take left t.codes.items) (code_of vars (negated (lit_at vars z)))) (nat_le (level_of t.levels.items (code_of vars (negated (lit_at vars z)))) (level - 1)) (sym (before_at (negated (lit_at vars z)) (level - 1)) ∙ s) in
      let le = leb-true (level_of t.levels.items (code_of vars (negated (lit_at vars z)))) (level - 1) p.1 in
      (subst (λ c. listed (take left t.codes.items) c ≡ true) c_is p.0, omega (arith, le, ap (level_of t.levels.items) c_is, level_negation t.levels.items z))

  module _ (first second low : ℕ) (h : IsHighest t.levels.items clause uip first second low) where
    pub low_less : low < level
    low_less = elim h.there [ inl a ↦ omega (arith, a.1, deep) | inr a ↦ (let p = other_low second a.1 a.0 in omega (arith, p.1, a.2, deep)) ]

    pub second_small : second < 2 * length vars
    second_small = let sm = uip_small in elim h.there [ inl a ↦ omega (arith, a.0, sm) | inr a ↦ in_small second a.1 ]

    at_low : below_of low before u (lits_of vars clause) ≡ true
    at_low = below_from low before u (lits_of vars clause) (λ m hm n. (let z = code_of vars m in
        let hz : listed clause z ≡ true = sym (has_code vars clause m l.up fits) ∙ hm in
        let m_is : lit_at vars z ≡ m = lit_code vars m l.up (in_small z hz) in
        let ne : z ≡ uip → ⊥ = λ e. n (sym m_is ∙ ap (lit_at vars) e) in
        let p = other_low z hz ne in
        let c_is : code_of vars (negated m) ≡ negation z = code_negated vars m in
        let le = h.top z hz ne in
        before_at (negated m) low ∙ and_from _ _ (subst (λ c. listed (take left t.codes.items) c ≡ true) (sym c_is) p.0) (le-leb (level_of t.levels.items (code_of vars (negated m))) low (omega (arith, le, ap (level_of t.levels.items) c_is, level_negation t.levels.items z)))))

    least : (n : ℕ) → n < low → below_of n before u (lits_of vars clause) ≡ false
    least n lt = elim h.there [
      | inl a ↦ absurd (omega (arith, a.1, lt))
      | inr a ↦ false_from_ne_true (below_of n before u (lits_of vars clause)) (λ b. (let sm = in_small second a.1 in
          let hs : Has (lits_of vars clause) (lit_at vars second) = has_code vars clause (lit_at vars second) l.up fits ∙ ap (listed clause) (code_at vars second l.up sm) ∙ a.1 in
          let s = below_all n before u (lits_of vars clause) b (lit_at vars second) hs (λ e. a.0 (lit_inj vars second uip l.up sm uip_small e)) in
          let c_is : code_of vars (negated (lit_at vars second)) ≡ negation second = code_negated vars (lit_at vars second) ∙ ap negation (code_at vars second l.up sm) in
          let p = and_parts (listed (take left t.codes.items) (code_of vars (negated (lit_at vars second)))) (nat_le (level_of t.levels.items (code_of vars (negated (lit_at vars second)))) n) (sym (before_at (negated (lit_at vars second)) n) ∙ s) in
          let le = leb-true (level_of t.levels.items (code_of vars (negated (lit_at vars second)))) n p.1 in
          absurd (omega (arith, le, ap (level_of t.levels.items) c_is, level_negation t.levels.items second, a.2, lt))))
    ]

    module _ (t2 : Trail) (back : (vars : List ℕ) (known : List (List Lit)) → Back known low (trail_entries vars t) (trail_entries vars t) → Back known low (trail_entries vars t) (trail_entries vars t2) × ((m : Lit) → Set (trail_entries vars t2) m → SetAt low (trail_entries vars t2) m)) (rises : (vars : List ℕ) → RisesFrom 0 (trail_entries vars t) → low ≤ last_level 0 (trail_entries vars t) → RisesFrom 0 (trail_entries vars t2) × (last_level 0 (trail_entries vars t2) ≡ low)) (levels_is : t2.levels.items ≡ t.levels.items) where
      abbrev known : List (List Lit)
      known = known_of vars rows

      b : Back known low (trail_entries vars t) (trail_entries vars t2) × ((m : Lit) → Set (trail_entries vars t2) m → SetAt low (trail_entries vars t2) m)
      b = gone_back vars rows t level l low low_less t2 back rises levels_is

      wide2 : length t2.truth.items ≡ 2 * length vars
      wide2 = gone_wide vars rows t level l low low_less t2 back rises levels_is

      now_set : (m : Lit) → set_in (trail_entries vars t2) m ≡ is_true t2.truth.items (code_of vars m)
      now_set m = gone_set vars rows t level l low low_less t2 back rises levels_is m

      now_at : (m : Lit) (n : ℕ) → set_at n (trail_entries vars t2) m ≡ (is_true t2.truth.items (code_of vars m) && nat_le (level_of t.levels.items (code_of vars m)) n)
      now_at m n = gone_at vars rows t level l low low_less t2 back rises levels_is m n

      old_at : (m : Lit) (n : ℕ) → set_at n (trail_entries vars t) m ≡ (is_true t.truth.items (code_of vars m) && nat_le (level_of t.levels.items (code_of vars m)) n)
      old_at m n = gone_old vars rows t level l low low_less t2 back rises levels_is m n

      pub still : (z : ℕ) → is_true t2.truth.items z ≡ true → (is_true t.truth.items z ≡ true) × (level_of t.levels.items z ≤ low)
      still z h = gone_still vars rows t level l low low_less t2 back rises levels_is z h

      pub stays : (z : ℕ) → is_true t.truth.items z ≡ true → level_of t.levels.items z ≤ low → is_true t2.truth.items z ≡ true
      stays z h le = gone_stays vars rows t level l low low_less t2 back rises levels_is z h le

      -- what is still true stands before
      still_before : (z : ℕ) → is_true t2.truth.items z ≡ true → listed (take left t.codes.items) z ≡ true
      still_before z h =
          let p = still z h in
          let all' : listed (take left t.codes.items ++ drop left t.codes.items) z ≡ true = subst (λ w. listed w z ≡ true) (sym (take-append-drop left t.codes.items)) (sym (t.valued z) ∙ p.0) in
          elim (listed_append (take left t.codes.items) (drop left t.codes.items) z all') [ inl a ↦ a | inr d ↦ (let q = above z d in let ll = low_less in absurd (omega (arith, q, p.1, ll))) ]

      near : Back known low before before → Back known low before (trail_entries vars t2) × ((m : Lit) → Set (trail_entries vars t2) m → SetAt low (trail_entries vars t2) m)
      near start = (
        record {
          ok = b.0.ok;
          low_closed = b.0.low_closed;
          keeps = λ n m le s. (let p = and_parts (listed (take left t.codes.items) (code_of vars m)) (nat_le (level_of t.levels.items (code_of vars m)) n) (sym (before_at m n) ∙ s) in
              b.0.keeps n m le (old_at m n ∙ and_from _ _ (t.valued (code_of vars m) ∙ take_in t.codes.items left (code_of vars m) p.0) p.1));
          fewer = λ m s. before_set m ∙ still_before (code_of vars m) (sym (now_set m) ∙ s);
          fewer_at = λ n m s. (let p = and_parts (is_true t2.truth.items (code_of vars m)) (nat_le (level_of t.levels.items (code_of vars m)) n) (sym (now_at m n) ∙ s) in
              before_at m n ∙ and_from _ _ (still_before (code_of vars m) p.0) p.1);
        },
        b.1,
      )

      pub uip_below : uip < length t2.truth.items
      uip_below = let q = uip_small in omega (arith, q, wide2)

      pub uip_free : is_true t2.truth.items uip ≡ false
      uip_free = false_from_ne_true (is_true t2.truth.items uip) (λ h. learnt.free (before_set u ∙ ap (listed (take left t.codes.items)) (code_at vars uip l.up uip_small) ∙ still_before uip h))

      pub uip_free_not : is_true t2.truth.items (negation uip) ≡ false
      uip_free_not = false_from_ne_true (is_true t2.truth.items (negation uip)) (λ h. learnt.free_not (before_set (negated u) ∙ ap (listed (take left t.codes.items)) (code_negated vars u ∙ ap negation (code_at vars uip l.up uip_small)) ∙ still_before (negation uip) h))

      low_last : low ≤ last_level 0 (trail_entries vars t)
      low_last = let q = low_less in omega (arith, q, l.last)

      pub back_rises : RisesFrom 0 (trail_entries vars t2) × (last_level 0 (trail_entries vars t2) ≡ low)
      back_rises = rises vars l.rises low_last

      module _ (t3 : Trail) (number : ℕ) (n_is : number ≡ length rows) (codes_is : t3.codes.items ≡ t2.codes.items ++ (uip ∷ [])) (truth_is : t3.truth.items ≡ set t2.truth.items uip true) (levels3_is : t3.levels.items ≡ set t2.levels.items (uip / 2) low) (reasons_is : t3.reasons.items ≡ set t2.reasons.items (uip / 2) (Some number)) where
        abbrev e : Entry
        e = record { lit = u; level = low; reason = Some number }

        half : uip / 2 < length t2.levels.items
        half = half_below uip (length t2.levels.items) (let q = uip_below in omega (arith, q, t2.wide))

        entries3 : trail_entries vars t3 ≡ trail_entries vars t2 ++ (e ∷ [])
        entries3 =
            ap (λ w. entries_of vars w t3.reasons.items t3.codes.items) levels3_is
            ∙ ap (λ w. entries_of vars (set t2.levels.items (uip / 2) low) w t3.codes.items) reasons_is
            ∙ ap (entries_of vars (set t2.levels.items (uip / 2) low) (set t2.reasons.items (uip / 2) (Some number))) codes_is
            ∙ linked_is vars t2.levels.items t2.codes.items t2.reasons.items t2.truth.items uip low (Some number) t2.valued half t2.long uip_free uip_free_not

        known3 : known_of vars (rows ++ (clause ∷ [])) ≡ known ++ (lits_of vars clause ∷ [])
        known3 = known_push vars rows clause

        pub new_state : (clauses : List (List Lit)) (log : List Chain) (ch : Chain) (log2 : List Chain) → ch.first ≡ k → ch.pairs ≡ pairs → log2 ≡ log ++ (ch ∷ []) → State clauses known level (trail_entries vars t) log → State clauses (known_of vars (rows ++ (clause ∷ []))) low (trail_entries vars t3) log2
        new_state clauses log ch log2 first_is pairs_is log_is st =
            let told : ToldSet known level before ch.first (lits_of vars clause) ch.pairs (Some u) = subst (λ w. ToldSet known level before w (lits_of vars clause) ch.pairs (Some u)) (sym first_is) (subst (λ w. ToldSet known level before k (lits_of vars clause) w (Some u)) (sym pairs_is) taught) in
            let r = state_learn clauses known level (trail_entries vars t) log st before (trail_entries vars t2) (lits_of vars clause) ch u low e told low_less at_low least near refl refl (ap Some (n_is ∙ sym (known_length vars rows))) in
            let r1 = subst (λ w. State clauses w low (trail_entries vars t2 ++ (e ∷ [])) (log ++ (ch ∷ []))) (sym known3) r in
            let r2 = subst (λ w. State clauses (known_of vars (rows ++ (clause ∷ []))) low w (log ++ (ch ∷ []))) (sym entries3) r1 in
            subst (State clauses (known_of vars (rows ++ (clause ∷ []))) low (trail_entries vars t3)) (sym log_is) r2

        pub new_linked : Holds (known_of vars (rows ++ (clause ∷ []))) low (trail_entries vars t3) → IsLinked vars (rows ++ (clause ∷ [])) low t3
        new_linked h = record {
          up = l.up;
          wide = ap length levels3_is ∙ length-set t2.levels.items (uip / 2) low ∙ ap length levels_is ∙ l.wide;
          holds = h;
          rises = subst (RisesFrom 0) (sym entries3) (rises_push 0 (trail_entries vars t2) e (omega (arith, back_rises.1)) (omega (arith, back_rises.1)) back_rises.0);
          last = ap (last_level 0) entries3 ∙ last_push 0 (trail_entries vars t2) e;
        }

        module _ (watches : List Watch) (lists : List (List ℕ)) (head : ℕ) (kept : KeepsWatch rows watches lists t level head) (all' : length lists ≡ length t.truth.items) where
          level3 : (z : ℕ) → (z / 2 ≡ uip / 2 → ⊥) → level_of t3.levels.items z ≡ level_of t.levels.items z
          level3 z n = ap (λ w. level_of w z) levels3_is ∙ get_or-set_other t2.levels.items (uip / 2) (z / 2) low 0 n ∙ ap (λ w. level_of w z) levels_is

          uip_level : level_of t3.levels.items uip ≡ low
          uip_level = ap (λ w. level_of w uip) levels3_is ∙ get_or-set_same t2.levels.items (uip / 2) low 0 half

          uip_true : is_true t3.truth.items uip ≡ true
          uip_true = ap (λ w. is_true w uip) truth_is ∙ truth_same t2.truth.items uip true uip_below

          uip_not : is_true t3.truth.items (negation uip) ≡ false
          uip_not = t3.quiet uip uip_true

          gone : Watching rows watches (lists_in lists) (waits_in []) t2.truth.items t2.levels.items low []
          gone = subst (λ w. Watching rows watches (lists_in lists) (waits_in []) t2.truth.items w low []) (sym levels_is) (watching_back rows watches (lists_in lists) t.truth.items t2.truth.items t.levels.items (drop head t.codes.items) level low low_less (omega (arith, as_vars, wide2)) still stays kept)

          pushed : Watching rows watches (lists_in lists) (waits_in (uip ∷ [])) t3.truth.items t3.levels.items low (uip ∷ [])
          pushed =
              let made = watching_push rows watches (lists_in lists) (waits_in []) (waits_in (uip ∷ [])) t2.truth.items t2.levels.items low [] uip uip_below half uip_free uip_free_not (λ z h. absurd (both_ways false refl h)) (λ x k h. absurd (both_ways false refl h)) (λ x k q. subst (λ w. listed (uip ∷ []) w ≡ true) (sym q) (listed_last [] uip)) gone in
              let s1 = subst (λ w. Watching rows watches (lists_in lists) (waits_in (uip ∷ [])) w (set t2.levels.items (uip / 2) low) low (uip ∷ [])) (sym truth_is) made in
              subst (λ w. Watching rows watches (lists_in lists) (waits_in (uip ∷ [])) t3.truth.items w low (uip ∷ [])) (sym levels3_is) s1

          wide3 : length t3.truth.items ≡ 2 * length vars
          wide3 = ap length truth_is ∙ length-set t2.truth.items uip true ∙ wide2

          pub new_kept : (w : Watch) (head2 : ℕ) → w.first ≡ uip → w.second ≡ second → w.pair ≡ nat_eq (length clause) 2 → head2 ≡ length t2.codes.items → KeepsWatch (rows ++ (clause ∷ [])) (watches ++ (w ∷ [])) (with_watch lists w number) t3 low head2
          new_kept w head2 f_is s_is p_is h_is =
              let queue : drop head2 t3.codes.items ≡ uip ∷ [] = ap (drop head2) codes_is ∙ drop_at t2.codes.items (uip ∷ []) head2 (sym h_is) in
              let sm = uip_small in
              let ss = second_small in
              let added = watching_add rows watches lists t3.truth.items t3.levels.items (uip ∷ []) low clause w (omega (arith, f_is, sm, all', as_vars)) (omega (arith, s_is, ss, all', as_vars)) (omega (arith, all', as_vars, wide3)) (λ z hz. (let q = in_small z hz in omega (arith, q, wide3)))
              (subst (λ z. listed clause z ≡ true) (sym f_is) in_clause)
              (subst (λ z. is_true t3.truth.items z ≡ true) (sym f_is) uip_true)
              (subst (λ z. is_true t3.truth.items (negation z) ≡ false) (sym f_is) uip_not)
              (λ q. elim h.there [
                | inl a ↦ ((λ z hz. a.2 z hz ∙ sym f_is), ap (level_of t3.levels.items) f_is ∙ uip_level ∙ a.1)
                | inr a ↦ absurd (a.0 (sym s_is ∙ sym (eqb-true w.first w.second q) ∙ f_is))
              ])
              (λ q. elim h.there [
                | inl a ↦ absurd (both_ways (nat_eq w.first w.second) q (eq-eqb w.first w.second (f_is ∙ sym a.0 ∙ sym s_is)))
                | inr a ↦ (
                  subst (λ z. listed clause z ≡ true) (sym s_is) a.1,
                  (let p = other_low second a.1 a.0 in
                      let apart : second / 2 ≡ uip / 2 → ⊥ = λ eq. not_same second p.0 a.1 a.0 eq in
                      omega (arith, ap (level_of t3.levels.items) f_is, uip_level, ap (level_of t3.levels.items) s_is, level3 second apart, a.2)),
                )
              ])
              (λ pt z hz. elim h.there [
                | inl a ↦ inl (a.2 z hz ∙ sym f_is)
                | inr a ↦ elim (two_all clause uip second (eqb-true (length clause) 2 (sym p_is ∙ pt)) in_clause a.1 (λ e. a.0 (sym e)) z hz) [ inl q ↦ inl (q ∙ sym f_is) | inr q ↦ inr (q ∙ sym s_is) ]
              ])
              pushed in
              let s1 = subst (λ n. Watching (rows ++ (clause ∷ [])) (watches ++ (w ∷ [])) (lists_in (with_watch lists w n)) (waits_in (uip ∷ [])) t3.truth.items t3.levels.items low (uip ∷ [])) (sym n_is) added in
              subst (λ q. Watching (rows ++ (clause ∷ [])) (watches ++ (w ∷ [])) (lists_in (with_watch lists w number)) (waits_in q) t3.truth.items t3.levels.items low q) (sym queue) s1
            where
              not_same : (z : ℕ) → listed (take left t.codes.items) (negation z) ≡ true → listed clause z ≡ true → (z ≡ uip → ⊥) → z / 2 ≡ uip / 2 → ⊥
              not_same z in_before hz ne eq = elim (same_half z uip eq) [
                | inl a ↦ ne a
                | inr a ↦ learnt.free (before_set u ∙ ap (listed (take left t.codes.items)) (code_at vars uip l.up uip_small) ∙ subst (λ c. listed (take left t.codes.items) c ≡ true) (ap negation a ∙ negation_twice uip) in_before)
              ]
