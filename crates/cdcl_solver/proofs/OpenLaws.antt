-- The state before the first decision.
use Rattle.std.proofs.Common.{◌≡◌, ℕ, ◌+◌, ◌-◌, ◌*◌, ◌/◌, ◌<◌, ◌≤◌, Bool, true, false, cond, ◌&&◌, List, [], ◌∷◌, ◌++◌, Option, Some, None, slice_get, zero, suc, ◌⊎◌, inl, inr, refl, sym, ap, ◌∙◌, subst, arith, nat_eq, nat_le, length, get_or, set, take, drop, length-set, length-append, append-nil}
use Rattle.std.proofs.lemmas.Bool.{cases_Bool, both_ways, eqb-true, eq-eqb, ne_eqb, false_from_ne_true, and_parts, and_from, cases_lt, cases_eq, or_left, le-leb, leb-true}
use Rattle.std.proofs.lemmas.List.{get_or_default}
use Rattle.std.specs.List.Sorted.{IsStrictlyIncreasing}
use Rattle.prop.specs.declared.Lit.{Lit}
use Rattle.prop.specs.Logic.{negated}
use Rattle.prop.specs.Trues.{listed}
use Rattle.prop.specs.Steps.{has, Has, In}
use Rattle.prop.proofs.Sets.{In-get, Has-head}
use Rattle.resolution_log.specs.Codes.{code_of, codes_of, all_codes, Covers, CoversAll, AllBelow, RowsBelow, AreRows}
use Rattle.resolution_log.specs.declared.Chain.{Chain}
use Rattle.resolution_log.specs.Logs.{New, New.none, Lean, AllSame}
use Rattle.resolution_log.proofs.Places.{code_below, coded_rows}
use Rattle.resolution_log.proofs.MarkLaws.{all_below_listed, all_below_from}
use Rattle.resolution_log.proofs.RowLaws.{rows_length, rows_below, row_below}
use Rattle.clause_learning.specs.declared.Entry.{Entry}
use Rattle.clause_learning.specs.Trail.{set_in, Set, SetAt, set_at, TrailOk.none_set, Holds, Going, ToldSet}
use Rattle.clause_learning.specs.Covers.{RisesFrom, last_level}
use Rattle.clause_learning.specs.Solve.{State, IsRefuted}
use Rattle.clause_learning.proofs.JumpLaws.{going_start}
use Rattle.clause_learning.proofs.StateLaws.{all_refl, state_lean}
use Rattle.dense_trail.specs.declared.Trail.{Trail}
use Rattle.dense_trail.specs.Dense.{negation, is_true, level_of, lit_at, lits_of, known_of, entries_of}
use Rattle.dense_trail.proofs.CodeLaws.{negation_twice, negation_below, half_below, code_at, lit_code, code_negated}
use Rattle.dense_trail.proofs.ValueLaws.{true_below, truth_same, truth_grows, listed_last}
use Rattle.dense_trail.proofs.EntryLaws.{at_code, set_code, has_code, known_get, known_back}
use Rattle.watched_clauses.specs.declared.looking.Watch.{Watch}
use Rattle.watched_clauses.specs.Judge.{first_of, second_of}
use Rattle.watched_clauses.specs.Watching.{lists_in, waits_in, Excused, Watched, Alone, Watching, Linked}
use Rattle.watched_clauses.specs.Kept.{KeepsWatch, IsLinked, IsFalse}
use Rattle.watched_clauses.proofs.WatchLaws.{excused_waits}
use Rattle.watched_clauses.proofs.PassLaws.{row_some}
use Rattle.watched_clauses.proofs.JudgeLaws.{pair_cases, pair_from}
use Rattle.watched_clauses.proofs.QueueLaws.{linked_implied, linked_set, row_has}
use Rattle.conflict_analysis.specs.Walk.{RowsFit, IsTaught, first_entries}
use Rattle.cdcl_solver.specs.Stops.{trail_entries}
use Rattle.cdcl_solver.specs.Opening.{Built, AreUnits, UnitsMet}
use Rattle.cdcl_solver.specs.Learning.{with_watch}
use Rattle.cdcl_solver.specs.Search.{Rests}
use Rattle.cdcl_solver.proofs.ListLaws.{first_old, second_old, first_new, second_new, pair_old, pair_new, two_all, with_length, with_grow, with_first, with_second, with_back}

pub built_start : (rows : List (List ℕ)) (watches : List Watch) (lists : List (List ℕ)) (n : ℕ) → watches ≡ [] → length lists ≡ n → ((k : ℕ) → get_or lists k [] ≡ []) → Built rows watches lists n 0
built_start rows watches lists n nil all empty = record {
  paired = ap length nil;
  all = all;
  firsts = λ k lt. absurd (omega arith);
  seconds = λ k lt. absurd (omega arith);
  numbers = λ x k h. absurd (both_ways false refl (subst (λ w. listed w k ≡ true) (empty x) h));
  in_first = λ k r lt g. absurd (omega arith);
  in_second = λ k r lt g. absurd (omega arith);
  at_first = λ k lt n. absurd (omega arith);
  at_second = λ k lt n. absurd (omega arith);
  pairs = λ k r lt g. absurd (omega arith);
  one = λ k r z lt g n h. absurd (omega arith);
}

-- at the next clause or before it
below_next : (k m : ℕ) → k < m + 1 → (k < m) ⊎ (k ≡ m)
below_next k m lt = elim (cases_lt k m) [ inl a ↦ inl a | inr b ↦ inr (omega (arith, lt, b)) ]

module _ (rows : List (List ℕ)) (watches : List Watch) (lists : List (List ℕ)) (n m : ℕ) (b : Built rows watches lists n m) (r : List ℕ) (get : slice_get rows m ≡ Some r) (w : Watch) (has_first : listed r w.first ≡ true) (has_second : listed r w.second ≡ true) (small : (z : ℕ) → listed r z ≡ true → z < n) (only : nat_eq w.first w.second ≡ true → (z : ℕ) → listed r z ≡ true → z ≡ w.first) (two' : w.pair ≡ true → (z : ℕ) → listed r z ≡ true → (z ≡ w.first) ⊎ (z ≡ w.second)) where
  pub push_first : w.first < length lists
  push_first = let q = small w.first has_first in omega (arith, q, b.all)

  pub push_second : w.second < length lists
  push_second = let q = small w.second has_second in omega (arith, q, b.all)

  old_first : (k : ℕ) → k < m → first_of (watches ++ (w ∷ [])) k ≡ first_of watches k
  old_first k lt = first_old watches w k (omega (arith, lt, b.paired))

  old_second : (k : ℕ) → k < m → second_of (watches ++ (w ∷ [])) k ≡ second_of watches k
  old_second k lt = second_old watches w k (omega (arith, lt, b.paired))

  new_first : (k : ℕ) → k ≡ m → first_of (watches ++ (w ∷ [])) k ≡ w.first
  new_first k e = first_new watches w k (omega (arith, e, b.paired))

  new_second : (k : ℕ) → k ≡ m → second_of (watches ++ (w ∷ [])) k ≡ w.second
  new_second k e = second_new watches w k (omega (arith, e, b.paired))

  same_row : (k : ℕ) (x : List ℕ) → k ≡ m → slice_get rows k ≡ Some x → r ≡ x
  same_row k x e g = let h : slice_get rows m ≡ Some x = subst (λ z. slice_get rows z ≡ Some x) e g in let q : Some r ≡ Some x = sym get ∙ h in cc

  pub built_push : Built rows (watches ++ (w ∷ [])) (with_watch lists w m) n (m + 1)
  built_push = record {
    paired = omega (arith, length-append watches (w ∷ []), b.paired);
    all = with_length lists w m push_first push_second ∙ b.all;
    firsts = λ k lt. elim (below_next k m lt) [ inl a ↦ subst (λ z. z < n) (sym (old_first k a)) (b.firsts k a) | inr e ↦ subst (λ z. z < n) (sym (new_first k e)) (small w.first has_first) ];
    seconds = λ k lt. elim (below_next k m lt) [ inl a ↦ subst (λ z. z < n) (sym (old_second k a)) (b.seconds k a) | inr e ↦ subst (λ z. z < n) (sym (new_second k e)) (small w.second has_second) ];
    numbers = λ x k h. elim (with_back lists w m push_first push_second x k h) [ inl a ↦ (let q = b.numbers x k a in omega (arith, q)) | inr e ↦ omega (arith, e) ];
    in_first = λ k x lt g. elim (below_next k m lt) [ inl a ↦ subst (λ z. listed x z ≡ true) (sym (old_first k a)) (b.in_first k x a g) | inr e ↦ subst (λ z. listed x z ≡ true) (sym (new_first k e)) (subst (λ c. listed c w.first ≡ true) (same_row k x e g) has_first) ];
    in_second = λ k x lt g. elim (below_next k m lt) [ inl a ↦ subst (λ z. listed x z ≡ true) (sym (old_second k a)) (b.in_second k x a g) | inr e ↦ subst (λ z. listed x z ≡ true) (sym (new_second k e)) (subst (λ c. listed c w.second ≡ true) (same_row k x e g) has_second) ];
    at_first = λ k lt f. elim (below_next k m lt) [
      | inl a ↦ subst (λ z. lists_in (with_watch lists w m) z k ≡ true) (sym (old_first k a)) (with_grow lists w m push_first push_second (first_of watches k) k (b.at_first k a (subst (λ z. nat_eq (first_of watches k) z ≡ false) (old_second k a) (subst (λ z. nat_eq z (second_of (watches ++ (w ∷ [])) k) ≡ false) (old_first k a) f))))
      | inr e ↦ subst (λ z. lists_in (with_watch lists w m) z k ≡ true) (sym (new_first k e)) (subst (λ z. lists_in (with_watch lists w m) w.first z ≡ true) (sym e) (with_first lists w m push_first push_second (subst (λ z. nat_eq w.first z ≡ false) (new_second k e) (subst (λ z. nat_eq z (second_of (watches ++ (w ∷ [])) k) ≡ false) (new_first k e) f))))
    ];
    at_second = λ k lt f. elim (below_next k m lt) [
      | inl a ↦ subst (λ z. lists_in (with_watch lists w m) z k ≡ true) (sym (old_second k a)) (with_grow lists w m push_first push_second (second_of watches k) k (b.at_second k a (subst (λ z. nat_eq (first_of watches k) z ≡ false) (old_second k a) (subst (λ z. nat_eq z (second_of (watches ++ (w ∷ [])) k) ≡ false) (old_first k a) f))))
      | inr e ↦ subst (λ z. lists_in (with_watch lists w m) z k ≡ true) (sym (new_second k e)) (subst (λ z. lists_in (with_watch lists w m) w.second z ≡ true) (sym e) (with_second lists w m push_first push_second (subst (λ z. nat_eq w.first z ≡ false) (new_second k e) (subst (λ z. nat_eq z (second_of (watches ++ (w ∷ [])) k) ≡ false) (new_first k e) f))))
    ];
    pairs = λ k x lt g. pair_from (watches ++ (w ∷ [])) k x (λ t z h. elim (below_next k m lt) [
      | inl a ↦ elim (pair_cases watches k x (b.pairs k x a g) (sym (pair_old watches w k (omega (arith, a, b.paired))) ∙ t) z h) [ inl p ↦ inl (p ∙ sym (old_first k a)) | inr p ↦ inr (p ∙ sym (old_second k a)) ]
      | inr e ↦ elim (two' (sym (pair_new watches w k (omega (arith, e, b.paired))) ∙ t) z (subst (λ c. listed c z ≡ true) (sym (same_row k x e g)) h)) [ inl p ↦ inl (p ∙ sym (new_first k e)) | inr p ↦ inr (p ∙ sym (new_second k e)) ]
    ]);
    one = λ k x z lt g f h. elim (below_next k m lt) [
      | inl a ↦ b.one k x z a g (subst (λ y. nat_eq (first_of watches k) y ≡ true) (old_second k a) (subst (λ y. nat_eq y (second_of (watches ++ (w ∷ [])) k) ≡ true) (old_first k a) f)) h ∙ sym (old_first k a)
      | inr e ↦ only (subst (λ y. nat_eq w.first y ≡ true) (new_second k e) (subst (λ y. nat_eq y (second_of (watches ++ (w ∷ [])) k) ≡ true) (new_first k e) f)) z (subst (λ c. listed c z ≡ true) (sym (same_row k x e g)) h) ∙ sym (new_first k e)
    ];
  }

-- the rows of the clauses
codes_get : (vars : List ℕ) (cs : List (List Lit)) (k : ℕ) (r : List ℕ) → slice_get (all_codes vars cs) k ≡ Some r → (c : List Lit) × (slice_get cs k ≡ Some c) × (r ≡ codes_of vars c)
codes_get vars [] k r h = absurd cc
codes_get vars (c ∷ cs) zero r h = (c, refl, cc)
codes_get vars (c ∷ cs) (suc k) r h = codes_get vars cs k r h

codes_nil : (vars : List ℕ) (c : List Lit) → [] ≡ codes_of vars c → c ≡ []
codes_nil vars [] h = refl
codes_nil vars (l ∷ c) h = cc

lits_codes : (vars : List ℕ) (c : List Lit) → IsStrictlyIncreasing vars → Covers vars c → lits_of vars (codes_of vars c) ≡ c
lits_codes vars [] up v = refl
lits_codes vars (l ∷ c) up v = ap (λ w. w ∷ lits_of vars (codes_of vars c)) (lit_code vars l up (code_below vars l v.0)) ∙ ap (λ w. l ∷ w) (lits_codes vars c up v.1)

known_codes : (vars : List ℕ) (cs : List (List Lit)) → IsStrictlyIncreasing vars → CoversAll vars cs → known_of vars (all_codes vars cs) ≡ cs
known_codes vars [] up v = refl
known_codes vars (c ∷ cs) up v = ap (λ w. w ∷ known_of vars (all_codes vars cs)) (lits_codes vars c up v.0) ∙ ap (λ w. c ∷ w) (known_codes vars cs up v.1)

module _ (clauses : List (List Lit)) (vars : List ℕ) (rows : List (List ℕ)) (up : IsStrictlyIncreasing vars) (v : CoversAll vars clauses) (is : rows ≡ all_codes vars clauses) (some' : (c : List Lit) → In clauses c → c ≡ [] → ⊥) where
  pub open_some : (k : ℕ) → slice_get rows k ≡ Some [] → ⊥
  open_some k h = let (c, g, e) = codes_get vars clauses k [] (subst (λ w. slice_get w k ≡ Some []) is h) in some' c (In-get clauses k c g) (codes_nil vars c e)

  pub open_fit : RowsFit vars rows
  open_fit k r g = row_below (2 * length vars) rows k r (subst (RowsBelow (2 * length vars)) (sym is) (rows_below vars (all_codes vars clauses) clauses (coded_rows vars clauses v))) g

  pub open_below : (k : ℕ) (r : List ℕ) (z : ℕ) → slice_get rows k ≡ Some r → listed r z ≡ true → z < 2 * length vars
  open_below k r z g h = all_below_listed (2 * length vars) r (open_fit k r g) z h

  pub open_length : length rows ≡ length clauses
  open_length = ap length is ∙ rows_length vars (all_codes vars clauses) clauses (coded_rows vars clauses v)

  open_known : known_of vars rows ≡ clauses
  open_known = ap (known_of vars) is ∙ known_codes vars clauses up v

  -- nothing is true
  pub open_linked : (t : Trail) → t.codes.items ≡ [] → length t.levels.items ≡ length vars → IsLinked vars rows 0 t
  open_linked t nil wide' =
      let e : trail_entries vars t ≡ [] = ap (entries_of vars t.levels.items t.reasons.items) nil in
      record {
        up = up;
        wide = wide';
        holds = subst (Holds (known_of vars rows) 0) (sym e) (record { ok = none_set refl; low = λ j lt. absurd (no_level j lt); all = λ l s. absurd (both_ways false refl s) });
        rises = subst (RisesFrom 0) (sym e) tt;
        last = ap (last_level 0) e;
      }
    where
      no_level : (j : ℕ) → j < 0 → ⊥
      no_level j lt = omega arith

  pub open_rests : (t : Trail) (log : List Chain) → log ≡ [] → IsLinked vars rows 0 t → Rests clauses vars rows 0 t log
  open_rests t log nil l = record {
    state = record {
      results = [];
      parts = subst (AllSame (known_of vars rows)) (open_known ∙ sym (append-nil clauses)) (all_refl (known_of vars rows));
      new = subst (λ w. New clauses w []) (sym nil) no_chain;
      holds = l.holds;
      some = λ c h n. some' c (subst (λ w. In w c) open_known h) n;
    };
    linked = l;
    fit = open_fit;
  }
    where
      no_chain : New clauses [] []
      no_chain = none

  module _ (watches : List Watch) (lists : List (List ℕ)) (b : Built rows watches lists (2 * length vars) (length rows)) where
    pub open_units : (t : Trail) → length t.truth.items ≡ 2 * length vars → AreUnits rows watches (length t.truth.items)
    open_units t wide = record {
      small = λ k lt. (let q = b.firsts k (omega (arith, lt, b.paired)) in omega (arith, q, wide));
      has = λ k r g. b.in_first k r (lt_of rows k r g) g;
      only = λ k r z g n h. b.one k r z (lt_of rows k r g) g n h;
      below = λ k r z g h. (let q = open_below k r z g h in omega (arith, q, wide));
    }
      where
        lt_of : (xs : List (List ℕ)) (k : ℕ) (x : List ℕ) → slice_get xs k ≡ Some x → k < length xs
        lt_of [] k x h = absurd cc
        lt_of (a ∷ xs) zero x h = omega arith
        lt_of (a ∷ xs) (suc k) x h = let q = lt_of xs k x h in omega (arith, q)

    pub open_kept : (t : Trail) → IsLinked vars rows 0 t → UnitsMet watches (length watches) t → KeepsWatch rows watches lists t 0 0
    open_kept t l met = record {
      paired = b.paired;
      below = λ k r z g h. (let q = open_below k r z g h in omega (arith, q, t.wide, l.wide));
      firsts = λ k lt. (let q = b.firsts k (omega (arith, lt, b.paired)) in omega (arith, q, t.wide, l.wide));
      seconds = λ k lt. (let q = b.seconds k (omega (arith, lt, b.paired)) in omega (arith, q, t.wide, l.wide));
      numbers = b.numbers;
      pairs = λ k r g. b.pairs k r (lt_of rows k r g) g;
      two = λ k r g n. (let lt = lt_of rows k r g in record {
        in_first = b.in_first k r lt g;
        in_second = b.in_second k r lt g;
        at_first = b.at_first k lt n;
        at_second = b.at_second k lt n;
        first = λ f. excused_waits (waits_in t.codes.items) t.truth.items t.levels.items k (first_of watches k) (second_of watches k) (sym (t.valued (negation (first_of watches k))) ∙ f) f;
        second = λ f. excused_waits (waits_in t.codes.items) t.truth.items t.levels.items k (second_of watches k) (first_of watches k) (sym (t.valued (negation (second_of watches k))) ∙ f) f;
      });
      one = λ k r g n. (let lt = lt_of rows k r g in let h = met k (omega (arith, lt, b.paired)) n in record {
        only = λ z hz. b.one k r z lt g n hz;
        holds = h;
        low = (let q = lowest (first_of watches k) h in omega (arith, q));
      });
      top = lowest;
      queued = λ z h. (let q = lowest z (t.valued z ∙ h) in omega (arith, q));
    }
      where
        lt_of : (xs : List (List ℕ)) (k : ℕ) (x : List ℕ) → slice_get xs k ≡ Some x → k < length xs
        lt_of [] k x h = absurd cc
        lt_of (a ∷ xs) zero x h = omega arith
        lt_of (a ∷ xs) (suc k) x h = let q = lt_of xs k x h in omega (arith, q)

        wide' : length t.truth.items ≡ 2 * length vars
        wide' = omega (arith, t.wide, l.wide)

        lowest : (z : ℕ) → is_true t.truth.items z ≡ true → level_of t.levels.items z ≤ 0
        lowest z h =
            let lt = true_below t.truth.items z h in
            let z_is = code_at vars z up (omega (arith, lt, wide')) in
            let s : SetAt 0 (trail_entries vars t) (lit_at vars z) = l.holds.all (lit_at vars z) (linked_set vars rows 0 t.codes.items t.levels.items t.reasons.items t.truth.items l t.valued t.wide (lit_at vars z) ∙ ap (is_true t.truth.items) z_is ∙ h) in
            let p = and_parts (is_true t.truth.items (code_of vars (lit_at vars z))) (nat_le (level_of t.levels.items (code_of vars (lit_at vars z))) 0) (sym (at_code vars t.levels.items t.codes.items t.reasons.items t.truth.items up wide' t.valued (lit_at vars z) 0) ∙ s) in
            subst (λ c. level_of t.levels.items c ≤ 0) z_is (leb-true (level_of t.levels.items (code_of vars (lit_at vars z))) 0 p.1)

-- a clause of one literal makes it true
module _ (rows : List (List ℕ)) (watches : List Watch) (t : Trail) (m : ℕ) (u : AreUnits rows watches (length t.truth.items)) (paired : length watches ≡ length rows) (lt : m < length watches) (one : first_of watches m ≡ second_of watches m) where
  r_some : (r : List ℕ) × (slice_get rows m ≡ Some r)
  r_some = row_some rows m (omega (arith, lt, paired))

  pub unit_false : is_true t.truth.items (negation (first_of watches m)) ≡ true → IsFalse rows t m
  unit_false f = let (r, g) = r_some in (r, g, λ z h. subst (λ w. is_true t.truth.items (negation w) ≡ true) (sym (u.only m r z g (eq-eqb _ _ one) h)) f)

  module _ (free : is_true t.truth.items (first_of watches m) ≡ false) (free_not : is_true t.truth.items (negation (first_of watches m)) ≡ false) (t2 : Trail) (codes_is : t2.codes.items ≡ t.codes.items ++ (first_of watches m ∷ [])) (truth_is : t2.truth.items ≡ set t.truth.items (first_of watches m) true) (levels_is : t2.levels.items ≡ set t.levels.items (first_of watches m / 2) 0) (reasons_is : t2.reasons.items ≡ set t.reasons.items (first_of watches m / 2) (Some m)) where
    pub unit_linked : (vars : List ℕ) → IsLinked vars rows 0 t → IsLinked vars rows 0 t2
    unit_linked vars l =
        let (r, g) = r_some in
        let c = first_of watches m in
        let made = linked_implied vars rows 0 t.codes.items t.levels.items t.reasons.items t.truth.items l t.valued t.wide t.long u.below c m r (u.small m lt) free free_not g (u.has m r g) (λ z h n. absurd (n (u.only m r z g (eq-eqb _ _ one) h))) in
        let r1 = subst (λ w. Linked vars rows 0 w (set t.levels.items (c / 2) 0) (set t.reasons.items (c / 2) (Some m))) (sym codes_is) made in
        let r2 = subst (λ w. Linked vars rows 0 t2.codes.items w (set t.reasons.items (c / 2) (Some m))) (sym levels_is) r1 in
        subst (λ w. Linked vars rows 0 t2.codes.items t2.levels.items w) (sym reasons_is) r2

    pub unit_met : UnitsMet watches m t → UnitsMet watches (m + 1) t2
    unit_met met k lk n = elim (below_next k m lk) [
      | inl a ↦ ap (λ w. is_true w (first_of watches k)) truth_is ∙ truth_grows t.truth.items (first_of watches m) (first_of watches k) (u.small m lt) (met k a n)
      | inr e ↦ subst (λ z. is_true t2.truth.items (first_of watches z) ≡ true) (sym e) (ap (λ w. is_true w (first_of watches m)) truth_is ∙ truth_same t.truth.items (first_of watches m) true (u.small m lt))
    ]

pub units_skip : (watches : List Watch) (t : Trail) (m : ℕ) → UnitsMet watches m t → (nat_eq (first_of watches m) (second_of watches m) ≡ true → is_true t.truth.items (first_of watches m) ≡ true) → UnitsMet watches (m + 1) t
units_skip watches t m met here k lt n = elim (below_next k m lt) [ inl a ↦ met k a n | inr e ↦ subst (λ z. is_true t.truth.items (first_of watches z) ≡ true) (sym e) (here (subst (λ z. nat_eq (first_of watches z) (second_of watches z) ≡ true) e n)) ]

-- the conflict that an analysis begins with
pub begin_from : (clauses : List (List Lit)) (vars : List ℕ) (rows : List (List ℕ)) (level : ℕ) (t : Trail) (log : List Chain) (k : ℕ) → Rests clauses vars rows level t log → IsFalse rows t k → (r : List ℕ) → slice_get rows k ≡ Some r → Going (known_of vars rows) level (trail_entries vars t) k (lits_of vars r) []
begin_from clauses vars rows level t log k s f r g =
    let l = s.linked in
    let e : f.0 ≡ r = (let a = f.1 in cc (a, g)) in
    let wide' : length t.truth.items ≡ 2 * length vars = omega (arith, t.wide, l.wide) in
    going_start (known_of vars rows) level (trail_entries vars t) k (lits_of vars r) l.holds s.state.some (known_get vars rows k r g) (λ m hm. (let hr : listed r (code_of vars m) ≡ true = sym (has_code vars r m l.up (s.fit k r g)) ∙ hm in
    linked_set vars rows level t.codes.items t.levels.items t.reasons.items t.truth.items l t.valued t.wide (negated m) ∙ ap (is_true t.truth.items) (code_negated vars m) ∙ subst (λ w. (z : ℕ) → listed w z ≡ true → is_true t.truth.items (negation z) ≡ true) e f.2 (code_of vars m) hr))

-- a conflict at the lowest level refutes
pub refuted_by : (clauses : List (List Lit)) (learn : ℕ) (vars : List ℕ) (rows : List (List ℕ)) (t : Trail) (log log2 : List Chain) (ch : Chain) (clause : List ℕ) (uip : Option ℕ) (left : ℕ) → Rests clauses vars rows 0 t log → length log < learn → IsTaught vars rows t 0 ch.first clause ch.pairs uip left → log2 ≡ log ++ (ch ∷ []) → IsRefuted clauses learn log2
refuted_by clauses learn vars rows t log log2 ch clause None left s short taught is = (
  subst (Lean clauses) (sym is) (state_lean clauses (known_of vars rows) 0 (trail_entries vars t) log s.state (first_entries vars t left) (lits_of vars clause) ch taught),
  omega (arith, ap length is, length-append log (ch ∷ []), short),
)
refuted_by clauses learn vars rows t log log2 ch clause (Some u) left s short taught is = absurd (none taught.told.uip.0)
  where
    none : 0 < 0 → ⊥
    none h = omega (arith, h)

pub units_moved : (rows : List (List ℕ)) (watches : List Watch) (n m : ℕ) → n ≡ m → AreUnits rows watches n → AreUnits rows watches m
units_moved rows watches n m e u = subst (AreUnits rows watches) e u

first_in : (r : List ℕ) → (r ≡ [] → ⊥) → listed r (get_or r 0 0) ≡ true
first_in [] n = absurd (n refl)
first_in (x ∷ r) n = or_left _ _ (eq-eqb x x refl)

-- the next clause watches its first literal and another one
module _ (rows : List (List ℕ)) (watches : List Watch) (lists : List (List ℕ)) (n m : ℕ) (b : Built rows watches lists n m) (r : List ℕ) (get : slice_get rows m ≡ Some r) (some' : (k : ℕ) → slice_get rows k ≡ Some [] → ⊥) (below : (k : ℕ) (r : List ℕ) (z : ℕ) → slice_get rows k ≡ Some r → listed r z ≡ true → z < n) (second : ℕ) (other : ((second ≡ get_or r 0 0) × ((z : ℕ) → listed r z ≡ true → z ≡ get_or r 0 0)) ⊎ ((second ≡ get_or r 0 0 → ⊥) × (listed r second ≡ true))) (pair : Bool) (two' : pair ≡ nat_eq (length r) 2) where
  abbrev w : Watch
  w = record { first = get_or r 0 0; second = second; pair = pair }

  has_first : listed r (get_or r 0 0) ≡ true
  has_first = first_in r (λ e. some' m (subst (λ z. slice_get rows m ≡ Some z) e get))

  has_second : listed r second ≡ true
  has_second = elim other [ inl p ↦ subst (λ z. listed r z ≡ true) (sym p.0) has_first | inr p ↦ p.1 ]

  only : nat_eq (get_or r 0 0) second ≡ true → (z : ℕ) → listed r z ≡ true → z ≡ get_or r 0 0
  only e z h = elim other [ inl p ↦ p.1 z h | inr p ↦ absurd (p.0 (sym (eqb-true (get_or r 0 0) second e))) ]

  both : pair ≡ true → (z : ℕ) → listed r z ≡ true → (z ≡ get_or r 0 0) ⊎ (z ≡ second)
  both t z h = elim other [ inl p ↦ inl (p.1 z h) | inr p ↦ two_all r (get_or r 0 0) second (eqb-true (length r) 2 (sym two' ∙ t)) has_first p.1 (λ e. p.0 (sym e)) z h ]

  pub watch_first : get_or r 0 0 < length lists
  watch_first = push_first rows watches lists n m b r get w has_first has_second (λ z h. below m r z get h) only both

  pub watch_second : second < length lists
  watch_second = push_second rows watches lists n m b r get w has_first has_second (λ z h. below m r z get h) only both

  pub watch_push : (watches2 : List Watch) (lists2 : List (List ℕ)) → watches2 ≡ watches ++ (w ∷ []) → lists2 ≡ with_watch lists w m → Built rows watches2 lists2 n (m + 1)
  watch_push watches2 lists2 a c = subst (λ z. Built rows watches2 z n (m + 1)) (sym c) (subst (λ z. Built rows z (with_watch lists w m) n (m + 1)) (sym a) (built_push rows watches lists n m b r get w has_first has_second (λ z h. below m r z get h) only both))

-- a read of a value, at the values of a loop
pub read_at : (xs : List Bool) (i j : ℕ) (r b : Bool) → i ≡ j → j < length xs → r ≡ get_or xs i r → r ≡ b → is_true xs j ≡ b
read_at xs i j r b e lt h g = ap (is_true xs) (sym e) ∙ sym (get_or_default xs i r false (subst (λ w. w < length xs) (sym e) lt)) ∙ sym h ∙ g
