-- One literal of the trail after the other, from the last.
use Rattle.std.proofs.Common.{◌≡◌, ℕ, ◌+◌, ◌-◌, ◌*◌, ◌/◌, ◌<◌, ◌≤◌, Bool, true, false, cond, not, ◌&&◌, ◌||◌, List, [], ◌∷◌, ◌++◌, Some, None, zero, suc, inl, inr, refl, sym, ap, ◌∙◌, subst, arith, nat_eq, nat_le, length, get_or, take, drop, slice_get, take-append-drop, drop-cons}
use Rattle.std.proofs.lemmas.Bool.{cases_Bool, both_ways, eqb-true, eq-eqb, ne_eqb, false_from_ne_true, or_cases, or_left, or_right, and_parts, and_from, cases_lt, and_cases, not-true, not_from_false, le-leb, leb-true}
use Rattle.std.specs.List.Sorted.{IsStrictlyIncreasing}
use Rattle.prop.specs.declared.Lit.{Lit}
use Rattle.prop.specs.Logic.{negated}
use Rattle.prop.specs.Trues.{listed}
use Rattle.prop.specs.Steps.{has, Has, without, resolved}
use Rattle.prop.proofs.Sets.{negated_twice, lit_cases, Has-append, Has-left, Has-right, Has-without, Has-kept}
use Rattle.resolution_log.specs.Codes.{code_of, AllBelow}
use Rattle.resolution_log.specs.Marks.{is_marked, AtMost}
use Rattle.resolution_log.proofs.Places.{bool_same}
use Rattle.resolution_log.proofs.MarkLaws.{all_below_listed, all_below_from}
use Rattle.clause_learning.specs.declared.Entry.{Entry}
use Rattle.clause_learning.specs.Trail.{set_in, set_at, SetAt, below_of, Going, ToldSet, Why}
use Rattle.clause_learning.proofs.TrailLaws.{last_ok}
use Rattle.clause_learning.proofs.AnalysisLaws.{pop_level, others_false, going_pass, going_step, going_learn, going_decided, going_reason, going_end, below_all}
use Rattle.clause_learning.proofs.JumpLaws.{below_from}
use Rattle.dense_trail.specs.declared.Trail.{Trail}
use Rattle.dense_trail.specs.Dense.{negation, is_true, level_of, distinct, lit_at, lits_of, known_of, entry_at, entries_of}
use Rattle.dense_trail.proofs.CodeLaws.{negation_half, negation_twice, negation_below, code_at, lit_code, code_negated, lit_negation, lit_inj}
use Rattle.dense_trail.proofs.ValueLaws.{listed_append, listed_left, listed_right, listed_last, listed_one, true_below, distinct_pop}
use Rattle.dense_trail.proofs.EntryLaws.{entries_push, set_listed, at_listed, has_code, known_get, known_back}
use Rattle.conflict_analysis.specs.Notes.{note_stamps, note_learnt, note_here, is_here, counted, Noted}
use Rattle.conflict_analysis.specs.Walk.{first_entries, RowsFit, AreAbove, Walking, IsTaught}
use Rattle.conflict_analysis.specs.Minimizing.{kept, Minimizing}
use Rattle.conflict_analysis.proofs.KeptLaws.{kept_all}
use Rattle.conflict_analysis.proofs.NoteLaws.{counted_push, counted_none, counted_some, noted_same, noted_all, count_yes, one_or}

pub take_listed : (xs : List ℕ) (i k : ℕ) → listed (take i xs) k ≡ true → listed xs k ≡ true
take_listed [] zero k h = h
take_listed [] (suc i) k h = h
take_listed (x ∷ xs) zero k h = absurd (both_ways false refl h)
take_listed (x ∷ xs) (suc i) k h = elim (or_cases (nat_eq x k) (listed (take i xs) k) h) [ inl a ↦ or_left _ _ a | inr b ↦ or_right _ _ (take_listed xs i k b) ]

pub take_more : (xs : List ℕ) (i : ℕ) → i < length xs → take (i + 1) xs ≡ take i xs ++ (get_or xs i 0 ∷ [])
take_more [] i lt = absurd (omega arith)
take_more (x ∷ xs) zero lt = refl
take_more (x ∷ xs) (suc i) lt = let q : suc i + 1 ≡ suc (i + 1) = omega arith in rw q (ap (λ w. x ∷ w) (take_more xs i (omega (arith, lt))))

distinct_left : (xs ys : List ℕ) → distinct (xs ++ ys) ≡ true → distinct xs ≡ true
distinct_left [] ys d = refl
distinct_left (x ∷ xs) ys d =
    let p = and_parts (not (listed (xs ++ ys) x)) (distinct (xs ++ ys)) d in
    and_from (not (listed xs x)) (distinct xs) (ap not (false_from_ne_true (listed xs x) (λ h. both_ways (listed (xs ++ ys) x) (not-true (listed (xs ++ ys) x) p.0) (listed_left xs ys x h)))) (distinct_left xs ys p.1)

distinct_take : (xs : List ℕ) (i : ℕ) → distinct xs ≡ true → distinct (take i xs) ≡ true
distinct_take xs i d = distinct_left (take i xs) (drop i xs) (ap distinct (take-append-drop i xs) ∙ d)

counted_zero : (f : ℕ → Bool) (xs : List ℕ) → ((k : ℕ) → f k ≡ false) → let n : ℕ = 0 in n ≡ counted f xs
counted_zero f [] h = refl
counted_zero f (x ∷ xs) h = let ih = counted_zero f xs h in let z = one_or (f x) (λ t. both_ways (f x) (h x) t) in omega (arith, ih, z)

pub counted_le : (f : ℕ → Bool) (xs : List ℕ) → counted f xs ≤ length xs
counted_le f [] = omega arith
counted_le f (x ∷ xs) = let ih = counted_le f xs in elim (cases_Bool (f x)) [ inl t ↦ (let o = count_yes (f x) t in omega (arith, ih, o)) | inr n ↦ (let o = one_or (f x) (λ t. both_ways (f x) n t) in omega (arith, ih, o)) ]

has_append : (c d : List Lit) (m : Lit) → has (c ++ d) m ≡ (has c m || has d m)
has_append c d m = bool_same (has (c ++ d) m) (has c m || has d m) (λ h. elim (Has-append c d m h) [ inl a ↦ or_left _ _ a | inr b ↦ or_right _ _ b ]) (λ h. elim (or_cases (has c m) (has d m) h) [ inl a ↦ Has-left c d m a | inr b ↦ Has-right c d m b ])

has_without : (k : Lit) (c : List Lit) (m : Lit) (b : Bool) → (b ≡ true → m ≡ k) → (m ≡ k → b ≡ true) → has (without k c) m ≡ (not b && has c m)
has_without k c m b f g = bool_same (has (without k c) m) (not b && has c m)
    (λ h. let p = Has-without k c m h in and_from (not b) (has c m) (not_from_false b (false_from_ne_true b (λ t. p.1 (f t)))) p.0)
    (λ h. let p = and_parts (not b) (has c m) h in Has-kept k c m p.1 (λ e. both_ways b (not-true b p.0) (g e)))

module _ (vars : List ℕ) (rows : List (List ℕ)) (t : Trail) (level conflict : ℕ) (up : IsStrictlyIncreasing vars) (wide : length t.levels.items ≡ length vars) (fit : RowsFit vars rows) where
  abbrev known : List (List Lit)
  known = known_of vars rows

  codes_small : (k : ℕ) → listed t.codes.items k ≡ true → k < 2 * length vars
  codes_small k h = let lt = true_below t.truth.items k (t.valued k ∙ h) in omega (arith, lt, t.wide, wide)

  small : (j k : ℕ) → listed (take j t.codes.items) k ≡ true → k < 2 * length vars
  small j k h = codes_small k (take_listed t.codes.items j k h)

  small_not : (j k : ℕ) → listed (take j t.codes.items) k ≡ true → negation k < 2 * length vars
  small_not j k h = negation_below k (length vars) (small j k h)

  apart : (j : ℕ) → distinct (take j t.codes.items) ≡ true
  apart j = distinct_take t.codes.items j t.distinct

  one_way : (j k : ℕ) → listed (take j t.codes.items) k ≡ true → listed (take j t.codes.items) (negation k) ≡ true → ⊥
  one_way j k a b = both_ways (is_true t.truth.items (negation k)) (t.quiet k (t.valued k ∙ take_listed t.codes.items j k a)) (t.valued (negation k) ∙ take_listed t.codes.items j (negation k) b)

  set_first : (j : ℕ) (l : Lit) → set_in (first_entries vars t j) l ≡ listed (take j t.codes.items) (code_of vars l)
  set_first j l = set_listed vars t.levels.items t.reasons.items (take j t.codes.items) l up (small j)

  at_first : (j : ℕ) (l : Lit) (n : ℕ) → set_at n (first_entries vars t j) l ≡ (listed (take j t.codes.items) (code_of vars l) && nat_le (level_of t.levels.items (code_of vars l)) n)
  at_first j l n = at_listed vars t.levels.items t.reasons.items (take j t.codes.items) l n up (small j)

  -- levels are at most the current one
  highest : (j : ℕ) (d : List Lit) (pairs : List (ℕ × ℕ)) → Going known level (first_entries vars t j) conflict d pairs → (k : ℕ) → listed (take j t.codes.items) k ≡ true → level_of t.levels.items k ≤ level
  highest j d pairs g k h =
      let c_is = code_at vars k up (small j k h) in
      let s : SetAt level (first_entries vars t j) (lit_at vars k) = g.all (lit_at vars k) (set_first j (lit_at vars k) ∙ ap (listed (take j t.codes.items)) c_is ∙ h) in
      let p = and_parts (listed (take j t.codes.items) (code_of vars (lit_at vars k))) (nat_le (level_of t.levels.items (code_of vars (lit_at vars k))) level) (sym (at_first j (lit_at vars k) level) ∙ s) in
      subst (λ w. level_of t.levels.items w ≤ level) c_is (leb-true (level_of t.levels.items (code_of vars (lit_at vars k))) level p.1)

  known_rows : (r : ℕ) (c : List Lit) → slice_get known r ≡ Some c → (row : List ℕ) × (slice_get rows r ≡ Some row) × (c ≡ lits_of vars row)
  known_rows r c g = known_back vars rows r c g

  has_row : (row : List ℕ) → AllBelow (2 * length vars) row → (z : ℕ) → z < 2 * length vars → has (lits_of vars row) (lit_at vars z) ≡ listed row z
  has_row row b z lt = has_code vars row (lit_at vars z) up b ∙ ap (listed row) (code_at vars z up lt)

  -- the conflict
  pub walk_start : (epoch : ℕ) (stamps : List ℕ) (row : List ℕ) (but : ℕ) → length stamps ≡ length vars → 2 * length vars ≤ but → AtMost epoch stamps → slice_get rows conflict ≡ Some row → Going known level (entries_of vars t.levels.items t.reasons.items t.codes.items) conflict (lits_of vars row) [] → (at : ℕ) → at ≡ length t.codes.items → Walking vars rows t level conflict [] (epoch + 1) (note_stamps (epoch + 1) but stamps row) (note_learnt (epoch + 1) but level t.levels.items stamps [] row) (note_here (epoch + 1) but level t.levels.items stamps 0 row) at
  walk_start epoch stamps row but len big most get g at is = record {
    whole = lits_of vars row;
    go = g2;
    noted = noted_same (take at t.codes.items) t.levels.items level (epoch + 1) (note_stamps (epoch + 1) but stamps row) (note_learnt (epoch + 1) but level t.levels.items stamps [] row) (note_here (epoch + 1) but level t.levels.items stamps 0 row) (2 * length vars) (λ z. false || (not (nat_eq z but) && listed row z)) (λ z. has (lits_of vars row) (lit_at vars z)) (λ z lt. ap (λ b. not b && listed row z) (ne_eqb z but (λ e. absurd (omega (arith, lt, big, e)))) ∙ sym (has_row row (fit conflict row get) z lt)) (small_not at) (noted_all (take at t.codes.items) t.levels.items level (epoch + 1) (2 * length vars) (apart at) (one_way at) (highest at (lits_of vars row) [] g2) (small_not at) stamps [] 0 but (λ z. false) row (omega (arith, len)) (λ q h. all_below_listed (2 * length vars) row (fit conflict row get) q h) (λ q h n. false_here q h) empty);
    within = omega (arith, is);
    above = λ k h. absurd (both_ways false refl (subst (λ w. listed w k ≡ true) (drop_end t.codes.items at (omega (arith, is))) h));
  }
    where
      all_taken : (xs : List ℕ) (n : ℕ) → n ≡ length xs → xs ≡ take n xs
      all_taken [] zero e = refl
      all_taken [] (suc n) e = refl
      all_taken (x ∷ xs) zero e = absurd (omega (arith, e))
      all_taken (x ∷ xs) (suc n) e = ap (λ w. x ∷ w) (all_taken xs n (omega (arith, e)))

      drop_end : (xs : List ℕ) (n : ℕ) → length xs ≤ n → drop n xs ≡ []
      drop_end [] zero e = refl
      drop_end [] (suc n) e = refl
      drop_end (x ∷ xs) zero e = absurd (omega (arith, e))
      drop_end (x ∷ xs) (suc n) e = drop_end xs n (omega (arith, e))

      g2 : Going known level (first_entries vars t at) conflict (lits_of vars row) []
      g2 = subst (λ w. Going known level (entries_of vars t.levels.items t.reasons.items w) conflict (lits_of vars row) []) (all_taken t.codes.items at is) g

      false_here : (q : ℕ) → listed row q ≡ true → listed (take at t.codes.items) (negation q) ≡ true
      false_here q h =
          let lt = all_below_listed (2 * length vars) row (fit conflict row get) q h in
          let s = g2.an.falsified (lit_at vars q) (has_row row (fit conflict row get) q lt ∙ h) in
          subst (λ w. listed (take at t.codes.items) w ≡ true) (code_negated vars (lit_at vars q) ∙ ap negation (code_at vars q up lt)) (sym (set_first at (negated (lit_at vars q))) ∙ s)

      fresh : (k : ℕ) → is_marked (epoch + 1) stamps k ≡ false
      fresh k = ne_eqb (get_or stamps k 0) (epoch + 1) (λ e. let m = most k in absurd (omega (arith, m, e)))

      empty : Noted (take at t.codes.items) t.levels.items level (epoch + 1) stamps [] 0 (2 * length vars) (λ z. false)
      empty = record {
        marks = λ k h. fresh (k / 2);
        low_to = λ z h. absurd (both_ways false refl h);
        low_from = λ z lt h l. absurd (both_ways false refl h);
        falsified = λ z lt h. absurd (both_ways false refl h);
        count = counted_zero (is_here level t.levels.items (epoch + 1) stamps) (take at t.codes.items) (λ k. ap (λ b. b && nat_eq (level_of t.levels.items k) level) (fresh (k / 2)));
      }

  module _ (pairs : List (ℕ × ℕ)) (epoch : ℕ) (stamps learnt : List ℕ) (here' at : ℕ) (w : Walking vars rows t level conflict pairs epoch stamps learnt here' at) (pos : 0 < at) (code : ℕ) (code_is : code ≡ get_or t.codes.items (at - 1) 0) where
    abbrev j : ℕ
    j = at - 1

    in_codes : at - 1 < length t.codes.items
    in_codes = omega (arith, pos, w.within)

    split : take at t.codes.items ≡ take j t.codes.items ++ (code ∷ [])
    split = let q : at ≡ (at - 1) + 1 = omega (arith, pos) in ap (λ n. take n t.codes.items) q ∙ take_more t.codes.items (at - 1) in_codes ∙ ap (λ n. take j t.codes.items ++ (n ∷ [])) (sym code_is)

    abbrev e : Entry
    e = entry_at vars t.levels.items t.reasons.items code

    abbrev old : List Entry
    old = first_entries vars t at

    abbrev new : List Entry
    new = first_entries vars t (at - 1)

    is : old ≡ new ++ (e ∷ [])
    is = ap (entries_of vars t.levels.items t.reasons.items) split ∙ entries_push vars t.levels.items t.reasons.items (take j t.codes.items) code

    here_code : listed (take at t.codes.items) code ≡ true
    here_code = subst (λ z. listed z code ≡ true) (sym split) (listed_last (take j t.codes.items) code)

    code_small : code < 2 * length vars
    code_small = small at code here_code

    not_lit : lit_at vars (negation code) ≡ negated e.lit
    not_lit = lit_negation vars code up code_small

    mark_is : is_marked epoch stamps (code / 2) ≡ has w.whole (negated e.lit)
    mark_is = w.noted.marks code here_code ∙ ap (has w.whole) not_lit

    high : level ≤ level_of t.levels.items code
    high = pop_level known level old new e w.go.start w.whole pairs w.go.ok is w.go.an

    at_level : level_of t.levels.items code ≡ level
    at_level = let h = highest at w.whole pairs w.go code here_code in omega (arith, h, high)

    pub walk_above : AreAbove t level (at - 1)
    walk_above k h = elim (or_cases (nat_eq code k) (listed (drop at t.codes.items) k) (subst (λ z. listed z k ≡ true) rest h)) [ inl a ↦ subst (λ z. level ≤ level_of t.levels.items z) (eqb-true code k a) high | inr b ↦ w.above k b ]
      where
        rest : drop (at - 1) t.codes.items ≡ code ∷ drop at t.codes.items
        rest = let q : suc (at - 1) ≡ at = omega (arith, pos) in drop-cons t.codes.items (at - 1) 0 in_codes ∙ ap (λ z. z ∷ drop (suc (at - 1)) t.codes.items) (sym code_is) ∙ ap (λ z. code ∷ drop z t.codes.items) q

    fewer : (k : ℕ) → listed (take at t.codes.items) k ≡ true → (code ≡ k → ⊥) → listed (take j t.codes.items) k ≡ true
    fewer k h n = elim (listed_append (take j t.codes.items) (code ∷ []) k (subst (λ z. listed z k ≡ true) split h)) [ inl a ↦ a | inr b ↦ absurd (n (listed_one code k b)) ]

    more : (k : ℕ) → listed (take j t.codes.items) k ≡ true → listed (take at t.codes.items) k ≡ true
    more k h = subst (λ z. listed z k ≡ true) (sym split) (listed_left (take j t.codes.items) (code ∷ []) k h)

    not_code : (k : ℕ) → listed (take j t.codes.items) k ≡ true → k ≡ code → ⊥
    not_code k h q = both_ways (listed (take j t.codes.items) code) (distinct_pop (take j t.codes.items) code (ap distinct (sym split) ∙ apart at)).0 (subst (λ z. listed (take j t.codes.items) z ≡ true) q h)

    count_split : here' ≡ counted (is_here level t.levels.items epoch stamps) (take j t.codes.items) + cond (is_here level t.levels.items epoch stamps code) 1 0
    count_split = w.noted.count ∙ ap (counted (is_here level t.levels.items epoch stamps)) split ∙ counted_push (is_here level t.levels.items epoch stamps) (take j t.codes.items) code

    -- the literal is not in the clause
    pub walk_pass : is_marked epoch stamps (code / 2) ≡ false → Walking vars rows t level conflict pairs epoch stamps learnt here' (at - 1)
    walk_pass f = record {
      whole = w.whole;
      go = going_pass known level old new e conflict w.whole pairs w.go is (sym mark_is ∙ f);
      noted = record {
        marks = λ k h. w.noted.marks k (more k h);
        low_to = w.noted.low_to;
        low_from = w.noted.low_from;
        falsified = λ z lt h. fewer (negation z) (w.noted.falsified z lt h) (λ q. both_ways (is_marked epoch stamps (code / 2)) f (ap (λ n. is_marked epoch stamps (n / 2)) q ∙ ap (is_marked epoch stamps) (negation_half z) ∙ sym (ap (is_marked epoch stamps) (negation_half z)) ∙ w.noted.marks (negation z) (w.noted.falsified z lt h) ∙ ap (λ n. has w.whole (lit_at vars n)) (negation_twice z) ∙ h));
        count = (let z = one_or (is_here level t.levels.items epoch stamps code) (λ b. both_ways (is_marked epoch stamps (code / 2)) f (and_parts (is_marked epoch stamps (code / 2)) (nat_eq (level_of t.levels.items code) level) b).0) in omega (arith, count_split, z));
      };
      within = omega (arith, w.within);
      above = walk_above;
    }

    module _ (marked : is_marked epoch stamps (code / 2) ≡ true) where
      in_clause : has w.whole (negated e.lit) ≡ true
      in_clause = sym mark_is ∙ marked

      counts : here' ≡ counted (is_here level t.levels.items epoch stamps) (take j t.codes.items) + 1
      counts = let o = count_yes (is_here level t.levels.items epoch stamps code) (and_from _ _ marked (eq-eqb (level_of t.levels.items code) level at_level)) in omega (arith, count_split, o)

      pub walk_some : 0 < here'
      walk_some = omega (arith, counts)

      -- another literal's code, before this one
      other_code : (m : Lit) → Has w.whole m → (m ≡ negated e.lit → ⊥) → (listed (take j t.codes.items) (code_of vars (negated m)) ≡ true) × (is_marked epoch stamps (code_of vars (negated m) / 2) ≡ true)
      other_code m hm n =
          let s = others_false known level old new e w.go.start w.whole pairs w.go.ok is w.go.an m hm n in
          let l : listed (take j t.codes.items) (code_of vars (negated m)) ≡ true = sym (set_first (at - 1) (negated m)) ∙ s in
          let back : lit_at vars (negation (code_of vars (negated m))) ≡ m = lit_negation vars (code_of vars (negated m)) up (small (at - 1) (code_of vars (negated m)) l) ∙ ap negated (lit_code vars (negated m) up (small (at - 1) (code_of vars (negated m)) l)) ∙ negated_twice m in
          (l, w.noted.marks (code_of vars (negated m)) (more (code_of vars (negated m)) l) ∙ ap (has w.whole) back ∙ hm)

      pub walk_first : 0 < level → here' ≡ 1 → below_of (level - 1) new (negated e.lit) w.whole ≡ true
      walk_first deep one = below_from (level - 1) new (negated e.lit) w.whole (λ m hm n. (let p = other_code m hm n in
          let k = code_of vars (negated m) in
          let none = counted_none (is_here level t.levels.items epoch stamps) (take j t.codes.items) k (omega (arith, counts, one)) p.0 in
          let not_here : nat_eq (level_of t.levels.items k) level ≡ false = elim (and_cases (is_marked epoch stamps (k / 2)) (nat_eq (level_of t.levels.items k) level) none) [ inl a ↦ absurd (both_ways (is_marked epoch stamps (k / 2)) a p.1) | inr b ↦ b ] in
          let le = highest at w.whole pairs w.go k (more k p.0) in
          let less : level_of t.levels.items k ≤ level - 1 = below (level_of t.levels.items k) level le not_here deep in
          at_first (at - 1) (negated m) (level - 1) ∙ and_from _ _ p.0 (le-leb (level_of t.levels.items k) (level - 1) less)))
        where
          below : (a b : ℕ) → a ≤ b → nat_eq a b ≡ false → 0 < b → a ≤ b - 1
          below a b le f deep = elim (cases_lt a b) [ inl x ↦ omega (arith, x) | inr x ↦ absurd (both_ways (nat_eq a b) f (eq-eqb a b (omega (arith, le, x)))) ]

      pub walk_not_first : (here' ≡ 1 → ⊥) → 0 < level → below_of (level - 1) new (negated e.lit) w.whole ≡ false
      walk_not_first n deep = false_from_ne_true (below_of (level - 1) new (negated e.lit) w.whole) (λ b. wrong b (counted_some (is_here level t.levels.items epoch stamps) (take j t.codes.items) some))
        where
          some : 0 < counted (is_here level t.levels.items epoch stamps) (take j t.codes.items)
          some = elim (cases_lt 0 (counted (is_here level t.levels.items epoch stamps) (take j t.codes.items))) [ inl a ↦ a | inr b ↦ absurd (n (omega (arith, counts, b))) ]

          wrong : below_of (level - 1) new (negated e.lit) w.whole ≡ true → (k : ℕ) × (listed (take j t.codes.items) k ≡ true) × (is_here level t.levels.items epoch stamps k ≡ true) → ⊥
          wrong b (k, l, h) =
              let p = and_parts (is_marked epoch stamps (k / 2)) (nat_eq (level_of t.levels.items k) level) h in
              let lt = small (at - 1) k l in
              let m : Lit = negated (lit_at vars k) in
              let hm : Has w.whole m = ap (has w.whole) (sym (lit_negation vars k up lt)) ∙ sym (w.noted.marks k (more k l)) ∙ p.0 in
              let ne : m ≡ negated e.lit → ⊥ = λ q. not_code k l (lit_inj vars k code up lt code_small (sym (negated_twice (lit_at vars k)) ∙ ap negated q ∙ negated_twice (lit_at vars code))) in
              let s = below_all (level - 1) new (negated e.lit) w.whole b m hm ne in
              let s2 = and_parts (listed (take j t.codes.items) (code_of vars (negated m))) (nat_le (level_of t.levels.items (code_of vars (negated m))) (level - 1)) (sym (at_first (at - 1) (negated m) (level - 1)) ∙ s) in
              let k_is : code_of vars (negated m) ≡ k = ap (code_of vars) (negated_twice (lit_at vars k)) ∙ code_at vars k up lt in
              let le : level_of t.levels.items k ≤ level - 1 = subst (λ z. level_of t.levels.items z ≤ level - 1) k_is (leb-true (level_of t.levels.items (code_of vars (negated m))) (level - 1) s2.1) in
              absurd (omega (arith, le, deep, eqb-true (level_of t.levels.items k) level p.1))

      -- a decision is the first unique implication point at the latest
      pub walk_decided : (here' ≡ 1 → level ≡ 0) → e.reason ≡ None → ⊥
      walk_decided n none = going_decided known level old new e conflict w.whole pairs w.go is none (λ deep. walk_not_first (λ q. absurd (omega (arith, deep, n q))) deep)

      pub walk_reason : (r : ℕ) → e.reason ≡ Some r → r < length rows
      walk_reason r has_reason = let (c, g) = going_reason known level old new e conflict w.whole pairs w.go is r has_reason in let (row, h, q) = known_rows r c g in row_in rows r row h
        where
          row_in : (xs : List (List ℕ)) (k : ℕ) (x : List ℕ) → slice_get xs k ≡ Some x → k < length xs
          row_in [] k x h = absurd cc
          row_in (y ∷ xs) zero x h = omega arith
          row_in (y ∷ xs) (suc k) x h = let q = row_in xs k x h in omega (arith, q)

      -- the clause is resolved with the reason
      pub walk_step : (here' ≡ 1 → level ≡ 0) → (r : ℕ) → e.reason ≡ Some r → (row : List ℕ) → slice_get rows r ≡ Some row → length stamps ≡ length vars → (here2 : ℕ) → here2 + 1 ≡ here' → (p : ℕ × ℕ) → p.0 ≡ e.lit.var → p.1 ≡ r → Walking vars rows t level conflict (pairs ++ (p ∷ [])) epoch (note_stamps epoch code stamps row) (note_learnt epoch code level t.levels.items stamps learnt row) (note_here epoch code level t.levels.items stamps here2 row) (at - 1)
      walk_step n r reason row get len here2 h2 p pv pc = record {
        whole = resolved (negated e.lit) w.whole (lits_of vars row);
        go = g2;
        noted = noted_same (take j t.codes.items) t.levels.items level epoch (note_stamps epoch code stamps row) (note_learnt epoch code level t.levels.items stamps learnt row) (note_here epoch code level t.levels.items stamps here2 row) (2 * length vars) (λ z. has (without (negated e.lit) w.whole) (lit_at vars z) || (not (nat_eq z code) && listed row z)) (λ z. has (resolved (negated e.lit) w.whole (lits_of vars row)) (lit_at vars z)) both (small_not (at - 1)) (noted_all (take j t.codes.items) t.levels.items level epoch (2 * length vars) (apart (at - 1)) (one_way (at - 1)) (highest (at - 1) (resolved (negated e.lit) w.whole (lits_of vars row)) (pairs ++ (p ∷ [])) g2) (small_not (at - 1)) stamps learnt here2 code (λ z. has (without (negated e.lit) w.whole) (lit_at vars z)) row (omega (arith, len)) (λ q h. all_below_listed (2 * length vars) row (fit r row get) q h) false_row rest);
        within = omega (arith, w.within);
        above = walk_above;
      }
        where
          g2 : Going known level new conflict (resolved (negated e.lit) w.whole (lits_of vars row)) (pairs ++ (p ∷ []))
          g2 = going_step known level old new e conflict w.whole pairs w.go is r (lits_of vars row) p in_clause reason (known_get vars rows r row get) (λ deep. walk_not_first (λ q. absurd (omega (arith, deep, n q))) deep) pv pc

          lit_is : (z : ℕ) → z < 2 * length vars → lit_at vars z ≡ e.lit → z ≡ code
          lit_is z lt q = lit_inj vars z code up lt code_small q

          both : (z : ℕ) → z < 2 * length vars → (has (without (negated e.lit) w.whole) (lit_at vars z) || (not (nat_eq z code) && listed row z)) ≡ has (resolved (negated e.lit) w.whole (lits_of vars row)) (lit_at vars z)
          both z lt = sym (has_append (without (negated e.lit) w.whole) (without (negated (negated e.lit)) (lits_of vars row)) (lit_at vars z) ∙ ap (λ b. has (without (negated e.lit) w.whole) (lit_at vars z) || b) (has_without (negated (negated e.lit)) (lits_of vars row) (lit_at vars z) (nat_eq z code) (λ b. ap (lit_at vars) (eqb-true z code b) ∙ sym (negated_twice e.lit)) (λ q. eq-eqb z code (lit_is z lt (q ∙ negated_twice e.lit))) ∙ ap (λ b. not (nat_eq z code) && b) (has_row row (fit r row get) z lt)))

          false_row : (q : ℕ) → listed row q ≡ true → (q ≡ code → ⊥) → listed (take j t.codes.items) (negation q) ≡ true
          false_row q h ne =
              let lt = all_below_listed (2 * length vars) row (fit r row get) q h in
              let why : Why known new e (Some r) = subst (Why known new e) reason (last_ok known old new e w.go.ok is).1.why in
              let same_row : why.0 ≡ lits_of vars row = (let a = why.1 in let b = known_get vars rows r row get in cc) in
              let s = why.3 (lit_at vars q) (subst (λ c. Has c (lit_at vars q)) (sym same_row) (has_row row (fit r row get) q lt ∙ h)) (λ z. ne (lit_is q lt z)) in
              subst (λ z. listed (take j t.codes.items) z ≡ true) (code_negated vars (lit_at vars q) ∙ ap negation (code_at vars q up lt)) (sym (set_first (at - 1) (negated (lit_at vars q))) ∙ s)

          off : (k : ℕ) → listed (take j t.codes.items) k ≡ true → has w.whole (lit_at vars (negation k)) ≡ has (without (negated e.lit) w.whole) (lit_at vars (negation k))
          off k l = bool_same _ _ (λ h. Has-kept (negated e.lit) w.whole (lit_at vars (negation k)) h (λ q. not_code k l (sym (negation_twice k) ∙ ap negation (lit_inj vars (negation k) (negation code) up (small_not (at - 1) k l) (negation_below code (length vars) code_small) (q ∙ sym not_lit)) ∙ negation_twice code))) (λ h. (Has-without (negated e.lit) w.whole (lit_at vars (negation k)) h).0)

          rest : Noted (take j t.codes.items) t.levels.items level epoch stamps learnt here2 (2 * length vars) (λ z. has (without (negated e.lit) w.whole) (lit_at vars z))
          rest = record {
            marks = λ k l. w.noted.marks k (more k l) ∙ off k l;
            low_to = λ z h. (let q = w.noted.low_to z h in (q.0, Has-kept (negated e.lit) w.whole (lit_at vars z) q.1 (λ eq. (let z_is : z ≡ negation code = lit_inj vars z (negation code) up q.0 (negation_below code (length vars) code_small) (eq ∙ sym not_lit) in absurd (omega (arith, q.2, ap (level_of t.levels.items) z_is, ap (λ n. get_or t.levels.items n 0) (negation_half code), at_level)))), q.2));
            low_from = λ z lt h l. w.noted.low_from z lt (Has-without (negated e.lit) w.whole (lit_at vars z) h).0 l;
            falsified = λ z lt h. (let q = Has-without (negated e.lit) w.whole (lit_at vars z) h in fewer (negation z) (w.noted.falsified z lt q.0) (λ c. q.1 (ap (lit_at vars) (sym (negation_twice z) ∙ ap negation (sym c)) ∙ not_lit)));
            count = omega (arith, h2, counts);
          }

      -- the analysis is over
      pub walk_taught : 0 < level → here' ≡ 1 → (clause : List ℕ) → clause ≡ learnt ++ (negation code ∷ []) → IsTaught vars rows t level conflict clause pairs (Some (negation code)) (at - 1)
      walk_taught deep one clause c_is = subst (λ u. ToldSet known level new conflict (lits_of vars clause) pairs (Some u)) (sym not_lit) (record {
        whole = w.whole;
        told = going_learn known level old new e conflict w.whole pairs w.go is deep in_clause (walk_first deep one);
        same = record { to = to; from = from };
      })
        where
          clause_fits : AllBelow (2 * length vars) clause
          clause_fits = all_below_from (2 * length vars) clause (λ z h. elim (listed_append learnt (negation code ∷ []) z (subst (λ c. listed c z ≡ true) c_is h)) [ inl a ↦ (w.noted.low_to z a).0 | inr b ↦ subst (λ q. q < 2 * length vars) (listed_one (negation code) z b) (negation_below code (length vars) code_small) ])

          to : (m : Lit) → Has w.whole m → Has (lits_of vars clause) m
          to m hm = has_code vars clause m up clause_fits ∙ subst (λ c. listed c (code_of vars m) ≡ true) (sym c_is) (elim (lit_cases m (negated e.lit)) [
            | inl q ↦ listed_right learnt (negation code ∷ []) (code_of vars m) (or_left _ _ (eq-eqb (negation code) (code_of vars m) (sym (ap (code_of vars) q ∙ code_negated vars e.lit ∙ ap negation (code_at vars code up code_small)))))
            | inr n ↦ (let p = other_code m hm n in
                let k = code_of vars (negated m) in
                let s = below_all (level - 1) new (negated e.lit) w.whole (walk_first deep one) m hm n in
                let s2 = and_parts (listed (take j t.codes.items) k) (nat_le (level_of t.levels.items k) (level - 1)) (sym (at_first (at - 1) (negated m) (level - 1)) ∙ s) in
                let le = leb-true (level_of t.levels.items k) (level - 1) s2.1 in
                let k_is : k ≡ negation (code_of vars m) = code_negated vars m in
                let lt : code_of vars m < 2 * length vars = subst (λ z. z < 2 * length vars) (ap negation k_is ∙ negation_twice (code_of vars m)) (small_not (at - 1) k p.0) in
                let level_is : level_of t.levels.items k ≡ level_of t.levels.items (code_of vars m) = ap (level_of t.levels.items) k_is ∙ ap (λ n. get_or t.levels.items n 0) (negation_half (code_of vars m)) in
                listed_left learnt (negation code ∷ []) (code_of vars m) (w.noted.low_from (code_of vars m) lt (ap (has w.whole) (lit_code vars m up lt) ∙ hm) (omega (arith, le, level_is, deep))))
          ])

          from : (m : Lit) → Has (lits_of vars clause) m → Has w.whole m
          from m hm = elim (listed_append learnt (negation code ∷ []) (code_of vars m) (subst (λ c. listed c (code_of vars m) ≡ true) c_is (sym (has_code vars clause m up clause_fits) ∙ hm))) [
            | inl a ↦ (let q = w.noted.low_to (code_of vars m) a in ap (has w.whole) (sym (lit_code vars m up q.0)) ∙ q.1)
            | inr b ↦ (let c_m : negation code ≡ code_of vars m = listed_one (negation code) (code_of vars m) b in
                let lt : code_of vars m < 2 * length vars = subst (λ z. z < 2 * length vars) c_m (negation_below code (length vars) code_small) in
                ap (has w.whole) (sym (lit_code vars m up lt) ∙ sym (ap (lit_at vars) c_m) ∙ not_lit) ∙ in_clause)
          ]

      -- what is below the current level can be minimized
      pub walk_minimizing : 0 < level → here' ≡ 1 → 0 < epoch → (clause : List ℕ) → clause ≡ learnt ++ (negation code ∷ []) → AllBelow (2 * length vars) clause → Minimizing vars rows t (negation code) (at - 1) epoch stamps clause pairs
      walk_minimizing deep one some clause c_is fits = record {
        ok = (going_learn known level old new e conflict w.whole pairs w.go is deep in_clause (walk_first deep one)).ok;
        some = some;
        there = λ k l m. subst (λ c. listed c (negation k) ≡ true) (sym c_is) (listed_left learnt (negation code ∷ []) (negation k) (w.noted.low_from (negation k) (small_not (at - 1) k l) (sym (w.noted.marks k (more k l)) ∙ m) (lower k l m)));
        away = λ k l m. w.go.an.away (lit_at vars k) (set_first at (lit_at vars k) ∙ ap (listed (take at t.codes.items)) (code_at vars k up (small (at - 1) k l)) ∙ more k l);
        falsified = λ z h ne. elim (listed_append learnt (negation code ∷ []) z (subst (λ c. listed c z ≡ true) c_is h)) [
          | inl a ↦ (let q = w.noted.low_to z a in fewer (negation z) (w.noted.falsified z q.0 q.1) (λ c. ne (sym (negation_twice z) ∙ ap negation (sym c))))
          | inr b ↦ absurd (ne (sym (listed_one (negation code) z b)))
        ];
        apart = λ k l q. not_code k l (q ∙ negation_twice code);
        within = omega (arith, w.within);
        small = fits;
      }
        where
          below : (a b : ℕ) → a ≤ b → nat_eq a b ≡ false → a < b
          below a b le f = elim (cases_lt a b) [ inl x ↦ x | inr x ↦ absurd (both_ways (nat_eq a b) f (eq-eqb a b (omega (arith, le, x)))) ]

          lower : (k : ℕ) → listed (take j t.codes.items) k ≡ true → is_marked epoch stamps (k / 2) ≡ true → level_of t.levels.items (negation k) < level
          lower k l m =
              let none = counted_none (is_here level t.levels.items epoch stamps) (take j t.codes.items) k (omega (arith, counts, one)) l in
              let not_here : nat_eq (level_of t.levels.items k) level ≡ false = elim (and_cases (is_marked epoch stamps (k / 2)) (nat_eq (level_of t.levels.items k) level) none) [ inl a ↦ absurd (both_ways (is_marked epoch stamps (k / 2)) a m) | inr b ↦ b ] in
              let lt = below (level_of t.levels.items k) level (highest at w.whole pairs w.go k (more k l)) not_here in
              omega (arith, lt, ap (λ n. get_or t.levels.items n 0) (negation_half k))

      pub walk_marked : (clause : List ℕ) → clause ≡ learnt ++ (negation code ∷ []) → kept epoch stamps clause ≡ clause
      walk_marked clause c_is = kept_all epoch stamps clause (λ z h. elim (listed_append learnt (negation code ∷ []) z (subst (λ c. listed c z ≡ true) c_is h)) [
        | inl a ↦ (let q = w.noted.low_to z a in sym (ap (is_marked epoch stamps) (negation_half z)) ∙ w.noted.marks (negation z) (w.noted.falsified z q.0 q.1) ∙ ap (λ n. has w.whole (lit_at vars n)) (negation_twice z) ∙ q.1)
        | inr b ↦ (let z_is : negation code ≡ z = listed_one (negation code) z b in ap (λ n. is_marked epoch stamps (n / 2)) (sym z_is) ∙ ap (is_marked epoch stamps) (negation_half code) ∙ marked)
      ])

  -- nothing of the trail is left
  pub walk_end : (pairs : List (ℕ × ℕ)) (epoch : ℕ) (stamps learnt : List ℕ) (here' at : ℕ) → at ≤ 0 → Walking vars rows t level conflict pairs epoch stamps learnt here' at → IsTaught vars rows t level conflict learnt pairs None 0
  walk_end pairs epoch stamps learnt here' at none w =
      let z : at ≡ 0 = omega (arith, none) in
      let g : Going known level [] conflict w.whole pairs = subst (λ n. Going known level (first_entries vars t n) conflict w.whole pairs) z w.go in
      let told = going_end known level [] conflict w.whole pairs g refl in
      record {
        whole = w.whole;
        told = told;
        same = record {
          to = λ m h. absurd (both_ways false refl (subst (λ c. Has c m) told.uip.1 h));
          from = λ m h. absurd (nothing m h);
        };
      }
    where
      fits : AllBelow (2 * length vars) learnt
      fits = all_below_from (2 * length vars) learnt (λ z h. (w.noted.low_to z h).0)

      nothing : (m : Lit) → Has (lits_of vars learnt) m → ⊥
      nothing m h =
          let l : listed learnt (code_of vars m) ≡ true = sym (has_code vars learnt m up fits) ∙ h in
          let q = w.noted.low_to (code_of vars m) l in
          both_ways false refl (subst (λ n. listed (take n t.codes.items) (negation (code_of vars m)) ≡ true) (let z : at ≡ 0 = omega (arith, none) in z) (w.noted.falsified (code_of vars m) q.0 q.1))
