-- The search goes back, and what it leaves behind.
use Rattle.std.proofs.Common.{◌≡◌, ℕ, ◌+◌, ◌-◌, ◌*◌, ◌/◌, ◌<◌, ◌≤◌, Bool, true, false, ◌&&◌, List, [], ◌∷◌, Option, Some, None, zero, suc, ◌⊎◌, inl, inr, refl, sym, ap, ◌∙◌, subst, arith, nat_eq, nat_le, length, drop}
use Rattle.std.proofs.lemmas.Bool.{both_ways, and_parts, and_from, le-leb, leb-true}
use Rattle.prop.specs.declared.Lit.{Lit}
use Rattle.prop.specs.Trues.{listed}
use Rattle.prop.specs.Steps.{Has}
use Rattle.resolution_log.specs.Codes.{code_of}
use Rattle.resolution_log.specs.declared.Chain.{Chain}
use Rattle.clause_learning.specs.declared.Entry.{Entry}
use Rattle.clause_learning.specs.Trail.{set_in, Set, set_at, SetAt, Back, Holds}
use Rattle.clause_learning.specs.Covers.{RisesFrom, last_level}
use Rattle.clause_learning.specs.Solve.{State}
use Rattle.clause_learning.proofs.TrailLaws.{Set-at}
use Rattle.clause_learning.proofs.JumpLaws.{back_start}
use Rattle.dense_trail.specs.declared.Trail.{Trail}
use Rattle.dense_trail.specs.Dense.{negation, is_true, level_of, lit_at, known_of, entries_of}
use Rattle.dense_trail.proofs.CodeLaws.{code_at}
use Rattle.dense_trail.proofs.ValueLaws.{true_below}
use Rattle.dense_trail.proofs.EntryLaws.{set_code, at_code}
use Rattle.watched_clauses.specs.declared.looking.Watch.{Watch}
use Rattle.watched_clauses.specs.Judge.{first_of, second_of}
use Rattle.watched_clauses.specs.Watching.{lists_in, waits_in, Excused, Watched, Alone, Watching, Linked}
use Rattle.watched_clauses.specs.Kept.{KeepsWatch, IsLinked}
use Rattle.watched_clauses.proofs.WatchLaws.{excused_cases, excused_true}
use Rattle.watched_clauses.proofs.QueueLaws.{level_negation}
use Rattle.cdcl_solver.specs.Stops.{trail_entries}
use Rattle.cdcl_solver.specs.Search.{Rests}
use Rattle.cdcl_solver.proofs.DecideLaws.{drop_end}

-- going back to a level that nothing in the queue is of
module _ (rows : List (List ℕ)) (watches : List Watch) (L : ℕ → ℕ → Bool) (truth truth2 : List Bool) (levels queue : List ℕ) (level low : ℕ) (lt : low < level) (wide : length truth2 ≡ length truth) (to : (z : ℕ) → is_true truth2 z ≡ true → (is_true truth z ≡ true) × (level_of levels z ≤ low)) (from : (z : ℕ) → is_true truth z ≡ true → level_of levels z ≤ low → is_true truth2 z ≡ true) where
  excuse_back : (k x y : ℕ) → ((z : ℕ) → listed queue z ≡ true → level_of levels z ≡ level) → Excused (waits_in queue) truth levels k x y → Excused (waits_in []) truth2 levels k x y
  excuse_back k x y queued e f =
      let p = to (negation x) f in
      let same' = level_negation levels x in
      elim (excused_cases (waits_in queue) truth levels k x y e p.0) [
        | inl w ↦ (let q = queued (negation x) w in absurd (omega (arith, q, p.1, lt)))
        | inr t ↦ excused_true (waits_in []) truth2 levels k x y (from y t.0 (omega (arith, t.1, p.1, same'))) t.1 f
      ]

  pub watching_back : Watching rows watches L (waits_in queue) truth levels level queue → Watching rows watches L (waits_in []) truth2 levels low []
  watching_back s = record {
    paired = s.paired;
    below = λ k r z g h. (let b = s.below k r z g h in omega (arith, b, wide));
    firsts = λ k h. (let b = s.firsts k h in omega (arith, b, wide));
    seconds = λ k h. (let b = s.seconds k h in omega (arith, b, wide));
    numbers = s.numbers;
    pairs = s.pairs;
    two = λ k r g n. (let w = s.two k r g n in record {
      in_first = w.in_first;
      in_second = w.in_second;
      at_first = w.at_first;
      at_second = w.at_second;
      first = excuse_back k (first_of watches k) (second_of watches k) s.queued w.first;
      second = excuse_back k (second_of watches k) (first_of watches k) s.queued w.second;
    });
    one = λ k r g n. (let o = s.one k r g n in record { only = o.only; holds = from (first_of watches k) o.holds (omega (arith, o.low)); low = o.low });
    top = λ z h. (to z h).1;
    queued = λ z h. absurd (both_ways false refl h);
  }

module _ (vars : List ℕ) (rows : List (List ℕ)) (t : Trail) (level : ℕ) (l : IsLinked vars rows level t) (low : ℕ) (lower : low < level) (t2 : Trail) (back : (vars : List ℕ) (known : List (List Lit)) → Back known low (trail_entries vars t) (trail_entries vars t) → Back known low (trail_entries vars t) (trail_entries vars t2) × ((m : Lit) → Set (trail_entries vars t2) m → SetAt low (trail_entries vars t2) m)) (rises : (vars : List ℕ) → RisesFrom 0 (trail_entries vars t) → low ≤ last_level 0 (trail_entries vars t) → RisesFrom 0 (trail_entries vars t2) × (last_level 0 (trail_entries vars t2) ≡ low)) (levels_is : t2.levels.items ≡ t.levels.items) where
  pub gone_back : Back (known_of vars rows) low (trail_entries vars t) (trail_entries vars t2) × ((m : Lit) → Set (trail_entries vars t2) m → SetAt low (trail_entries vars t2) m)
  gone_back = back vars (known_of vars rows) (back_start (known_of vars rows) low level (trail_entries vars t) (omega (arith, lower)) l.holds.ok l.holds.low)

  was_wide : length t.truth.items ≡ 2 * length vars
  was_wide = omega (arith, t.wide, l.wide)

  pub gone_wide : length t2.truth.items ≡ 2 * length vars
  gone_wide = omega (arith, t2.wide, ap length levels_is, l.wide)

  pub gone_set : (m : Lit) → set_in (trail_entries vars t2) m ≡ is_true t2.truth.items (code_of vars m)
  gone_set m = set_code vars t2.levels.items t2.codes.items t2.reasons.items t2.truth.items l.up gone_wide t2.valued m

  pub gone_at : (m : Lit) (n : ℕ) → set_at n (trail_entries vars t2) m ≡ (is_true t2.truth.items (code_of vars m) && nat_le (level_of t.levels.items (code_of vars m)) n)
  gone_at m n = at_code vars t2.levels.items t2.codes.items t2.reasons.items t2.truth.items l.up gone_wide t2.valued m n ∙ ap (λ w. is_true t2.truth.items (code_of vars m) && nat_le (level_of w (code_of vars m)) n) levels_is

  pub gone_old : (m : Lit) (n : ℕ) → set_at n (trail_entries vars t) m ≡ (is_true t.truth.items (code_of vars m) && nat_le (level_of t.levels.items (code_of vars m)) n)
  gone_old m n = at_code vars t.levels.items t.codes.items t.reasons.items t.truth.items l.up was_wide t.valued m n

  -- what is still true
  pub gone_still : (z : ℕ) → is_true t2.truth.items z ≡ true → (is_true t.truth.items z ≡ true) × (level_of t.levels.items z ≤ low)
  gone_still z h =
      let lt = true_below t2.truth.items z h in
      let z_is = code_at vars z l.up (omega (arith, lt, gone_wide)) in
      let s = gone_back.1 (lit_at vars z) (gone_set (lit_at vars z) ∙ ap (is_true t2.truth.items) z_is ∙ h) in
      let o = gone_back.0.fewer_at low (lit_at vars z) s in
      let p = and_parts (is_true t.truth.items (code_of vars (lit_at vars z))) (nat_le (level_of t.levels.items (code_of vars (lit_at vars z))) low) (sym (gone_old (lit_at vars z) low) ∙ o) in
      (subst (λ c. is_true t.truth.items c ≡ true) z_is p.0, subst (λ c. level_of t.levels.items c ≤ low) z_is (leb-true (level_of t.levels.items (code_of vars (lit_at vars z))) low p.1))

  pub gone_stays : (z : ℕ) → is_true t.truth.items z ≡ true → level_of t.levels.items z ≤ low → is_true t2.truth.items z ≡ true
  gone_stays z h le =
      let lt = true_below t.truth.items z h in
      let z_is = code_at vars z l.up (omega (arith, lt, was_wide)) in
      let o : SetAt low (trail_entries vars t) (lit_at vars z) = gone_old (lit_at vars z) low ∙ and_from _ _ (ap (is_true t.truth.items) z_is ∙ h) (le-leb (level_of t.levels.items (code_of vars (lit_at vars z))) low (subst (λ c. level_of t.levels.items c ≤ low) (sym z_is) le)) in
      let s = gone_back.0.keeps low (lit_at vars z) (omega arith) o in
      ap (is_true t2.truth.items) (sym z_is) ∙ sym (gone_set (lit_at vars z)) ∙ Set-at low (trail_entries vars t2) (lit_at vars z) s

  gone_rises : RisesFrom 0 (trail_entries vars t2) × (last_level 0 (trail_entries vars t2) ≡ low)
  gone_rises = rises vars l.rises (omega (arith, lower, l.last))

  pub gone_linked : IsLinked vars rows low t2
  gone_linked = record {
    up = l.up;
    wide = ap length levels_is ∙ l.wide;
    holds = record { ok = gone_back.0.ok; low = gone_back.0.low_closed; all = gone_back.1 };
    rises = gone_rises.0;
    last = gone_rises.1;
  }

  -- nothing waits
  pub gone_kept : (watches : List Watch) (lists : List (List ℕ)) (head head2 : ℕ) → length t2.codes.items ≤ head2 → KeepsWatch rows watches lists t level head → KeepsWatch rows watches lists t2 low head2
  gone_kept watches lists head head2 none kept =
      let made = watching_back rows watches (lists_in lists) t.truth.items t2.truth.items t.levels.items (drop head t.codes.items) level low lower (omega (arith, was_wide, gone_wide)) gone_still gone_stays kept in
      let s1 = subst (λ w. Watching rows watches (lists_in lists) (waits_in []) t2.truth.items w low []) (sym levels_is) made in
      subst (λ q. Watching rows watches (lists_in lists) (waits_in q) t2.truth.items t2.levels.items low q) (sym (drop_end t2.codes.items head2 none)) s1

-- the laws hold of the trail that is left
pub rests_at : (clauses : List (List Lit)) (vars : List ℕ) (rows rows2 : List (List ℕ)) (level level2 : ℕ) (t t2 : Trail) (log : List Chain) → rows2 ≡ rows → IsLinked vars rows2 level2 t2 → Rests clauses vars rows level t log → Rests clauses vars rows2 level2 t2 log
rests_at clauses vars rows rows2 level level2 t t2 log is l r =
    let l2 : IsLinked vars rows level2 t2 = subst (λ w. IsLinked vars w level2 t2) is l in
    let at : Rests clauses vars rows level2 t2 log = record {
      state = record { results = r.state.results; parts = r.state.parts; new = r.state.new; holds = l2.holds; some = r.state.some };
      linked = l2;
      fit = r.fit;
    } in
    subst (λ w. Rests clauses vars w level2 t2 log) (sym is) at
