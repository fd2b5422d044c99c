-- Decisions, and the end of propagation.
use Rattle.std.proofs.Common.{◌≡◌, ℕ, ◌+◌, ◌-◌, ◌*◌, ◌/◌, ◌%◌, ◌<◌, ◌≤◌, Bool, true, false, cond, ◌&&◌, ◌||◌, List, [], ◌∷◌, ◌++◌, Option, Some, None, slice_get, zero, suc, ◌⊎◌, inl, inr, refl, sym, ap, ◌∙◌, subst, arith, nat_eq, length, get_or, set, take, drop, length-set, length-append}
use Rattle.std.proofs.lemmas.Bool.{cases_Bool, both_ways, eqb-true, eq-eqb, ne_eqb, false_from_ne_true}
use Rattle.std.proofs.lemmas.List.{take_all, drop-append-le}
use Rattle.prop.specs.declared.Lit.{Lit}
use Rattle.prop.specs.Logic.{negated}
use Rattle.prop.specs.Trues.{listed}
use Rattle.prop.specs.Steps.{has, Has, In}
use Rattle.prop.proofs.Sets.{lit_cases, Has-head, Has-tail, Has-cons}
use Rattle.resolution_log.specs.Codes.{code_of, AllBelow}
use Rattle.resolution_log.specs.Propagation.{Closed}
use Rattle.resolution_log.proofs.MarkLaws.{all_below_from}
use Rattle.clause_learning.specs.declared.Entry.{Entry}
use Rattle.clause_learning.specs.Trail.{set_in, Set, Holds}
use Rattle.clause_learning.specs.Covers.{RisesFrom, last_level}
use Rattle.clause_learning.proofs.JumpLaws.{holds_decide}
use Rattle.clause_learning.proofs.StoreLaws.{rises_push, last_push}
use Rattle.dense_trail.specs.declared.Trail.{Trail}
use Rattle.dense_trail.specs.Dense.{negation, is_true, level_of, Quiet, lit_at, lits_of, known_of, entries_of}
use Rattle.dense_trail.proofs.CodeLaws.{negation_half, negation_twice, negation_below, half_below, code_at, lit_code, code_negated}
use Rattle.dense_trail.proofs.ValueLaws.{listed_last}
use Rattle.dense_trail.proofs.EntryLaws.{has_code}
use Rattle.watched_clauses.specs.declared.looking.Watch.{Watch}
use Rattle.watched_clauses.specs.Judge.{first_of, second_of}
use Rattle.watched_clauses.specs.Watching.{lists_in, waits_in, Excused, Watched, Watching, Linked}
use Rattle.watched_clauses.specs.Kept.{KeepsWatch, IsLinked}
use Rattle.watched_clauses.proofs.WatchLaws.{excused_cases}
use Rattle.watched_clauses.proofs.QueueLaws.{linked_is, linked_set, linked_free, linked_free_not, watching_push, watching_every, row_has}
use Rattle.cdcl_solver.specs.Stops.{trail_entries}

-- what a slice that was lent leaves
pub lent_back : (n : ℕ) (new old : List Watch) → length new ≡ length old → n ≡ length old → take n (new ++ drop (length new) old) ≡ new
lent_back n new old e f = take_front new (drop (length new) old) n (omega (arith, e, f))
  where
    take_front : (xs ys : List Watch) (n : ℕ) → n ≡ length xs → take n (xs ++ ys) ≡ xs
    take_front [] ys zero h = refl
    take_front [] ys (suc n) h = absurd (omega (arith, h))
    take_front (x ∷ xs) ys zero h = absurd (omega (arith, h))
    take_front (x ∷ xs) ys (suc n) h = ap (λ w. x ∷ w) (take_front xs ys n (omega (arith, h)))

-- nothing waits
pub drop_end : (xs : List ℕ) (n : ℕ) → length xs ≤ n → drop n xs ≡ []
drop_end [] zero e = refl
drop_end [] (suc n) e = refl
drop_end (x ∷ xs) zero e = absurd (omega (arith, e))
drop_end (x ∷ xs) (suc n) e = drop_end xs n (omega (arith, e))

known_row : (vars : List ℕ) (rows : List (List ℕ)) (c : List Lit) → In (known_of vars rows) c → (k : ℕ) × (r : List ℕ) × (slice_get rows k ≡ Some r) × (c ≡ lits_of vars r)
known_row vars [] c h = absurd h
known_row vars (x ∷ rows) c h = elim h [ inl e ↦ (0, x, refl, e) | inr t ↦ (let (k, r, g, q) = known_row vars rows c t in (suc k, r, g, q)) ]

module _ (vars : List ℕ) (rows : List (List ℕ)) (watches : List Watch) (lists : List (List ℕ)) (t : Trail) (level head : ℕ) (kept : KeepsWatch rows watches lists t level head) (done : length t.codes.items ≤ head) (l : IsLinked vars rows level t) where
  abbrev entries : List Entry
  entries = trail_entries vars t

  set_of : (m : Lit) → set_in entries m ≡ is_true t.truth.items (code_of vars m)
  set_of m = linked_set vars rows level t.codes.items t.levels.items t.reasons.items t.truth.items l t.valued t.wide m

  has_of : (k : ℕ) (r : List ℕ) (m : Lit) → slice_get rows k ≡ Some r → has (lits_of vars r) m ≡ listed r (code_of vars m)
  has_of k r m g = row_has vars rows level t.codes.items t.levels.items t.reasons.items t.truth.items l t.valued t.wide t.long kept.below k r m g

  no_queue : drop head t.codes.items ≡ []
  no_queue = drop_end t.codes.items head done

  -- an excuse is that the other one is true
  excuse : (k x y : ℕ) → Excused (waits_in (drop head t.codes.items)) t.truth.items t.levels.items k x y → is_true t.truth.items (negation x) ≡ true → is_true t.truth.items y ≡ true
  excuse k x y e f = elim (excused_cases (waits_in (drop head t.codes.items)) t.truth.items t.levels.items k x y e f) [ inl w ↦ absurd (both_ways false refl (subst (λ z. listed z (negation x) ≡ true) no_queue w)) | inr h ↦ h.0 ]

  -- all literals but one are false, and it is true then
  closed_row : (k : ℕ) (r : List ℕ) → slice_get rows k ≡ Some r → (c : ℕ) → listed r c ≡ true → ((z : ℕ) → listed r z ≡ true → (z ≡ c → ⊥) → is_true t.truth.items (negation z) ≡ true) → is_true t.truth.items c ≡ true
  closed_row k r g c hc others = elim (cases_Bool (nat_eq (first_of watches k) (second_of watches k))) [
    | inl one ↦ (let a = kept.one k r g one in subst (λ z. is_true t.truth.items z ≡ true) (sym (a.only c hc)) a.holds)
    | inr two ↦ (let w = kept.two k r g two in
        let f = first_of watches k in
        let s = second_of watches k in
        elim (cases_Bool (nat_eq f c)) [
          | inl a ↦ (let s_not : s ≡ c → ⊥ = λ e. both_ways (nat_eq f s) two (eq-eqb f s (eqb-true f c a ∙ sym e)) in subst (λ z. is_true t.truth.items z ≡ true) (eqb-true f c a) (excuse k s f w.second (others s w.in_second s_not)))
          | inr b ↦ (let f_not : f ≡ c → ⊥ = λ e. both_ways (nat_eq f c) b (eq-eqb f c e) in
              let s_true = excuse k f s w.first (others f w.in_first f_not) in
              elim (cases_Bool (nat_eq s c)) [
                | inl d ↦ subst (λ z. is_true t.truth.items z ≡ true) (eqb-true s c d) s_true
                | inr d ↦ absurd (both_ways (is_true t.truth.items (negation s)) (t.quiet s s_true) (others s w.in_second (λ e. both_ways (nat_eq s c) d (eq-eqb s c e))))
              ])
        ])
  ]

  pub all_closed : Closed (known_of vars rows) (Set entries)
  all_closed c m hc hm others =
      let (k, r, g, q) = known_row vars rows c hc in
      let hr : listed r (code_of vars m) ≡ true = sym (has_of k r m g) ∙ subst (λ z. Has z m) q hm in
      set_of m ∙ closed_row k r g (code_of vars m) hr (λ z hz n. (let lt : z < 2 * length vars = (let b = kept.below k r z g hz in omega (arith, b, t.wide, l.wide)) in
      let z_is = code_at vars z l.up lt in
      let hz2 : Has c (lit_at vars z) = subst (λ w. Has w (lit_at vars z)) (sym q) (has_of k r (lit_at vars z) g ∙ ap (listed r) z_is ∙ hz) in
      let s = others (lit_at vars z) hz2 (λ e. n (sym z_is ∙ ap (code_of vars) e)) in
      ap (is_true t.truth.items) (sym (code_negated vars (lit_at vars z) ∙ ap negation z_is)) ∙ sym (set_of (negated (lit_at vars z))) ∙ s))

  -- all variables have a value, so a clause without a true literal is empty
  pub all_met : ((n : ℕ) → n < length t.levels.items → is_true t.truth.items (2 * n) ≡ false → is_true t.truth.items (2 * n + 1) ≡ true) → (c : List Lit) → In (known_of vars rows) c → ((m : Lit) → Has c m → Set entries m → ⊥) → c ≡ []
  all_met full c hc none = go c hc none
    where
      valued : (k : ℕ) (r : List ℕ) (z : ℕ) → slice_get rows k ≡ Some r → listed r z ≡ true → is_true t.truth.items z ≡ false → is_true t.truth.items (negation z) ≡ true
      valued k r z g hz f = elim (parity z) [
        | inl a ↦ (let at : negation z ≡ z + 1 = even z a in
            let lt = kept.below k r z g hz in
            let h : z / 2 < length t.levels.items = half_below z (length t.levels.items) (omega (arith, lt, t.wide)) in
            let zz : z ≡ 2 * (z / 2) = omega (arith, a) in
            subst (λ w. is_true t.truth.items w ≡ true) (omega (arith, at, zz)) (full (z / 2) h (subst (λ w. is_true t.truth.items w ≡ false) zz f)))
        | inr b ↦ (let at : negation z ≡ z - 1 = odd z b in
            let lt = kept.below k r z g hz in
            let h : z / 2 < length t.levels.items = half_below z (length t.levels.items) (omega (arith, lt, t.wide)) in
            let zz : z ≡ 2 * (z / 2) + 1 = omega (arith, b) in
            let down : 2 * (z / 2) ≡ negation z = omega (arith, at, zz) in
            subst (λ w. is_true t.truth.items w ≡ true) down (elim (cases_Bool (is_true t.truth.items (2 * (z / 2)))) [ inl y ↦ y | inr n ↦ absurd (both_ways (is_true t.truth.items (2 * (z / 2) + 1)) (subst (λ w. is_true t.truth.items w ≡ false) zz f) (full (z / 2) h n)) ]))
      ]
        where
          parity : (z : ℕ) → (z % 2 ≡ 0) ⊎ (z % 2 ≡ 1)
          parity z = grind arith

          even : (k : ℕ) → k % 2 ≡ 0 → negation k ≡ k + 1
          even k h = ap (λ b. cond b (k + 1) (k - 1)) (eq-eqb (k % 2) 0 h)

          odd : (k : ℕ) → k % 2 ≡ 1 → negation k ≡ k - 1
          odd k h = ap (λ b. cond b (k + 1) (k - 1)) (ne_eqb (k % 2) 0 (λ e. absurd (omega (arith, e, h))))

      false_lit : (c : List Lit) → In (known_of vars rows) c → ((m : Lit) → Has c m → Set entries m → ⊥) → (m : Lit) → Has c m → Set entries (negated m)
      false_lit c hc none m hm =
          let (k, r, g, q) = known_row vars rows c hc in
          let hr : listed r (code_of vars m) ≡ true = sym (has_of k r m g) ∙ subst (λ z. Has z m) q hm in
          set_of (negated m) ∙ ap (is_true t.truth.items) (code_negated vars m) ∙ valued k r (code_of vars m) g hr (false_from_ne_true (is_true t.truth.items (code_of vars m)) (λ h. none m hm (set_of m ∙ h)))

      go : (c : List Lit) → In (known_of vars rows) c → ((m : Lit) → Has c m → Set entries m → ⊥) → c ≡ []
      go [] hc none = refl
      go (m ∷ c) hc none = absurd (none m (Has-head m c) (all_closed (m ∷ c) m hc (Has-head m c) (λ x hx n. false_lit (m ∷ c) hc none x hx)))

  module _ (c : ℕ) (lt : c < length t.truth.items) (free : is_true t.truth.items c ≡ false) (free_not : is_true t.truth.items (negation c) ≡ false) (t2 : Trail) (codes_is : t2.codes.items ≡ t.codes.items ++ (c ∷ [])) (truth_is : t2.truth.items ≡ set t.truth.items c true) (levels_is : t2.levels.items ≡ set t.levels.items (c / 2) (level + 1)) (reasons_is : t2.reasons.items ≡ set t.reasons.items (c / 2) None) where
    half : c / 2 < length t.levels.items
    half = half_below c (length t.levels.items) (omega (arith, lt, t.wide))

    pub decide_linked : IsLinked vars rows (level + 1) t2
    decide_linked =
        let e : Entry = record { lit = lit_at vars c; level = level + 1; reason = None } in
        let is = linked_is vars t.levels.items t.codes.items t.reasons.items t.truth.items c (level + 1) None t.valued half t.long free free_not in
        let f = linked_free vars rows level t.codes.items t.levels.items t.reasons.items t.truth.items l t.valued t.wide c lt free in
        let fn = linked_free_not vars rows level t.codes.items t.levels.items t.reasons.items t.truth.items l t.valued t.wide c lt free_not in
        let h = holds_decide (known_of vars rows) level entries e l.holds all_closed refl refl f fn in
        let made : Linked vars rows (level + 1) (t.codes.items ++ (c ∷ [])) (set t.levels.items (c / 2) (level + 1)) (set t.reasons.items (c / 2) None) = record {
          up = l.up;
          wide = length-set t.levels.items (c / 2) (level + 1) ∙ l.wide;
          holds = subst (Holds (known_of vars rows) (level + 1)) (sym is) h;
          rises = subst (RisesFrom 0) (sym is) (rises_push 0 entries e (omega (arith, l.last)) (omega (arith, l.last)) l.rises);
          last = ap (last_level 0) is ∙ last_push 0 entries e;
        } in
        let r1 = subst (λ w. Linked vars rows (level + 1) w (set t.levels.items (c / 2) (level + 1)) (set t.reasons.items (c / 2) None)) (sym codes_is) made in
        let r2 = subst (λ w. Linked vars rows (level + 1) t2.codes.items w (set t.reasons.items (c / 2) None)) (sym levels_is) r1 in
        subst (λ w. Linked vars rows (level + 1) t2.codes.items t2.levels.items w) (sym reasons_is) r2

-- a decision keeps what is watched
module _ (rows : List (List ℕ)) (watches : List Watch) (lists : List (List ℕ)) (t : Trail) (level head : ℕ) (kept : KeepsWatch rows watches lists t level head) (done : length t.codes.items ≤ head) (within : head ≤ length t.codes.items) (c : ℕ) (lt : c < length t.truth.items) (free : is_true t.truth.items c ≡ false) (free_not : is_true t.truth.items (negation c) ≡ false) (t2 : Trail) (codes_is : t2.codes.items ≡ t.codes.items ++ (c ∷ [])) (truth_is : t2.truth.items ≡ set t.truth.items c true) (levels_is : t2.levels.items ≡ set t.levels.items (c / 2) (level + 1)) where
  none_waits : drop head t.codes.items ≡ []
  none_waits = drop_end t.codes.items head done

  -- the same at the next level, where nothing waits
  raised : Watching rows watches (lists_in lists) (waits_in []) t.truth.items t.levels.items (level + 1) []
  raised =
      let s = subst (λ w. Watching rows watches (lists_in lists) (waits_in w) t.truth.items t.levels.items level w) none_waits kept in
      record {
        paired = s.paired;
        below = s.below;
        firsts = s.firsts;
        seconds = s.seconds;
        numbers = s.numbers;
        pairs = s.pairs;
        two = s.two;
        one = s.one;
        top = λ z h. (let q = s.top z h in omega (arith, q));
        queued = λ z h. absurd (both_ways false refl h);
      }

  queue_is : drop head t2.codes.items ≡ [] ++ (c ∷ [])
  queue_is = ap (drop head) codes_is ∙ drop-append-le head t.codes.items (c ∷ []) within ∙ ap (λ w. w ++ (c ∷ [])) none_waits

  pub decide_kept : KeepsWatch rows watches lists t2 (level + 1) head
  decide_kept =
      let made = watching_push rows watches (lists_in lists) (waits_in []) (waits_in ([] ++ (c ∷ []))) t.truth.items t.levels.items (level + 1) [] c lt (half_below c (length t.levels.items) (omega (arith, lt, t.wide))) free free_not (λ z h. absurd (both_ways false refl h)) (λ x k h. absurd (both_ways false refl h)) (λ x k e. subst (λ w. listed (c ∷ []) w ≡ true) (sym e) (listed_last [] c)) raised in
      let s1 = subst (λ w. Watching rows watches (lists_in lists) (waits_in w) (set t.truth.items c true) (set t.levels.items (c / 2) (level + 1)) (level + 1) w) (sym queue_is) made in
      let s2 = subst (λ w. Watching rows watches (lists_in lists) (waits_in (drop head t2.codes.items)) w (set t.levels.items (c / 2) (level + 1)) (level + 1) (drop head t2.codes.items)) (sym truth_is) s1 in
      subst (λ w. Watching rows watches (lists_in lists) (waits_in (drop head t2.codes.items)) t2.truth.items w (level + 1) (drop head t2.codes.items)) (sym levels_is) s2

pub odd_negation : (n : ℕ) → negation (2 * n + 1) ≡ 2 * n
odd_negation n = let r : (2 * n + 1) % 2 ≡ 1 = omega arith in ap (λ b. cond b ((2 * n + 1) + 1) ((2 * n + 1) - 1)) (ne_eqb ((2 * n + 1) % 2) 0 (λ e. absurd (omega (arith, e, r)))) ∙ omega arith
