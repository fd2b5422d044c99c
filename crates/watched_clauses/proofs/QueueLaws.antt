-- The queue: how a literal's list is begun and ended, and how a new true literal joins.
use Rattle.std.proofs.Common.{◌≡◌, ℕ, ◌+◌, ◌-◌, ◌*◌, ◌/◌, ◌<◌, ◌≤◌, Bool, true, false, cond, not, ◌&&◌, ◌||◌, List, [], ◌∷◌, ◌++◌, Option, Some, None, zero, suc, ◌⊎◌, inl, inr, refl, sym, ap, ◌∙◌, subst, arith, nat_eq, nat_le, length, get_or, set, take, drop, slice_get, length-set, get_or-set_same, get_or-set_other, drop-cons}
use Rattle.std.proofs.lemmas.Bool.{cases_Bool, both_ways, eqb-true, eq-eqb, ne_eqb, false_from_ne_true, or_cases, or_left, or_right, and_parts, and_from, cases_eq, cases_lt, le-leb, leb-true}
use Rattle.std.proofs.lemmas.List.{take_all, drop-append-le, get_or_past}
use Rattle.prop.specs.declared.Lit.{Lit}
use Rattle.prop.specs.Logic.{negated}
use Rattle.prop.specs.Trues.{listed}
use Rattle.prop.specs.Steps.{has, Has}
use Rattle.resolution_log.specs.Codes.{code_of, AllBelow}
use Rattle.resolution_log.proofs.MarkLaws.{all_below_from}
use Rattle.clause_learning.specs.declared.Entry.{Entry}
use Rattle.clause_learning.specs.Trail.{set_in, Set, SetAt, Why, Holds}
use Rattle.clause_learning.specs.Covers.{RisesFrom, last_level}
use Rattle.clause_learning.proofs.JumpLaws.{holds_push}
use Rattle.clause_learning.proofs.StoreLaws.{rises_push, last_push}
use Rattle.dense_trail.specs.Dense.{negation, is_true, level_of, Quiet, Valued, lit_at, lits_of, known_of, entry_at, entries_of}
use Rattle.dense_trail.proofs.CodeLaws.{negation_half, negation_twice, negation_ne, negation_swap, same_half, half_below, negation_below, code_at, lit_code, code_negated}
use Rattle.dense_trail.proofs.ValueLaws.{listed_append, listed_left, listed_right, listed_last, listed_one, listed_head, truth_same, truth_other, truth_grows, truth_new, true_below}
use Rattle.dense_trail.proofs.EntryLaws.{entries_push, entries_set, entry_set, set_code, at_code, has_code, known_get, codes_below}
use Rattle.watched_clauses.specs.declared.looking.Watch.{Watch}
use Rattle.watched_clauses.specs.Judge.{first_of, second_of}
use Rattle.watched_clauses.specs.Watching.{lists_in, waits_in, Excused, Watched, Alone, Watching, lists_but, waits_but, Linked}
use Rattle.watched_clauses.proofs.WatchLaws.{excused_waits, excused_true, excused_cases, watched_by, but_here, but_there, waits_rest}

-- the lists and what waits are seen in another way
pub watching_every : (rows : List (List ℕ)) (watches : List Watch) (A B W V : ℕ → ℕ → Bool) (truth : List Bool) (levels : List ℕ) (level : ℕ) (queue queue2 : List ℕ) → ((x k : ℕ) → A x k ≡ true → B x k ≡ true) → ((x k : ℕ) → A x k ≡ true → W x k ≡ true → V x k ≡ true) → ((x k : ℕ) → B x k ≡ true → A x k ≡ true) → ((z : ℕ) → listed queue2 z ≡ true → listed queue z ≡ true) → Watching rows watches A W truth levels level queue → Watching rows watches B V truth levels level queue2
watching_every rows watches A B W V truth levels level queue queue2 f g back fewer s = record {
  paired = s.paired;
  below = s.below;
  firsts = s.firsts;
  seconds = s.seconds;
  numbers = λ x k h. s.numbers x k (back x k h);
  pairs = s.pairs;
  two = λ k r h n. watched_by A B W V truth levels r k (first_of watches k) (second_of watches k) (λ z. f z k) (λ z. g z k) (s.two k r h n);
  one = s.one;
  top = s.top;
  queued = λ z h. s.queued z (fewer z h);
}

module _ (rows : List (List ℕ)) (watches : List Watch) (lists lists2 : List (List ℕ)) (truth : List Bool) (levels : List ℕ) (level : ℕ) (queue rest : List ℕ) (a : ℕ) (list : List ℕ) where
  -- the list of a literal is taken out
  pub visit_start : list ≡ get_or lists a [] → lists2 ≡ set lists a [] → queue ≡ negation a ∷ rest → Watching rows watches (lists_in lists) (waits_in queue) truth levels level queue → Watching rows watches (lists_but lists2 a list) (waits_but rest a (take (length list) list)) truth levels level queue
  visit_start l_is is q_is s = watching_every rows watches (lists_in lists) (lists_but lists2 a list) (waits_in queue) (waits_but rest a (take (length list) list)) truth levels level queue queue to wait back (λ z h. h) s
    where
      there : (x k : ℕ) → (x ≡ a → ⊥) → lists_in lists2 x k ≡ lists_in lists x k
      there x k n = ap (λ w. listed (get_or w x []) k) is ∙ ap (λ w. listed w k) (get_or-set_other lists a x [] [] n)

      same_here : (k : ℕ) → lists_in lists a k ≡ listed list k
      same_here k = ap (λ w. listed w k) (sym l_is)

      to : (x k : ℕ) → lists_in lists x k ≡ true → lists_but lists2 a list x k ≡ true
      to x k h = elim (cases_eq x a) [
        | inl e ↦ subst (λ w. lists_but lists2 a list w k ≡ true) (sym e) (but_here lists2 a list k ∙ sym (same_here k) ∙ subst (λ w. lists_in lists w k ≡ true) e h)
        | inr n ↦ but_there lists2 a list x k n ∙ there x k n ∙ h
      ]

      back : (x k : ℕ) → lists_but lists2 a list x k ≡ true → lists_in lists x k ≡ true
      back x k h = elim (cases_eq x a) [
        | inl e ↦ subst (λ w. lists_in lists w k ≡ true) (sym e) (same_here k ∙ sym (but_here lists2 a list k) ∙ subst (λ w. lists_but lists2 a list w k ≡ true) e h)
        | inr n ↦ sym (there x k n) ∙ sym (but_there lists2 a list x k n) ∙ h
      ]

      wait : (x k : ℕ) → lists_in lists x k ≡ true → listed queue (negation x) ≡ true → waits_but rest a (take (length list) list) x k ≡ true
      wait x k h w = elim (or_cases (nat_eq (negation a) (negation x)) (listed rest (negation x)) (subst (λ z. listed z (negation x) ≡ true) q_is w)) [
        | inr b ↦ or_left _ _ b
        | inl b ↦ (let e : x ≡ a = negation_swap x (negation a) (sym (eqb-true (negation a) (negation x) b)) ∙ negation_twice a in
            let l : listed list k ≡ true = sym (same_here k) ∙ subst (λ z. lists_in lists z k ≡ true) e h in
            or_right _ _ (and_from _ _ (eq-eqb x a e) (subst (λ z. listed z k ≡ true) (sym (take_all (length list) list (omega arith))) l)))
      ]

  seen : lists2 ≡ set lists a list → a < length lists → (x k : ℕ) → lists_in lists2 x k ≡ lists_but lists a list x k
  seen is lt x k = elim (cases_eq x a) [
    | inl e ↦ subst (λ w. lists_in lists2 w k ≡ lists_but lists a list w k) (sym e) (ap (λ w. listed (get_or w a []) k) is ∙ ap (λ w. listed w k) (get_or-set_same lists a list [] lt) ∙ sym (but_here lists a list k))
    | inr n ↦ ap (λ w. listed (get_or w x []) k) is ∙ ap (λ w. listed w k) (get_or-set_other lists a x list [] n) ∙ sym (but_there lists a list x k n)
  ]

  -- the list was gone through to its end
  pub visit_end : (i : ℕ) → i ≤ 0 → lists2 ≡ set lists a list → a < length lists → ((z : ℕ) → listed rest z ≡ true → listed queue z ≡ true) → Watching rows watches (lists_but lists a list) (waits_but rest a (take i list)) truth levels level queue → Watching rows watches (lists_in lists2) (waits_in rest) truth levels level rest
  visit_end i none is lt fewer s = watching_every rows watches (lists_but lists a list) (lists_in lists2) (waits_but rest a (take i list)) (waits_in rest) truth levels level queue rest (λ x k h. seen is lt x k ∙ h) (λ x k h w. out x k w) (λ x k h. sym (seen is lt x k) ∙ h) fewer s
    where
      z : i ≡ 0
      z = omega (arith, none)

      out : (x k : ℕ) → waits_but rest a (take i list) x k ≡ true → listed rest (negation x) ≡ true
      out x k w = elim (or_cases (listed rest (negation x)) (nat_eq x a && listed (take i list) k) w) [ inl b ↦ b | inr b ↦ absurd (both_ways false refl (subst (λ j. listed (take j list) k ≡ true) z (and_parts (nat_eq x a) (listed (take i list) k) b).1)) ]

  -- it was left at a clause that is false
  pub visit_stop : (i : ℕ) → lists2 ≡ set lists a list → a < length lists → queue ≡ negation a ∷ rest → Watching rows watches (lists_but lists a list) (waits_but rest a (take i list)) truth levels level queue → Watching rows watches (lists_in lists2) (waits_in queue) truth levels level queue
  visit_stop i is lt q_is s = watching_every rows watches (lists_but lists a list) (lists_in lists2) (waits_but rest a (take i list)) (waits_in queue) truth levels level queue queue (λ x k h. seen is lt x k ∙ h) (λ x k h w. out x k w) (λ x k h. sym (seen is lt x k) ∙ h) (λ z h. h) s
    where
      out : (x k : ℕ) → waits_but rest a (take i list) x k ≡ true → listed queue (negation x) ≡ true
      out x k w = subst (λ z. listed z (negation x) ≡ true) (sym q_is) (elim (or_cases (listed rest (negation x)) (nat_eq x a && listed (take i list) k) w) [
        | inl b ↦ or_right _ _ b
        | inr b ↦ (let e : x ≡ a = eqb-true x a (and_parts (nat_eq x a) (listed (take i list) k) b).0 in or_left _ _ (eq-eqb (negation a) (negation x) (ap negation (sym e))))
      ])

-- levels of other variables stay
pub level_stays : (truth : List Bool) (levels : List ℕ) (c level x : ℕ) → is_true truth c ≡ false → is_true truth (negation c) ≡ false → is_true truth x ≡ true → level_of (set levels (c / 2) level) x ≡ level_of levels x
level_stays truth levels c level x free free_not h = get_or-set_other levels (c / 2) (x / 2) level 0 (λ e. elim (same_half x c e) [ inl q ↦ both_ways (is_true truth c) free (subst (λ w. is_true truth w ≡ true) q h) | inr q ↦ both_ways (is_true truth (negation c)) free_not (subst (λ w. is_true truth w ≡ true) q h) ])

-- the level of a false literal is that of its negation
pub level_negation : (levels : List ℕ) (x : ℕ) → level_of levels (negation x) ≡ level_of levels x
level_negation levels x = ap (λ n. get_or levels n 0) (negation_half x)

-- a literal becomes true at the current level, and waits
pub watching_push : (rows : List (List ℕ)) (watches : List Watch) (A W V : ℕ → ℕ → Bool) (truth : List Bool) (levels : List ℕ) (level : ℕ) (queue : List ℕ) (c : ℕ) → c < length truth → c / 2 < length levels → is_true truth c ≡ false → is_true truth (negation c) ≡ false → ((z : ℕ) → listed queue z ≡ true → is_true truth z ≡ true) → ((x k : ℕ) → W x k ≡ true → V x k ≡ true) → ((x k : ℕ) → negation x ≡ c → V x k ≡ true) → Watching rows watches A W truth levels level queue → Watching rows watches A V (set truth c true) (set levels (c / 2) level) level (queue ++ (c ∷ []))
watching_push rows watches A W V truth levels level queue c lt half free free_not trues f new s = record {
  paired = s.paired;
  below = λ k r z h l. wide z (s.below k r z h l);
  firsts = λ k h. wide (first_of watches k) (s.firsts k h);
  seconds = λ k h. wide (second_of watches k) (s.seconds k h);
  numbers = s.numbers;
  pairs = s.pairs;
  two = λ k r h n. (let w = s.two k r h n in record {
    in_first = w.in_first;
    in_second = w.in_second;
    at_first = w.at_first;
    at_second = w.at_second;
    first = excuse k (first_of watches k) (second_of watches k) w.first;
    second = excuse k (second_of watches k) (first_of watches k) w.second;
  });
  one = λ k r h n. (let o = s.one k r h n in record {
    only = o.only;
    holds = truth_grows truth c (first_of watches k) lt o.holds;
    low = level_stays truth levels c level (first_of watches k) free free_not o.holds ∙ o.low;
  });
  top = λ z h. elim (truth_new truth c z h) [
    | inl e ↦ (let q = at z e in omega (arith, q))
    | inr b ↦ (let q = level_stays truth levels c level z free free_not b in let t = s.top z b in omega (arith, q, t))
  ];
  queued = λ z h. elim (listed_append queue (c ∷ []) z h) [
    | inl b ↦ level_stays truth levels c level z free free_not (trues z b) ∙ s.queued z b
    | inr b ↦ at z (sym (listed_one c z b))
  ];
}
  where
    wide : (z : ℕ) → z < length truth → z < length (set truth c true)
    wide z h = omega (arith, h, length-set truth c true)

    at : (z : ℕ) → z ≡ c → level_of (set levels (c / 2) level) z ≡ level
    at z e = subst (λ w. level_of (set levels (c / 2) level) w ≡ level) (sym e) (get_or-set_same levels (c / 2) level 0 half)

    excuse : (k x y : ℕ) → Excused W truth levels k x y → Excused V (set truth c true) (set levels (c / 2) level) k x y
    excuse k x y e h = elim (truth_new truth c (negation x) h) [
      | inl q ↦ excused_waits V (set truth c true) (set levels (c / 2) level) k x y (new x k q) h
      | inr b ↦ elim (excused_cases W truth levels k x y e b) [
        | inl w ↦ excused_waits V (set truth c true) (set levels (c / 2) level) k x y (f x k w) h
        | inr t ↦ (let p = level_stays truth levels c level y free free_not t.0 in
            let q : level_of (set levels (c / 2) level) (negation x) ≡ level_of levels (negation x) = level_stays truth levels c level (negation x) free free_not b in
            excused_true V (set truth c true) (set levels (c / 2) level) k x y (truth_grows truth c y lt t.0) (omega (arith, p, q, t.1, level_negation levels x, level_negation (set levels (c / 2) level) x)) h)
      ]
    ]

-- the entries of a trail with one more literal
pub linked_is : (vars levels codes : List ℕ) (reasons : List (Option ℕ)) (truth : List Bool) (c level : ℕ) (reason : Option ℕ) → Valued truth codes → c / 2 < length levels → length reasons ≡ length levels → is_true truth c ≡ false → is_true truth (negation c) ≡ false → entries_of vars (set levels (c / 2) level) (set reasons (c / 2) reason) (codes ++ (c ∷ [])) ≡ entries_of vars levels reasons codes ++ (record { lit = lit_at vars c; level = level; reason = reason } ∷ [])
linked_is vars levels codes reasons truth c level reason v lt long free free_not =
    entries_push vars (set levels (c / 2) level) (set reasons (c / 2) reason) codes c
    ∙ ap (λ w. w ++ (entry_at vars (set levels (c / 2) level) (set reasons (c / 2) reason) c ∷ [])) (entries_set vars levels reasons codes (c / 2) level reason apart)
    ∙ ap (λ w. entries_of vars levels reasons codes ++ (w ∷ [])) (entry_set vars levels reasons c level reason lt (omega (arith, lt, long)))
  where
    apart : (k : ℕ) → listed codes k ≡ true → k / 2 ≡ c / 2 → ⊥
    apart k h e =
        let t : is_true truth k ≡ true = v k ∙ h in
        elim (same_half k c e) [ inl q ↦ both_ways (is_true truth c) free (subst (λ w. is_true truth w ≡ true) q t) | inr q ↦ both_ways (is_true truth (negation c)) free_not (subst (λ w. is_true truth w ≡ true) q t) ]

module _ (vars : List ℕ) (rows : List (List ℕ)) (level : ℕ) (codes levels : List ℕ) (reasons : List (Option ℕ)) (truth : List Bool) (l : Linked vars rows level codes levels reasons) (v : Valued truth codes) (wide : length truth ≡ 2 * length levels) where
  as_vars : length truth ≡ 2 * length vars
  as_vars = omega (arith, wide, l.wide)

  pub linked_set : (m : Lit) → set_in (entries_of vars levels reasons codes) m ≡ is_true truth (code_of vars m)
  linked_set m = set_code vars levels codes reasons truth l.up as_vars v m

  -- a literal that is no entry
  pub linked_free : (c : ℕ) → c < length truth → is_true truth c ≡ false → Set (entries_of vars levels reasons codes) (lit_at vars c) → ⊥
  linked_free c lt f s = both_ways (is_true truth c) f (ap (is_true truth) (sym (code_at vars c l.up (omega (arith, lt, as_vars)))) ∙ sym (linked_set (lit_at vars c)) ∙ s)

  pub linked_free_not : (c : ℕ) → c < length truth → is_true truth (negation c) ≡ false → Set (entries_of vars levels reasons codes) (negated (lit_at vars c)) → ⊥
  linked_free_not c lt f s = both_ways (is_true truth (negation c)) f (ap (is_true truth) (sym (code_negated vars (lit_at vars c) ∙ ap negation (code_at vars c l.up (omega (arith, lt, as_vars))))) ∙ sym (linked_set (negated (lit_at vars c))) ∙ s)

  module _ (long : length reasons ≡ length levels) (below : (k : ℕ) (r : List ℕ) (z : ℕ) → slice_get rows k ≡ Some r → listed r z ≡ true → z < length truth) where
    pub row_has : (k : ℕ) (r : List ℕ) (m : Lit) → slice_get rows k ≡ Some r → has (lits_of vars r) m ≡ listed r (code_of vars m)
    row_has k r m g = has_code vars r m l.up (all_below_from (2 * length vars) r (λ z h. let q = below k r z g h in omega (arith, q, as_vars)))

    -- a clause makes its last literal true
    pub linked_implied : (c k : ℕ) (r : List ℕ) → c < length truth → is_true truth c ≡ false → is_true truth (negation c) ≡ false → slice_get rows k ≡ Some r → listed r c ≡ true → ((z : ℕ) → listed r z ≡ true → (z ≡ c → ⊥) → is_true truth (negation z) ≡ true) → Linked vars rows level (codes ++ (c ∷ [])) (set levels (c / 2) level) (set reasons (c / 2) (Some k))
    linked_implied c k r lt free free_not get in_it others =
        let e : Entry = record { lit = lit_at vars c; level = level; reason = Some k } in
        let c_is = code_at vars c l.up (omega (arith, lt, as_vars)) in
        let is = linked_is vars levels codes reasons truth c level (Some k) v (half_below c (length levels) (omega (arith, lt, wide))) long free free_not in
        let old = entries_of vars levels reasons codes in
        let why : Why (known_of vars rows) old e (Some k) = (
          lits_of vars r,
          known_get vars rows k r get,
          row_has k r (lit_at vars c) get ∙ ap (listed r) c_is ∙ in_it,
          λ m hm n. linked_set (negated m) ∙ ap (is_true truth) (code_negated vars m) ∙ others (code_of vars m) (sym (row_has k r m get) ∙ hm) (λ q. n (sym (lit_code vars m l.up (let b = below k r (code_of vars m) get (sym (row_has k r m get) ∙ hm) in omega (arith, b, as_vars))) ∙ ap (lit_at vars) q)),
        ) in
        record {
          up = l.up;
          wide = length-set levels (c / 2) level ∙ l.wide;
          holds = subst (Holds (known_of vars rows) level) (sym is) (holds_push (known_of vars rows) level old e l.holds refl (linked_free c lt free) (linked_free_not c lt free_not) why);
          rises = subst (RisesFrom 0) (sym is) (rises_push 0 old e (omega (arith, l.last)) (omega (arith, l.last)) l.rises);
          last = ap (last_level 0) is ∙ last_push 0 old e;
        }
