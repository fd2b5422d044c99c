-- An implied literal is resolved away: what was taught stays taught.
use Rattle.std.proofs.Common.{◌≡◌, ℕ, ◌+◌, ◌-◌, ◌*◌, ◌/◌, ◌<◌, ◌≤◌, Bool, true, false, List, [], ◌∷◌, ◌++◌, Option, Some, None, zero, suc, inl, inr, refl, sym, ap, ◌∙◌, subst, arith, nat_eq, length, get_or, set, take, slice_get}
use Rattle.std.proofs.lemmas.Bool.{both_ways, eqb-true, eq-eqb, false_from_ne_true, or_left, or_right, and_from, and_left}
use Rattle.std.proofs.lemmas.Grind.{get_or_default_zero}
use Rattle.std.proofs.lemmas.List.{get_or_default}
use Rattle.std.specs.List.Sorted.{IsStrictlyIncreasing}
use Rattle.prop.specs.declared.Lit.{Lit}
use Rattle.prop.specs.Logic.{negated}
use Rattle.prop.specs.Trues.{listed}
use Rattle.prop.specs.Steps.{has, Has, without, resolved, resolve}
use Rattle.prop.proofs.Sets.{negated_twice, Has-append, Has-left, Has-without, Has-kept}
use Rattle.resolution_log.specs.Codes.{code_of, AllBelow}
use Rattle.resolution_log.specs.Marks.{is_marked}
use Rattle.resolution_log.specs.Chains.{absent}
use Rattle.resolution_log.proofs.MarkLaws.{all_below_listed, all_below_from}
use Rattle.clause_learning.specs.declared.Entry.{Entry}
use Rattle.clause_learning.specs.Trail.{Set, TrailOk, EntryOk, Why, Told, Learnt}
use Rattle.clause_learning.proofs.TrailLaws.{last_ok, quiet_trail, Set-at, Set-left}
use Rattle.clause_learning.proofs.AnalysisLaws.{resolve_to, chain_push, absent_push, differ_push, var_cases}
use Rattle.dense_trail.specs.declared.Trail.{Trail}
use Rattle.dense_trail.specs.Dense.{negation, lit_at, lits_of, known_of, entry_at, entries_of}
use Rattle.dense_trail.proofs.CodeLaws.{negation_half, negation_twice, negation_below, code_at, lit_code, code_negated, lit_negation, lit_inj, half_below, same_half}
use Rattle.dense_trail.proofs.ValueLaws.{listed_append, listed_one, true_below}
use Rattle.dense_trail.proofs.EntryLaws.{entries_push, set_listed, has_code, known_get}
use Rattle.conflict_analysis.specs.Walk.{first_entries, RowsFit, IsTaught}
use Rattle.conflict_analysis.specs.Notes.{counted}
use Rattle.conflict_analysis.specs.Minimizing.{all_noted, reason_within, is_some, is_implied, kept, Minimizing, StaysTaught}
use Rattle.conflict_analysis.proofs.WalkLaws.{take_listed, take_more}
use Rattle.conflict_analysis.proofs.MinimalLaws.{Walked, implied_given, walked_on, walked_less, enough_less}
use Rattle.conflict_analysis.proofs.KeptLaws.{kept_to, kept_from, kept_small, still_marked, marked_still, all_noted_at, get_given, within_some}

-- what is known of a literal that has a reason: the others are false before it
pub record Because (known : List (List Lit)) (t : List Entry) (l : Lit) (r : ℕ) : Type 0 where
  pub clause : List Lit
  pub gets : slice_get known r ≡ Some clause
  pub in_it : Has clause l
  pub others : (m : Lit) → Has clause m → (m ≡ l → ⊥) → Set t (negated m)
  pub apart : (m : Lit) → Has clause m → (m ≡ l → ⊥) → m ≡ negated l → ⊥

pub because : (vars : List ℕ) (known : List (List Lit)) (t : Trail) (n : ℕ) → n ≤ length t.codes.items → TrailOk known (first_entries vars t n) → (k r : ℕ) → listed (take n t.codes.items) k ≡ true → get_or t.reasons.items (k / 2) None ≡ Some r → Because known (first_entries vars t n) (lit_at vars k) r
because vars known t zero le ok k r l h = absurd (both_ways false refl (none t.codes.items l))
  where
    none : (xs : List ℕ) → listed (take zero xs) k ≡ true → let f : Bool = false in f ≡ true
    none [] p = p
    none (x ∷ xs) p = p
because vars known t (suc n) le ok k r l h =
    elim (listed_append (take n t.codes.items) (code ∷ []) k (subst (λ w. listed w k ≡ true) split l)) [
      | inl a ↦ (let b = because vars known t n (omega (arith, le)) entry.0 k r a h in record {
        clause = b.clause;
        gets = b.gets;
        in_it = b.in_it;
        others = λ m hm ne. further (negated m) (b.others m hm ne);
        apart = b.apart;
      })
      | inr q ↦ here (listed_one code k q)
    ]
  where
    code : ℕ
    code = get_or t.codes.items n 0

    split : take (suc n) t.codes.items ≡ take n t.codes.items ++ (code ∷ [])
    split = let q : suc n ≡ n + 1 = omega arith in ap (λ w. take w t.codes.items) q ∙ take_more t.codes.items n (omega (arith, le))

    e : Entry
    e = entry_at vars t.levels.items t.reasons.items code

    is : first_entries vars t (suc n) ≡ first_entries vars t n ++ (e ∷ [])
    is = ap (entries_of vars t.levels.items t.reasons.items) split ∙ entries_push vars t.levels.items t.reasons.items (take n t.codes.items) code

    entry : TrailOk known (first_entries vars t n) × EntryOk known (first_entries vars t n) e
    entry = last_ok known (first_entries vars t (suc n)) (first_entries vars t n) e ok is

    further : (m : Lit) → Set (first_entries vars t n) m → Set (first_entries vars t (suc n)) m
    further m s = subst (λ w. Set w m) (sym is) (Set-left (first_entries vars t n) (e ∷ []) m s)

    here : code ≡ k → Because known (first_entries vars t (suc n)) (lit_at vars k) r
    here c_is =
        let why : Why known (first_entries vars t n) e (Some r) = subst (Why known (first_entries vars t n) e) (ap (λ w. get_or t.reasons.items (w / 2) None) c_is ∙ h) entry.1.why in
        let lit_is : e.lit ≡ lit_at vars k = ap (lit_at vars) c_is in
        record {
          clause = why.0;
          gets = why.1;
          in_it = subst (Has why.0) lit_is why.2;
          others = λ m hm ne. further (negated m) (why.3 m hm (λ q. ne (q ∙ lit_is)));
          apart = λ m hm ne q. entry.1.fresh (subst (Set (first_entries vars t n)) (ap negated q ∙ negated_twice (lit_at vars k) ∙ sym lit_is) (why.3 m hm (λ z. ne (z ∙ lit_is))));
        }

module _ (vars : List ℕ) (rows : List (List ℕ)) (t : Trail) (uip left epoch : ℕ) (stamps learnt : List ℕ) (pairs : List (ℕ × ℕ)) (up : IsStrictlyIncreasing vars) (wide : length t.levels.items ≡ length vars) (fit : RowsFit vars rows) (long : length stamps ≡ length vars) (w : Minimizing vars rows t uip left epoch stamps learnt pairs) where
  abbrev known : List (List Lit)
  known = known_of vars rows

  abbrev before : List Entry
  before = first_entries vars t left

  small : (k : ℕ) → listed (take left t.codes.items) k ≡ true → k < 2 * length vars
  small k h = let lt = true_below t.truth.items k (t.valued k ∙ take_listed t.codes.items left k h) in omega (arith, lt, t.wide, wide)

  set_before : (l : Lit) → Set before l → listed (take left t.codes.items) (code_of vars l) ≡ true
  set_before l s = sym (set_listed vars t.levels.items t.reasons.items (take left t.codes.items) l up small) ∙ s

  listed_before : (k : ℕ) → listed (take left t.codes.items) k ≡ true → Set before (lit_at vars k)
  listed_before k h = set_listed vars t.levels.items t.reasons.items (take left t.codes.items) (lit_at vars k) up small ∙ ap (listed (take left t.codes.items)) (code_at vars k up (small k h)) ∙ h

  -- the reasons of the trail are clauses
  pub reason_known : (k r : ℕ) → listed (take left t.codes.items) k ≡ true → get_or t.reasons.items (k / 2) None ≡ Some r → r < length rows
  reason_known k r l h =
      let b = because vars known t left w.within w.ok k r l h in
      row_of rows r b.clause b.gets
    where
      row_of : (xs : List (List ℕ)) (n : ℕ) (c : List Lit) → slice_get (known_of vars xs) n ≡ Some c → n < length xs
      row_of [] n c g = absurd cc
      row_of (x ∷ xs) zero c g = omega arith
      row_of (x ∷ xs) (suc n) c g = let q = row_of xs n c g in omega (arith, q)

  module _ (code r : ℕ) (row : List ℕ) (var : ℕ) (here : listed (take left t.codes.items) code ≡ true) (marked : is_marked epoch stamps (code / 2) ≡ true) (reason : get_or t.reasons.items (code / 2) None ≡ Some r) (get : slice_get rows r ≡ Some row) (noted : all_noted epoch stamps code row ≡ true) (v : var ≡ get_or vars (code / 2) 0) where
    abbrev lit : Lit
    lit = lit_at vars code

    code_small : code < 2 * length vars
    code_small = small code here

    half : code / 2 < length stamps
    half = let q = half_below code (length vars) code_small in omega (arith, q, long)

    abbrev stamps2 : List ℕ
    stamps2 = set stamps (code / 2) 0

    abbrev pairs2 : List (ℕ × ℕ)
    pairs2 = pairs ++ ((var, r) ∷ [])

    same_var : (k : ℕ) → k < 2 * length vars → get_or vars (k / 2) 0 ≡ get_or vars (code / 2) 0 → k / 2 ≡ code / 2
    same_var k lt e = elim (var_cases (lit_at vars k) lit e) [
      | inl a ↦ ap (λ n. n / 2) (lit_inj vars k code up lt code_small a)
      | inr b ↦ ap (λ n. n / 2) (lit_inj vars k (negation code) up lt (negation_below code (length vars) code_small) (b ∙ sym (lit_negation vars code up code_small))) ∙ negation_half code
    ]

    pub minimizing_step : Minimizing vars rows t uip left epoch stamps2 learnt pairs2
    minimizing_step = record {
      ok = w.ok;
      some = w.some;
      there = λ k l m. w.there k l (still_marked epoch stamps (code / 2) (k / 2) w.some half m).1;
      away = λ k l m. (let p = still_marked epoch stamps (code / 2) (k / 2) w.some half m in absent_push (get_or vars (k / 2) 0) pairs (var, r) (w.away k l p.1) (λ q. p.0 (same_var k (small k l) (sym q ∙ v))));
      falsified = w.falsified;
      apart = w.apart;
      within = w.within;
      small = w.small;
    }

    reason_is : Because known before lit r
    reason_is = because vars known t left w.within w.ok code r here reason

    abbrev clause : List Lit
    clause = lits_of vars row

    same_row : reason_is.clause ≡ clause
    same_row = let a = reason_is.gets in let b = known_get vars rows r row get in cc

    lit_set : Set before lit
    lit_set = listed_before code here

    module _ (level conflict : ℕ) (s : IsTaught vars rows t level conflict (kept epoch stamps learnt) pairs (Some uip) left) where
      abbrev d : List Lit
      d = s.whole

      abbrev u : Lit
      u = lit_at vars uip

      l : Learnt level before d u
      l = s.told.uip.1

      kept_fits : AllBelow (2 * length vars) (kept epoch stamps learnt)
      kept_fits = kept_small (2 * length vars) epoch stamps learnt w.small

      kept_fits2 : AllBelow (2 * length vars) (kept epoch stamps2 learnt)
      kept_fits2 = kept_small (2 * length vars) epoch stamps2 learnt w.small

      -- a literal of the chain's result, by its code
      to_kept : (m : Lit) → Has d m → listed (kept epoch stamps learnt) (code_of vars m) ≡ true
      to_kept m h = sym (has_code vars (kept epoch stamps learnt) m up kept_fits) ∙ s.same.to m h

      from_kept : (m : Lit) → listed (kept epoch stamps learnt) (code_of vars m) ≡ true → Has d m
      from_kept m h = s.same.from m (has_code vars (kept epoch stamps learnt) m up kept_fits ∙ h)

      not_u : lit ≡ u → ⊥
      not_u e = l.free (subst (Set before) e lit_set)

      no_lit : Has d lit → ⊥
      no_lit h = quiet_trail known before w.ok lit lit_set (Set-at (level - 1) before (negated lit) (l.below lit h not_u))

      code_negated_is : code_of vars (negated lit) ≡ negation code
      code_negated_is = code_negated vars lit ∙ ap negation (code_at vars code up code_small)

      in_d : has d (negated lit) ≡ true
      in_d = from_kept (negated lit) (subst (λ z. listed (kept epoch stamps learnt) z ≡ true) (sym code_negated_is) (kept_from epoch stamps learnt (negation code) (w.there code here marked) (ap (is_marked epoch stamps) (negation_half code) ∙ marked)))

      lit_in : Has clause lit
      lit_in = subst (λ c. Has c lit) same_row reason_is.in_it

      -- the other literals of the reason are in the clause
      others_in : (m : Lit) → Has clause m → (m ≡ lit → ⊥) → Has d m
      others_in m hm ne =
          let hm2 = subst (λ c. Has c m) (sym same_row) hm in
          let k = set_before (negated m) (reason_is.others m hm2 ne) in
          let z : listed row (code_of vars m) ≡ true = sym (has_code vars row m up (fit r row get)) ∙ hm in
          let lt = all_below_listed (2 * length vars) row (fit r row get) (code_of vars m) z in
          let q_ne : code_of vars m ≡ code → ⊥ = λ q. ne (sym (lit_code vars m up lt) ∙ ap (lit_at vars) q) in
          let mk = all_noted_at epoch stamps code row noted (code_of vars m) z q_ne in
          let k2 : listed (take left t.codes.items) (negation (code_of vars m)) ≡ true = subst (λ c. listed (take left t.codes.items) c ≡ true) (code_negated vars m) k in
          let th = w.there (negation (code_of vars m)) k2 (ap (is_marked epoch stamps) (negation_half (code_of vars m)) ∙ mk) in
          from_kept m (kept_from epoch stamps learnt (code_of vars m) (subst (λ c. listed learnt c ≡ true) (negation_twice (code_of vars m)) th) mk)

      others_apart : (m : Lit) → Has clause m → (m ≡ lit → ⊥) → m ≡ negated lit → ⊥
      others_apart m hm ne q = reason_is.apart m (subst (λ c. Has c m) (sym same_row) hm) ne q

      abbrev d2 : List Lit
      d2 = resolved (negated lit) d clause

      resolves : resolve lit.var d clause ≡ Some d2
      resolves = resolve_to (negated lit) d clause
          (and_from (has d (negated lit)) (has clause (negated (negated lit))) in_d (subst (λ z. Has clause z) (sym (negated_twice lit)) lit_in))
          (and_left (has d (negated (negated lit))) (has clause (negated (negated (negated lit)))) (false_from_ne_true (has d (negated (negated lit))) (λ h. no_lit (subst (Has d) (negated_twice lit) h))))

      fewer : (m : Lit) → Has d2 m → Has d m × (m ≡ negated lit → ⊥)
      fewer m hm = elim (Has-append (without (negated lit) d) (without (negated (negated lit)) clause) m hm) [
        | inl a ↦ Has-without (negated lit) d m a
        | inr a ↦ (let p = Has-without (negated (negated lit)) clause m a in
            let ne : m ≡ lit → ⊥ = λ q. p.1 (q ∙ sym (negated_twice lit)) in
            (others_in m p.0 ne, others_apart m p.0 ne))
      ]

      more : (m : Lit) → Has d m → (m ≡ negated lit → ⊥) → Has d2 m
      more m hm ne = Has-left (without (negated lit) d) (without (negated (negated lit)) clause) m (Has-kept (negated lit) d m hm ne)

      u_stays : u ≡ negated lit → ⊥
      u_stays q = l.free_not (subst (Set before) (sym (negated_twice lit) ∙ ap negated (sym q)) lit_set)

      told2 : Told known level before conflict d2 pairs2 (Some u)
      told2 = record {
        start = s.told.start;
        gets = s.told.gets;
        chain = chain_push known s.told.start d clause d2 (var, r) pairs s.told.chain (known_get vars rows r row get) (subst (λ z. resolve z d clause ≡ Some d2) (sym v) resolves);
        differ = differ_push pairs (var, r) s.told.differ (subst (λ z. absent z pairs ≡ true) (sym v) (w.away code here marked));
        ok = s.told.ok;
        low = s.told.low;
        all = s.told.all;
        uip = (
          s.told.uip.0,
          record {
            in_it = more u l.in_it u_stays;
            free = l.free;
            free_not = l.free_not;
            below = λ m hm ne. l.below m (fewer m hm).0 ne;
          },
        );
      }

      kept2 : (m : Lit) → Has d m → (m ≡ negated lit → ⊥) → listed (kept epoch stamps2 learnt) (code_of vars m) ≡ true
      kept2 m hm ne =
          let p = kept_to epoch stamps learnt (code_of vars m) (to_kept m hm) in
          let lt = all_below_listed (2 * length vars) learnt w.small (code_of vars m) p.0 in
          kept_from epoch stamps2 learnt (code_of vars m) p.0 (marked_still epoch stamps (code / 2) (code_of vars m / 2) (λ q. elim (same_half (code_of vars m) code q) [
            | inl a ↦ no_lit (subst (Has d) (sym (lit_code vars m up lt) ∙ ap (lit_at vars) a) hm)
            | inr b ↦ ne (sym (lit_code vars m up lt) ∙ ap (lit_at vars) b ∙ lit_negation vars code up code_small)
          ]) p.1)

      taught_step : IsTaught vars rows t level conflict (kept epoch stamps2 learnt) pairs2 (Some uip) left
      taught_step = record {
        whole = d2;
        told = told2;
        same = record {
          to = λ m hm. (let p = fewer m hm in has_code vars (kept epoch stamps2 learnt) m up kept_fits2 ∙ kept2 m p.0 p.1);
          from = λ m hm. (let h : listed (kept epoch stamps2 learnt) (code_of vars m) ≡ true = sym (has_code vars (kept epoch stamps2 learnt) m up kept_fits2) ∙ hm in
              let p = kept_to epoch stamps2 learnt (code_of vars m) h in
              let q = still_marked epoch stamps (code / 2) (code_of vars m / 2) w.some half p.1 in
              more m (from_kept m (kept_from epoch stamps learnt (code_of vars m) p.0 q.1)) (λ e. q.0 (ap (λ n. n / 2) (ap (code_of vars) e ∙ code_negated_is) ∙ negation_half code)));
        };
      }

    pub stays_taught : (clause0 : List ℕ) (pairs0 : List (ℕ × ℕ)) → StaysTaught vars rows t uip left clause0 pairs0 (kept epoch stamps learnt) pairs → StaysTaught vars rows t uip left clause0 pairs0 (kept epoch stamps2 learnt) pairs2
    stays_taught clause0 pairs0 h level conflict s = taught_step level conflict (h level conflict s)

take_at : (xs : List ℕ) (n i : ℕ) → i < n → i < length xs → listed (take n xs) (get_or xs i 0) ≡ true
take_at [] n i lt lt2 = absurd (omega (arith, lt2))
take_at (x ∷ xs) zero i lt lt2 = absurd (omega (arith, lt))
take_at (x ∷ xs) (suc n) zero lt lt2 = or_left _ _ (eq-eqb x x refl)
take_at (x ∷ xs) (suc n) (suc i) lt lt2 = or_right (nat_eq x (get_or xs i 0)) (listed (take n xs) (get_or xs i 0)) (take_at xs n i (omega (arith, lt)) (omega (arith, lt2)))

-- one step of the loop, at the values of the code
module _ (vars : List ℕ) (rows : List (List ℕ)) (t : Trail) (uip left epoch : ℕ) (stamps learnt : List ℕ) (pairs : List (ℕ × ℕ)) (up : IsStrictlyIncreasing vars) (wide : length t.levels.items ≡ length vars) (fit : RowsFit vars rows) (long : length stamps ≡ length vars) (w : Minimizing vars rows t uip left epoch stamps learnt pairs) (at : ℕ) (pos : 0 < at) (in_left : at ≤ left) (code : ℕ) (read : code ≡ get_or t.codes.items (at - 1) code) where
  here : listed (take left t.codes.items) code ≡ true
  here =
      let lt : at - 1 < length t.codes.items = omega (arith, pos, in_left, w.within) in
      subst (λ z. listed (take left t.codes.items) z ≡ true) (sym (read ∙ get_or_default_zero t.codes.items (at - 1) code lt)) (take_at t.codes.items left (at - 1) (omega (arith, pos, in_left)) lt)

  pub loop_half : code / 2 < length vars
  loop_half = half_below code (length vars) (small vars rows t uip left epoch stamps learnt pairs up wide fit long w code here)

  half_long : code / 2 < length stamps
  half_long = let q = loop_half in omega (arith, q, long)

  code_read : code ≡ get_or t.codes.items (at - 1) 0
  code_read = let lt : at - 1 < length t.codes.items = omega (arith, pos, in_left, w.within) in read ∙ get_or_default_zero t.codes.items (at - 1) code lt

  pub loop_gone : (gone after : List ℕ) → after ≡ gone ++ (code ∷ []) → AllBelow (2 * length vars) gone → AllBelow (2 * length vars) after
  loop_gone gone after is b = all_below_from (2 * length vars) after (λ z h. elim (listed_append gone (code ∷ []) z (subst (λ r. listed r z ≡ true) is h)) [
    | inl a ↦ all_below_listed (2 * length vars) gone b z a
    | inr q ↦ subst (λ n. n < 2 * length vars) (listed_one code z q) (small vars rows t uip left epoch stamps learnt pairs up wide fit long w code here)
  ])

  pub loop_unmarked : (m : ℕ) → m ≡ get_or stamps (code / 2) m → (m ≡ epoch → ⊥) → Walked epoch stamps rows t.reasons.items t.codes.items left at → Walked epoch stamps rows t.reasons.items t.codes.items left (at - 1)
  loop_unmarked m m_is ne walked = walked_on epoch stamps rows t.reasons.items t.codes.items left at walked code code_read (λ mk. absurd (ne (m_is ∙ get_or_default_zero stamps (code / 2) m half_long ∙ eqb-true (get_or stamps (code / 2) 0) epoch mk)))

  module _ (o : Option ℕ) (ro : o ≡ get_or t.reasons.items (code / 2) o) where
    reason_read : o ≡ get_or t.reasons.items (code / 2) None
    reason_read = ro ∙ get_or_default t.reasons.items (code / 2) o None (let q = loop_half in omega (arith, q, wide, t.long))

    pub loop_none : (s : List ℕ) → s ≡ stamps → (f : Option ℕ) → f ≡ reason_within epoch s rows code o → ((x : ℕ) → f ≡ Some x → ⊥) → Walked epoch stamps rows t.reasons.items t.codes.items left at → Walked epoch stamps rows t.reasons.items t.codes.items left (at - 1)
    loop_none s s_is f f_is none walked = walked_on epoch stamps rows t.reasons.items t.codes.items left at walked code code_read (λ mk. ap (λ q. is_some (reason_within epoch stamps rows code q)) (sym reason_read) ∙ ap (λ z. is_some (reason_within epoch z rows code o)) (sym s_is) ∙ ap is_some (sym f_is ∙ is_none f none))
      where
        is_none : (f : Option ℕ) → ((x : ℕ) → f ≡ Some x → ⊥) → f ≡ None
        is_none None n = refl
        is_none (Some x) n = absurd (n x refl)

    pub loop_known : (r : ℕ) → o ≡ Some r → r < length rows
    loop_known r h = reason_known vars rows t uip left epoch stamps learnt pairs up wide fit long w code r here (sym reason_read ∙ h)

    module _ (m : ℕ) (m_is : m ≡ get_or stamps (code / 2) m) (e : m ≡ epoch) (s : List ℕ) (s_is : s ≡ stamps) (f : Option ℕ) (f_is : f ≡ reason_within epoch s rows code o) (k : ℕ) (f_some : f ≡ Some k) where
      marked : is_marked epoch stamps (code / 2) ≡ true
      marked = eq-eqb (get_or stamps (code / 2) 0) epoch (sym (m_is ∙ get_or_default_zero stamps (code / 2) m (let q = loop_half in omega (arith, q, long))) ∙ e)

      found : (o ≡ Some k) × (all_noted epoch stamps code (get_or rows k []) ≡ true)
      found = within_some epoch stamps rows code o k (sym (f_is ∙ ap (λ z. reason_within epoch z rows code o) s_is) ∙ f_some)

      pub loop_minimizing : (after : List (ℕ × ℕ)) → after ≡ pairs ++ ((get_or vars (code / 2) 0, k) ∷ []) → Minimizing vars rows t uip left epoch (set stamps (code / 2) 0) learnt after
      loop_minimizing after p_is = subst (Minimizing vars rows t uip left epoch (set stamps (code / 2) 0) learnt) (sym p_is) (minimizing_step vars rows t uip left epoch stamps learnt pairs up wide fit long w code k (get_or rows k []) (get_or vars (code / 2) 0) here marked (sym reason_read ∙ found.0) (get_given rows k (loop_known k found.0)) found.1 refl)

      pub loop_taught : (after : List (ℕ × ℕ)) → after ≡ pairs ++ ((get_or vars (code / 2) 0, k) ∷ []) → (clause0 : List ℕ) (pairs0 : List (ℕ × ℕ)) → StaysTaught vars rows t uip left clause0 pairs0 (kept epoch stamps learnt) pairs → StaysTaught vars rows t uip left clause0 pairs0 (kept epoch (set stamps (code / 2) 0) learnt) after
      loop_taught after p_is clause0 pairs0 h = subst (StaysTaught vars rows t uip left clause0 pairs0 (kept epoch (set stamps (code / 2) 0) learnt)) (sym p_is) (stays_taught vars rows t uip left epoch stamps learnt pairs up wide fit long w code k (get_or rows k []) (get_or vars (code / 2) 0) here marked (sym reason_read ∙ found.0) (get_given rows k (loop_known k found.0)) found.1 refl clause0 pairs0 h)

      loop_implied : is_implied epoch stamps rows t.reasons.items uip (negation code) ≡ true
      loop_implied =
          let ne : negation code ≡ uip → ⊥ = λ q. w.apart code here (sym (negation_twice code) ∙ ap negation q) in
          let same : get_or t.reasons.items (negation code / 2) None ≡ Some k = ap (λ n. get_or t.reasons.items n None) (negation_half code) ∙ sym reason_read ∙ found.0 in
          implied_given epoch stamps rows t.reasons.items uip (negation code) k ne same (ap (λ n. all_noted epoch stamps n (get_or rows k [])) (negation_twice code) ∙ found.1)

      pub loop_enough : (rest : ℕ) → counted (is_implied epoch stamps rows t.reasons.items uip) (kept epoch stamps learnt) ≤ rest → counted (is_implied epoch (set stamps (code / 2) 0) rows t.reasons.items uip) (kept epoch (set stamps (code / 2) 0) learnt) ≤ rest - 1
      loop_enough rest le = enough_less epoch stamps (code / 2) w.some half_long rows t.reasons.items uip learnt (negation code) rest loop_implied (ap (is_marked epoch stamps) (negation_half code) ∙ marked) (negation_half code) (w.there code here marked) le

      pub loop_walked : Walked epoch stamps rows t.reasons.items t.codes.items left at → Walked epoch (set stamps (code / 2) 0) rows t.reasons.items t.codes.items left (at - 1)
      loop_walked walked = walked_less epoch stamps (code / 2) w.some half_long rows t.reasons.items t.codes.items left at walked (ap (λ n. n / 2) (sym code_read))

-- the literal that the clause makes true is one of it
pub taught_uip : (vars : List ℕ) (rows : List (List ℕ)) (t : Trail) (level conflict : ℕ) (clause : List ℕ) (pairs : List (ℕ × ℕ)) (uip left : ℕ) → IsStrictlyIncreasing vars → AllBelow (2 * length vars) clause → uip < 2 * length vars → IsTaught vars rows t level conflict clause pairs (Some uip) left → listed clause uip ≡ true
taught_uip vars rows t level conflict clause pairs uip left up fits lt s = ap (listed clause) (sym (code_at vars uip up lt)) ∙ sym (has_code vars clause (lit_at vars uip) up fits) ∙ s.same.to (lit_at vars uip) s.told.uip.1.in_it
