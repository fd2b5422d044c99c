-- The walk at the values of the code.
use Rattle.std.proofs.Common.{◌≡◌, ℕ, ◌+◌, ◌-◌, ◌*◌, ◌/◌, ◌<◌, ◌≤◌, Bool, true, false, cond, ◌&&◌, List, [], ◌∷◌, ◌++◌, Option, Some, None, refl, zero, suc, inl, inr, sym, ap, ◌∙◌, subst, arith, nat_eq, nat_lt, length, get_or, set, take, slice_get, length-set}
use Rattle.std.proofs.lemmas.Bool.{both_ways, eqb-true, eq-eqb, ne_eqb, and_parts, and_cases, lt-ltb, ltb-true, cases_lt}
use Rattle.std.proofs.lemmas.Grind.{get_or_default_zero}
use Rattle.std.proofs.lemmas.List.{get_or_default}
use Rattle.std.specs.List.Sorted.{IsStrictlyIncreasing}
use Rattle.prop.specs.Trues.{listed}
use Rattle.resolution_log.specs.Codes.{AllBelow}
use Rattle.resolution_log.specs.Marks.{is_marked, AtMost}
use Rattle.resolution_log.proofs.Places.{listed_at}
use Rattle.resolution_log.proofs.MarkLaws.{all_below_from}
use Rattle.clause_learning.specs.Trail.{Going}
use Rattle.dense_trail.specs.declared.Trail.{Trail}
use Rattle.dense_trail.specs.Dense.{negation, is_true, lits_of, known_of, entries_of}
use Rattle.dense_trail.proofs.CodeLaws.{half_below, negation_below}
use Rattle.dense_trail.proofs.ValueLaws.{true_below, listed_append, listed_one}
use Rattle.conflict_analysis.specs.Notes.{is_noted, stamp_one, note_stamps, note_learnt, note_here, is_here}
use Rattle.conflict_analysis.specs.Walk.{RowsFit, AreAbove, Walking, IsTaught}
use Rattle.conflict_analysis.specs.Minimizing.{kept, Minimizing}
use Rattle.conflict_analysis.proofs.WalkLaws.{walk_minimizing, walk_marked, walk_start, walk_pass, walk_step, walk_decided, walk_reason, walk_some, walk_taught, walk_above, counted_le}

pub note_length : (epoch but : ℕ) (stamps row : List ℕ) → length (note_stamps epoch but stamps row) ≡ length stamps
note_length epoch but stamps [] = refl
note_length epoch but stamps (q ∷ row) = note_length epoch but (stamp_one epoch but stamps q) row ∙ one (is_noted epoch stamps but q)
  where
    one : (b : Bool) → length (cond b stamps (set stamps (q / 2) epoch)) ≡ length stamps
    one true = refl
    one false = length-set stamps (q / 2) epoch

walking_moved : (vars : List ℕ) (rows : List (List ℕ)) (t : Trail) (level conflict : ℕ) (p p2 : List (ℕ × ℕ)) (e e2 : ℕ) (s s2 l l2 : List ℕ) (h h2 at : ℕ) → p2 ≡ p → e2 ≡ e → s2 ≡ s → l2 ≡ l → h2 ≡ h → Walking vars rows t level conflict p e s l h at → Walking vars rows t level conflict p2 e2 s2 l2 h2 at
walking_moved vars rows t level conflict p p2 e e2 s s2 l l2 h h2 at a b c d f w =
    let w1 = subst (λ x. Walking vars rows t level conflict x e s l h at) (sym a) w in
    let w2 = subst (λ x. Walking vars rows t level conflict p2 x s l h at) (sym b) w1 in
    let w3 = subst (λ x. Walking vars rows t level conflict p2 e2 x l h at) (sym c) w2 in
    let w4 = subst (λ x. Walking vars rows t level conflict p2 e2 s2 x h at) (sym d) w3 in
    subst (λ x. Walking vars rows t level conflict p2 e2 s2 l2 x at) (sym f) w4

module _ (vars : List ℕ) (rows : List (List ℕ)) (t : Trail) (level conflict : ℕ) (up : IsStrictlyIncreasing vars) (wide : length t.levels.items ≡ length vars) (fit : RowsFit vars rows) where
  pub begin_walk : (row : List ℕ) (epoch epoch1 epoch2 : ℕ) (stamps stamps1 stamps2 learnt1 learnt2 : List ℕ) (here1 here2 but at : ℕ) (pairs : List (ℕ × ℕ)) → but ≡ 4294967295 → length stamps ≡ length vars → AtMost epoch stamps → slice_get rows conflict ≡ Some row → ((r : List ℕ) → slice_get rows conflict ≡ Some r → Going (known_of vars rows) level (entries_of vars t.levels.items t.reasons.items t.codes.items) conflict (lits_of vars r) []) → at ≡ length t.codes.items → pairs ≡ [] → epoch1 ≡ epoch + 1 → stamps1 ≡ stamps → learnt1 ≡ [] → here1 ≡ 0 → epoch2 ≡ epoch1 → stamps2 ≡ note_stamps epoch1 but stamps1 row → learnt2 ≡ note_learnt epoch1 but level t.levels.items stamps1 learnt1 row → here2 ≡ note_here epoch1 but level t.levels.items stamps1 here1 row → Walking vars rows t level conflict pairs epoch2 stamps2 learnt2 here2 at
  begin_walk row epoch epoch1 epoch2 stamps stamps1 stamps2 learnt1 learnt2 here1 here2 but at pairs b len most get g at_is p e1 s1 l1 h1 e2 s2 l2 h2 =
      walking_moved vars rows t level conflict [] pairs (epoch + 1) epoch2 (note_stamps (epoch + 1) but stamps row) stamps2 (note_learnt (epoch + 1) but level t.levels.items stamps [] row) learnt2 (note_here (epoch + 1) but level t.levels.items stamps 0 row) here2 at
      p
      (e2 ∙ e1)
      (s2 ∙ ap (λ e. note_stamps e but stamps1 row) e1 ∙ ap (λ s. note_stamps (epoch + 1) but s row) s1)
      (l2 ∙ ap (λ e. note_learnt e but level t.levels.items stamps1 learnt1 row) e1 ∙ ap (λ s. note_learnt (epoch + 1) but level t.levels.items s learnt1 row) s1 ∙ ap (λ l. note_learnt (epoch + 1) but level t.levels.items stamps l row) l1)
      (h2 ∙ ap (λ e. note_here e but level t.levels.items stamps1 here1 row) e1 ∙ ap (λ s. note_here (epoch + 1) but level t.levels.items s here1 row) s1 ∙ ap (λ h. note_here (epoch + 1) but level t.levels.items stamps h row) h1)
      (walk_start vars rows t level conflict up wide fit epoch stamps row but len (omega (arith, t.few, wide, b)) most get (g row get) at at_is)

  module _ (pairs : List (ℕ × ℕ)) (epoch : ℕ) (stamps learnt : List ℕ) (here' at : ℕ) (w : Walking vars rows t level conflict pairs epoch stamps learnt here' at) (pos : 0 < at) (code : ℕ) (read : code ≡ get_or t.codes.items (at - 1) code) (long : length stamps ≡ length vars) where
    in_codes : at - 1 < length t.codes.items
    in_codes = omega (arith, pos, w.within)

    code_is : code ≡ get_or t.codes.items (at - 1) 0
    code_is = read ∙ get_or_default_zero t.codes.items (at - 1) code in_codes

    pub code_fits : code / 2 < length vars
    code_fits =
        let h : is_true t.truth.items code ≡ true = t.valued code ∙ listed_at t.codes.items code (at - 1) in_codes (sym code_is) in
        let lt = true_below t.truth.items code h in
        half_below code (length vars) (omega (arith, lt, t.wide, wide))

    pub step_pass : (r : ℕ) → r ≡ get_or stamps (code / 2) r → (r ≡ epoch → ⊥) → Walking vars rows t level conflict pairs epoch stamps learnt here' (at - 1)
    step_pass r h n = walk_pass vars rows t level conflict up wide fit pairs epoch stamps learnt here' at w pos code code_is (ne_eqb (get_or stamps (code / 2) 0) epoch (λ e. n (h ∙ get_or_default_zero stamps (code / 2) r (let q = code_fits in omega (arith, q, long)) ∙ e)))

    pub step_above : AreAbove t level (at - 1)
    step_above = walk_above vars rows t level conflict up wide fit pairs epoch stamps learnt here' at w pos code code_is

    module _ (r : ℕ) (h : r ≡ get_or stamps (code / 2) r) (e : r ≡ epoch) where
      marked : is_marked epoch stamps (code / 2) ≡ true
      marked = eq-eqb (get_or stamps (code / 2) 0) epoch (sym (h ∙ get_or_default_zero stamps (code / 2) r (let q = code_fits in omega (arith, q, long))) ∙ e)

      pub step_some : 0 < here'
      step_some = walk_some vars rows t level conflict up wide fit pairs epoch stamps learnt here' at w pos code code_is marked

      pub step_few : here' - 1 ≤ 134217728
      step_few = let c = counted_le (is_here level t.levels.items epoch stamps) (take at t.codes.items) in omega (arith, c, w.noted.count, length_take t.codes.items at, t.counted, t.wide, t.few)
        where
          length_take : (xs : List ℕ) (n : ℕ) → length (take n xs) ≤ length xs
          length_take [] zero = omega arith
          length_take [] (suc n) = omega arith
          length_take (x ∷ xs) zero = omega arith
          length_take (x ∷ xs) (suc n) = let ih = length_take xs n in omega (arith, ih)

      pub step_taught : (b : Bool) → b ≡ (nat_lt 0 level && nat_eq here' 1) → b ≡ true → (uip : ℕ) → uip ≡ negation code → (clause : List ℕ) → clause ≡ learnt ++ (uip ∷ []) → IsTaught vars rows t level conflict clause pairs (Some uip) (at - 1)
      step_taught b is yes' uip u clause c =
          let p = and_parts (nat_lt 0 level) (nat_eq here' 1) (sym is ∙ yes') in
          subst (λ z. IsTaught vars rows t level conflict clause pairs (Some z) (at - 1)) (sym u) (walk_taught vars rows t level conflict up wide fit pairs epoch stamps learnt here' at w pos code code_is marked (ltb-true 0 level p.0) (eqb-true here' 1 p.1) clause (c ∙ ap (λ z. learnt ++ (z ∷ [])) u))

      pub step_fits : (uip : ℕ) → uip ≡ negation code → (clause : List ℕ) → clause ≡ learnt ++ (uip ∷ []) → AllBelow (2 * length vars) clause
      step_fits uip u clause c = all_below_from (2 * length vars) clause (λ z hz. elim (listed_append learnt (uip ∷ []) z (subst (λ x. listed x z ≡ true) c hz)) [
        | inl a ↦ (w.noted.low_to z a).0
        | inr b ↦ (let q = code_fits in let lt : code < 2 * length vars = omega (arith, q) in subst (λ x. x < 2 * length vars) (sym u ∙ listed_one uip z b) (negation_below code (length vars) lt))
      ])

      pub step_minimizing : (b : Bool) → b ≡ (nat_lt 0 level && nat_eq here' 1) → b ≡ true → 0 < epoch → (uip : ℕ) → uip ≡ negation code → (clause : List ℕ) → clause ≡ learnt ++ (uip ∷ []) → Minimizing vars rows t uip (at - 1) epoch stamps clause pairs
      step_minimizing b is yes' some uip u clause c =
          let p = and_parts (nat_lt 0 level) (nat_eq here' 1) (sym is ∙ yes') in
          subst (λ z. Minimizing vars rows t z (at - 1) epoch stamps clause pairs) (sym u) (walk_minimizing vars rows t level conflict up wide fit pairs epoch stamps learnt here' at w pos code code_is marked (ltb-true 0 level p.0) (eqb-true here' 1 p.1) some clause (c ∙ ap (λ z. learnt ++ (z ∷ [])) u) (step_fits uip u clause c))

      pub step_marked : (uip : ℕ) → uip ≡ negation code → (clause : List ℕ) → clause ≡ learnt ++ (uip ∷ []) → kept epoch stamps clause ≡ clause
      step_marked uip u clause c = walk_marked vars rows t level conflict up wide fit pairs epoch stamps learnt here' at w pos code code_is marked clause (c ∙ ap (λ z. learnt ++ (z ∷ [])) u)

      module _ (b : Bool) (is : b ≡ (nat_lt 0 level && nat_eq here' 1)) (no' : b ≡ false) where
        not_first : here' ≡ 1 → level ≡ 0
        not_first one = elim (and_cases (nat_lt 0 level) (nat_eq here' 1) (sym is ∙ no')) [
          | inl a ↦ elim (cases_lt 0 level) [ inl x ↦ absurd (both_ways (nat_lt 0 level) a (lt-ltb 0 level x)) | inr x ↦ omega (arith, x) ]
          | inr a ↦ absurd (both_ways (nat_eq here' 1) a (eq-eqb here' 1 one))
        ]

        module _ (o : Option ℕ) (ro : o ≡ get_or t.reasons.items (code / 2) o) where
          reason_is : o ≡ get_or t.reasons.items (code / 2) None
          reason_is = ro ∙ get_or_default t.reasons.items (code / 2) o None (let q = code_fits in omega (arith, q, wide, t.long))

          pub step_decided : ((x : ℕ) → o ≡ Some x → ⊥) → ⊥
          step_decided n = walk_decided vars rows t level conflict up wide fit pairs epoch stamps learnt here' at w pos code code_is marked not_first (sym reason_is ∙ is_none o n)
            where
              is_none : (o : Option ℕ) → ((x : ℕ) → o ≡ Some x → ⊥) → o ≡ None
              is_none None h = refl
              is_none (Some y) h = absurd (h y refl)

          pub step_reason : (k : ℕ) → o ≡ Some k → k < length rows
          step_reason k hk = walk_reason vars rows t level conflict up wide fit pairs epoch stamps learnt here' at w pos code code_is marked k (sym reason_is ∙ hk)

          pub step_on : (k : ℕ) → o ≡ Some k → (row : List ℕ) → slice_get rows k ≡ Some row → (var : ℕ) → var ≡ get_or vars (code / 2) 0 → (pairs2 : List (ℕ × ℕ)) (epoch2 : ℕ) (stamps2 learnt2 : List ℕ) (here2 : ℕ) → pairs2 ≡ pairs ++ ((var, k) ∷ []) → epoch2 ≡ epoch → stamps2 ≡ note_stamps epoch code stamps row → learnt2 ≡ note_learnt epoch code level t.levels.items stamps learnt row → here2 ≡ note_here epoch code level t.levels.items stamps (here' - 1) row → Walking vars rows t level conflict pairs2 epoch2 stamps2 learnt2 here2 (at - 1)
          step_on k hk row get var v pairs2 epoch2 stamps2 learnt2 here2 pe ee se le he =
              let less : (here' - 1) + 1 ≡ here' = (let s = step_some in omega (arith, s)) in
              walking_moved vars rows t level conflict (pairs ++ ((var, k) ∷ [])) pairs2 epoch epoch2 (note_stamps epoch code stamps row) stamps2 (note_learnt epoch code level t.levels.items stamps learnt row) learnt2 (note_here epoch code level t.levels.items stamps (here' - 1) row) here2 (at - 1) pe ee se le he
              (walk_step vars rows t level conflict up wide fit pairs epoch stamps learnt here' at w pos code code_is marked not_first k (sym reason_is ∙ hk) row get long (here' - 1) less (var, k) v refl)

  pub end_fits : (pairs : List (ℕ × ℕ)) (epoch : ℕ) (stamps learnt : List ℕ) (here' at : ℕ) → Walking vars rows t level conflict pairs epoch stamps learnt here' at → AllBelow (2 * length vars) learnt
  end_fits pairs epoch stamps learnt here' at w = all_below_from (2 * length vars) learnt (λ z h. (w.noted.low_to z h).0)

  pub end_above : (pairs : List (ℕ × ℕ)) (epoch : ℕ) (stamps learnt : List ℕ) (here' at : ℕ) → at ≤ 0 → Walking vars rows t level conflict pairs epoch stamps learnt here' at → AreAbove t level 0
  end_above pairs epoch stamps learnt here' at none w = subst (AreAbove t level) (let z : at ≡ 0 = omega (arith, none) in z) w.above
