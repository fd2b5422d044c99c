-- Going back, over a trail of codes.
use Rattle.std.proofs.Common.{◌≡◌, ℕ, ◌+◌, ◌-◌, ◌*◌, ◌/◌, ◌<◌, ◌≤◌, Bool, true, false, List, [], ◌∷◌, ◌++◌, Option, Some, None, zero, suc, ◌⊎◌, inl, inr, refl, sym, ap, ◌∙◌, subst, arith, length, get_or, take, drop, option_to_list, append-nil}
use Rattle.std.proofs.lemmas.Bool.{both_ways}
use Rattle.std.proofs.lemmas.Grind.{get_or_default_zero}
use Rattle.prop.specs.declared.Lit.{Lit}
use Rattle.prop.specs.Trues.{listed}
use Rattle.clause_learning.specs.declared.Entry.{Entry}
use Rattle.clause_learning.specs.Trail.{Set, SetAt, Back}
use Rattle.clause_learning.specs.Covers.{RisesFrom, last_level}
use Rattle.clause_learning.proofs.JumpLaws.{back_pop, back_all}
use Rattle.clause_learning.proofs.StoreLaws.{rises_pop, last_push}
use Rattle.dense_trail.specs.declared.Trail.{Trail}
use Rattle.dense_trail.specs.Dense.{is_true, entry_at, entries_of}
use Rattle.dense_trail.proofs.CodeLaws.{half_below}
use Rattle.dense_trail.proofs.ValueLaws.{true_below}
use Rattle.dense_trail.proofs.EntryLaws.{entries_push}
use Rattle.resolution_log.proofs.Places.{listed_at}
use Rattle.cdcl_solver.specs.Stops.{trail_entries}

-- the last code of a trail
pub last_code : (xs : List ℕ) → 0 < length xs → xs ≡ take (length xs - 1) xs ++ (get_or xs (length xs - 1) 0 ∷ [])
last_code [] lt = absurd (omega arith)
last_code (x ∷ []) lt = refl
last_code (x ∷ y ∷ xs) lt =
    let ih = last_code (y ∷ xs) (omega arith) in
    let q : length (x ∷ y ∷ xs) - 1 ≡ suc (length (y ∷ xs) - 1) = omega arith in
    rw q (ap (λ w. x ∷ w) ih)

snoc : {A : Type 0} (xs ys : List A) (x y : A) → xs ++ (x ∷ []) ≡ ys ++ (y ∷ []) → (xs ≡ ys) × (x ≡ y)
snoc [] [] x y h = (refl, cc)
snoc [] (b ∷ ys) x y h = let p : [] ≡ ys ++ (y ∷ []) = cc in absurd (none ys y p)
  where
    none : {A : Type 0} (t : List A) (e : A) → [] ≡ t ++ (e ∷ []) → ⊥
    none [] e p = cc
    none (z ∷ t) e p = cc
snoc (a ∷ xs) [] x y h = let p : xs ++ (x ∷ []) ≡ [] = cc in absurd (none xs x p)
  where
    none : {A : Type 0} (t : List A) (e : A) → t ++ (e ∷ []) ≡ [] → ⊥
    none [] e p = cc
    none (z ∷ t) e p = cc
snoc (a ∷ xs) (b ∷ ys) x y h =
    let p : a ≡ b = cc in
    let q : xs ++ (x ∷ []) ≡ ys ++ (y ∷ []) = cc in
    let r = snoc xs ys x y q in
    (cc, r.1)

module _ (t : Trail) (pos : 0 < length t.codes.items) (code : ℕ) (read : code ≡ get_or t.codes.items (length t.codes.items - 1) code) where
  code_is : code ≡ get_or t.codes.items (length t.codes.items - 1) 0
  code_is = read ∙ get_or_default_zero t.codes.items (length t.codes.items - 1) code (omega (arith, pos))

  abbrev front : List ℕ
  front = take (length t.codes.items - 1) t.codes.items

  split : t.codes.items ≡ front ++ (code ∷ [])
  split = last_code t.codes.items pos ∙ ap (λ w. front ++ (w ∷ [])) (sym code_is)

  pub last_fits : code / 2 < length t.levels.items
  last_fits =
      let h : is_true t.truth.items code ≡ true = t.valued code ∙ listed_at t.codes.items code (length t.codes.items - 1) (omega (arith, pos)) (sym code_is) in
      let lt = true_below t.truth.items code h in
      half_below code (length t.levels.items) (omega (arith, lt, t.wide))

  module _ (vars : List ℕ) (level : ℕ) (at : level ≡ get_or t.levels.items (code / 2) level) where
    level_is : get_or t.levels.items (code / 2) 0 ≡ level
    level_is = sym (at ∙ get_or_default_zero t.levels.items (code / 2) level last_fits)

    abbrev e : Entry
    e = entry_at vars t.levels.items t.reasons.items code

    is : trail_entries vars t ≡ entries_of vars t.levels.items t.reasons.items front ++ (e ∷ [])
    is = ap (entries_of vars t.levels.items t.reasons.items) split ∙ entries_push vars t.levels.items t.reasons.items front code

    pub back_stop : (known : List (List Lit)) (low : ℕ) (old : List Entry) → Back known low old (trail_entries vars t) → level ≤ low → (l : Lit) → Set (trail_entries vars t) l → SetAt low (trail_entries vars t) l
    back_stop known low old b le = back_all known low old (trail_entries vars t) (entries_of vars t.levels.items t.reasons.items front) e b is (omega (arith, le, level_is))

    pub rises_stop : (low : ℕ) → RisesFrom 0 (trail_entries vars t) × (low ≤ last_level 0 (trail_entries vars t)) → level ≤ low → RisesFrom 0 (trail_entries vars t) × (last_level 0 (trail_entries vars t) ≡ low)
    rises_stop low r le = let q : last_level 0 (trail_entries vars t) ≡ e.level = ap (last_level 0) is ∙ last_push 0 (entries_of vars t.levels.items t.reasons.items front) e in (r.0, omega (arith, q, level_is, r.1, le))

    module _ (t2 : Trail) (o : Option ℕ) (codes_is : t.codes.items ≡ t2.codes.items ++ option_to_list o) (levels_is : t2.levels.items ≡ t.levels.items) (reasons_is : t2.reasons.items ≡ t.reasons.items) where
      now_is : trail_entries vars t2 ≡ entries_of vars t.levels.items t.reasons.items t2.codes.items
      now_is = ap (λ w. entries_of vars w t2.reasons.items t2.codes.items) levels_is ∙ ap (λ w. entries_of vars t.levels.items w t2.codes.items) reasons_is

      pub back_step : (known : List (List Lit)) (low : ℕ) (old : List Entry) → low < level → Back known low old (trail_entries vars t) → Back known low old (trail_entries vars t2)
      back_step known low old lt b = go o codes_is
        where
          go : (o : Option ℕ) → t.codes.items ≡ t2.codes.items ++ option_to_list o → Back known low old (trail_entries vars t2)
          go None h = subst (Back known low old) (ap (entries_of vars t.levels.items t.reasons.items) (h ∙ append-nil t2.codes.items) ∙ sym now_is) b
          go (Some k) h =
              let p = snoc t2.codes.items front k code (sym h ∙ split) in
              subst (Back known low old) (ap (entries_of vars t.levels.items t.reasons.items) (sym p.0) ∙ sym now_is) (back_pop known low old (trail_entries vars t) (entries_of vars t.levels.items t.reasons.items front) e b is (omega (arith, lt, level_is)))

      pub rises_step : (low : ℕ) → low < level → RisesFrom 0 (trail_entries vars t) × (low ≤ last_level 0 (trail_entries vars t)) → RisesFrom 0 (trail_entries vars t2) × (low ≤ last_level 0 (trail_entries vars t2))
      rises_step low lt r = go o codes_is
        where
          go : (o : Option ℕ) → t.codes.items ≡ t2.codes.items ++ option_to_list o → RisesFrom 0 (trail_entries vars t2) × (low ≤ last_level 0 (trail_entries vars t2))
          go None h = subst (λ (x : List Entry). RisesFrom 0 x × (low ≤ last_level 0 x)) (ap (entries_of vars t.levels.items t.reasons.items) (h ∙ append-nil t2.codes.items) ∙ sym now_is) r
          go (Some k) h =
              let p = snoc t2.codes.items front k code (sym h ∙ split) in
              let q = rises_pop 0 (entries_of vars t.levels.items t.reasons.items front) e (subst (RisesFrom 0) is r.0) in
              subst (λ (x : List Entry). RisesFrom 0 x × (low ≤ last_level 0 x)) (ap (entries_of vars t.levels.items t.reasons.items) (sym p.0) ∙ sym now_is) (q.0, omega (arith, q.2, level_is, lt))

-- nothing is left
pub back_empty : (t : Trail) (vars : List ℕ) (low : ℕ) → length t.codes.items ≤ 0 → (l : Lit) → Set (trail_entries vars t) l → SetAt low (trail_entries vars t) l
back_empty t vars low none l s = absurd (both_ways false refl (subst (λ w. Set (entries_of vars t.levels.items t.reasons.items w) l) (nil t.codes.items none) s))
  where
    nil : (xs : List ℕ) → length xs ≤ 0 → xs ≡ []
    nil [] h = refl
    nil (x ∷ xs) h = absurd (omega (arith, h))

pub rises_empty : (t : Trail) (vars : List ℕ) (low : ℕ) → length t.codes.items ≤ 0 → RisesFrom 0 (trail_entries vars t) × (low ≤ last_level 0 (trail_entries vars t)) → RisesFrom 0 (trail_entries vars t) × (last_level 0 (trail_entries vars t) ≡ low)
rises_empty t vars low none r = (r.0, let q : last_level 0 (trail_entries vars t) ≡ 0 = ap (λ w. last_level 0 (entries_of vars t.levels.items t.reasons.items w)) (nil t.codes.items none) in omega (arith, q, r.1))
  where
    nil : (xs : List ℕ) → length xs ≤ 0 → xs ≡ []
    nil [] h = refl
    nil (x ∷ xs) h = absurd (omega (arith, h))
