-- The entries that a trail of codes stands for.
use Rattle.std.proofs.Common.{◌≡◌, ℕ, ◌+◌, ◌-◌, ◌*◌, ◌/◌, ◌<◌, ◌≤◌, Bool, true, false, cond, ◌&&◌, ◌||◌, List, [], ◌∷◌, ◌++◌, Option, Some, None, slice_get, zero, suc, ◌⊎◌, inl, inr, refl, sym, ap, ◌∙◌, subst, arith, nat_eq, nat_le, length, get_or, set, get_or-set_other, get_or-set_same}
use Rattle.std.proofs.lemmas.Bool.{cases_Bool, both_ways, eqb-true, eq-eqb, false_from_ne_true, or_cases, or_left, or_right, and_parts, and_from, cases_eq}
use Rattle.std.specs.List.Sorted.{IsStrictlyIncreasing}
use Rattle.prop.specs.declared.Lit.{Lit}
use Rattle.prop.specs.Logic.{negated}
use Rattle.prop.specs.Trues.{listed}
use Rattle.prop.specs.Steps.{same, has, Has}
use Rattle.prop.proofs.Sets.{same-true, same_refl, same-from}
use Rattle.resolution_log.specs.Codes.{place, code_of, AllBelow, RowsBelow}
use Rattle.resolution_log.proofs.Places.{bool_same, code_inj, code_same}
use Rattle.clause_learning.specs.declared.Entry.{Entry}
use Rattle.clause_learning.specs.Trail.{set_in, Set, set_at, SetAt}
use Rattle.dense_trail.specs.Dense.{negation, is_true, level_of, Valued, lit_at, lits_of, known_of, entry_at, entries_of}
use Rattle.dense_trail.proofs.CodeLaws.{code_at, lit_code, code_negated, half_below}
use Rattle.dense_trail.proofs.ValueLaws.{true_below, listed_append}

pub entries_append : (vars levels : List ℕ) (reasons : List (Option ℕ)) (xs ys : List ℕ) → entries_of vars levels reasons (xs ++ ys) ≡ entries_of vars levels reasons xs ++ entries_of vars levels reasons ys
entries_append vars levels reasons [] ys = refl
entries_append vars levels reasons (x ∷ xs) ys = ap (λ w. entry_at vars levels reasons x ∷ w) (entries_append vars levels reasons xs ys)

pub entries_push : (vars levels : List ℕ) (reasons : List (Option ℕ)) (xs : List ℕ) (c : ℕ) → entries_of vars levels reasons (xs ++ (c ∷ [])) ≡ entries_of vars levels reasons xs ++ (entry_at vars levels reasons c ∷ [])
entries_push vars levels reasons xs c = entries_append vars levels reasons xs (c ∷ [])

-- another variable's level and reason
pub entries_set : (vars levels : List ℕ) (reasons : List (Option ℕ)) (xs : List ℕ) (n level : ℕ) (reason : Option ℕ) → ((k : ℕ) → listed xs k ≡ true → k / 2 ≡ n → ⊥) → entries_of vars (set levels n level) (set reasons n reason) xs ≡ entries_of vars levels reasons xs
entries_set vars levels reasons [] n level reason h = refl
entries_set vars levels reasons (x ∷ xs) n level reason h =
    let ne : x / 2 ≡ n → ⊥ = λ e. h x (or_left _ _ (eq-eqb x x refl)) e in
    let a : entry_at vars (set levels n level) (set reasons n reason) x ≡ entry_at vars levels reasons x = entry_path (lit_at vars x) (get_or-set_other levels n (x / 2) level 0 ne) (get_or-set_other reasons n (x / 2) reason None ne) in
    let b = entries_set vars levels reasons xs n level reason (λ k hk e. h k (or_right _ _ hk) e) in
    ap (λ w. w ∷ entries_of vars (set levels n level) (set reasons n reason) xs) a ∙ ap (λ w. entry_at vars levels reasons x ∷ w) b
  where
    entry_path : (l : Lit) {a b : ℕ} {p q : Option ℕ} → a ≡ b → p ≡ q → let d : Entry = record { lit = l; level = a; reason = p } in d ≡ record { lit = l; level = b; reason = q }
    entry_path l e f = cc (e, f)

pub entry_set : (vars levels : List ℕ) (reasons : List (Option ℕ)) (c level : ℕ) (reason : Option ℕ) → c / 2 < length levels → c / 2 < length reasons → entry_at vars (set levels (c / 2) level) (set reasons (c / 2) reason) c ≡ record { lit = lit_at vars c; level = level; reason = reason }
entry_set vars levels reasons c level reason a b = let p = get_or-set_same levels (c / 2) level 0 a in let q = get_or-set_same reasons (c / 2) reason None b in cc (p, q)

-- a literal stands on the trail where its code does
pub set_listed : (vars levels : List ℕ) (reasons : List (Option ℕ)) (xs : List ℕ) (l : Lit) → IsStrictlyIncreasing vars → ((k : ℕ) → listed xs k ≡ true → k < 2 * length vars) → set_in (entries_of vars levels reasons xs) l ≡ listed xs (code_of vars l)
set_listed vars levels reasons [] l up below = refl
set_listed vars levels reasons (x ∷ xs) l up below =
    let a : same (lit_at vars x) l ≡ nat_eq x (code_of vars l) = sym (code_same vars (lit_at vars x) l) ∙ ap (λ w. nat_eq w (code_of vars l)) (code_at vars x up (below x (or_left _ _ (eq-eqb x x refl)))) in
    let b = set_listed vars levels reasons xs l up (λ k h. below k (or_right _ _ h)) in
    ap (λ w. w || set_in (entries_of vars levels reasons xs) l) a ∙ ap (λ w. nat_eq x (code_of vars l) || w) b

pub at_listed : (vars levels : List ℕ) (reasons : List (Option ℕ)) (xs : List ℕ) (l : Lit) (j : ℕ) → IsStrictlyIncreasing vars → ((k : ℕ) → listed xs k ≡ true → k < 2 * length vars) → set_at j (entries_of vars levels reasons xs) l ≡ (listed xs (code_of vars l) && nat_le (level_of levels (code_of vars l)) j)
at_listed vars levels reasons [] l j up below = refl
at_listed vars levels reasons (x ∷ xs) l j up below =
    let a : same (lit_at vars x) l ≡ nat_eq x (code_of vars l) = sym (code_same vars (lit_at vars x) l) ∙ ap (λ w. nat_eq w (code_of vars l)) (code_at vars x up (below x (or_left _ _ (eq-eqb x x refl)))) in
    let b = at_listed vars levels reasons xs l j up (λ k h. below k (or_right _ _ h)) in
    ap (λ w. (w && nat_le (level_of levels x) j) || set_at j (entries_of vars levels reasons xs) l) a
    ∙ ap (λ w. (nat_eq x (code_of vars l) && nat_le (level_of levels x) j) || w) b
    ∙ merge x (code_of vars l) (listed xs (code_of vars l)) (cases_eq x (code_of vars l))
  where
    also : (a b : Bool) → ((true && a) || (b && a)) ≡ ((true || b) && a)
    also true b = refl
    also false true = refl
    also false false = refl

    merge : (x c : ℕ) (b : Bool) → (x ≡ c) ⊎ (x ≡ c → ⊥) → ((nat_eq x c && nat_le (level_of levels x) j) || (b && nat_le (level_of levels c) j)) ≡ ((nat_eq x c || b) && nat_le (level_of levels c) j)
    merge x c b (inl e) = ap (λ w. (nat_eq w c && nat_le (level_of levels w) j) || (b && nat_le (level_of levels c) j)) e ∙ ap (λ w. (w && nat_le (level_of levels c) j) || (b && nat_le (level_of levels c) j)) (eq-eqb c c refl) ∙ also (nat_le (level_of levels c) j) b ∙ sym (ap (λ w. (w || b) && nat_le (level_of levels c) j) (eq-eqb x c e))
    merge x c b (inr n) = let f : nat_eq x c ≡ false = false_from_ne_true _ (λ h. n (eqb-true x c h)) in ap (λ w. (w && nat_le (level_of levels x) j) || (b && nat_le (level_of levels c) j)) f ∙ sym (ap (λ w. (w || b) && nat_le (level_of levels c) j) f)

module _ (vars levels codes : List ℕ) (reasons : List (Option ℕ)) (truth : List Bool) (up : IsStrictlyIncreasing vars) (wide : length truth ≡ 2 * length vars) (v : Valued truth codes) where
  pub codes_below : (k : ℕ) → listed codes k ≡ true → k < 2 * length vars
  codes_below k h = let lt = true_below truth k (v k ∙ h) in omega (arith, lt, wide)

  pub set_code : (l : Lit) → set_in (entries_of vars levels reasons codes) l ≡ is_true truth (code_of vars l)
  set_code l = set_listed vars levels reasons codes l up codes_below ∙ sym (v (code_of vars l))

  pub at_code : (l : Lit) (j : ℕ) → set_at j (entries_of vars levels reasons codes) l ≡ (is_true truth (code_of vars l) && nat_le (level_of levels (code_of vars l)) j)
  at_code l j = at_listed vars levels reasons codes l j up codes_below ∙ ap (λ w. w && nat_le (level_of levels (code_of vars l)) j) (sym (v (code_of vars l)))

-- a clause has a literal where its row has the code
pub has_code : (vars : List ℕ) (r : List ℕ) (l : Lit) → IsStrictlyIncreasing vars → AllBelow (2 * length vars) r → has (lits_of vars r) l ≡ listed r (code_of vars l)
has_code vars [] l up b = refl
has_code vars (x ∷ r) l up b =
    let a : same (lit_at vars x) l ≡ nat_eq x (code_of vars l) = sym (code_same vars (lit_at vars x) l) ∙ ap (λ w. nat_eq w (code_of vars l)) (code_at vars x up b.0) in
    ap (λ w. w || has (lits_of vars r) l) a ∙ ap (λ w. nat_eq x (code_of vars l) || w) (has_code vars r l up b.1)

pub known_get : (vars : List ℕ) (rows : List (List ℕ)) (k : ℕ) (r : List ℕ) → slice_get rows k ≡ Some r → slice_get (known_of vars rows) k ≡ Some (lits_of vars r)
known_get vars [] k r h = absurd cc
known_get vars (x ∷ rows) zero r h = let e : x ≡ r = cc in ap (λ w. Some (lits_of vars w)) e
known_get vars (x ∷ rows) (suc k) r h = known_get vars rows k r h

pub known_back : (vars : List ℕ) (rows : List (List ℕ)) (k : ℕ) (c : List Lit) → slice_get (known_of vars rows) k ≡ Some c → (r : List ℕ) × (slice_get rows k ≡ Some r) × (c ≡ lits_of vars r)
known_back vars [] k c h = absurd cc
known_back vars (x ∷ rows) zero c h = (x, refl, cc)
known_back vars (x ∷ rows) (suc k) c h = known_back vars rows k c h

pub known_push : (vars : List ℕ) (rows : List (List ℕ)) (r : List ℕ) → known_of vars (rows ++ (r ∷ [])) ≡ known_of vars rows ++ (lits_of vars r ∷ [])
known_push vars [] r = refl
known_push vars (x ∷ rows) r = ap (λ w. lits_of vars x ∷ w) (known_push vars rows r)

pub known_length : (vars : List ℕ) (rows : List (List ℕ)) → length (known_of vars rows) ≡ length rows
known_length vars [] = refl
known_length vars (x ∷ rows) = ap suc (known_length vars rows)
