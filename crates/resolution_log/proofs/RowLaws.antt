-- Rows of codes beside clauses, and what a chain over them gives.
use Rattle.std.proofs.Common.{◌≡◌, ℕ, ◌+◌, ◌-◌, ◌*◌, ◌<◌, ◌≤◌, length, List, [], ◌∷◌, ◌++◌, arith, ap, ap₂, sym, ◌∙◌, refl, zero, suc, get_or, set, subst, Bool, true, false, not, ◌&&◌, ◌||◌, cond, nat_eq, ◌⊎◌, inl, inr, Option, Some, None, slice_get, length-set, drop, add-one, drop-cons, append_assoc, Result, Ok, Err, IfOk}
use Rattle.std.proofs.lemmas.Bool.{and_parts, and_from, or_cases, or_left, or_right, both_ways, eqb-true, eq-eqb, false_from_ne_true, ne_eqb, cases_eq}
use Rattle.std.proofs.lemmas.List.{get_or_past}
use Rattle.std.specs.List.Sorted.{IsStrictlyIncreasing}
use Rattle.prop.specs.declared.Lit.{Lit}
use Rattle.prop.specs.Logic.{negated, positive_of}
use Rattle.prop.specs.Trues.{listed}
use Rattle.prop.specs.Steps.{same, has, Has, negative_of, without, crosses, resolved, one_way, resolve}
use Rattle.prop.proofs.Sets.{Has-head}
use Rattle.resolution_log.specs.declared.Chain.{Chain}
use Rattle.resolution_log.specs.Chains.{then_with, chain_from, chain_result}
use Rattle.resolution_log.specs.Verdict.{Verdict, Bad, verdict_of, verdict_at, is_nil}
use Rattle.resolution_log.specs.Codes.{place, code_of, AllBelow, RowsBelow, IsRow, AreRows, AreRows.none, AreRows.also}
use Rattle.resolution_log.specs.Marks.{is_marked, mark_all, note_all, gather, gathered, meets, ways_differ, gone_code, kept_code, AtMost, Sofar, IsStep}
use Rattle.resolution_log.proofs.Places.{code_same, code_inj, bool_same, decoded, place_absent}
use Rattle.resolution_log.proofs.MarkLaws.{marked_zero, all_below_listed, all_below_from, below_moved, most_set, load}
use Rattle.resolution_log.proofs.StepLaws.{step_bad, step_good}

pub row_of : (vars : List ℕ) (rows : List (List ℕ)) (cs : List (List Lit)) (k : ℕ) (row : List ℕ) → AreRows vars rows cs → slice_get rows k ≡ Some row → (d : List Lit) × (slice_get cs k ≡ Some d) × IsRow vars row d
row_of vars [] [] k row none h = absurd cc
row_of vars [] (c ∷ cs) k row x h = elim x [ ]
row_of vars (r ∷ rows) [] k row x h = elim x [ ]
row_of vars (r ∷ rows) (c ∷ cs) zero row (also q t) h = let e : r ≡ row = cc in (c, refl, subst (λ w. IsRow vars w c) e q)
row_of vars (r ∷ rows) (c ∷ cs) (suc k) row (also q t) h = row_of vars rows cs k row t h

pub rows_length : (vars : List ℕ) (rows : List (List ℕ)) (cs : List (List Lit)) → AreRows vars rows cs → length rows ≡ length cs
rows_length vars [] [] none = refl
rows_length vars [] (c ∷ cs) x = elim x [ ]
rows_length vars (r ∷ rows) [] x = elim x [ ]
rows_length vars (r ∷ rows) (c ∷ cs) (also q t) = ap suc (rows_length vars rows cs t)

pub rows_push : (vars : List ℕ) (rows : List (List ℕ)) (cs : List (List Lit)) (row : List ℕ) (r : List Lit) → AreRows vars rows cs → IsRow vars row r → AreRows vars (rows ++ (row ∷ [])) (cs ++ (r ∷ []))
rows_push vars [] [] row r none h = also h none
rows_push vars [] (c ∷ cs) row r x h = elim x [ ]
rows_push vars (y ∷ rows) [] row r x h = elim x [ ]
rows_push vars (x ∷ rows) (c ∷ cs) row r (also q t) h = also q (rows_push vars rows cs row r t h)

pub rows_below : (vars : List ℕ) (rows : List (List ℕ)) (cs : List (List Lit)) → AreRows vars rows cs → RowsBelow (2 * length vars) rows
rows_below vars [] [] none = tt
rows_below vars [] (c ∷ cs) x = elim x [ ]
rows_below vars (y ∷ rows) [] x = elim x [ ]
rows_below vars (x ∷ rows) (c ∷ cs) (also q t) = (q.1, rows_below vars rows cs t)

pub row_below : (n : ℕ) (rows : List (List ℕ)) (k : ℕ) (row : List ℕ) → RowsBelow n rows → slice_get rows k ≡ Some row → AllBelow n row
row_below n [] k row h g = absurd cc
row_below n (r ∷ rows) zero row h g = let e : r ≡ row = cc in subst (AllBelow n) e h.0
row_below n (r ∷ rows) (suc k) row h g = row_below n rows k row h.1 g

get_past : (xs : List (List Lit)) (k : ℕ) → length xs ≤ k → slice_get xs k ≡ None
get_past [] k h = refl
get_past (x ∷ xs) zero h = absurd (omega arith)
get_past (x ∷ xs) (suc k) h = let g : length xs ≤ k = omega arith in get_past xs k g

-- a pair whose clause is not known
pub pair_past : (vars : List ℕ) (rows : List (List ℕ)) (cs : List (List Lit)) (c : List Lit) (p : ℕ × ℕ) (ps : List (ℕ × ℕ)) → AreRows vars rows cs → length rows ≤ p.1 → chain_from cs c (p ∷ ps) ≡ None
pair_past vars rows cs c p ps a h =
    let e = rows_length vars rows cs a in
    rw (get_past cs p.1 (omega (arith, e, h))) refl

pub first_past : (vars : List ℕ) (rows : List (List ℕ)) (cs : List (List Lit)) (ch : Chain) → AreRows vars rows cs → length rows ≤ ch.first → chain_result cs ch ≡ None
first_past vars rows cs ch a h =
    let e = rows_length vars rows cs a in
    rw (get_past cs ch.first (omega (arith, e, h))) refl

-- a pivot that does not occur
absent_code : (vars : List ℕ) (v : ℕ) (b : Bool) → listed vars v ≡ false → 2 * length vars ≤ code_of vars (record { var = v; positive = b })
absent_code vars v b h = let e = place_absent vars v h in omega (arith, e)

absent_in : (vars : List ℕ) (e : ℕ) (s m : List ℕ) (c : List Lit) (v : ℕ) (b : Bool) → 0 < e → length s ≡ 2 * length vars → listed vars v ≡ false → Sofar vars e s m c → has c (record { var = v; positive = b }) ≡ false
absent_in vars e s m c v b p size h so =
    let l : Lit = record { var = v; positive = b } in
    let past : length s ≤ code_of vars l = (let q = absent_code vars v b h in omega (arith, q, size)) in
    sym (so.shows l) ∙ ne_eqb _ _ (λ q. let z = get_or_past s (code_of vars l) 0 past in absurd (omega (arith, z, q, p)))

absent_step : (vars : List ℕ) (e : ℕ) (s m : List ℕ) (c d : List Lit) (v : ℕ) → 0 < e → length s ≡ 2 * length vars → listed vars v ≡ false → Sofar vars e s m c → resolve v c d ≡ None
absent_step vars e s m c d v p size h so =
    let a = absent_in vars e s m c v true p size h so in
    let b = absent_in vars e s m c v false p size h so in
    go (has c (positive_of v)) (has c (negative_of v)) a b
  where
    go : (x y : Bool) → x ≡ false → y ≡ false → one_way (x && has d (negated (positive_of v))) (y && has d (negated (negative_of v))) v c d ≡ None
    go true y f g = absurd (both_ways true f refl)
    go false true f g = absurd (both_ways true g refl)
    go false false f g = refl

pub pair_absent : (vars : List ℕ) (e : ℕ) (s m : List ℕ) (cs : List (List Lit)) (c : List Lit) (p : ℕ × ℕ) (ps : List (ℕ × ℕ)) → 0 < e → length s ≡ 2 * length vars → listed vars p.0 ≡ false → Sofar vars e s m c → chain_from cs c (p ∷ ps) ≡ None
pair_absent vars e s m cs c p ps pos size h so = go (slice_get cs p.1)
  where
    go : (o : Option (List Lit)) → then_with o (λ d. then_with (resolve p.0 c d) (λ x. chain_from cs x ps)) ≡ None
    go None = refl
    go (Some d) = rw (absent_step vars e s m c d p.0 pos size h so) refl

-- a pair whose step is not valid, and one whose step is
pub pair_bad : (vars : List ℕ) (e : ℕ) (s m row : List ℕ) (rows : List (List ℕ)) (cs : List (List Lit)) (c : List Lit) (p : ℕ × ℕ) (ps : List (ℕ × ℕ)) (number : ℕ) → AreRows vars rows cs → slice_get rows p.1 ≡ Some row → number ≡ place vars p.0 → Sofar vars e s m c → ways_differ e s row (2 * number) (2 * number + 1) ≡ false → chain_from cs c (p ∷ ps) ≡ None
pair_bad vars e s m row rows cs c p ps number a g q so h =
    let (d, gd, r) = row_of vars rows cs p.1 row a g in
    rw (gd, step_bad vars e s m row c d p.0 number q so r h) refl

pub pair_good : (vars : List ℕ) (e : ℕ) (s m row s2 m2 : List ℕ) (rows : List (List ℕ)) (cs : List (List Lit)) (c : List Lit) (p : ℕ × ℕ) (ps : List (ℕ × ℕ)) (number : ℕ) → 0 < e → number < length vars → length s ≡ 2 * length vars → AreRows vars rows cs → slice_get rows p.1 ≡ Some row → number ≡ place vars p.0 → Sofar vars e s m c → ways_differ e s row (2 * number) (2 * number + 1) ≡ true
    → s2 ≡ mark_all e (kept_code e s row number) (set s (gone_code e s row number) 0) row → m2 ≡ note_all e (kept_code e s row number) (set s (gone_code e s row number) 0) m row
    → (c2 : List Lit) × Sofar vars e s2 m2 c2 × (chain_from cs c2 ps ≡ chain_from cs c (p ∷ ps))
pair_good vars e s m row s2 m2 rows cs c p ps number pos lt size a g q so h es em =
    let (d, gd, r) = row_of vars rows cs p.1 row a g in
    let (c2, gc, so2) = step_good vars e s m row s2 m2 c d p.0 number pos lt size q so r h es em in
    (c2, so2, rw (gd, gc) refl)

-- the marked codes of the members
gather_to : (e : ℕ) (xs ks : List ℕ) (k : ℕ) → 0 < e → AllBelow (length xs) ks → listed (gather e xs ks) k ≡ true → (is_marked e xs k ≡ true) × (listed ks k ≡ true)
gather_to e xs [] k p h t = absurd cc
gather_to e xs (i ∷ ks) k p h t = go (is_marked e xs i) refl t (λ g. gather_to e (set xs i 0) ks k p (below_moved _ _ ks (sym (length-set xs i 0)) h.1) g) (λ g. gather_to e xs ks k p h.1 g)
  where
    go : (b : Bool) → is_marked e xs i ≡ b → listed (cond b (i ∷ gather e (set xs i 0) ks) (gather e xs ks)) k ≡ true → (listed (gather e (set xs i 0) ks) k ≡ true → (is_marked e (set xs i 0) k ≡ true) × (listed ks k ≡ true)) → (listed (gather e xs ks) k ≡ true → (is_marked e xs k ≡ true) × (listed ks k ≡ true)) → (is_marked e xs k ≡ true) × (listed (i ∷ ks) k ≡ true)
    go true q z f g = elim (or_cases (nat_eq i k) (listed (gather e (set xs i 0) ks) k) z) [
      | inl a ↦ (subst (λ w. is_marked e xs w ≡ true) (eqb-true i k a) q, or_left _ _ a)
      | inr b ↦ (let y = f b in ((and_parts (is_marked e xs k) (not (nat_eq i k)) (sym (marked_zero e xs i k p h.0) ∙ y.0)).0, or_right _ _ y.1))
    ]
    go false q z f g = let y = g z in (y.0, or_right _ _ y.1)

gather_from : (e : ℕ) (xs ks : List ℕ) (k : ℕ) → 0 < e → AllBelow (length xs) ks → is_marked e xs k ≡ true → listed ks k ≡ true → listed (gather e xs ks) k ≡ true
gather_from e xs [] k p h m t = absurd (both_ways false refl t)
gather_from e xs (i ∷ ks) k p h m t = go (is_marked e xs i) refl (λ g u. gather_from e (set xs i 0) ks k p (below_moved _ _ ks (sym (length-set xs i 0)) h.1) g u) (λ u. gather_from e xs ks k p h.1 m u)
  where
    go : (b : Bool) → is_marked e xs i ≡ b → (is_marked e (set xs i 0) k ≡ true → listed ks k ≡ true → listed (gather e (set xs i 0) ks) k ≡ true) → (listed ks k ≡ true → listed (gather e xs ks) k ≡ true) → listed (cond b (i ∷ gather e (set xs i 0) ks) (gather e xs ks)) k ≡ true
    go true q f g = elim (cases_eq i k) [
      | inl a ↦ or_left _ _ (eq-eqb i k a)
      | inr n ↦ or_right _ _ (f (marked_zero e xs i k p h.0 ∙ and_from (is_marked e xs k) (not (nat_eq i k)) m (ap not (ne_eqb i k n))) (rest n))
    ]
      where
        rest : (i ≡ k → ⊥) → listed ks k ≡ true
        rest n = elim (or_cases (nat_eq i k) (listed ks k) t) [ inl a ↦ absurd (n (eqb-true i k a)) | inr b ↦ b ]
    go false q f g = g (elim (or_cases (nat_eq i k) (listed ks k) t) [ inl a ↦ absurd (both_ways (is_marked e xs i) q (subst (λ w. is_marked e xs w ≡ true) (sym (eqb-true i k a)) m)) | inr b ↦ b ])

pub gathered_length : (e : ℕ) (xs ks : List ℕ) → length (gathered e xs ks) ≡ length xs
gathered_length e xs [] = refl
gathered_length e xs (i ∷ ks) = go (is_marked e xs i) (gathered_length e (set xs i 0) ks ∙ length-set xs i 0) (gathered_length e xs ks)
  where
    go : (b : Bool) → length (gathered e (set xs i 0) ks) ≡ length xs → length (gathered e xs ks) ≡ length xs → length (cond b (gathered e (set xs i 0) ks) (gathered e xs ks)) ≡ length xs
    go true f g = f
    go false f g = g

pub gathered_most : (e : ℕ) (xs ks : List ℕ) → AllBelow (length xs) ks → AtMost e xs → AtMost e (gathered e xs ks)
gathered_most e xs [] h f = f
gathered_most e xs (i ∷ ks) h f = go (is_marked e xs i) (gathered_most e (set xs i 0) ks (below_moved _ _ ks (sym (length-set xs i 0)) h.1) (most_set e 0 xs i h.0 (omega arith) f)) (gathered_most e xs ks h.1 f)
  where
    go : (b : Bool) → AtMost e (gathered e (set xs i 0) ks) → AtMost e (gathered e xs ks) → AtMost e (cond b (gathered e (set xs i 0) ks) (gathered e xs ks))
    go true x y = x
    go false x y = y

pub gather_row : (vars : List ℕ) (e : ℕ) (s m : List ℕ) (r : List Lit) → 0 < e → length s ≡ 2 * length vars → Sofar vars e s m r → IsRow vars (gather e s m) r
gather_row vars e s m r p size so = ((λ l. bool_same _ _ (λ t. sym (so.shows l) ∙ (gather_to e s m (code_of vars l) p below t).0) (λ t. gather_from e s m (code_of vars l) p below (so.shows l ∙ t) (so.kept (code_of vars l) (so.shows l ∙ t)))), all_below_from (2 * length vars) (gather e s m) (λ k t. subst (λ w. k < w) size (so.within k (gather_to e s m k p below t).1)))
  where
    below : AllBelow (length s) m
    below = all_below_from (length s) m so.within

pub row_nil : (vars : List ℕ) (row : List ℕ) (r : List Lit) → IsStrictlyIncreasing vars → IsRow vars row r → nat_eq (length row) 0 ≡ is_nil r
row_nil vars [] [] up h = refl
row_nil vars [] (l ∷ r) up h = absurd (both_ways false refl (h.0 l ∙ Has-head l r))
row_nil vars (k ∷ row) [] up h =
    let (l, e) = decoded vars up k h.1.0 in
    absurd (both_ways false refl (sym (h.0 l) ∙ or_left (nat_eq k (code_of vars l)) (listed row (code_of vars l)) (eq-eqb k (code_of vars l) (sym e))))
row_nil vars (k ∷ row) (l ∷ r) up h = ne_eqb (suc (length row)) 0 (λ q. absurd (omega (arith, q))) ∙ sym (ne_eqb (suc (length r)) 0 (λ q. absurd (omega (arith, q))))

-- the verdict after one more chain
pub verdict_next : (cs : List (List Lit)) (r : List Lit) (log : List Chain) (i : ℕ) (last last2 : Bool) (d : Chain) (w : Verdict) → i < length log → chain_result cs (get_or log i d) ≡ Some r → last2 ≡ is_nil r → verdict_of cs i last (drop i log) ≡ w → verdict_of (cs ++ (r ∷ [])) (i + 1) last2 (drop (i + 1) log) ≡ w
verdict_next cs r log i last last2 d w h g b e =
    let p : drop i log ≡ get_or log i d ∷ drop (i + 1) log = rw add-one (drop-cons log i d h) in
    let e1 : verdict_at i (chain_result cs (get_or log i d)) (λ x. verdict_of (cs ++ (x ∷ [])) (i + 1) (is_nil x) (drop (i + 1) log)) ≡ w = subst (λ x. verdict_of cs i last x ≡ w) p e in
    let e2 : verdict_of (cs ++ (r ∷ [])) (i + 1) (is_nil r) (drop (i + 1) log) ≡ w = subst (λ x. verdict_at i x (λ x. verdict_of (cs ++ (x ∷ [])) (i + 1) (is_nil x) (drop (i + 1) log)) ≡ w) g e1 in
    rw b e2

pub verdict_bad : (cs : List (List Lit)) (log : List Chain) (i : ℕ) (last : Bool) (d : Chain) (w : Verdict) → i < length log → chain_result cs (get_or log i d) ≡ None → verdict_of cs i last (drop i log) ≡ w → w ≡ Bad i
verdict_bad cs log i last d w h g e =
    let p : drop i log ≡ get_or log i d ∷ drop (i + 1) log = rw add-one (drop-cons log i d h) in
    let e1 : verdict_at i (chain_result cs (get_or log i d)) (λ x. verdict_of (cs ++ (x ∷ [])) (i + 1) (is_nil x) (drop (i + 1) log)) ≡ w = subst (λ x. verdict_of cs i last x ≡ w) p e in
    sym (subst (λ x. verdict_at i x (λ x. verdict_of (cs ++ (x ∷ [])) (i + 1) (is_nil x) (drop (i + 1) log)) ≡ w) g e1)

pub next_pair : (cs : List (List Lit)) (c : List Lit) (ps : List (ℕ × ℕ)) (i : ℕ) → i < length ps → chain_from cs c (drop i ps) ≡ chain_from cs c (get_or ps i (0, 0) ∷ drop (i + 1) ps)
next_pair cs c ps i h = let e : drop i ps ≡ get_or ps i (0, 0) ∷ drop (i + 1) ps = rw add-one (drop-cons ps i (0, 0) h) in ap (chain_from cs c) e

-- the chain from its first clause
pub chain_begins : (cs : List (List Lit)) (ch : Chain) (c : List Lit) → slice_get cs ch.first ≡ Some c → chain_result cs ch ≡ chain_from cs c ch.pairs
chain_begins cs ch c h = rw h refl

pub if_ok_to : {T E : Type 0} (P Q : T → Type 0) → ((x : T) → P x → Q x) → (r : Result T E) → IfOk r P → IfOk r Q
if_ok_to P Q f (Ok x) h = f x h
if_ok_to P Q f (Err e) h = h

-- a chain from marks that are loaded with its first clause
pub chain_loaded : (vars : List ℕ) (e : ℕ) (s s2 m row ps : List ℕ) (rows : List (List ℕ)) (cs : List (List Lit)) (ch : Chain) (m2 : List ℕ) (ok : Bool) (s3 m3 : List ℕ) (pairs : List (ℕ × ℕ)) → length vars ≤ 67108864 → length s ≡ 2 * length vars → m ≡ [] → slice_get rows ch.first ≡ Some row → s2 ≡ mark_all e 4294967295 s row → m2 ≡ note_all e 4294967295 s m row → pairs ≡ ch.pairs
    → ((ds : List (List Lit)) (d : List Lit) → AreRows vars rows ds → 0 < e → Sofar vars e s2 m2 d → IsStep ok vars e s3 m3 (chain_from ds d pairs))
    → AreRows vars rows cs → 0 < e → AtMost (e - 1) s → IsStep ok vars e s3 m3 (chain_result cs ch)
chain_loaded vars e s s2 m row ps rows cs ch m2 ok s3 m3 pairs few size nil g es em ep f a pos most =
    let (d, gd, r) = row_of vars rows cs ch.first row a g in
    let so = load vars e 4294967295 s m row d pos most nil size (omega (arith, size, few)) r in
    let so2 : Sofar vars e s2 m2 d = subst (λ w. Sofar vars e w m2 d) (sym es) (subst (λ w. Sofar vars e (mark_all e 4294967295 s row) w d) (sym em) so) in
    let h = f cs d a pos so2 in
    subst (IsStep ok vars e s3 m3) (ap (chain_from cs d) ep ∙ sym (chain_begins cs ch d gd)) h

-- the state of a check between two chains
pub record Checked (vars : List ℕ) (rows : List (List ℕ)) (stamps : List ℕ) (i : ℕ) (last : Bool) (log : List Chain) (w : Verdict) : Type 0 where
  pub known : List (List Lit)
  pub rows_are : AreRows vars rows known
  pub size : length stamps ≡ 2 * length vars
  pub most : AtMost i stamps
  pub verdict : verdict_of known i last (drop i log) ≡ w

pub checked_next : (vars : List ℕ) (rows rows2 : List (List ℕ)) (s s1 s2 m : List ℕ) (i : ℕ) (last last2 : Bool) (log : List Chain) (w : Verdict) (d : Chain) → IsStrictlyIncreasing vars → i < length log → Checked vars rows s i last log w → length s1 ≡ length s
    → ((cs : List (List Lit)) → AreRows vars rows cs → 0 < i + 1 → AtMost ((i + 1) - 1) s → IsStep true vars (i + 1) s1 m (chain_result cs (get_or log i d)))
    → rows2 ≡ rows ++ (gather (i + 1) s1 m ∷ []) → s2 ≡ gathered (i + 1) s1 m → last2 ≡ nat_eq (length (gather (i + 1) s1 m)) 0 → Checked vars rows2 s2 (i + 1) last2 log w
checked_next vars rows rows2 s s1 s2 m i last last2 log w d up lt k l f er es el =
    let e1 : (i + 1) - 1 ≡ i = omega arith in
    let pos : 0 < i + 1 = omega arith in
    let (r, gr, so) = f k.known k.rows_are pos (subst (λ n. AtMost n s) (sym e1) k.most) in
    let size1 : length s1 ≡ 2 * length vars = l ∙ k.size in
    let row = gather_row vars (i + 1) s1 m r pos size1 so in
    let below = all_below_from (length s1) m so.within in
    record {
      known = k.known ++ (r ∷ []);
      rows_are = rw er (rows_push vars rows k.known (gather (i + 1) s1 m) r k.rows_are row);
      size = rw es (gathered_length (i + 1) s1 m ∙ size1);
      most = rw es (gathered_most (i + 1) s1 m below so.most);
      verdict = verdict_next k.known r log i last last2 d w lt gr (el ∙ row_nil vars (gather (i + 1) s1 m) r up row) k.verdict;
    }

pub checked_bad : (vars : List ℕ) (rows : List (List ℕ)) (s s1 m : List ℕ) (i : ℕ) (last : Bool) (log : List Chain) (w : Verdict) (d : Chain) → i < length log → Checked vars rows s i last log w
    → ((cs : List (List Lit)) → AreRows vars rows cs → 0 < i + 1 → AtMost ((i + 1) - 1) s → IsStep false vars (i + 1) s1 m (chain_result cs (get_or log i d)))
    → w ≡ Bad i
checked_bad vars rows s s1 m i last log w d lt k f =
    let e1 : (i + 1) - 1 ≡ i = omega arith in
    verdict_bad k.known log i last d w lt (f k.known k.rows_are (omega arith) (subst (λ n. AtMost n s) (sym e1) k.most)) k.verdict

pub checked_members : (vars : List ℕ) (rows : List (List ℕ)) (s s1 m : List ℕ) (i : ℕ) (last : Bool) (log : List Chain) (w : Verdict) (d : Chain) → Checked vars rows s i last log w
    → ((cs : List (List Lit)) → AreRows vars rows cs → 0 < i + 1 → AtMost ((i + 1) - 1) s → IsStep true vars (i + 1) s1 m (chain_result cs (get_or log i d)))
    → AllBelow (length s1) m
checked_members vars rows s s1 m i last log w d k f =
    let e1 : (i + 1) - 1 ≡ i = omega arith in
    let (r, gr, so) = f k.known k.rows_are (omega arith) (subst (λ n. AtMost n s) (sym e1) k.most) in
    all_below_from (length s1) m so.within

-- what a run of a chain told, at the values of a check
pub step_as : (vars : List ℕ) (rows : List (List ℕ)) (s s1 m : List ℕ) (i : ℕ) (ok b : Bool) (log : List Chain) (d : Chain) → ok ≡ b → d ≡ get_or log i d
    → ((cs : List (List Lit)) → AreRows vars rows cs → 0 < i + 1 → AtMost ((i + 1) - 1) s → IsStep ok vars (i + 1) s1 m (chain_result cs d))
    → (cs : List (List Lit)) → AreRows vars rows cs → 0 < i + 1 → AtMost ((i + 1) - 1) s → IsStep b vars (i + 1) s1 m (chain_result cs (get_or log i d))
step_as vars rows s s1 m i ok b log d t e f cs a pos most = subst (λ x. IsStep x vars (i + 1) s1 m (chain_result cs (get_or log i d))) t (subst (λ x. IsStep ok vars (i + 1) s1 m (chain_result cs x)) e (f cs a pos most))
