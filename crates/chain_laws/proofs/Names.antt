-- The cells that a term names.
use Rattle.std.proofs.Common.{◌≡◌, ℕ, ◌+◌, ◌<◌, ◌≤◌, ◌⊎◌, inl, inr, All, List, [], ◌∷◌, ◌++◌, length, length-append, Some, slice_get, slice_index_or, zero, suc, refl, sym, ap, ◌∙◌, subst, arith}
use Rattle.std.specs.Prelude.{Contains}
use Rattle.std.proofs.lemmas.Bool.{cases_lt}
use Rattle.std.proofs.lemmas.Option.{slice_get_within}
use Rattle.bv_term.specs.declared.term.Term.{Term}
use Rattle.bv_term.specs.declared.term.Term.TheVariants.{Constant, Cell, And, Or, Not, Bit}
use Rattle.bv_term.specs.declared.term.TermId.{TermId}
use Rattle.bv_term.specs.WellFormed.{Table}
use Rattle.formula_diagrams.specs.Writings.{IsPlain, IsPlain.is_constant, IsPlain.is_cell, IsPlain.is_bit, IsPlain.is_not, IsPlain.is_and, IsPlain.is_or}
use Rattle.obligation_laws.proofs.Alike.{Has}
use Rattle.term_copy.specs.Copies.{AreCopies, number_in}
use Rattle.needed_cells.specs.Reads.{list_at, named_after, named_in, names}

-- lists of cells
pub has-left : (xs ys : List ℕ) (c : ℕ) → Has xs c → Has (xs ++ ys) c
has-left [] ys c h = absurd h
has-left (x ∷ xs) ys c (inl e) = inl e
has-left (x ∷ xs) ys c (inr h) = inr (has-left xs ys c h)

pub has-right : (xs ys : List ℕ) (c : ℕ) → Has ys c → Has (xs ++ ys) c
has-right [] ys c h = h
has-right (x ∷ xs) ys c h = inr (has-right xs ys c h)

pub has-either : (xs ys : List ℕ) (c : ℕ) → Has (xs ++ ys) c → Has xs c ⊎ Has ys c
has-either [] ys c h = inr h
has-either (x ∷ xs) ys c (inl e) = inl (inl e)
has-either (x ∷ xs) ys c (inr h) = elim (has-either xs ys c h) [ inl a ↦ inl (inr a) | inr b ↦ inr b ]

contains : (xs : List ℕ) (c : ℕ) → Has xs c → Contains xs c
contains [] c h = absurd h
contains (x ∷ xs) c (inl e) = (0, omega arith, sym e)
contains (x ∷ xs) c (inr h) = let (k, lt, at) = contains xs c h in (suc k, omega (arith, lt), at)

has-at : (xs : List ℕ) (k d : ℕ) → k < length xs → Has xs (slice_index_or xs k d)
has-at [] k d lt = absurd (omega (arith, lt))
has-at (x ∷ xs) zero d lt = inl refl
has-at (x ∷ xs) (suc k) d lt = inr (has-at xs k d (omega (arith, lt)))

pub all-contained : (xs cells : List ℕ) → ((c : ℕ) → Has xs c → Has cells c) → All (Contains cells) xs
all-contained xs cells f k d lt = contains cells (slice_index_or xs k d) (f (slice_index_or xs k d) (has-at xs k d lt))

-- the names of a term, by those of the terms before it
list-front : (xs ys : List (List ℕ)) (k : ℕ) → k < length xs → list_at (xs ++ ys) k ≡ list_at xs k
list-front [] ys k lt = absurd (omega (arith, lt))
list-front (x ∷ xs) ys zero lt = refl
list-front (x ∷ xs) ys (suc k) lt = list-front xs ys k (omega (arith, lt))

list-last : (xs : List (List ℕ)) (x : List ℕ) → list_at (xs ++ x ∷ []) (length xs) ≡ x
list-last [] x = refl
list-last (y ∷ xs) x = list-last xs x

list-past : (xs : List (List ℕ)) (k c : ℕ) → length xs ≤ k → Has (list_at xs k) c → ⊥
list-past [] k c le h = h
list-past (x ∷ xs) zero c le h = absurd (omega (arith, le))
list-past (x ∷ xs) (suc k) c le h = list-past xs k c (omega (arith, le)) h

named-keep : (done : List (List ℕ)) (ts : List Term) (k : ℕ) → k < length done → list_at (named_after done ts) k ≡ list_at done k
named-keep done [] k lt = refl
named-keep done (t ∷ ts) k lt =
    named-keep (done ++ named_in done t ∷ []) ts k (omega (arith, lt, length-append done (named_in done t ∷ [])))
    ∙ list-front done (named_in done t ∷ []) k lt

-- so many lists of the terms before a term, which give the cells that it names
record MadeOf (all : List (List ℕ)) (n : ℕ) (u : Term) : Type 0 where
  front : List (List ℕ)
  many : length front ≡ n
  is : list_at all n ≡ named_in front u
  same : (j : ℕ) → j < n → list_at front j ≡ list_at all j

made-from : (done : List (List ℕ)) (ts : List Term) (k : ℕ) (u : Term) → slice_get ts k ≡ Some u → MadeOf (named_after done ts) (length done + k) u
made-from done [] k u g = absurd cc
made-from done (t ∷ ts) zero u g =
    let e : t ≡ u = cc in
    let x : List ℕ = named_in done t in
    let z : length done + 0 ≡ length done = omega arith in
    let long : length (done ++ x ∷ []) ≡ length done + 1 = length-append done (x ∷ []) in
    record {
      front = done;
      many = sym z;
      is =
          ap (list_at (named_after (done ++ x ∷ []) ts)) z ∙ named-keep (done ++ x ∷ []) ts (length done) (omega (arith, long)) ∙ list-last done x
          ∙ ap (named_in done) e;
      same = λ j lt. sym (named-keep done (t ∷ ts) j (omega (arith, lt)));
    }
made-from done (t ∷ ts) (suc k) u g =
    let x : List ℕ = named_in done t in
    let long : length (done ++ x ∷ []) ≡ length done + 1 = length-append done (x ∷ []) in
    let z : length (done ++ x ∷ []) + k ≡ length done + suc k = omega (arith, long) in
    subst (λ (n : ℕ). MadeOf (named_after done (t ∷ ts)) n u) z (made-from (done ++ x ∷ []) ts k u g)

module _ (table : Table) (k : ℕ) (u : Term) (g : slice_get table.terms k ≡ Some u) where
  made : MadeOf (named_after [] table.terms) k u
  made = let z : 0 + k ≡ k = omega arith in subst (λ (n : ℕ). MadeOf (named_after [] table.terms) n u) z (made-from [] table.terms k u g)

  -- the lists of the terms before it
  pub fronts : List (List ℕ)
  fronts = made.front

  pub names-made : list_at (named_after [] table.terms) k ≡ named_in fronts u
  unfolding fronts made
  names-made = made.is

  pub names-before : (j c : ℕ) → j < k → Has (list_at (named_after [] table.terms) j) c → Has (list_at fronts j) c
  unfolding fronts made
  names-before j c lt h = subst (λ (xs : List ℕ). Has xs c) (sym (made.same j lt)) h

  pub names-of : (j c : ℕ) → Has (list_at fronts j) c → Has (list_at (named_after [] table.terms) j) c
  unfolding fronts made
  names-of j c h = way (cases_lt j k)
    where
      way : (j < k) ⊎ (k ≤ j) → Has (list_at (named_after [] table.terms) j) c
      way (inl lt) = subst (λ (xs : List ℕ). Has xs c) (made.same j lt) h
      way (inr le) = let m = made.many in absurd (list-past made.front j c (omega (arith, le, m)) h)

-- a formula names cells of its bits alone
pub names-plain : (table : Table) (P : ℕ → Type 0) (t : TermId) → IsPlain table P t → (c : ℕ) → Has (names table t) c → P c
names-plain table P t (is_constant w v s) c h =
    absurd (subst (λ (xs : List ℕ). Has xs c) (names-made table t.0 (Constant w v) s) h)
names-plain table P t (is_cell d n s) c h = one (subst (λ (xs : List ℕ). Has xs c) (names-made table t.0 (Cell d) s) h)
  where
    one : Has (d ∷ []) c → P c
    one (inl e) = subst P (sym e) n
    one (inr x) = absurd x
names-plain table P t (is_bit k i p s) c h =
    names-plain table P i p c
    (names-of table t.0 (Bit k i) s i.0 c (subst (λ (xs : List ℕ). Has xs c) (names-made table t.0 (Bit k i) s) h))
names-plain table P t (is_not i p s) c h =
    names-plain table P i p c (names-of table t.0 (Not i) s i.0 c (subst (λ (xs : List ℕ). Has xs c) (names-made table t.0 (Not i) s) h))
names-plain table P t (is_and i j p q s) c h =
    elim (has-either (list_at (fronts table t.0 (And i j) s) i.0) (list_at (fronts table t.0 (And i j) s) j.0) c
    (subst (λ (xs : List ℕ). Has xs c) (names-made table t.0 (And i j) s) h)) [
      | inl a ↦ names-plain table P i p c (names-of table t.0 (And i j) s i.0 c a)
      | inr b ↦ names-plain table P j q c (names-of table t.0 (And i j) s j.0 c b)
    ]
names-plain table P t (is_or i j p q s) c h =
    elim (has-either (list_at (fronts table t.0 (Or i j) s) i.0) (list_at (fronts table t.0 (Or i j) s) j.0) c
    (subst (λ (xs : List ℕ). Has xs c) (names-made table t.0 (Or i j) s) h)) [
      | inl a ↦ names-plain table P i p c (names-of table t.0 (Or i j) s i.0 c a)
      | inr b ↦ names-plain table P j q c (names-of table t.0 (Or i j) s j.0 c b)
    ]

-- a copied formula is one over the same cells
module _ (table into : Table) (to : List TermId) (long : length to ≡ length table.terms) (copies : AreCopies table into to) where
  within : (t : TermId) (u : Term) → slice_get table.terms t.0 ≡ Some u → t.0 < length to
  within t u s = let lt = slice_get_within table.terms t.0 u s in omega (arith, lt, long)

  pub plain-copied : (P : ℕ → Type 0) (t : TermId) → IsPlain table P t → IsPlain into P (number_in to t)
  plain-copied P t (is_constant w v s) = is_constant w v (copies.terms t (Constant w v) (within t (Constant w v) s) s)
  plain-copied P t (is_cell c n s) = is_cell c n (copies.terms t (Cell c) (within t (Cell c) s) s)
  plain-copied P t (is_bit k i p s) = is_bit k (number_in to i) (plain-copied P i p) (copies.terms t (Bit k i) (within t (Bit k i) s) s)
  plain-copied P t (is_not i p s) = is_not (number_in to i) (plain-copied P i p) (copies.terms t (Not i) (within t (Not i) s) s)
  plain-copied P t (is_and i j p q s) =
      is_and (number_in to i) (number_in to j) (plain-copied P i p) (plain-copied P j q) (copies.terms t (And i j) (within t (And i j) s) s)
  plain-copied P t (is_or i j p q s) =
      is_or (number_in to i) (number_in to j) (plain-copied P i p) (plain-copied P j q) (copies.terms t (Or i j) (within t (Or i j) s) s)
