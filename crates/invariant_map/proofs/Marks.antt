-- Marks of terms.
use Rattle.std.proofs.Common.{◌≡◌, ◌≢◌, ℕ, ◌+◌, ◌<◌, ◌≤◌, Bool, true, false, List, [], ◌∷◌, ◌++◌, length, refl, sym, ap, ◌∙◌, subst, zero, suc, arith, Some, slice_get, slice_index_or, inl, inr, take}
use Rattle.std.specs.Prelude.{slice_set}
use Rattle.std.proofs.lemmas.Bool.{cases_eq, both_ways}
use Rattle.std.proofs.lemmas.List.{length-set, get_or-set_same, get_or-set_other}
use Rattle.std.proofs.lemmas.Option.{same_Some}
use Rattle.bv_term.specs.declared.term.TermId.{TermId}
use Rattle.bv_term.specs.declared.term.Term.{Term}
use Rattle.bv_term.specs.WellFormed.{Table, IsTable}
use Rattle.cover_engine.specs.Unwindings.{Unwound}
use Rattle.reach_tree.specs.Trees.{vertex_at}
use Rattle.invariant_map.specs.declared.operands.Uses.{Uses}
use Rattle.invariant_map.specs.declared.operands.Uses.TheVariants.{Nothing, One, Two, Three}
use Rattle.invariant_map.specs.Copies.{Each, EachUse, uses_of, is_marked, uses_marked, KeepsMarks, IsClosed}
use Rattle.invariant_map.specs.Labels.{counts, AreLabelsMarked, IsLabelMarked}
use Rattle.invariant_map.proofs.Moves.{each_map}
use Rattle.invariant_map.proofs.Copies.{operands_below}

pub keeps_none : (m : List Bool) → KeepsMarks m m
keeps_none m = record { sized = refl; kept = λ k e. e }

pub keeps_twice : (a b c : List Bool) → KeepsMarks a b → KeepsMarks b c → KeepsMarks a c
keeps_twice a b c g h = record { sized = h.sized ∙ g.sized; kept = λ k e. h.kept k (g.kept k e) }

set_keeps : (m : List Bool) (i j : ℕ) → is_marked m j ≡ true → is_marked (slice_set m i true) j ≡ true
set_keeps [] i j e = e
set_keeps (x ∷ m) zero zero e = refl
set_keeps (x ∷ m) zero (suc j) e = e
set_keeps (x ∷ m) (suc i) zero e = e
set_keeps (x ∷ m) (suc i) (suc j) e = set_keeps m i j e

pub keeps_set : (m : List Bool) (i : ℕ) → KeepsMarks m (slice_set m i true)
keeps_set m i = record { sized = length-set m i true; kept = set_keeps m i }

pub set_marks : (m : List Bool) (i : ℕ) → i < length m → is_marked (slice_set m i true) i ≡ true
set_marks m i lt = get_or-set_same m i true false lt

pub mark_read : (m : List Bool) (i : ℕ) (b : Bool) → i < length m → b ≡ slice_index_or m i b → is_marked m i ≡ b
mark_read [] i b lt e = absurd (omega (arith, lt))
mark_read (x ∷ m) zero b lt e = sym e
mark_read (x ∷ m) (suc i) b lt e = mark_read m i b (omega (arith, lt)) e

-- operands that were marked
pub uses_kept : (m : List Bool) (u : Uses) → KeepsMarks m (uses_marked m u)
uses_kept m Nothing = keeps_none m
uses_kept m (One a) = keeps_set m a
uses_kept m (Two a b) = keeps_twice m (slice_set m a true) (slice_set (slice_set m a true) b true) (keeps_set m a) (keeps_set (slice_set m a true) b)
uses_kept m (Three a b c) =
    let m1 = slice_set m a true in
    let m2 = slice_set m1 b true in
    keeps_twice m m2 (slice_set m2 c true) (keeps_twice m m1 m2 (keeps_set m a) (keeps_set m1 b)) (keeps_set m2 c)

pub uses_are_marked : (m : List Bool) (u : Uses) → EachUse (λ k. k < length m) u → EachUse (λ k. is_marked (uses_marked m u) k ≡ true) u
uses_are_marked m Nothing e = tt
uses_are_marked m (One a) e = set_marks m a e
uses_are_marked m (Two a b) e =
    let m1 = slice_set m a true in
    (set_keeps m1 b a (set_marks m a e.0), set_marks m1 b (omega (arith, e.1, length-set m a true)))
uses_are_marked m (Three a b c) e =
    let m1 = slice_set m a true in
    let m2 = slice_set m1 b true in (
      set_keeps m2 c a (set_keeps m1 b a (set_marks m a e.0)),
      set_keeps m2 c b (set_marks m1 b (omega (arith, e.1, length-set m a true))),
      set_marks m2 c (omega (arith, e.2, length-set m a true, length-set m1 b true)),
    )

-- a number above the operands keeps its mark
set_other : (m : List Bool) (i k : ℕ) → i < k → is_marked (slice_set m i true) k ≡ is_marked m k
set_other m i k lt = let ne : k ≢ i = omega (arith, lt) in get_or-set_other m i k true false ne

pub uses_other : (m : List Bool) (u : Uses) (n k : ℕ) → EachUse (λ a. a < n) u → n ≤ k → is_marked (uses_marked m u) k ≡ is_marked m k
uses_other m Nothing n k e le = refl
uses_other m (One a) n k e le = set_other m a k (omega (arith, e, le))
uses_other m (Two a b) n k e le = set_other (slice_set m a true) b k (omega (arith, e.1, le)) ∙ set_other m a k (omega (arith, e.0, le))
uses_other m (Three a b c) n k e le =
    let m1 = slice_set m a true in
    set_other (slice_set m1 b true) c k (omega (arith, e.2, le)) ∙ set_other m1 b k (omega (arith, e.1, le)) ∙ set_other m a k (omega (arith, e.0, le))

-- a marked term marks its operands
pub closed_mark : (table : Table) (m : List Bool) (n : ℕ) (t : Term) → IsTable table → slice_get table.terms n ≡ Some t → n < length m
    → IsClosed table.terms m (n + 1) → IsClosed table.terms (uses_marked m (uses_of t)) n
closed_mark table m n t is s lt c k u le sk e =
    let below : Each (λ j. j < n) t = operands_below table n t is s in
    let m2 : List Bool = uses_marked m (uses_of t) in
    elim (cases_eq k n) [
      | inl q ↦
          let same : t ≡ u = same_Some t u (sym s ∙ ap (slice_get table.terms) (sym q) ∙ sk) in
          let here : Each (λ j. is_marked m2 j ≡ true) t = uses_are_marked m (uses_of t) (each_map (λ j. j < n) (λ j. j < length m) t (λ j h. omega (arith, h, lt)) below) in
          subst (λ (y : Term). Each (λ j. is_marked m2 j ≡ true) y) same here
      | inr d ↦
          let up : n + 1 ≤ k = (let ne : k ≢ n = d in omega (arith, le, ne)) in
          let was : is_marked m k ≡ true = sym (uses_other m (uses_of t) n k below le) ∙ e in
          each_map (λ j. is_marked m j ≡ true) (λ j. is_marked m2 j ≡ true) u (λ j h. (uses_kept m (uses_of t)).kept j h) (c k u up sk was)
    ]

pub closed_pass : (ts : List Term) (m : List Bool) (n : ℕ) → is_marked m n ≡ false → IsClosed ts m (n + 1) → IsClosed ts m n
closed_pass ts m n off c k u le s e =
    elim (cases_eq k n) [
      | inl q ↦ absurd (both_ways (is_marked m n) off (ap (is_marked m) (sym q) ∙ e))
      | inr d ↦ c k u (let ne : k ≢ n = d in omega (arith, le, ne)) s e
    ]

pub closed_start : (ts : List Term) (m : List Bool) (n : ℕ) → n ≡ length m → IsClosed ts m n
closed_start ts m n e k u le s t =
    absurd (both_ways (is_marked m k) (past m k (omega (arith, e, le))) t)
  where
    past : (w : List Bool) (j : ℕ) → length w ≤ j → is_marked w j ≡ false
    past [] j le = refl
    past (x ∷ w) zero le = absurd (omega (arith, le))
    past (x ∷ w) (suc j) le = past w j (omega (arith, le))

pub closed_from : (ts : List Term) (m : List Bool) (n : ℕ) → n ≡ 0 → IsClosed ts m n → IsClosed ts m 0
closed_from ts m n e h = subst (λ (k : ℕ). IsClosed ts m k) e h

-- labels that were marked
pub label_kept : (a b : List Bool) (label : List TermId) → KeepsMarks a b → IsLabelMarked a label → IsLabelMarked b label
label_kept a b label g h k d lt = g.kept (slice_index_or label k d).0 (h k d lt)

pub labels_kept : (u : Unwound) (nodes : ℕ) (a b : List Bool) (n : ℕ) → KeepsMarks a b → AreLabelsMarked u nodes a n → AreLabelsMarked u nodes b n
labels_kept u nodes a b n g h k lt c = label_kept a b (vertex_at u.vertices k).label g (h k lt c)

pub labels_none : (u : Unwound) (nodes : ℕ) (m : List Bool) → AreLabelsMarked u nodes m 0
labels_none u nodes m k lt c = absurd (omega (arith, lt))

-- one vertex more
pub labels_more : (u : Unwound) (nodes : ℕ) (a b : List Bool) (n : ℕ) → KeepsMarks a b → (counts u nodes n ≡ true → IsLabelMarked b (vertex_at u.vertices n).label)
    → AreLabelsMarked u nodes a n → AreLabelsMarked u nodes b (n + 1)
labels_more u nodes a b n g new h k lt c = elim (cases_eq k n) [
  | inl q ↦ subst (λ (j : ℕ). IsLabelMarked b (vertex_at u.vertices j).label) (sym q) (new (subst (λ (j : ℕ). counts u nodes j ≡ true) q c))
  | inr d ↦ label_kept a b (vertex_at u.vertices k).label g (h k (let ne : k ≢ n = d in omega (arith, lt, ne)) c)
]

-- a list that is written back over its own length
take_front : (m ys : List Bool) → take (length m) (m ++ ys) ≡ m
take_front [] ys = refl
take_front (x ∷ m) ys = ap (λ (w : List Bool). x ∷ w) (take_front m ys)

pub whole_back : (n : ℕ) (m ys : List Bool) → n ≡ length m → take n (m ++ ys) ≡ m
whole_back n m ys q = ap (λ (k : ℕ). take k (m ++ ys)) q ∙ take_front m ys
