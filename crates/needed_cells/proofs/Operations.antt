-- Operations go on alike from moments that agree on the cells that they need.
use Rattle.std.proofs.Common.{◌≡◌, ◌∙◌, eqb-true, ◌≢◌, ℕ, ℤ, ◌<◌, ◌≤◌, ◌⊎◌, inl, inr, ◌==◌, Bool, true, false, List, [], ◌∷◌, ◌++◌, length, zero, suc, refl, sym, ap, subst, arith, Option, None, Some, nat_lt, slice_index, slice_set, if◌then◌else◌}
use Rattle.std.specs.Prelude.{Contains, ◌+◌}
use Rattle.std.proofs.lemmas.Bool.{eqb-false, cases_lt}
use Rattle.std.proofs.lemmas.List.{get_or-set_same, get_or-set_other, length-set}
use Rattle.bv_term.specs.WellFormed.{Table}
use Rattle.bv_term.specs.Values.{value}
use Rattle.c_graph.specs.declared.graph.Operation.{Operation}
use Rattle.c_graph.specs.declared.graph.Operation.TheVariants.{Assume, Set, SetAt, Draw}
use Rattle.c_graph.specs.Steps.{Moment, moment, modulo, in_range_of, drawn, stored_at, operated, operated_all}
use Rattle.needed_cells.specs.Reads.{cells_from, names, needed_by_all, without}
use Rattle.needed_cells.specs.Deciding.{AgreeOn, MomentsAgree, GoAlike, NeededByDecides, NeededCellsDecide}
use Rattle.needed_cells.proofs.Agreeing.{agree-left, agree-right, named_cells_decide}

past-end : (xs : List ℕ) (k : ℕ) → length xs ≤ k → slice_index xs k ≡ 0
past-end [] k le = refl
past-end (x ∷ xs) zero le = absurd (omega (arith, le))
past-end (x ∷ xs) (suc k) le = past-end xs k (omega (arith, le))

-- what holds of a list's number k, by its numbers
set-same : (s t : List ℕ) (c v k : ℕ) → length s ≡ length t → (k ≢ c → slice_index s k ≡ slice_index t k)
    → slice_index (slice_set s c v) k ≡ slice_index (slice_set t c v) k
set-same s t c v k e f = by (k == c) refl
  where
    here : k ≡ c → (c < length s) ⊎ (length s ≤ c) → slice_index (slice_set s c v) k ≡ slice_index (slice_set t c v) k
    here p (inl lt) =
        ap (slice_index (slice_set s c v)) p ∙ get_or-set_same s c v 0 lt ∙ sym (get_or-set_same t c v 0 (omega (arith, lt, e)))
        ∙ ap (slice_index (slice_set t c v)) (sym p)
    here p (inr le) =
        past-end (slice_set s c v) k (omega (arith, le, p, length-set s c v)) ∙ sym (past-end (slice_set t c v) k (omega (arith, le, p, e, length-set t c v)))

    by : (b : Bool) → (k == c) ≡ b → slice_index (slice_set s c v) k ≡ slice_index (slice_set t c v) k
    by true p = here (eqb-true k c p) (cases_lt c (length s))
    by false p = let n = eqb-false k c p in get_or-set_other s c k v 0 n ∙ f n ∙ sym (get_or-set_other t c k v 0 n)

-- a cell that is not the one that is left out
kept : (c k : ℕ) (xs : List ℕ) → k ≢ c → Contains xs k → Contains (without c xs) k
kept c k [] n (i, lt, at) = absurd (omega (arith, lt))
kept c k (x ∷ xs) n h = by (x == c) refl h (kept c k xs n)
  where
    by : (b : Bool) → (x == c) ≡ b → Contains (x ∷ xs) k → (Contains xs k → Contains (without c xs) k)
        → Contains (if b then without c xs else x ∷ without c xs) k
    by true e (zero, lt, at) f = absurd (n (sym at ∙ eqb-true x c e))
    by true e (suc i, lt, at) f = f (i, omega (arith, lt), at)
    by false e (zero, lt, at) f = (0, omega arith, at)
    by false e (suc i, lt, at) f = let (j, less, is) = f (i, omega (arith, lt), at) in (suc j, omega (arith, less), is)

-- stores in which one cell was set
set-agrees : (s t later : List ℕ) (c v : ℕ) → length s ≡ length t → AgreeOn (without c later) s t → AgreeOn later (slice_set s c v) (slice_set t c v)
set-agrees s t later c v e a k h = set-same s t c v k e (λ n. a k (kept c k later n h))

set-long : (s t : List ℕ) (c v : ℕ) → length s ≡ length t → length (slice_set s c v) ≡ length (slice_set t c v)
set-long s t c v e = length-set s c v ∙ e ∙ sym (length-set t c v)

set-alike : (later s t : List ℕ) (zs ys : List ℤ) (c v w : ℕ) → length s ≡ length t → AgreeOn (without c later) s t → zs ≡ ys → v ≡ w
    → MomentsAgree later (moment (slice_set s c v) zs) (moment (slice_set t c w) ys)
set-alike later s t zs ys c v w e a i p = record {
  long = set-long s t c v e ∙ ap (λ (x : ℕ). length (slice_set t c x)) p;
  agree = subst (λ (x : ℕ). AgreeOn later (slice_set s c v) (slice_set t c x)) p (set-agrees s t later c v e a);
  inputs = i;
}

-- stores in which an element was stored
stored-alike : (later s t : List ℕ) (zs ys : List ℤ) (first n i v : ℕ) → length s ≡ length t → AgreeOn later s t → zs ≡ ys
    → MomentsAgree later (moment (stored_at s first n i v) zs) (moment (stored_at t first n i v) ys)
stored-alike later s t zs ys first n i v e a is = by (nat_lt i n)
  where
    by : (b : Bool) → MomentsAgree later (moment (if b then slice_set s (first + i) v else s) zs) (moment (if b then slice_set t (first + i) v else t) ys)
    by true = record {
      long = set-long s t (first + i) v e;
      agree = λ k h. set-same s t (first + i) v k e (λ n. a k h);
      inputs = is;
    }
    by false = record { long = e; agree = a; inputs = is }

-- a test passes in both or in neither
tested-alike : (later : List ℕ) (x y : ℕ) (m n : Moment) → x ≡ y → MomentsAgree later m n
    → GoAlike later (if x == 1 then Some m else None) (if y == 1 then Some n else None)
tested-alike later x y m n e h = subst (λ (z : ℕ). GoAlike later (if x == 1 then Some m else None) (if z == 1 then Some n else None)) e (by (x == 1))
  where
    by : (b : Bool) → GoAlike later (if b then Some m else None) (if b then Some n else None)
    by true = h
    by false = tt

drawn-alike : (table : Table) (c : ℕ) (signed : Bool) (later s t : List ℕ) (zs ys : List ℤ) → length s ≡ length t → AgreeOn (without c later) s t
    → zs ≡ ys → GoAlike later (drawn table c signed s zs) (drawn table c signed t ys)
drawn-alike table c signed later s t zs ys e a i =
    subst (λ (xs : List ℤ). GoAlike later (drawn table c signed s zs) (drawn table c signed t xs)) i (same zs)
  where
    same : (xs : List ℤ) → GoAlike later (drawn table c signed s xs) (drawn table c signed t xs)
    same [] = tt
    same (z ∷ xs) = by (in_range_of (slice_index table.cells c) signed z)
      where
        v : ℕ
        v = modulo (slice_index table.cells c) z

        by : (b : Bool) → GoAlike later (if b then Some (moment (slice_set s c v) xs) else None) (if b then Some (moment (slice_set t c v) xs) else None)
        by true = set-alike later s t xs xs c v v e a refl refl
        by false = tt

pub needed_by_decides : NeededByDecides
needed_by_decides table (Assume t) later m n h =
    tested-alike later (value table m.store t) (value table n.store t) m n
    (named_cells_decide table t m.store n.store (agree-left (names table t) later m.store n.store h.agree))
    (record { long = h.long; agree = agree-right (names table t) later m.store n.store h.agree; inputs = h.inputs })
needed_by_decides table (Set c t) later m n h =
    set-alike later m.store n.store m.inputs n.inputs c (value table m.store t) (value table n.store t) h.long
    (agree-right (names table t) (without c later) m.store n.store h.agree) h.inputs
    (named_cells_decide table t m.store n.store (agree-left (names table t) (without c later) m.store n.store h.agree))
needed_by_decides table (SetAt first n i t) later one other h =
    let s = one.store in
    let u = other.store in
    let at = names table i in
    let of = names table t in
    let array = cells_from first n in
    let a = agree-right at (of ++ (array ++ later)) s u h.agree in
    let b = agree-right of (array ++ later) s u a in
    let p = named_cells_decide table i s u (agree-left at (of ++ (array ++ later)) s u h.agree) in
    let q = named_cells_decide table t s u (agree-left of (array ++ later) s u a) in
    let r = stored-alike later s u one.inputs other.inputs first n (value table s i) (value table s t) h.long (agree-right array later s u b) h.inputs in
    subst (λ (x : ℕ). MomentsAgree later (moment (stored_at s first n (value table s i) (value table s t)) one.inputs) (moment (stored_at u first n (value table u i) x) other.inputs)) q
    (subst (λ (x : ℕ). MomentsAgree later (moment (stored_at s first n (value table s i) (value table s t)) one.inputs) (moment (stored_at u first n x (value table s t)) other.inputs)) p r)
needed_by_decides table (Draw c signed) later m n h = drawn-alike table c signed later m.store n.store m.inputs n.inputs h.long h.agree h.inputs

pub all-alike : (table : Table) (ops : List Operation) (later : List ℕ) (r q : Option Moment) → GoAlike (needed_by_all table ops later) r q
    → GoAlike later (operated_all table ops r) (operated_all table ops q)
all-alike table [] later None None h = tt
all-alike table (op ∷ ops) later None None h = tt
all-alike table ops later None (Some n) h = absurd h
all-alike table ops later (Some m) None h = absurd h
all-alike table [] later (Some m) (Some n) h = h
all-alike table (op ∷ ops) later (Some m) (Some n) h =
    all-alike table ops later (operated table op m) (operated table op n) (needed_by_decides table op (needed_by_all table ops later) m n h)

pub needed_cells_decide : NeededCellsDecide
needed_cells_decide table ops later m n h = all-alike table ops later (Some m) (Some n) h
