-- Operations from stores that agree on what is needed: one that gives something that is needed does alike to both; one that gives
-- nothing that is needed may be left out.
use Rattle.std.proofs.Common.{◌≡◌, ℕ, ◌+◌, ◌==◌, Bool, true, false, cond, List, [], ◌∷◌, length, refl, sym, ap, ◌∙◌, subst, slice_index, slice_set, nat_lt, if◌then◌else◌, Some, None, ℤ}
use Rattle.std.proofs.lemmas.Bool.{false≢true, ltb-true}
use Rattle.bv_term.specs.WellFormed.{Table, IsTable}
use Rattle.bv_term.specs.Values.{value}
use Rattle.c_graph.specs.declared.graph.Operation.{Operation}
use Rattle.c_graph.specs.declared.graph.Operation.TheVariants.{Assume, Set, SetAt, Draw}
use Rattle.c_graph.specs.Shape.{OperationFits}
use Rattle.c_graph.specs.Steps.{Moment, moment, operated, stored_at, in_range_of, modulo}
use Rattle.path_formula.specs.Reads.{cells_from, is_needed, some_needed, with_cells, with_read, without}
use Rattle.path_formula.specs.Needs.{gives, needed_by}
use Rattle.obligation_laws.proofs.Alike.{AgreeOn, Has, apart, apart_some, has_without, has_cells, read_alike, set_both, set_apart, set_long}

-- the operation goes on from another store, and the stores behind agree
pub record Follows (table : Table) (later : List ℕ) (o : Operation) (s : List ℕ) (inputs : List ℤ) (m : Moment) : Type 0 where
  pub store : List ℕ
  pub goes : operated table o (moment s inputs) ≡ Some (moment store m.inputs)
  pub agrees : AgreeOn later store m.store
  pub long : length store ≡ length m.store

-- the stores agree still, and nothing was drawn
pub record Leaves (later s : List ℕ) (inputs : List ℤ) (m : Moment) : Type 0 where
  pub drawn : m.inputs ≡ inputs
  pub agrees : AgreeOn later s m.store
  pub long : length s ≡ length m.store

some_is : (a b : Moment) → Some a ≡ Some b → a ≡ b
some_is a b e = cc

chosen_agrees : (b : Bool) (xs ys s c : List ℕ) → b ≡ true → AgreeOn (cond b xs ys) s c → AgreeOn xs s c
chosen_agrees true xs ys s c e a = a
chosen_agrees false xs ys s c e a = absurd (false≢true e)

other_agrees : (b : Bool) (xs ys s c : List ℕ) → b ≡ false → AgreeOn (cond b xs ys) s c → AgreeOn ys s c
other_agrees true xs ys s c e a = absurd (false≢true (sym e))
other_agrees false xs ys s c e a = a

pub follows : (table : Table) (later : List ℕ) (o : Operation) (s c : List ℕ) (inputs : List ℤ) (m : Moment) → IsTable table → OperationFits table o
    → length s ≡ length c → AgreeOn (needed_by table later o) s c → gives later o ≡ true → operated table o (moment c inputs) ≡ Some m → Follows table later o s inputs m
follows table later (Assume t) s c inputs m is f l a g e =
    let r = read_alike table t.0 later s c is f.0 a in
    by (value table c t == 1) (ap (λ (x : ℕ). x == 1) r.0) r.1 e
  where
    by : (b : Bool) → (value table s t == 1) ≡ b → AgreeOn later s c → (if b then Some (moment c inputs) else None) ≡ Some m → Follows table later (Assume t) s inputs m
    by true q h e = subst (Follows table later (Assume t) s inputs) (some_is (moment c inputs) m e)
        (record { store = s; goes = ap (λ (b : Bool). if b then Some (moment s inputs) else None) q; agrees = h; long = l })
    by false q h e = absurd cc
follows table later (Set k t) s c inputs m is f l a g e =
    let r = read_alike table t.0 (without k later) s c is f.1 (chosen_agrees (is_needed later k) (with_read table t.0 (without k later)) later s c g a) in
    let x = value table c t in
    subst (Follows table later (Set k t) s inputs) (some_is (moment (slice_set c k x) inputs) m e)
    (record {
      store = slice_set s k (value table s t);
      goes = refl;
      agrees = λ d h. ap (λ (y : ℕ). slice_index (slice_set s k y) d) r.0 ∙ set_both s c k x d l (λ ne. r.1 d (has_without later k d h ne));
      long = set_long s k (value table s t) ∙ (l ∙ sym (set_long c k x));
    })
follows table later (SetAt first n i t) s c inputs m is f l a g e =
    let all = with_cells later (cells_from first n) in
    let r = read_alike table t.0 (with_read table i.0 all) s c is f.2
    (chosen_agrees (some_needed later (cells_from first n)) (with_read table t.0 (with_read table i.0 all)) later s c g a) in
    let r2 = read_alike table i.0 all s c is f.1 r.1 in
    let x = value table c t in
    let k = value table c i in
    let same : stored_at s first n (value table s i) (value table s t) ≡ stored_at s first n k x
    = ap (λ (y : ℕ). stored_at s first n y (value table s t)) r2.0 ∙ ap (λ (y : ℕ). stored_at s first n k y) r.0 in
    subst (Follows table later (SetAt first n i t) s inputs) (some_is (moment (stored_at c first n k x) inputs) m e)
    (record {
      store = stored_at s first n (value table s i) (value table s t);
      goes = refl;
      agrees = λ d h. ap (λ (y : List ℕ). slice_index y d) same ∙ both (nat_lt k n) k x d (r2.1 d (has_cells later (cells_from first n) d h));
      long = ap length same ∙ longs (nat_lt k n) k x;
    })
  where
    both : (b : Bool) (k x d : ℕ) → slice_index s d ≡ slice_index c d
        → slice_index (if b then slice_set s (first + k) x else s) d ≡ slice_index (if b then slice_set c (first + k) x else c) d
    both true k x d h = set_both s c (first + k) x d l (λ ne. h)
    both false k x d h = h

    longs : (b : Bool) (k x : ℕ) → length (if b then slice_set s (first + k) x else s) ≡ length (if b then slice_set c (first + k) x else c)
    longs true k x = set_long s (first + k) x ∙ (l ∙ sym (set_long c (first + k) x))
    longs false k x = l
follows table later (Draw k signed) s c [] m is f l a g e = absurd cc
follows table later (Draw k signed) s c (z ∷ zs) m is f l a g e = by (in_range_of (slice_index table.cells k) signed z) refl e
  where
    by : (b : Bool) → b ≡ in_range_of (slice_index table.cells k) signed z
        → (if b then Some (moment (slice_set c k (modulo (slice_index table.cells k) z)) zs) else None) ≡ Some m → Follows table later (Draw k signed) s (z ∷ zs) m
    by true q e =
        let x = modulo (slice_index table.cells k) z in
        subst (Follows table later (Draw k signed) s (z ∷ zs)) (some_is (moment (slice_set c k x) zs) m e)
        (record {
          store = slice_set s k x;
          goes = ap (λ (b : Bool). if b then Some (moment (slice_set s k x) zs) else None) (sym q);
          agrees = λ d h. set_both s c k x d l (λ ne. a d (has_without later k d h ne));
          long = set_long s k x ∙ (l ∙ sym (set_long c k x));
        })
    by false q e = absurd cc

pub leaves : (table : Table) (later : List ℕ) (o : Operation) (s c : List ℕ) (inputs : List ℤ) (m : Moment)
    → length s ≡ length c → AgreeOn (needed_by table later o) s c → gives later o ≡ false → operated table o (moment c inputs) ≡ Some m → Leaves later s inputs m
leaves table later (Assume t) s c inputs m l a g e = absurd (false≢true (sym g))
leaves table later (Set k t) s c inputs m l a g e =
    let x = value table c t in
    let a = other_agrees (is_needed later k) (with_read table t.0 (without k later)) later s c g a in
    subst (Leaves later s inputs) (some_is (moment (slice_set c k x) inputs) m e)
    (record { drawn = refl; agrees = λ d h. a d h ∙ set_apart c k x d (λ i. apart later k d g h i); long = l ∙ sym (set_long c k x) })
leaves table later (SetAt first n i t) s c inputs m l a g e =
    let all = with_cells later (cells_from first n) in
    let x = value table c t in
    let k = value table c i in
    let a = other_agrees (some_needed later (cells_from first n)) (with_read table t.0 (with_read table i.0 all)) later s c g a in
    subst (Leaves later s inputs) (some_is (moment (stored_at c first n k x) inputs) m e)
    (record { drawn = refl; agrees = λ d h. a d h ∙ other (nat_lt k n) k x d refl h; long = l ∙ longs (nat_lt k n) k x })
  where
    other : (b : Bool) (k x d : ℕ) → b ≡ nat_lt k n → Has later d → slice_index c d ≡ slice_index (if b then slice_set c (first + k) x else c) d
    other true k x d q h = set_apart c (first + k) x d (λ i. apart_some later first n k d g (ltb-true k n (sym q)) h i)
    other false k x d q h = refl

    longs : (b : Bool) (k x : ℕ) → length c ≡ length (if b then slice_set c (first + k) x else c)
    longs true k x = sym (set_long c (first + k) x)
    longs false k x = refl
leaves table later (Draw k signed) s c inputs m l a g e = absurd (false≢true (sym g))
