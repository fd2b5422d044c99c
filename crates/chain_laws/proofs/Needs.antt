-- The cells that a question's cuts have are read by later operations before they are set.
use Rattle.std.proofs.Common.{◌≡◌, ℕ, ◌+◌, ◌<◌, ◌≤◌, ◌==◌, ◌&&◌, ◌||◌, ◌⊎◌, inl, inr, Bool, true, false, not, cond, List, [], ◌∷◌, ◌++◌, Some, slice_get, zero, suc, refl, sym, ap, ◌∙◌, subst, arith, nat_eq, nat_lt, if◌then◌else◌, eq-eqb}
use Rattle.std.proofs.Common.{Ordering, Less, Equal, Greater}
use Rattle.std.specs.Ordering.{nat_cmp, is_eq, match_ordering}
use Rattle.std.specs.BTreeMap.{is_at}
use Rattle.std.specs.BTreeSet.{insert_key}
use Rattle.std.specs.Set.{remove_key}
use Rattle.std.proofs.lemmas.Bool.{false≢true, eqb-true, eqb-false, ltb-true, ltb-false, or_cases}
use Rattle.prop.specs.Trues.{listed}
use Rattle.bv_term.specs.declared.term.Term.{Term}
use Rattle.bv_term.specs.declared.term.Term.TheVariants.{Constant, Cell, Element, Add, Subtract, Multiply, Divide, Remainder, And, Or, Xor, Not, ShiftLeft, ShiftRight, ShiftSigned, Equal as EqualTo, Less as LessThan, LessSigned, Select, ZeroExtend, SignExtend, Truncate, Bit}
use Rattle.bv_term.specs.declared.term.TermId.{TermId}
use Rattle.bv_term.specs.WellFormed.{Table}
use Rattle.bit_blast.specs.Cone.{cone_of, falling, numbers, operands_at, uses_of, wants}
use Rattle.bit_blast.specs.Done.{is_done}
use Rattle.bit_blast.specs.Emission.{term_at}
use Rattle.c_graph.specs.declared.graph.Operation.{Operation}
use Rattle.c_graph.specs.declared.graph.Operation.TheVariants.{Assume, Set, SetAt, Draw}
use Rattle.c_graph.specs.declared.graph.Edge.{Edge}
use Rattle.c_graph.specs.declared.graph.EdgeId.{EdgeId}
use Rattle.c_graph.specs.Shape.{Flow}
use Rattle.path_formula.specs.Reads.{is_needed, some_needed, span_of, with_cells, with_read, with_terms}
use Rattle.path_formula.specs.Reads as reads
use Rattle.path_formula.specs.Needs as needs
use Rattle.path_formula.specs.Questions as questions
use Rattle.obligation_laws.proofs.Alike.{Has, apart}
use Rattle.needed_cells.specs.Reads.{cells_from, list_at, named_after, named_in, names, needed_along, needed_by, needed_by_all, operations_of, without}
use Rattle.chain_laws.proofs.Names.{fronts, has-left, has-right, names-before, names-made}

-- lists in rising order
abbrev Rise : List ℕ → Type 0
Rise [] = Unit {0}
Rise (x ∷ xs) = ((c : ℕ) → Has xs c → x < c) × Rise xs

abbrev Compared : Ordering → ℕ → ℕ → Type 0
Compared Less c x = c < x
Compared Equal c x = c ≡ x
Compared Greater c x = x < c

compared : (c x : ℕ) (r : Ordering) → r ≡ nat_cmp c x → Compared r c x
compared c x r e = subst (λ (o : Ordering). Compared o c x) (sym e) (by (nat_lt c x) refl)
  where
    equal : (b : Bool) → b ≡ (c == x) → x ≤ c → Compared (cond b Equal Greater) c x
    equal true q le = eqb-true c x (sym q)
    equal false q le = let n = eqb-false c x (sym q) in omega (arith, n, le)

    by : (b : Bool) → b ≡ nat_lt c x → Compared (cond b Less (cond (c == x) Equal Greater)) c x
    by true q = ltb-true c x (sym q)
    by false q = equal (c == x) refl (ltb-false c x (sym q))

at-same : (k x : ℕ) → is_at (nat_cmp k) x ≡ true → k ≡ x
at-same k x h = by (nat_cmp k x) refl h
  where
    by : (r : Ordering) → r ≡ nat_cmp k x → is_eq r ≡ true → k ≡ x
    by Less e h = absurd (false≢true h)
    by Equal e h = compared k x Equal e
    by Greater e h = absurd (false≢true h)

at-self : (k x : ℕ) → k ≡ x → is_at (nat_cmp k) x ≡ true
at-self k x q = by (nat_cmp k x) refl
  where
    by : (r : Ordering) → r ≡ nat_cmp k x → is_eq r ≡ true
    by Less e = let lt : k < x = compared k x Less e in absurd (omega (arith, lt, q))
    by Equal e = refl
    by Greater e = let lt : x < k = compared k x Greater e in absurd (omega (arith, lt, q))

-- what is inserted, and what is there
inserted : (xs : List ℕ) (k c : ℕ) → Has (insert_key nat_cmp xs k) c → (c ≡ k) ⊎ Has xs c
inserted [] k c h = h
inserted (x ∷ xs) k c h = by (nat_cmp k x) h (λ g. inserted xs k c g)
  where
    by : (r : Ordering) → Has (match_ordering r (k ∷ x ∷ xs) (x ∷ xs) (x ∷ insert_key nat_cmp xs k)) c
        → (Has (insert_key nat_cmp xs k) c → (c ≡ k) ⊎ Has xs c) → (c ≡ k) ⊎ Has (x ∷ xs) c
    by Less h f = h
    by Equal h f = inr h
    by Greater (inl e) f = inr (inl e)
    by Greater (inr h) f = elim (f h) [ inl e ↦ inl e | inr i ↦ inr (inr i) ]

insert-rises : (xs : List ℕ) (k : ℕ) → Rise xs → Rise (insert_key nat_cmp xs k)
insert-rises [] k r = ((λ c h. absurd h), tt)
insert-rises (x ∷ xs) k r = by (nat_cmp k x) refl (insert-rises xs k r.1)
  where
    least : (c : ℕ) → k < x → Has (x ∷ xs) c → k < c
    least c lt (inl e) = omega (arith, lt, e)
    least c lt (inr h) = let l = r.0 c h in omega (arith, lt, l)

    after : (c : ℕ) → x < k → (c ≡ k) ⊎ Has xs c → x < c
    after c lt (inl e) = omega (arith, lt, e)
    after c lt (inr h) = r.0 c h

    by : (o : Ordering) → o ≡ nat_cmp k x → Rise (insert_key nat_cmp xs k) → Rise (match_ordering o (k ∷ x ∷ xs) (x ∷ xs) (x ∷ insert_key nat_cmp xs k))
    by Less e s = let lt : k < x = compared k x Less e in ((λ c h. least c lt h), r)
    by Equal e s = r
    by Greater e s = let lt : x < k = compared k x Greater e in ((λ c h. after c lt (inserted xs k c h)), s)

-- what is left where one is removed
left : (xs : List ℕ) (k c : ℕ) → Has (reads.without k xs) c → Has xs c
left [] k c h = h
left (x ∷ xs) k c h = by (is_at (nat_cmp k) x) h (λ g. left xs k c g)
  where
    by : (b : Bool) → Has (cond b xs (x ∷ remove_key (is_at (nat_cmp k)) xs)) c → (Has (remove_key (is_at (nat_cmp k)) xs) c → Has xs c) → Has (x ∷ xs) c
    by true h f = inr h
    by false (inl e) f = inl e
    by false (inr h) f = inr (f h)

left-rises : (xs : List ℕ) (k : ℕ) → Rise xs → Rise (reads.without k xs)
left-rises [] k r = tt
left-rises (x ∷ xs) k r = by (is_at (nat_cmp k) x) (left-rises xs k r.1)
  where
    by : (b : Bool) → Rise (remove_key (is_at (nat_cmp k)) xs) → Rise (cond b xs (x ∷ remove_key (is_at (nat_cmp k)) xs))
    by true s = r.1
    by false s = ((λ c h. r.0 c (left xs k c h)), s)

left-other : (xs : List ℕ) (k c : ℕ) → Rise xs → Has (reads.without k xs) c → c ≡ k → ⊥
left-other [] k c r h e = h
left-other (x ∷ xs) k c r h e = by (is_at (nat_cmp k) x) refl h (λ g. left-other xs k c r.1 g e)
  where
    by : (b : Bool) → b ≡ is_at (nat_cmp k) x → Has (cond b xs (x ∷ remove_key (is_at (nat_cmp k)) xs)) c → (Has (remove_key (is_at (nat_cmp k)) xs) c → ⊥) → ⊥
    by true q h f = let same = at-same k x (sym q) in let lt = r.0 c h in omega (arith, same, lt, e)
    by false q (inl i) f = false≢true (q ∙ at-self k x (sym e ∙ i))
    by false q (inr h) f = f h

cells-rise : (xs ks : List ℕ) → Rise xs → Rise (with_cells xs ks)
cells-rise xs [] r = r
cells-rise xs (k ∷ ks) r = cells-rise (insert_key nat_cmp xs k) ks (insert-rises xs k r)

cells-in : (xs ks : List ℕ) (c : ℕ) → Has (with_cells xs ks) c → Has ks c ⊎ Has xs c
cells-in xs [] c h = inr h
cells-in xs (k ∷ ks) c h = elim (cells-in (insert_key nat_cmp xs k) ks c h) [
  | inl a ↦ inl (inr a)
  | inr b ↦ elim (inserted xs k c b) [ inl e ↦ inl (inl e) | inr i ↦ inr i ]
]

terms-rise : (ts : List Term) (xs ks : List ℕ) → Rise xs → Rise (with_terms ts xs ks)
terms-rise ts xs [] r = r
terms-rise ts xs (k ∷ ks) r =
    let s = span_of (term_at ts k) in
    terms-rise ts (with_cells xs (reads.cells_from s.first s.count)) ks (cells-rise xs (reads.cells_from s.first s.count) r)

-- the cells that a term reads by itself
abbrev Own : List Term → ℕ → ℕ → Type 0
Own ts k c = Has (reads.cells_from (span_of (term_at ts k)).first (span_of (term_at ts k)).count) c

abbrev OneOf : List Term → List ℕ → ℕ → Type 0
OneOf ts ks c = (k : ℕ) × ((listed ks k ≡ true) × Own ts k c)

later-one : (ts : List Term) (k : ℕ) (ks : List ℕ) (c : ℕ) → OneOf ts ks c → OneOf ts (k ∷ ks) c
later-one ts k ks c (j, (l, o)) = (j, (by (nat_eq k j) l, o))
  where
    by : (b : Bool) → listed ks j ≡ true → (b || listed ks j) ≡ true
    by true l = refl
    by false l = l

first-one : (ts : List Term) (k : ℕ) (ks : List ℕ) (c : ℕ) → Own ts k c → OneOf ts (k ∷ ks) c
first-one ts k ks c o = (k, (ap (λ (b : Bool). b || listed ks k) (eq-eqb k k refl), o))

terms-in : (ts : List Term) (xs ks : List ℕ) (c : ℕ) → Has (with_terms ts xs ks) c → OneOf ts ks c ⊎ Has xs c
terms-in ts xs [] c h = inr h
terms-in ts xs (k ∷ ks) c h =
    let s = span_of (term_at ts k) in
    elim (terms-in ts (with_cells xs (reads.cells_from s.first s.count)) ks c h) [
      | inl a ↦ inl (later-one ts k ks c a)
      | inr b ↦ elim (cells-in xs (reads.cells_from s.first s.count) c b) [ inl o ↦ inl (first-one ts k ks c o) | inr i ↦ inr i ]
    ]

-- a term names what it reads by itself, and what its operands name
same-cells : (first n : ℕ) → reads.cells_from first n ≡ cells_from first n
same-cells first zero = refl
same-cells first (suc n) = ap (λ (xs : List ℕ). first ∷ xs) (same-cells (first + 1) n)

own-named : (done : List (List ℕ)) (u : Term) (c : ℕ) → Has (reads.cells_from (span_of u).first (span_of u).count) c → Has (named_in done u) c
own-named done (Constant w v) c h = absurd h
own-named done (Cell d) c h = h
own-named done (Element f n x) c h =
    has-left (cells_from f n) (list_at done x.0) c (subst (λ (xs : List ℕ). Has xs c) (same-cells f n) h)
own-named done (Add x y) c h = absurd h
own-named done (Subtract x y) c h = absurd h
own-named done (Multiply x y) c h = absurd h
own-named done (Divide x y) c h = absurd h
own-named done (Remainder x y) c h = absurd h
own-named done (And x y) c h = absurd h
own-named done (Or x y) c h = absurd h
own-named done (Xor x y) c h = absurd h
own-named done (Not x) c h = absurd h
own-named done (ShiftLeft x y) c h = absurd h
own-named done (ShiftRight x y) c h = absurd h
own-named done (ShiftSigned x y) c h = absurd h
own-named done (EqualTo x y) c h = absurd h
own-named done (LessThan x y) c h = absurd h
own-named done (LessSigned x y) c h = absurd h
own-named done (Select x y z) c h = absurd h
own-named done (ZeroExtend w x) c h = absurd h
own-named done (SignExtend w x) c h = absurd h
own-named done (Truncate w x) c h = absurd h
own-named done (Bit k x) c h = absurd h

module _ (done : List (List ℕ)) (j c : ℕ) (h : Has (list_at done j) c) where
  at : (i : ℕ) → i ≡ j → Has (list_at done i) c
  at i e = subst (λ (k : ℕ). Has (list_at done k) c) (sym e) h

  one : (i : ℕ) → listed (i ∷ []) j ≡ true → Has (list_at done i) c
  one i l = elim (or_cases (nat_eq i j) (listed [] j) l) [ inl e ↦ at i (eqb-true i j e) | inr n ↦ absurd (false≢true n) ]

  two : (i k : ℕ) → listed (i ∷ k ∷ []) j ≡ true → Has (list_at done i ++ list_at done k) c
  two i k l = elim (or_cases (nat_eq i j) (listed (k ∷ []) j) l) [
    | inl e ↦ has-left (list_at done i) (list_at done k) c (at i (eqb-true i j e))
    | inr n ↦ has-right (list_at done i) (list_at done k) c (one k n)
  ]

  three : (i k m : ℕ) → listed (i ∷ k ∷ m ∷ []) j ≡ true → Has (list_at done i ++ (list_at done k ++ list_at done m)) c
  three i k m l = elim (or_cases (nat_eq i j) (listed (k ∷ m ∷ []) j) l) [
    | inl e ↦ has-left (list_at done i) (list_at done k ++ list_at done m) c (at i (eqb-true i j e))
    | inr n ↦ has-right (list_at done i) (list_at done k ++ list_at done m) c (two k m n)
  ]

  operand-named : (u : Term) → listed (numbers (uses_of u)) j ≡ true → Has (named_in done u) c
  operand-named (Constant w v) l = absurd (false≢true l)
  operand-named (Cell d) l = absurd (false≢true l)
  operand-named (Element f n x) l = has-right (cells_from f n) (list_at done x.0) c (one x.0 l)
  operand-named (Add x y) l = two x.0 y.0 l
  operand-named (Subtract x y) l = two x.0 y.0 l
  operand-named (Multiply x y) l = two x.0 y.0 l
  operand-named (Divide x y) l = two x.0 y.0 l
  operand-named (Remainder x y) l = two x.0 y.0 l
  operand-named (And x y) l = two x.0 y.0 l
  operand-named (Or x y) l = two x.0 y.0 l
  operand-named (Xor x y) l = two x.0 y.0 l
  operand-named (Not x) l = one x.0 l
  operand-named (ShiftLeft x y) l = two x.0 y.0 l
  operand-named (ShiftRight x y) l = two x.0 y.0 l
  operand-named (ShiftSigned x y) l = two x.0 y.0 l
  operand-named (EqualTo x y) l = two x.0 y.0 l
  operand-named (LessThan x y) l = two x.0 y.0 l
  operand-named (LessSigned x y) l = two x.0 y.0 l
  operand-named (Select x y z) l = three x.0 y.0 z.0 l
  operand-named (ZeroExtend w x) l = one x.0 l
  operand-named (SignExtend w x) l = one x.0 l
  operand-named (Truncate w x) l = one x.0 l
  operand-named (Bit k x) l = one x.0 l

-- the term of a number, if there is one
term-there : (ts : List Term) (k : ℕ) → ((u : Term) × ((slice_get ts k ≡ Some u) × ((term_at ts k ≡ u) × (operands_at ts k ≡ numbers (uses_of u)))))
    ⊎ ((term_at ts k ≡ Constant 1 0) × (operands_at ts k ≡ []))
term-there [] k = inr (refl, refl)
term-there (t ∷ ts) zero = inl (t, (refl, (refl, refl)))
term-there (t ∷ ts) (suc k) = term-there ts k

abbrev Named : List Term → ℕ → ℕ → Type 0
Named ts k c = Has (list_at (named_after [] ts) k) c

own-of : (table : Table) (k c : ℕ) → Own table.terms k c → Named table.terms k c
own-of table k c o = elim (term-there table.terms k) [
  | inl (u, (g, (t, p))) ↦
      subst (λ (xs : List ℕ). Has xs c) (sym (names-made table k u g))
      (own-named (fronts table k u g) u c (subst (λ (x : Term). Has (reads.cells_from (span_of x).first (span_of x).count) c) t o))
  | inr (t, p) ↦ absurd (subst (λ (x : Term). Has (reads.cells_from (span_of x).first (span_of x).count) c) t o)
]

operand-of : (table : Table) (k j c : ℕ) → j < k → listed (operands_at table.terms k) j ≡ true → Named table.terms j c → Named table.terms k c
operand-of table k j c lt l h = elim (term-there table.terms k) [
  | inl (u, (g, (t, p))) ↦
      subst (λ (xs : List ℕ). Has xs c) (sym (names-made table k u g))
      (operand-named (fronts table k u g) j c (names-before table k u g j c lt h) u (subst (λ (xs : List ℕ). listed xs j ≡ true) p l))
  | inr (t, p) ↦ absurd (false≢true (subst (λ (xs : List ℕ). listed xs j ≡ true) p l))
]

-- a term names what the terms of its cone read
abbrev Reached : Table → ℕ → (ℕ → Bool) → ℕ → Type 0
Reached table t need n = (j c : ℕ) → j < n → need j ≡ true → Named table.terms j c → Named table.terms t c

first-of : (a b : Bool) → (a && b) ≡ true → a ≡ true
first-of true b e = refl
first-of false b e = e

cone-named : (table : Table) (t n : ℕ) (need : ℕ → Bool) → Reached table t need n → (k c : ℕ) → listed (falling table.terms (is_done []) n need) k ≡ true
    → Own table.terms k c → Named table.terms t c
cone-named table t zero need r k c l o = absurd (false≢true l)
cone-named table t (suc n) need r k c l o = by (need n) refl l (λ some reaches at. cone-named table t n some reaches k c at o)
  where
    more : ℕ → Bool
    more j = need j || wants table.terms (is_done []) n j

    reached : need n ≡ true → Reached table t more n
    reached here j d lt w h = elim (or_cases (need j) (wants table.terms (is_done []) n j) w) [
      | inl a ↦ r j d (omega (arith, lt)) a h
      | inr b ↦ r n d (omega arith) here (operand-of table n j d lt (first-of (listed (operands_at table.terms n) j) (not (is_done [] j)) b) h)
    ]

    by : (b : Bool) → need n ≡ b → listed (cond b (n ∷ falling table.terms (is_done []) n more) (falling table.terms (is_done []) n need)) k ≡ true
        → ((some : ℕ → Bool) → Reached table t some n → listed (falling table.terms (is_done []) n some) k ≡ true → Named table.terms t c) → Named table.terms t c
    by true here at again = elim (or_cases (nat_eq n k) (listed (falling table.terms (is_done []) n more) k) at) [
      | inl e ↦ r n c (omega arith) here (own-of table n c (subst (λ (i : ℕ). Own table.terms i c) (sym (eqb-true n k e)) o))
      | inr i ↦ again more (reached here) i
    ]
    by false here at again = again need (λ j d lt a h. r j d (omega (arith, lt)) a h) at

read-in : (table : Table) (t : TermId) (later : List ℕ) (c : ℕ) → Has (with_read table t.0 later) c → Has (names table t) c ⊎ Has later c
read-in table t later c h = elim (terms-in table.terms later (cone_of table.terms [] t.0) c h) [
  | inl (k, (l, o)) ↦
      inl (cone-named table t.0 (suc t.0) (λ j. nat_eq t.0 j && not (is_done [] j))
      (λ j d lt a n. subst (λ (i : ℕ). Named table.terms i d) (sym (eqb-true t.0 j (first-of (nat_eq t.0 j) (not (is_done [] j)) a))) n) k c l o)
  | inr i ↦ inr i
]

read-rises : (table : Table) (t : ℕ) (later : List ℕ) → Rise later → Rise (with_read table t later)
read-rises table t later r = terms-rise table.terms later (cone_of table.terms [] t) r

-- one operation
abbrev Within : List ℕ → List ℕ → Type 0
Within xs ys = (c : ℕ) → Has xs c → Has ys c

has-other : (k : ℕ) (xs : List ℕ) (c : ℕ) → Has xs c → (c ≡ k → ⊥) → Has (without k xs) c
has-other k [] c h n = h
has-other k (x ∷ xs) c h n = by (x == k) refl h (λ g. has-other k xs c g n)
  where
    by : (b : Bool) → (x == k) ≡ b → Has (x ∷ xs) c → (Has xs c → Has (without k xs) c) → Has (if b then without k xs else x ∷ without k xs) c
    by true e (inl i) f = absurd (n (i ∙ eqb-true x k e))
    by true e (inr h) f = f h
    by false e (inl i) f = inl i
    by false e (inr h) f = inr (f h)

without-within : (k : ℕ) (few all : List ℕ) → Rise few → Within few all → Within (reads.without k few) (without k all)
without-within k few all r w c h = has-other k all c (w c (left few k c h)) (left-other few k c r h)

one-within : (table : Table) (o : Operation) (few all : List ℕ) → Rise few → Within few all
    → Rise (needs.needed_by table few o) × Within (needs.needed_by table few o) (needed_by table o all)
one-within table (Assume t) few all r w = (
  read-rises table t.0 few r,
  λ c h. elim (read-in table t few c h) [ inl a ↦ has-left (names table t) all c a | inr b ↦ has-right (names table t) all c (w c b) ],
)
one-within table (Set k t) few all r w = by (is_needed few k) refl
  where
    after : List ℕ
    after = reads.without k few

    by : (b : Bool) → is_needed few k ≡ b
        → Rise (cond b (with_read table t.0 after) few) × Within (cond b (with_read table t.0 after) few) (names table t ++ without k all)
    by true e = (
      read-rises table t.0 after (left-rises few k r),
      λ c h. elim (read-in table t after c h) [
        | inl a ↦ has-left (names table t) (without k all) c a
        | inr b ↦ has-right (names table t) (without k all) c (without-within k few all r w c b)
      ],
    )
    by false e = (r, λ c h. has-right (names table t) (without k all) c (has-other k all c (w c h) (apart few k c e h)))
one-within table (SetAt first n i t) few all r w = by (some_needed few (reads.cells_from first n))
  where
    array : List ℕ
    array = with_cells few (reads.cells_from first n)

    index : List ℕ
    index = with_read table i.0 array

    rest : List ℕ
    rest = cells_from first n ++ all

    whole : List ℕ
    whole = names table i ++ (names table t ++ rest)

    in-array : (c : ℕ) → Has array c → Has rest c
    in-array c h = elim (cells-in few (reads.cells_from first n) c h) [
      | inl a ↦ has-left (cells_from first n) all c (subst (λ (xs : List ℕ). Has xs c) (same-cells first n) a)
      | inr b ↦ has-right (cells_from first n) all c (w c b)
    ]

    behind : (c : ℕ) → Has rest c → Has whole c
    behind c h = has-right (names table i) (names table t ++ rest) c (has-right (names table t) rest c h)

    in-index : (c : ℕ) → Has index c → Has whole c
    in-index c h = elim (read-in table i array c h) [
      | inl a ↦ has-left (names table i) (names table t ++ rest) c a
      | inr b ↦ behind c (in-array c b)
    ]

    by : (b : Bool) → Rise (cond b (with_read table t.0 index) few) × Within (cond b (with_read table t.0 index) few) whole
    by true = (
      read-rises table t.0 index (read-rises table i.0 array (cells-rise few (reads.cells_from first n) r)),
      λ c h. elim (read-in table t index c h) [
        | inl a ↦ has-right (names table i) (names table t ++ rest) c (has-left (names table t) rest c a)
        | inr b ↦ in-index c b
      ],
    )
    by false = (r, λ c h. behind c (has-right (cells_from first n) all c (w c h)))
one-within table (Draw k signed) few all r w = (left-rises few k r, without-within k few all r w)

all-within : (table : Table) (os : List Operation) (few all : List ℕ) → Rise few → Within few all
    → Rise (needs.needed_by_all table few os) × Within (needs.needed_by_all table few os) (needed_by_all table os all)
all-within table [] few all r w = (r, w)
all-within table (o ∷ os) few all r w =
    let rest = all-within table os few all r w in
    one-within table o (needs.needed_by_all table few os) (needed_by_all table os all) rest.0 rest.1

same-operations : (es : List Edge) (k : ℕ) → needs.operations_at es k ≡ operations_of es k
same-operations [] k = refl
same-operations (e ∷ es) zero = refl
same-operations (e ∷ es) (suc k) = same-operations es k

along-within : (g : Flow) (es : List EdgeId) → Rise (questions.needed_along g es) × Within (questions.needed_along g es) (needed_along g es)
along-within g [] = (tt, λ c h. h)
along-within g (e ∷ es) =
    let rest = along-within g es in
    let r = all-within g.terms (needs.operations_at g.edges e.0) (questions.needed_along g es) (needed_along g es) rest.0 rest.1 in (
      r.0,
      subst (λ (os : List Operation). Within (questions.needed_along g (e ∷ es)) (needed_by_all g.terms os (needed_along g es))) (same-operations g.edges e.0) r.1,
    )

-- the cells that are needed before edges are read by them before they are set
pub needed-within : (g : Flow) (es : List EdgeId) (c : ℕ) → Has (questions.needed_along g es) c → Has (needed_along g es) c
needed-within g es c h = (along-within g es).1 c h
