-- Stores that agree on the cells that are needed: terms have the same values there.
use Rattle.std.proofs.Common.{◌≡◌, ℕ, ◌+◌, ◌<◌, ◌≤◌, ◌%◌, ◌^◌, ◌==◌, Bool, true, false, not, cond, eqb, ◌&&◌, ◌||◌, ◌⊎◌, List, [], ◌∷◌, length, refl, sym, ap, ◌∙◌, subst, zero, suc, arith, slice_index, slice_set, nat_lt, nat_eq, if◌then◌else◌, inl, inr, bit_and, bit_or, bit_xor, eq-eqb}
use Rattle.std.proofs.lemmas.Bool.{false≢true, cases_eq, eqb-true, ltb-true}
use Rattle.std.specs.Ordering.{nat_cmp, is_eq, match_ordering}
use Rattle.std.proofs.Common.{Ordering, Less, Equal, Greater}
use Rattle.std.specs.BTreeMap.{is_at}
use Rattle.std.specs.BTreeSet.{insert_key}
use Rattle.std.specs.Set.{remove_key}
use Rattle.prop.specs.Trues.{listed}
use Rattle.bv_term.specs.declared.term.Term.{Term}
use Rattle.bv_term.specs.declared.term.Term.TheVariants.{Constant, Cell, Element, Add, Subtract, Multiply, Divide, Remainder, And, Or, Xor, Not, ShiftLeft, ShiftRight, ShiftSigned, Equal as EqualTo, Less as LessThan, LessSigned, Select, ZeroExtend, SignExtend, Truncate, Bit}
use Rattle.bv_term.specs.Numbers.{sum_in, difference_in, product_in, quotient_of, remainder_of, complement_in, left_in, right_in, signed_right_in, raised, truth, sign_extended, bit_of}
use Rattle.bv_term.specs.WellFormed.{Table, IsTable}
use Rattle.bv_term.specs.Values.{value_in, values}
use Rattle.bit_blast.specs.Cone.{uses_of, numbers, operands_at, wants, falling}
use Rattle.bit_blast.specs.Done.{is_done}
use Rattle.bit_blast.specs.Emission.{term_at}
use Rattle.bit_blast.proofs.Ready.{operand-below}
use Rattle.blast_laws.proofs.Rising.{term-place}
use Rattle.path_formula.specs.Reads.{cells_from, span_of, is_needed, some_needed, with_cells, with_read, with_terms, without}

-- a list has a cell
abbrev pub Has : List ℕ → ℕ → Type 0
Has [] c = ⊥
Has (x ∷ xs) c = (c ≡ x) ⊎ Has xs c

abbrev pub AgreeOn : List ℕ → List ℕ → List ℕ → Type 0
AgreeOn needed s t = (c : ℕ) → Has needed c → slice_index s c ≡ slice_index t c

cmp_is : (c x : ℕ) → is_eq (nat_cmp c x) ≡ true → c ≡ x
cmp_is c x h = by (nat_lt c x) h
  where
    equal : (b : Bool) → b ≡ eqb c x → is_eq (cond b Equal Greater) ≡ true → c ≡ x
    equal true e h = eqb-true c x (sym e)
    equal false e h = absurd (false≢true h)

    by : (b : Bool) → is_eq (cond b Less (cond (c == x) Equal Greater)) ≡ true → c ≡ x
    by true h = absurd (false≢true h)
    by false h = equal (c == x) refl h

at_self : (c : ℕ) → is_at (nat_cmp c) c ≡ true
at_self c = by (nat_lt c c) refl
  where
    by : (b : Bool) → b ≡ nat_lt c c → is_eq (cond b Less (cond (c == c) Equal Greater)) ≡ true
    by true e = let lt = ltb-true c c (sym e) in absurd (omega (arith, lt))
    by false e = ap (λ (b : Bool). is_eq (cond b Equal Greater)) (eq-eqb c c refl)

or_right : (a b : Bool) → b ≡ true → (a || b) ≡ true
or_right true b e = refl
or_right false b e = e

has_needed : (xs : List ℕ) (c : ℕ) → Has xs c → is_needed xs c ≡ true
has_needed [] c h = absurd h
has_needed (x ∷ xs) c (inl e) = subst (λ (y : ℕ). (is_at (nat_cmp c) y || is_needed xs c) ≡ true) e (ap (λ (b : Bool). b || is_needed xs c) (at_self c))
has_needed (x ∷ xs) c (inr h) = or_right (is_at (nat_cmp c) x) (is_needed xs c) (has_needed xs c h)

-- a cell that is not needed is none of those that are
pub apart : (xs : List ℕ) (c d : ℕ) → is_needed xs c ≡ false → Has xs d → d ≡ c → ⊥
apart xs c d n h e = false≢true (sym n ∙ has_needed xs c (subst (λ (k : ℕ). Has xs k) e h))

pub apart_some : (xs : List ℕ) (first n k d : ℕ) → some_needed xs (cells_from first n) ≡ false → k < n → Has xs d → d ≡ first + k → ⊥
apart_some xs first zero k d e lt h i = omega (arith, lt)
apart_some xs first (suc n) zero d e lt h i =
    apart xs first d (one (is_needed xs first) (some_needed xs (cells_from (first + 1) n)) e) h (omega (arith, i))
  where
    one : (a b : Bool) → (a || b) ≡ false → a ≡ false
    one true b e = e
    one false b e = refl
apart_some xs first (suc n) (suc k) d e lt h i =
    apart_some xs (first + 1) n k d (rest (is_needed xs first) (some_needed xs (cells_from (first + 1) n)) e) (omega (arith, lt)) h (omega (arith, i))
  where
    rest : (a b : Bool) → (a || b) ≡ false → b ≡ false
    rest true b e = absurd (false≢true (sym e))
    rest false b e = e

has_old : (xs : List ℕ) (k c : ℕ) → Has xs c → Has (insert_key nat_cmp xs k) c
has_old [] k c h = absurd h
has_old (x ∷ xs) k c h = by (nat_cmp k x) h (λ g. has_old xs k c g)
  where
    by : (r : Ordering) → Has (x ∷ xs) c → (Has xs c → Has (insert_key nat_cmp xs k) c)
        → Has (match_ordering r (k ∷ x ∷ xs) (x ∷ xs) (x ∷ insert_key nat_cmp xs k)) c
    by Less h f = inr h
    by Equal h f = h
    by Greater (inl e) f = inl e
    by Greater (inr h) f = inr (f h)

has_new : (xs : List ℕ) (k : ℕ) → Has (insert_key nat_cmp xs k) k
has_new [] k = inl refl
has_new (x ∷ xs) k = by (nat_cmp k x) refl (has_new xs k)
  where
    by : (r : Ordering) → r ≡ nat_cmp k x → Has (insert_key nat_cmp xs k) k → Has (match_ordering r (k ∷ x ∷ xs) (x ∷ xs) (x ∷ insert_key nat_cmp xs k)) k
    by Less e h = inl refl
    by Equal e h = inl (cmp_is k x (ap is_eq (sym e)))
    by Greater e h = inr h

pub has_without : (xs : List ℕ) (k c : ℕ) → Has xs c → (c ≡ k → ⊥) → Has (without k xs) c
has_without [] k c h ne = absurd h
has_without (x ∷ xs) k c h ne = by (is_at (nat_cmp k) x) refl h (λ g. has_without xs k c g ne)
  where
    by : (b : Bool) → b ≡ is_at (nat_cmp k) x → Has (x ∷ xs) c → (Has xs c → Has (remove_key (is_at (nat_cmp k)) xs) c) → Has (cond b xs (x ∷ remove_key (is_at (nat_cmp k)) xs)) c
    by true e (inl i) f = absurd (ne (i ∙ sym (cmp_is k x (sym e))))
    by true e (inr h) f = h
    by false e (inl i) f = inl i
    by false e (inr h) f = inr (f h)

pub has_cells : (xs ks : List ℕ) (c : ℕ) → Has xs c → Has (with_cells xs ks) c
has_cells xs [] c h = h
has_cells xs (k ∷ ks) c h = has_cells (insert_key nat_cmp xs k) ks c (has_old xs k c h)

pub has_own : (xs : List ℕ) (first n k : ℕ) → k < n → Has (with_cells xs (cells_from first n)) (first + k)
has_own xs first zero k lt = absurd (omega (arith, lt))
has_own xs first (suc n) zero lt =
    let e : first ≡ first + 0 = omega arith in
    subst (λ (c : ℕ). Has (with_cells (insert_key nat_cmp xs first) (cells_from (first + 1) n)) c) e
    (has_cells (insert_key nat_cmp xs first) (cells_from (first + 1) n) first (has_new xs first))
has_own xs first (suc n) (suc k) lt =
    let e : first + 1 + k ≡ first + suc k = omega arith in
    subst (λ (c : ℕ). Has (with_cells (insert_key nat_cmp xs first) (cells_from (first + 1) n)) c) e
    (has_own (insert_key nat_cmp xs first) (first + 1) n k (omega (arith, lt)))

pub has_terms : (ts : List Term) (xs ks : List ℕ) (c : ℕ) → Has xs c → Has (with_terms ts xs ks) c
has_terms ts xs [] c h = h
has_terms ts xs (k ∷ ks) c h =
    let s = span_of (term_at ts k) in
    has_terms ts (with_cells xs (cells_from s.first s.count)) ks c (has_cells xs (cells_from s.first s.count) c h)

-- the value of a term from its operands and its own cells

first_listed : (a : ℕ) (xs : List ℕ) → listed (a ∷ xs) a ≡ true
first_listed a xs = ap (λ (b : Bool). b || listed xs a) (eq-eqb a a refl)

next_listed : (a b : ℕ) (xs : List ℕ) → listed xs b ≡ true → listed (a ∷ xs) b ≡ true
next_listed a b xs h = or_right (nat_eq a b) (listed xs b) h

two : (g : ℕ → ℕ → ℕ) (a b c d : ℕ) → a ≡ b → c ≡ d → g a c ≡ g b d
two g a b c d p q = ap (λ (x : ℕ). g x c) p ∙ ap (g b) q

three : (g : ℕ → ℕ → ℕ → ℕ) (a b c d x y : ℕ) → a ≡ b → c ≡ d → x ≡ y → g a c x ≡ g b d y
three g a b c d x y p q r = ap (λ (z : ℕ). g z c x) p ∙ two (g b) c d x y q r

module _ (s s2 ws ws2 vs vs2 : List ℕ) where
  abbrev Alike : List ℕ → Type 0
  Alike os = (i : ℕ) → listed os i ≡ true → (slice_index ws i ≡ slice_index ws2 i) × (slice_index vs i ≡ slice_index vs2 i)

  one_same : (g : ℕ → ℕ → ℕ) (a : ℕ) → Alike (a ∷ []) → g (slice_index ws a) (slice_index vs a) ≡ g (slice_index ws2 a) (slice_index vs2 a)
  one_same g a p = let q = p a (first_listed a []) in two g _ _ _ _ q.0 q.1

  two_same : (g : ℕ → ℕ → ℕ → ℕ) (a b : ℕ) → Alike (a ∷ b ∷ [])
      → g (slice_index ws a) (slice_index vs a) (slice_index vs b) ≡ g (slice_index ws2 a) (slice_index vs2 a) (slice_index vs2 b)
  two_same g a b p =
      let q = p a (first_listed a (b ∷ [])) in
      let r = p b (next_listed a b (b ∷ []) (first_listed b [])) in
      three g _ _ _ _ _ _ q.0 q.1 r.1

  value_alike : (t : Term) → Alike (numbers (uses_of t)) → ((k : ℕ) → k < (span_of t).count → slice_index s ((span_of t).first + k) ≡ slice_index s2 ((span_of t).first + k))
      → value_in s ws vs t ≡ value_in s2 ws2 vs2 t
  value_alike (Constant w v) p c = refl
  value_alike (Cell k) p c = let e : k + 0 ≡ k = omega arith in subst (λ (i : ℕ). slice_index s i ≡ slice_index s2 i) e (c 0 (omega arith))
  value_alike (Element first n i) p c =
      let q = (p i.0 (first_listed i.0 [])).1 in
      by (nat_lt (slice_index vs i.0) n) refl ∙ ap (λ (x : ℕ). if nat_lt x n then slice_index s2 (first + x) else 0) q
    where
      by : (b : Bool) → b ≡ nat_lt (slice_index vs i.0) n
          → (if b then slice_index s (first + slice_index vs i.0) else 0) ≡ (if b then slice_index s2 (first + slice_index vs i.0) else 0)
      by true e = c (slice_index vs i.0) (ltb-true (slice_index vs i.0) n (sym e))
      by false e = refl
  value_alike (Add i j) p c = two_same sum_in i.0 j.0 p
  value_alike (Subtract i j) p c = two_same difference_in i.0 j.0 p
  value_alike (Multiply i j) p c = two_same product_in i.0 j.0 p
  value_alike (Divide i j) p c = two_same (λ w x y. quotient_of x y) i.0 j.0 p
  value_alike (Remainder i j) p c = two_same (λ w x y. remainder_of x y) i.0 j.0 p
  value_alike (And i j) p c = two_same (λ w x y. bit_and x y) i.0 j.0 p
  value_alike (Or i j) p c = two_same (λ w x y. bit_or x y) i.0 j.0 p
  value_alike (Xor i j) p c = two_same (λ w x y. bit_xor x y) i.0 j.0 p
  value_alike (Not i) p c = one_same complement_in i.0 p
  value_alike (ShiftLeft i j) p c = two_same left_in i.0 j.0 p
  value_alike (ShiftRight i j) p c = two_same right_in i.0 j.0 p
  value_alike (ShiftSigned i j) p c = two_same signed_right_in i.0 j.0 p
  value_alike (EqualTo i j) p c = two_same (λ w x y. truth (x == y)) i.0 j.0 p
  value_alike (LessThan i j) p c = two_same (λ w x y. truth (nat_lt x y)) i.0 j.0 p
  value_alike (LessSigned i j) p c = two_same (λ w x y. truth (nat_lt (raised w x) (raised w y))) i.0 j.0 p
  value_alike (Select i j k) p c =
      let a = p i.0 (first_listed i.0 (j.0 ∷ k.0 ∷ [])) in
      let b = p j.0 (next_listed i.0 j.0 (j.0 ∷ k.0 ∷ []) (first_listed j.0 (k.0 ∷ []))) in
      let d = p k.0 (next_listed i.0 k.0 (j.0 ∷ k.0 ∷ []) (next_listed j.0 k.0 (k.0 ∷ []) (first_listed k.0 []))) in
      three (λ x y z. if x == 1 then y else z) _ _ _ _ _ _ a.1 b.1 d.1
  value_alike (ZeroExtend w i) p c = one_same (λ w x. x) i.0 p
  value_alike (SignExtend w i) p c = one_same (λ u x. sign_extended u w x) i.0 p
  value_alike (Truncate w i) p c = one_same (λ u x. x % 2 ^ w) i.0 p
  value_alike (Bit n i) p c = one_same (λ u x. bit_of n x) i.0 p

operands_of : (ts : List Term) (k : ℕ) → k < length ts → operands_at ts k ≡ numbers (uses_of (term_at ts k))
operands_of [] k lt = absurd (omega (arith, lt))
operands_of (t ∷ ts) zero lt = refl
operands_of (t ∷ ts) (suc k) lt = operands_of ts k (omega (arith, lt))

module _ (table : Table) (s s2 : List ℕ) where
  abbrev SameAt : ℕ → Type 0
  SameAt j = slice_index (values table s) j ≡ slice_index (values table s2) j

  -- the terms below a number that are needed have the same values
  abbrev SameBelow : ℕ → (ℕ → Bool) → Type 0
  SameBelow n need = (j : ℕ) → j < n → need j ≡ true → SameAt j

  abbrev more : ℕ → (ℕ → Bool) → ℕ → Bool
  more k need i = need i || wants table.terms (is_done []) k i

  abbrev own : ℕ → List ℕ → List ℕ
  own k needed = with_cells needed (cells_from (span_of (term_at table.terms k)).first (span_of (term_at table.terms k)).count)

  here : (k : ℕ) (need : ℕ → Bool) (needed up : List ℕ) → IsTable table → k < length table.terms
      → AgreeOn (with_terms table.terms (own k needed) up) s s2 → SameBelow k (more k need) → SameAt k
  here k need needed up is there a below =
      let ts = table.terms in
      let t = term_at ts k in
      let r = term-place table s k is there in
      let us = r.0 in
      let xs = r.1.0 in
      let x = r.1.1 in
      let r2 = term-place table s2 k is there in
      let us2 = r2.0 in
      let xs2 = r2.1.0 in
      let x2 = r2.1.1 in
      let same : (i : ℕ) → listed (numbers (uses_of t)) i ≡ true → (slice_index us i ≡ slice_index us2 i) × (slice_index xs i ≡ slice_index xs2 i)
      = λ i l.
      let low : i < k = let b = operand-below table.cells us t i x.fits l in omega (arith, b, x.many) in
      let w : wants ts (is_done []) k i ≡ true = ap (λ (os : List ℕ). listed os i && true) (operands_of ts k there) ∙ ap (λ (b : Bool). b && true) l in (
        x.same i low ∙ sym (x2.same i low),
        x.seen i low ∙ (below i low (or_right (need i) (wants ts (is_done []) k i) w) ∙ sym (x2.seen i low)),
      ) in
      x.value
      ∙ (value_alike s s2 us us2 xs xs2 t same (λ i l. a ((span_of t).first + i) (has_terms ts (own k needed) up ((span_of t).first + i) (has_own needed (span_of t).first (span_of t).count i l)))
      ∙ sym x2.value)

  step : (k : ℕ) (need : ℕ → Bool) (needed up down : List ℕ) → IsTable table → k < length table.terms
      → (AgreeOn (with_terms table.terms (own k needed) up) s s2 → SameBelow k (more k need))
      → (AgreeOn (with_terms table.terms needed down) s s2 → SameBelow k need)
      → (b : Bool) → b ≡ need k → AgreeOn (with_terms table.terms needed (cond b (k ∷ up) down)) s s2 → SameBelow (suc k) need
  step k need needed up down is there f g true e a j lt y = elim (cases_eq j k) [
    | inl i ↦ subst (λ (i : ℕ). SameAt i) (sym i) (here k need needed up is there a (f a))
    | inr ne ↦ f a j (omega (arith, lt, ne)) (ap (λ (b : Bool). b || wants table.terms (is_done []) k j) y)
  ]
  step k need needed up down is there f g false e a j lt y = elim (cases_eq j k) [
    | inl i ↦ absurd (false≢true (e ∙ (ap need (sym i) ∙ y)))
    | inr ne ↦ g a j (omega (arith, lt, ne)) y
  ]

  reads_alike : (n : ℕ) (need : ℕ → Bool) (needed : List ℕ) → IsTable table → n ≤ length table.terms
      → AgreeOn (with_terms table.terms needed (falling table.terms (is_done []) n need)) s s2 → SameBelow n need
  reads_alike zero need needed is le a = λ j lt y. absurd (omega (arith, lt))
  reads_alike (suc k) need needed is le a =
      step k need needed (falling table.terms (is_done []) k (more k need)) (falling table.terms (is_done []) k need) is (omega (arith, le))
      (λ a. reads_alike k (more k need) (own k needed) is (omega (arith, le)) a) (λ a. reads_alike k need needed is (omega (arith, le)) a) (need k) refl a

-- stores that agree on what a term reads give it one value, and agree on what was needed before
pub read_alike : (table : Table) (t : ℕ) (needed s s2 : List ℕ) → IsTable table → t < length table.terms → AgreeOn (with_read table t needed) s s2
    → (slice_index (values table s) t ≡ slice_index (values table s2) t) × AgreeOn needed s s2
read_alike table t needed s s2 is lt a =
    let need : ℕ → Bool = λ j. eqb t j && not (is_done [] j) in (
      reads_alike table s s2 (suc t) need needed is (omega (arith, lt)) a t (omega arith) (ap (λ (b : Bool). b && true) (eq-eqb t t refl)),
      λ c h. a c (has_terms table.terms needed (falling table.terms (is_done []) (suc t) need) c h),
    )

-- stores after a cell was set in both, or in one

pub set_both : (s s2 : List ℕ) (k x c : ℕ) → length s ≡ length s2 → ((c ≡ k → ⊥) → slice_index s c ≡ slice_index s2 c)
    → slice_index (slice_set s k x) c ≡ slice_index (slice_set s2 k x) c
set_both [] [] k x c e h = refl
set_both [] (b ∷ s2) k x c e h = absurd (omega (arith, e))
set_both (a ∷ s) [] k x c e h = absurd (omega (arith, e))
set_both (a ∷ s) (b ∷ s2) zero x zero e h = refl
set_both (a ∷ s) (b ∷ s2) zero x (suc c) e h = h (λ i. omega (arith, i))
set_both (a ∷ s) (b ∷ s2) (suc k) x zero e h = h (λ i. omega (arith, i))
set_both (a ∷ s) (b ∷ s2) (suc k) x (suc c) e h = set_both s s2 k x c (omega (arith, e)) (λ ne. h (λ i. ne (omega (arith, i))))

pub set_apart : (s : List ℕ) (k x c : ℕ) → (c ≡ k → ⊥) → slice_index s c ≡ slice_index (slice_set s k x) c
set_apart [] k x c ne = refl
set_apart (a ∷ s) zero x zero ne = absurd (ne refl)
set_apart (a ∷ s) zero x (suc c) ne = refl
set_apart (a ∷ s) (suc k) x zero ne = refl
set_apart (a ∷ s) (suc k) x (suc c) ne = set_apart s k x c (λ i. ne (omega (arith, i)))

pub set_long : (s : List ℕ) (k x : ℕ) → length (slice_set s k x) ≡ length s
set_long [] k x = refl
set_long (a ∷ s) zero x = refl
set_long (a ∷ s) (suc k) x = ap suc (set_long s k x)
