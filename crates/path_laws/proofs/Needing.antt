-- The cells that a term reads are needed where the term is.
use Rattle.std.proofs.Common.{◌≡◌, ℕ, ◌+◌, ◌-◌, ◌<◌, Bool, true, false, not, cond, ◌&&◌, ◌||◌, ◌⊎◌, List, [], ◌∷◌, refl, sym, ◌∙◌, subst, zero, suc, arith, nat_eq, inl, inr}
use Rattle.std.proofs.lemmas.Bool.{false≢true, eqb-true}
use Rattle.prop.specs.Trues.{listed}
use Rattle.bv_term.specs.declared.term.Term.{Term}
use Rattle.bv_term.specs.declared.term.Term.TheVariants.{Constant, Cell, Element, Add, Subtract, Multiply, Divide, Remainder, And, Or, Xor, Not, ShiftLeft, ShiftRight, ShiftSigned, Equal, Less, LessSigned, Select, ZeroExtend, SignExtend, Truncate, Bit}
use Rattle.bv_term.specs.WellFormed.{Table}
use Rattle.bit_blast.specs.Cone.{cone_of, falling, operands_at, wants}
use Rattle.bit_blast.specs.Done.{Known, is_done}
use Rattle.bit_blast.specs.Emission.{term_at}
use Rattle.blast_laws.specs.Reading.{IsOwn}
use Rattle.path_formula.specs.Reads.{cells_from, span_of, with_cells, with_read, with_terms}
use Rattle.obligation_laws.proofs.Alike.{Has, has_own, has_terms}

-- a cell that a term reads by itself is one of its span
own_span : (t : Term) (c : ℕ) → IsOwn t c → (k : ℕ) × (k < (span_of t).count) × (c ≡ (span_of t).first + k)
own_span (Constant w v) c i = absurd i
own_span (Cell d) c i = (0, omega arith, omega (arith, i))
own_span (Element f n x) c i = (c - f, omega (arith, i.0, i.1), omega (arith, i.0))
own_span (Add x y) c i = absurd i
own_span (Subtract x y) c i = absurd i
own_span (Multiply x y) c i = absurd i
own_span (Divide x y) c i = absurd i
own_span (Remainder x y) c i = absurd i
own_span (And x y) c i = absurd i
own_span (Or x y) c i = absurd i
own_span (Xor x y) c i = absurd i
own_span (Not x) c i = absurd i
own_span (ShiftLeft x y) c i = absurd i
own_span (ShiftRight x y) c i = absurd i
own_span (ShiftSigned x y) c i = absurd i
own_span (Equal x y) c i = absurd i
own_span (Less x y) c i = absurd i
own_span (LessSigned x y) c i = absurd i
own_span (Select x y z) c i = absurd i
own_span (ZeroExtend w x) c i = absurd i
own_span (SignExtend w x) c i = absurd i
own_span (Truncate w x) c i = absurd i
own_span (Bit k x) c i = absurd i

-- so it is needed where the term is one of some terms that are
in_terms : (ts : List Term) (needed ks : List ℕ) (k c : ℕ) → listed ks k ≡ true → IsOwn (term_at ts k) c → Has (with_terms ts needed ks) c
in_terms ts needed [] k c l i = absurd (false≢true l)
in_terms ts needed (j ∷ ks) k c l i =
    by (nat_eq j k) refl l
    (λ y. in_terms ts (with_cells needed (cells_from (span_of (term_at ts j)).first (span_of (term_at ts j)).count)) ks k c y i)
  where
    by : (b : Bool) → b ≡ nat_eq j k → (b || listed ks k) ≡ true
        → (listed ks k ≡ true → Has (with_terms ts (with_cells needed (cells_from (span_of (term_at ts j)).first (span_of (term_at ts j)).count)) ks) c)
        → Has (with_terms ts (with_cells needed (cells_from (span_of (term_at ts j)).first (span_of (term_at ts j)).count)) ks) c
    by true e l f =
        let same : j ≡ k = eqb-true j k (sym e) in
        let own : IsOwn (term_at ts j) c = subst (λ (x : ℕ). IsOwn (term_at ts x) c) (sym same) i in
        let (d, lt, at) = own_span (term_at ts j) c own in
        let s = span_of (term_at ts j) in
        has_terms ts (with_cells needed (cells_from s.first s.count)) ks c
        (subst (Has (with_cells needed (cells_from s.first s.count))) (sym at) (has_own needed s.first s.count d lt))
    by false e l f = f l

-- what has to be done for a term where some are done has to be done where none is

or_either : (a b : Bool) → (a || b) ≡ true → (a ≡ true) ⊎ (b ≡ true)
or_either true b e = inl refl
or_either false b e = inr e

or_left : (a b : Bool) → a ≡ true → (a || b) ≡ true
or_left true b e = refl
or_left false b e = absurd (false≢true e)

or_right : (a b : Bool) → b ≡ true → (a || b) ≡ true
or_right true b e = refl
or_right false b e = e

or_more : (a x y : Bool) → (x ≡ true → y ≡ true) → (a || x) ≡ true → (a || y) ≡ true
or_more true x y f e = refl
or_more false x y f e = f e

and_first : (x y : Bool) → (x && y) ≡ true → (x && true) ≡ true
and_first true y e = refl
and_first false y e = e

abbrev with_wanted : List Term → (ℕ → Bool) → ℕ → (ℕ → Bool) → ℕ → Bool
with_wanted ts done k need i = need i || wants ts done k i

wanted_more : (ts : List Term) (done : ℕ → Bool) (k : ℕ) (need more : ℕ → Bool) → ((j : ℕ) → need j ≡ true → more j ≡ true)
    → (j : ℕ) → with_wanted ts done k need j ≡ true → with_wanted ts (is_done []) k more j ≡ true
wanted_more ts done k need more f j e = elim (or_either (need j) (wants ts done k j) e) [
  | inl y ↦ or_left (more j) (wants ts (is_done []) k j) (f j y)
  | inr y ↦ or_right (more j) (wants ts (is_done []) k j) (and_first (listed (operands_at ts k) j) (not (done j)) y)
]

-- the first list has no number that the second has not, where all that the first one's need has the second one's has
abbrev Covers : List Term → (ℕ → Bool) → ℕ → ℕ → Type 0
Covers ts done n j =
    (need more : ℕ → Bool) → ((i : ℕ) → need i ≡ true → more i ≡ true)
    → listed (falling ts done n need) j ≡ true → listed (falling ts (is_done []) n more) j ≡ true

falls_one : (ts : List Term) (done : ℕ → Bool) (k j : ℕ) → Covers ts done k j → Covers ts done (suc k) j
falls_one ts done k j f need more g l = by (need k) (more k) refl refl l
  where
    by : (a b : Bool) → a ≡ need k → b ≡ more k
        → listed (cond a (k ∷ falling ts done k (with_wanted ts done k need)) (falling ts done k need)) j ≡ true
        → listed (cond b (k ∷ falling ts (is_done []) k (with_wanted ts (is_done []) k more)) (falling ts (is_done []) k more)) j ≡ true
    by true true x y l =
        or_more (nat_eq k j) (listed (falling ts done k (with_wanted ts done k need)) j) (listed (falling ts (is_done []) k (with_wanted ts (is_done []) k more)) j)
        (f (with_wanted ts done k need) (with_wanted ts (is_done []) k more) (wanted_more ts done k need more g)) l
    by true false x y l = absurd (false≢true (y ∙ g k (sym x)))
    by false true x y l =
        or_right (nat_eq k j) (listed (falling ts (is_done []) k (with_wanted ts (is_done []) k more)) j)
        (f need (with_wanted ts (is_done []) k more) (λ i z. or_left (more i) (wants ts (is_done []) k i) (g i z)) l)
    by false false x y l = f need more g l

falls_less : (ts : List Term) (done : ℕ → Bool) (n j : ℕ) → Covers ts done n j
falls_less ts done zero j = λ need more g l. absurd (false≢true l)
falls_less ts done (suc k) j = falls_one ts done k j (falls_less ts done k j)

cone_whole : (ts : List Term) (done : List Known) (t j : ℕ) → listed (cone_of ts done t) j ≡ true → listed (cone_of ts [] t) j ≡ true
cone_whole ts done t j l =
    falls_less ts (is_done done) (suc t) j (λ i. nat_eq t i && not (is_done done i)) (λ i. nat_eq t i && not (is_done [] i))
    (λ i y. and_first (nat_eq t i) (not (is_done done i)) y) l

-- a cell that is read for a term, some others being done, is needed before it
pub read_needed : (table : Table) (t : ℕ) (done : List Known) (later : List ℕ) (k c : ℕ) → listed (cone_of table.terms done t) k ≡ true → IsOwn (term_at table.terms k) c
    → Has (with_read table t later) c
read_needed table t done later k c l i = in_terms table.terms later (cone_of table.terms [] t) k c (cone_whole table.terms done t k l) i

-- and what is needed behind it
pub still_needed : (table : Table) (t : ℕ) (later : List ℕ) (c : ℕ) → Has later c → Has (with_read table t later) c
still_needed table t later c h = has_terms table.terms later (cone_of table.terms [] t) c h
