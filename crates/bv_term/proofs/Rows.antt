-- Rows of terms, and where a row is found.
use Rattle.std.proofs.Common.{◌≡◌, ℕ, ◌+◌, ◌-◌, ◌^◌, ◌<◌, ◌≤◌, length, List, [], ◌∷◌, ◌++◌, arith, ap, ap₂, sym, ◌∙◌, refl, suc, zero, subst, rules, Bool, true, false, Option, Some, None, slice_get, Contains, cond, length-append, ◌==◌, if◌then◌else◌, IsSome, Result, Ok, Err, inr}
use Rattle.std.specs.Prelude.{IfOk}
use Rattle.bv_term.specs.Laws.{IsPut}
use Rattle.std.specs.HashMap.{get, HashMap, Updates}
use Rattle.std.specs.declared.hash.FoldHasher.{FoldHasher}
use Rattle.std.specs.declared.hash.BuildHasherDefault.{BuildHasherDefault}
use Rattle.bv_term.specs.declared.key.Key.{Key}
use Rattle.bv_term.specs.declared.term.TermId.{TermId}
use Rattle.bv_term.specs.declared.term.Term.{Term}
use Rattle.bv_term.specs.declared.term.Term.TheVariants.{Constant, Cell, Element, Add, Subtract, Multiply, Divide, Remainder, And, Or, Xor, Not, ShiftLeft, ShiftRight, ShiftSigned, Equal, Less, LessSigned, Select, ZeroExtend, SignExtend, Truncate, Bit}
use Rattle.bv_term.specs.Keys.{key_of, same_key, first_from, put_at, put_of, Finds, IsKept}
use Rattle.bv_term.specs.WellFormed.{Table, Fits, width_in, widths_after, with_term}
use Rattle.bv_term.proofs.Growing.{widths-append, IsTable-snoc}

abbrev id_of : ℕ → TermId
id_of n = record { 0 = n }

-- the term of a row
abbrev term_of : Key → Term
term_of k =
    if k.kind == 0 then Constant k.first k.number else
    (if k.kind == 1 then Cell k.first else
    (if k.kind == 2 then Element k.first k.second (id_of k.third) else
    (if k.kind == 3 then Add (id_of k.first) (id_of k.second) else
    (if k.kind == 4 then Subtract (id_of k.first) (id_of k.second) else
    (if k.kind == 5 then Multiply (id_of k.first) (id_of k.second) else
    (if k.kind == 6 then Divide (id_of k.first) (id_of k.second) else
    (if k.kind == 7 then Remainder (id_of k.first) (id_of k.second) else
    (if k.kind == 8 then And (id_of k.first) (id_of k.second) else
    (if k.kind == 9 then Or (id_of k.first) (id_of k.second) else
    (if k.kind == 10 then Xor (id_of k.first) (id_of k.second) else
    (if k.kind == 11 then Not (id_of k.first) else
    (if k.kind == 12 then ShiftLeft (id_of k.first) (id_of k.second) else
    (if k.kind == 13 then ShiftRight (id_of k.first) (id_of k.second) else
    (if k.kind == 14 then ShiftSigned (id_of k.first) (id_of k.second) else
    (if k.kind == 15 then Equal (id_of k.first) (id_of k.second) else
    (if k.kind == 16 then Less (id_of k.first) (id_of k.second) else
    (if k.kind == 17 then LessSigned (id_of k.first) (id_of k.second) else
    (if k.kind == 18 then Select (id_of k.first) (id_of k.second) (id_of k.third) else
    (if k.kind == 19 then ZeroExtend k.first (id_of k.second) else
    (if k.kind == 20 then SignExtend k.first (id_of k.second) else
    (if k.kind == 21 then Truncate k.first (id_of k.second) else
    Bit k.first (id_of k.second))))))))))))))))))))))

term_of-key : (t : Term) → term_of (key_of t) ≡ t
term_of-key (Constant w v) = refl
term_of-key (Cell c) = refl
term_of-key (Element first n i) = refl
term_of-key (Add i j) = refl
term_of-key (Subtract i j) = refl
term_of-key (Multiply i j) = refl
term_of-key (Divide i j) = refl
term_of-key (Remainder i j) = refl
term_of-key (And i j) = refl
term_of-key (Or i j) = refl
term_of-key (Xor i j) = refl
term_of-key (Not i) = refl
term_of-key (ShiftLeft i j) = refl
term_of-key (ShiftRight i j) = refl
term_of-key (ShiftSigned i j) = refl
term_of-key (Equal i j) = refl
term_of-key (Less i j) = refl
term_of-key (LessSigned i j) = refl
term_of-key (Select i j k) = refl
term_of-key (ZeroExtend w i) = refl
term_of-key (SignExtend w i) = refl
term_of-key (Truncate w i) = refl
term_of-key (Bit k i) = refl

-- different terms have different rows
pub key-exact : (t u : Term) → key_of t ≡ key_of u → t ≡ u
key-exact t u h = sym (term_of-key t) ∙ ap term_of h ∙ term_of-key u

-- a row is equal to itself, and to no other
pub same_key-refl : (k : Key) → same_key k k ≡ true
same_key-refl k = search rules

pub same_key-exact : (a b : Key) → same_key a b ≡ true → a ≡ b
same_key-exact a b h = search rules

-- where the row is found among the first terms, it is found there among more
pub first-append-some : (n i : ℕ) (k : Key) (xs ys : List Term) → first_from n k xs ≡ Some i → first_from n k (xs ++ ys) ≡ Some i
first-append-some n i k [] ys h = (cc)
first-append-some n i k (x ∷ xs) ys h =
    elim (same_key k (key_of x)) as (λ b. (if b then Some n else first_from (n + 1) k xs) ≡ Some i → (if b then Some n else first_from (n + 1) k (xs ++ ys)) ≡ Some i)
    [ true ↦ (λ e. e) | false ↦ (λ e. first-append-some (n + 1) i k xs ys e) ] h

-- where it is not, it is found at the new term or not at all
pub first-append-none : (n : ℕ) (k : Key) (xs : List Term) (t : Term) → first_from n k xs ≡ None
    → first_from n k (xs ++ t ∷ []) ≡ (if same_key k (key_of t) then Some (n + length xs) else None)
first-append-none n k [] t h =
    let e : n + 0 ≡ n = omega arith in rw e refl
first-append-none n k (x ∷ xs) t h =
    elim (same_key k (key_of x)) as (λ b. (if b then Some n else first_from (n + 1) k xs) ≡ None → (if b then Some n else first_from (n + 1) k (xs ++ t ∷ [])) ≡ (if same_key k (key_of t) then Some (n + suc (length xs)) else None))
    [ true ↦ (λ e. (cc)) | false ↦ (λ e. first-append-none (n + 1) k xs t e ∙ (let s : (n + 1) + length xs ≡ n + suc (length xs) = omega arith in ap (λ z. if same_key k (key_of t) then Some z else None) s)) ] h

-- what is found is there, and has the row
pub first-there : (n i : ℕ) (k : Key) (xs : List Term) → first_from n k xs ≡ Some i
    → (n ≤ i) × ((t : Term) × (slice_get xs (i - n) ≡ Some t) × (k ≡ key_of t))
first-there n i k [] h = absurd (cc)
first-there n i k (x ∷ xs) h =
    elim (same_key k (key_of x)) as (λ b. same_key k (key_of x) ≡ b → (if b then Some n else first_from (n + 1) k xs) ≡ Some i → (n ≤ i) × ((t : Term) × (slice_get (x ∷ xs) (i - n) ≡ Some t) × (k ≡ key_of t))) [
      | true ↦ (λ s e.
          let same : n ≡ i = cc in
          let z : i - n ≡ 0 = omega arith in
          (omega arith, (x, rw z refl, same_key-exact k (key_of x) s)))
      | false ↦ (λ s e.
          let r = first-there (n + 1) i k xs e in
          let le : n + 1 ≤ i = r.0 in
          let z : i - n ≡ suc (i - (n + 1)) = omega arith in
          (omega arith, (r.1.0, rw z r.1.1, r.1.2)))
    ] refl h

-- a term whose row is not found is not there
pub first-absent : (n : ℕ) (t : Term) (xs : List Term) → first_from n (key_of t) xs ≡ None → Contains xs t → ⊥
first-absent n t [] h c = absurd (omega (arith, c.1))
first-absent n t (x ∷ xs) h (zero, lt, is) =
    let e : same_key (key_of t) (key_of x) ≡ true = rw is (same_key-refl (key_of t)) in
    absurd (cc)
first-absent n t (x ∷ xs) h (suc k, lt, is) =
    elim (same_key (key_of t) (key_of x)) as (λ b. (if b then Some n else first_from (n + 1) (key_of t) xs) ≡ None → ⊥)
    [ true ↦ (λ e. absurd (cc)) | false ↦ (λ e. first-absent (n + 1) t xs e (k, omega arith, is)) ] h

-- a map that got the new term's row finds each row
pub Finds-enter : (m n : HashMap Key ℕ (BuildHasherDefault FoldHasher)) (ts : List Term) (t : Term)
    → Finds m ts → first_from 0 (key_of t) ts ≡ None → Updates same_key m n (key_of t) (Some (length ts))
    → Finds n (ts ++ t ∷ [])
Finds-enter m n ts t h none up = λ k.
    let e : get same_key n k ≡ cond (same_key (key_of t) k) (Some (length ts)) (get same_key m k) = up.0 k in
    elim (same_key (key_of t) k) as (λ b. same_key (key_of t) k ≡ b → get same_key n k ≡ cond b (Some (length ts)) (get same_key m k) → get same_key n k ≡ first_from 0 k (ts ++ t ∷ [])) [
      | true ↦ (λ s g.
          let same : key_of t ≡ k = same_key-exact (key_of t) k s in
          let P : Key → Type 0 = λ k. get same_key n k ≡ Some (length ts) → get same_key n k ≡ first_from 0 k (ts ++ t ∷ []) in
          subst P same (λ g. g ∙ sym (first-append-none 0 (key_of t) ts t none ∙ (let z : 0 + length ts ≡ length ts = omega arith in rw (same_key-refl (key_of t), z) refl))) g)
      | false ↦ (λ s g.
          g ∙ h k ∙ kept-at k (first_from 0 k ts) s refl)
    ] refl e
  where
    kept-at : (k : Key) (r : Option ℕ) → same_key (key_of t) k ≡ false → first_from 0 k ts ≡ r → first_from 0 k ts ≡ first_from 0 k (ts ++ t ∷ [])
    kept-at k (Some i) s e = e ∙ sym (first-append-some 0 i k ts (t ∷ []) e)
    kept-at k None s e = e ∙ sym (first-append-none 0 k ts t e ∙ other (same_key k (key_of t)) refl)
      where
        other : (b : Bool) → same_key k (key_of t) ≡ b → (if b then Some (0 + length ts) else None) ≡ None
        other true q =
            let same : k ≡ key_of t = same_key-exact k (key_of t) q in
            let again : same_key (key_of t) k ≡ true = rw same (same_key-refl (key_of t)) in absurd (cc)
        other false q = refl

-- a term whose row is found changes nothing of what is found
pub Finds-repeat : (m : HashMap Key ℕ (BuildHasherDefault FoldHasher)) (ts : List Term) (t : Term)
    → Finds m ts → IsSome (first_from 0 (key_of t) ts) → Finds m (ts ++ t ∷ [])
Finds-repeat m ts t h some = λ k. h k ∙ kept-at k (first_from 0 k ts) refl
  where
    kept-at : (k : Key) (r : Option ℕ) → first_from 0 k ts ≡ r → first_from 0 k ts ≡ first_from 0 k (ts ++ t ∷ [])
    kept-at k (Some i) e = e ∙ sym (first-append-some 0 i k ts (t ∷ []) e)
    kept-at k None e = e ∙ sym (first-append-none 0 k ts t e ∙ other (same_key k (key_of t)) refl)
      where
        other : (b : Bool) → same_key k (key_of t) ≡ b → (if b then Some (0 + length ts) else None) ≡ None
        other true q =
            let same : k ≡ key_of t = same_key-exact k (key_of t) q in
            let P : Key → Type 0 = λ x. first_from 0 x ts ≡ None in
            let none : first_from 0 (key_of t) ts ≡ None = subst P same e in
            let Q : Option ℕ → Type 0 = λ r. IsSome r in
            let no : IsSome {T = ℕ} None = subst Q none some in absurd (cc)
        other false q = refl

grown : (cells : List ℕ) (ts : List Term) (ws : List ℕ) (t : Term) → ws ≡ widths_after cells [] ts
    → ws ++ width_in cells ws t ∷ [] ≡ widths_after cells [] (ts ++ t ∷ [])
grown cells ts ws t e =
    let P : List ℕ → Type 0 = λ ws. ws ++ width_in cells ws t ∷ [] ≡ widths_after cells [] (ts ++ t ∷ []) in
    subst P (sym e) (sym (widths-append cells [] ts (t ∷ [])))

-- a table that got a term with a new row, or one with a row that is there, keeps what it keeps
pub kept-enter : (cells : List ℕ) (ts : List Term) (ws : List ℕ) (m n : HashMap Key ℕ (BuildHasherDefault FoldHasher)) (t : Term)
    → IsKept cells ts ws m → Fits cells ws t → length ts + 1 < 2 ^ 32 → first_from 0 (key_of t) ts ≡ None
    → Updates same_key m n (key_of t) (Some (length ts))
    → IsKept cells (ts ++ t ∷ []) (ws ++ width_in cells ws t ∷ []) n
kept-enter cells ts ws m n t h f few none up = record {
  table = IsTable-snoc (record { cells = cells; terms = ts }) t h.table (let P : List ℕ → Type 0 = λ ws. Fits cells ws t in subst P h.widths f);
  widths = grown cells ts ws t h.widths;
  few = (let e : length (ts ++ t ∷ []) ≡ length ts + 1 = length-append ts (t ∷ []) in omega arith);
  finds = Finds-enter m n ts t h.finds none up;
}

pub kept-repeat : (cells : List ℕ) (ts : List Term) (ws : List ℕ) (m : HashMap Key ℕ (BuildHasherDefault FoldHasher)) (t : Term)
    → IsKept cells ts ws m → Fits cells ws t → length ts + 1 < 2 ^ 32 → IsSome (first_from 0 (key_of t) ts)
    → IsKept cells (ts ++ t ∷ []) (ws ++ width_in cells ws t ∷ []) m
kept-repeat cells ts ws m t h f few some = record {
  table = IsTable-snoc (record { cells = cells; terms = ts }) t h.table (let P : List ℕ → Type 0 = λ ws. Fits cells ws t in subst P h.widths f);
  widths = grown cells ts ws t h.widths;
  few = (let e : length (ts ++ t ∷ []) ≡ length ts + 1 = length-append ts (t ∷ []) in omega arith);
  finds = Finds-repeat m ts t h.finds some;
}

-- a map whose entries are those of another finds the same
pub Finds-same : (m n : HashMap Key ℕ (BuildHasherDefault FoldHasher)) (ts : List Term) → n.entries ≡ m.entries → Finds m ts → Finds n ts
Finds-same m n ts e h = λ k. rw e (h k)

-- what a table answers where the row is found
pub put-found : (t : Term) (n : ℕ) (ts : List Term) → first_from 0 (key_of t) ts ≡ Some n → slice_get ts n ≡ Some t
put-found t n ts e =
    let r = first-there 0 n (key_of t) ts e in
    let same : r.1.0 ≡ t = sym (key-exact t r.1.0 r.1.2) in
    let z : n - 0 ≡ n = omega arith in
    let P : ℕ → Type 0 = λ m. slice_get ts m ≡ Some t in
    subst P z (r.1.1 ∙ ap Some same)

get-snoc : (xs : List Term) (t : Term) → slice_get (xs ++ t ∷ []) (length xs) ≡ Some t
get-snoc [] t = refl
get-snoc (x ∷ xs) t = get-snoc xs t

-- what it answers where the row was not found
pub put-fresh : {E : Type 0} (r : Result TermId E) (old new : Table) (t : Term)
    → IfOk r (λ id. new ≡ with_term old t) → first_from 0 (key_of t) old.terms ≡ None → IfOk r (λ id. IsPut old new t)
put-fresh (Ok id) old new t e none = inr (e, first-absent 0 t old.terms none)
put-fresh (Err x) old new t e none = tt

pub put-named : {E : Type 0} (r : Result TermId E) (old new : Table) (t : Term)
    → IfOk r (λ id. new ≡ with_term old t) → IfOk r (λ id. id.0 ≡ length old.terms) → IfOk r (λ id. slice_get new.terms id.0 ≡ Some t)
put-named (Ok id) old new t e n = rw (e, n) (get-snoc old.terms t)
put-named (Err x) old new t e n = tt

pub put-made : {E : Type 0} (r : Result TermId E) (old new : Table) (t : Term)
    → IfOk r (λ id. new ≡ with_term old t) → IfOk r (λ id. id.0 ≡ length old.terms) → first_from 0 (key_of t) old.terms ≡ None
    → IfOk r (λ id. (new, id) ≡ put_of old t)
put-made (Ok id) old new t e n none =
    let number : id ≡ record { 0 = length old.terms } = ap id_of n in
    let pair : (new, id) ≡ (with_term old t, id_of (length old.terms)) = ap₂ (λ (x : Table) (y : TermId). (x, y)) e number in
    pair ∙ sym (ap (λ (o : Option ℕ). put_at o old t) none)
put-made (Err x) old new t e n none = tt

-- the same, the row and the number having names of their own
pub kept-enter-at : (cells : List ℕ) (ts : List Term) (ws : List ℕ) (m n : HashMap Key ℕ (BuildHasherDefault FoldHasher)) (t : Term) (k : Key) (at : ℕ)
    → k ≡ key_of t → at ≡ length ts
    → IsKept cells ts ws m → Fits cells ws t → length ts + 1 < 2 ^ 32 → first_from 0 k ts ≡ None
    → Updates same_key m n k (Some at)
    → IsKept cells (ts ++ t ∷ []) (ws ++ width_in cells ws t ∷ []) n
kept-enter-at cells ts ws m n t k at ek en h f few none up =
    let P : Key → Type 0 = λ x. first_from 0 x ts ≡ None in
    let U : Key → Type 0 = λ x. Updates same_key m n x (Some at) in
    let V : ℕ → Type 0 = λ x. Updates same_key m n (key_of t) (Some x) in
    kept-enter cells ts ws m n t h f few (subst P ek none) (subst V en (subst U ek up))
