-- The terms below some of a table are those, their operands, and so on.
use Rattle.std.proofs.Common.{◌≡◌, ℕ, ◌≤◌, ◌<◌, length, List, [], ◌∷◌, arith, ap, sym, ◌∙◌, refl, suc, zero, Bool, true, false, ◌&&◌, ◌||◌, eqb, subst, ◌⊎◌, inl, inr}
use Rattle.std.proofs.lemmas.Bool.{false≢true, eqb-true, eq-eqb}
use Rattle.prop.specs.Trues.{listed}
use Rattle.bit_gates.proofs.Within.{chosen}
use Rattle.bv_term.specs.declared.term.Term.{Term}
use Rattle.bv_term.specs.WellFormed.{Table, IsTable}
use Rattle.bit_blast.specs.Cone.{falling, numbers, operands_at, uses_of, wants}
use Rattle.bit_blast.specs.Emission.{term_at}
use Rattle.bit_blast.proofs.Ready.{fits-at, operand-below}
use Rattle.path_weight_laws.specs.Weights.{AreFalling, nothing_done, terms_below}
use Rattle.path_weight_laws.specs.Laws.{TermsAreBelow}
use Rattle.path_weight_laws.proofs.Fallings.{more, or_left, or_right, or_either}

-- the terms below k that are needed, and what they need
abbrev needed : List Term → ℕ → (ℕ → Bool) → List ℕ
needed ts k p = falling ts nothing_done k p

and_first : (a : Bool) → (a && true) ≡ true → a ≡ true
and_first true e = refl
and_first false e = absurd (false≢true e)

falling_up : (k m : ℕ) (ks : List ℕ) → k ≤ m → AreFalling k ks → AreFalling m ks
falling_up k m [] le f = tt
falling_up k m (x ∷ xs) le f = (omega (arith, f.0, le), f.1)

are_falling : (ts : List Term) (k : ℕ) (p : ℕ → Bool) → AreFalling k (needed ts k p)
are_falling ts zero p = tt
are_falling ts (suc k) p =
    let xs = needed ts k (more ts nothing_done k p) in
    let ys = needed ts k p in
    chosen {A = List ℕ} (p k) (k ∷ xs) ys (λ (ks : List ℕ). AreFalling (suc k) ks)
    (λ e. (omega arith, are_falling ts k (more ts nothing_done k p)))
    (λ e. falling_up k (suc k) ys (omega arith) (are_falling ts k p))

-- a term of the list, or of the list behind its first
listed_from : (k : ℕ) (ks : List ℕ) (j : ℕ) (P : ℕ → Type 0) → P k → (listed ks j ≡ true → P j) → listed (k ∷ ks) j ≡ true → P j
listed_from k ks j P h g = or_either (eqb k j) (listed ks j) (P j) (λ e. subst P (eqb-true k j e) h) g

-- no others: a test that what is needed passes, and with a term its operands
none_else : (ts : List Term) (test : ℕ → Bool) → ((i j : ℕ) → test i ≡ true → listed (operands_at ts i) j ≡ true → test j ≡ true)
    → (k : ℕ) (p : ℕ → Bool) → ((j : ℕ) → p j ≡ true → test j ≡ true) → (j : ℕ) → listed (needed ts k p) j ≡ true → test j ≡ true
none_else ts test closed zero p h j l = absurd (false≢true l)
none_else ts test closed (suc k) p h j l =
    let P = more ts nothing_done k p in
    let xs = needed ts k P in
    let ys = needed ts k p in
    chosen {A = List ℕ} (p k) (k ∷ xs) ys (λ (ks : List ℕ). listed ks j ≡ true → test j ≡ true)
    (λ e. listed_from k xs j (λ (i : ℕ). test i ≡ true) (h k e)
    (none_else ts test closed k P
    (λ i. or_either (p i) (wants ts nothing_done k i) (test i ≡ true) (h i) (λ w. closed k i (h k e) (and_first (listed (operands_at ts k) i) w))) j))
    (λ e. none_else ts test closed k p h j)
    l

-- what is needed is listed
has : (ts : List Term) (k : ℕ) (p : ℕ → Bool) (j : ℕ) → j < k → p j ≡ true → listed (needed ts k p) j ≡ true
has ts zero p j lt y = absurd (omega (arith, lt))
has ts (suc k) p j lt y =
    let P = more ts nothing_done k p in
    let xs = needed ts k P in
    let ys = needed ts k p in
    chosen {A = List ℕ} (p k) (k ∷ xs) ys (λ (ks : List ℕ). listed ks j ≡ true)
    (λ e. elim (split (eqb k j)) [
      | inl q ↦ or_left (eqb k j) (listed xs j) q
      | inr q ↦ or_right (eqb k j) (listed xs j) (has ts k P j (smaller q) (or_left (p j) (wants ts nothing_done k j) y))
    ])
    (λ e. has ts k p j (lower e) y)
  where
    split : (b : Bool) → (b ≡ true) ⊎ (b ≡ false)
    split true = inl refl
    split false = inr refl

    smaller : eqb k j ≡ false → j < k
    smaller q = let ne : k ≡ j → ⊥ = λ s. false≢true (sym q ∙ eq-eqb k j s) in omega (arith, lt, ne)

    lower : p k ≡ false → j < k
    lower e = let ne : k ≡ j → ⊥ = λ s. false≢true (sym e ∙ (ap p s ∙ y)) in omega (arith, lt, ne)

-- operands have lower numbers
abbrev AreLower : List Term → Type 0
AreLower ts = (i j : ℕ) → listed (operands_at ts i) j ≡ true → j < i

-- with a term its operands are listed
has_operands : (ts : List Term) → AreLower ts → (k : ℕ) (p : ℕ → Bool) (i j : ℕ) → listed (operands_at ts i) j ≡ true
    → listed (needed ts k p) i ≡ true → listed (needed ts k p) j ≡ true
has_operands ts low zero p i j o l = absurd (false≢true l)
has_operands ts low (suc k) p i j o l =
    let P = more ts nothing_done k p in
    let xs = needed ts k P in
    let ys = needed ts k p in
    let first : k ≡ i → listed xs j ≡ true
    = λ s.
    let at : listed (operands_at ts k) j ≡ true = subst (λ (t : ℕ). listed (operands_at ts t) j ≡ true) (sym s) o in
    has ts k P j (low k j at) (or_right (p j) (wants ts nothing_done k j) (ap (λ (b : Bool). b && true) at)) in
    chosen {A = List ℕ} (p k) (k ∷ xs) ys (λ (ks : List ℕ). listed ks i ≡ true → listed ks j ≡ true)
    (λ e. or_either (eqb k i) (listed xs i) ((eqb k j || listed xs j) ≡ true)
    (λ q. or_right (eqb k j) (listed xs j) (first (eqb-true k i q)))
    (λ y. or_right (eqb k j) (listed xs j) (has_operands ts low k P i j o y)))
    (λ e. has_operands ts low k p i j o)
    l

operands_there : (ts : List Term) (i j : ℕ) → listed (operands_at ts i) j ≡ true → (i < length ts) × (listed (numbers (uses_of (term_at ts i))) j ≡ true)
operands_there [] i j l = absurd (false≢true l)
operands_there (t ∷ ts) zero j l = (omega arith, l)
operands_there (t ∷ ts) (suc i) j l = let r = operands_there ts i j l in (omega (arith, r.0), r.1)

are_lower : (table : Table) → IsTable table → AreLower table.terms
are_lower table is i j l =
    let r = operands_there table.terms i j l in
    let f = fits-at table i is r.0 in
    omega (arith, operand-below table.cells f.0 (term_at table.terms i) j f.1.fits r.1, f.1.many)

pub terms_are_below : TermsAreBelow
terms_are_below table roots is there =
    let ts = table.terms in
    let n = length ts in
    let p = listed roots in (
      are_falling ts n p,
      λ k. (
        λ l test given closed. none_else ts test closed n p given k l,
        λ below. below (listed (terms_below table roots)) (λ j l. has ts n p j (there j l) l) (λ i j l o. has_operands ts (are_lower table is) n p i j o l),
      ),
    )
