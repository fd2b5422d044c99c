-- Terms that wait for their operands: each is below the one before it, none stands in the cone, and fewer are left with each step.
use Rattle.std.proofs.Common.{◌≡◌, ℕ, ◌+◌, ◌*◌, ◌<◌, ◌≤◌, List, [], ◌∷◌, ◌++◌, length, refl, sym, ap, ◌∙◌, subst, zero, suc, arith, Bool, true, false, Option, None, Some, slice_get, inl, inr, ◌⊎◌, nat_eq, if◌then◌else◌}
use Rattle.std.specs.HashMap.{get}
use Rattle.std.proofs.lemmas.Bool.{eq-eqb, ne_eqb}
use Rattle.std.proofs.Math.Nat.{mul-le-mul_right}
use Rattle.bv_term.specs.declared.term.TermId.{TermId}
use Rattle.bv_term.specs.declared.term.Term.{Term}
use Rattle.bv_term.specs.WellFormed.{Table, IsTable, widths, widths_after}
use Rattle.term_laws.proofs.Made.{made}
use Rattle.term_values.specs.declared.step.Source.{Source}
use Rattle.term_values.specs.declared.part.Part.{Part}
use Rattle.term_values.specs.Cones.{over}
use Rattle.term_values.specs.Steps.{IsPlaced, IsPlacing, lacking, steps_of}
use Rattle.term_values.specs.Parts.{IsPart}
use Rattle.term_values.proofs.Lacking.{IsLacking, one-lacking}

abbrev one : Option ℕ → ℕ
one None = 1
one (Some k) = 0

-- how many of the first terms have no number
abbrev pub left : (ℕ → Option ℕ) → ℕ → ℕ
left find zero = 0
left find (suc n) = one (find n) + left find n

-- the last of the terms that wait, or a bound where none does
abbrev pub low : ℕ → List ℕ → ℕ
low bound [] = bound
low bound (x ∷ xs) = low x xs

-- each is below the one before it and the bound, and has no number
abbrev pub Falls : (ℕ → Option ℕ) → ℕ → List ℕ → Type 0
Falls find bound [] = Unit {0}
Falls find bound (x ∷ xs) = (x < bound) × (find x ≡ None) × Falls find x xs

-- the term waits first
abbrev pub Starts : ℕ → List ℕ → Type 0
Starts term [] = ⊥
Starts term (x ∷ xs) = x ≡ term

pub record Waits (table : Table) (part : Part) (term : TermId) (waiting : List ℕ) : Type 0 where
  pub gathered : IsPart table part
  pub falls : Falls (get nat_eq part.places) (length table.terms) waiting
  pub first : IsPlaced (get nat_eq part.places) term ⊎ Starts term.0 waiting

-- what is left to do
abbrev pub work : ℕ → (ℕ → Option ℕ) → List ℕ → ℕ
work n find waiting = left find n * (n + 1) + low n waiting

one-most : (b : Bool) (at : ℕ) (o : Option ℕ) → one (if b then Some at else o) ≤ one o
one-most true at None = omega arith
one-most true at (Some k) = omega arith
one-most false at o = omega arith

one-at : (old new : ℕ → Option ℕ) (k at n : ℕ) → IsPlacing old new k at → one (new n) ≤ one (old n)
one-at old new k at n p = subst (λ (o : Option ℕ). one o ≤ one (old n)) (sym (p n)) (one-most (nat_eq k n) at (old n))

left-most : (old new : ℕ → Option ℕ) (k at n : ℕ) → IsPlacing old new k at → left new n ≤ left old n
left-most old new k at zero p = omega arith
left-most old new k at (suc n) p = let h = left-most old new k at n p in let g = one-at old new k at n p in omega (arith, h, g)

split : (i n : ℕ) → i < suc n → (i < n) ⊎ (i ≡ n)
split zero zero lt = inr refl
split zero (suc n) lt = inl (omega arith)
split (suc i) zero lt = absurd (omega (arith, lt))
split (suc i) (suc n) lt = elim (split i n (omega (arith, lt))) as (λ _. (suc i < suc n) ⊎ (suc i ≡ suc n)) [ inl h ↦ inl (omega (arith, h)) | inr e ↦ inr (ap suc e) ]

left-less : (old new : ℕ → Option ℕ) (k at n : ℕ) → IsPlacing old new k at → old k ≡ None → k < n → left new n < left old n
left-less old new k at zero p e lt = absurd (omega (arith, lt))
left-less old new k at (suc n) p e lt = elim (split k n lt) as (λ _. left new (suc n) < left old (suc n)) [
  | inl l ↦ (let h = left-less old new k at n p e l in let g = one-at old new k at n p in omega (arith, h, g))
  | inr q ↦ (let h = left-most old new k at n p in
      let was : one (old n) ≡ 1 = ap (λ (x : ℕ). one (old x)) (sym q) ∙ ap one e in
      let is : one (new n) ≡ 0 = ap one (p n) ∙ ap (λ (b : Bool). one (if b then Some at else old n)) (eq-eqb k n q) in
      omega (arith, h, was, is))
]

low-push : (b : ℕ) (xs : List ℕ) (i : ℕ) → low b (xs ++ i ∷ []) ≡ i
low-push b [] i = refl
low-push b (x ∷ xs) i = low-push x xs i

low-under : (find : ℕ → Option ℕ) (b : ℕ) (xs : List ℕ) → Falls find b xs → low b xs ≤ b
low-under find b [] f = omega arith
low-under find b (x ∷ xs) f = let h = low-under find x xs f.2 in omega (arith, h, f.0)

falls-push : (find : ℕ → Option ℕ) (b : ℕ) (xs : List ℕ) (i : ℕ) → Falls find b xs → i < low b xs → find i ≡ None → Falls find b (xs ++ i ∷ [])
falls-push find b [] i f lt e = (lt, e, tt)
falls-push find b (x ∷ xs) i f lt e = (f.0, f.1, falls-push find x xs i f.2 lt e)

falls-pop : (find : ℕ → Option ℕ) (b : ℕ) (xs : List ℕ) (k : ℕ) → Falls find b (xs ++ k ∷ []) → Falls find b xs × (k < low b xs) × (find k ≡ None)
falls-pop find b [] k f = (tt, f.0, f.1)
falls-pop find b (x ∷ xs) k f = let h = falls-pop find x xs k f.2 in ((f.0, f.1, h.0), h.1, h.2)

falls-on : (old new : ℕ → Option ℕ) (k at b : ℕ) (xs : List ℕ) → IsPlacing old new k at → Falls old b xs → k < low b xs → Falls new b xs
falls-on old new k at b [] p f lt = tt
falls-on old new k at b (x ∷ xs) p f lt =
    let le = low-under old x xs f.2 in
    let apart : nat_eq k x ≡ false = ne_eqb k x (λ e. omega (arith, e, le, lt)) in
    (f.0, p x ∙ ap (λ (c : Bool). if c then Some at else old x) apart ∙ f.1, falls-on old new k at x xs p f.2 lt)

starts-push : (t : ℕ) (xs : List ℕ) (i : ℕ) → Starts t xs → Starts t (xs ++ i ∷ [])
starts-push t [] i h = absurd h
starts-push t (x ∷ xs) i h = h

starts-pop : (t : ℕ) (xs : List ℕ) (k : ℕ) → Starts t (xs ++ k ∷ []) → (k ≡ t) ⊎ Starts t xs
starts-pop t [] k h = inl h
starts-pop t (x ∷ xs) k h = inr h

-- a term that waits is one of the table
pub waits-there : (table : Table) (part : Part) (term : TermId) (waiting rest : List ℕ) (k : ℕ) → Waits table part term waiting
    → waiting ≡ rest ++ k ∷ [] → k < length table.terms
waits-there table part term waiting rest k w is =
    let find = get nat_eq part.places in
    let n = length table.terms in
    let f = falls-pop find n rest k (subst (Falls find n) is w.falls) in
    let le = low-under find n rest f.0 in
    omega (arith, le, f.1)

-- an operand that has no number waits, too
pub waits-more : (table : Table) (part : Part) (term : TermId) (waiting rest now : List ℕ) (k : ℕ) (u : Term) (i : TermId) → IsTable table
    → Waits table part term waiting → waiting ≡ rest ++ k ∷ [] → slice_get table.terms k ≡ Some u → lacking (get nat_eq part.places) u ≡ Some i
    → now ≡ (rest ++ k ∷ []) ++ i.0 ∷ []
    → Waits table part term now × (work (length table.terms) (get nat_eq part.places) now < work (length table.terms) (get nat_eq part.places) waiting)
waits-more table part term waiting rest now k u i h w is s some after =
    let find = get nat_eq part.places in
    let n = length table.terms in
    let lack : IsLacking find k i = one-lacking find k u i some (made table [] (record { 0 = k }) u h s).before in
    let top : low n waiting ≡ k = ap (low n) is ∙ low-push n rest k in
    let more : now ≡ waiting ++ i.0 ∷ [] = after ∙ ap (λ (xs : List ℕ). xs ++ i.0 ∷ []) (sym is) in
    let lower : low n now ≡ i.0 = ap (low n) more ∙ low-push n waiting i.0 in (
      subst (Waits table part term) (sym more)
          (record {
            gathered = w.gathered;
            falls = falls-push find n waiting i.0 w.falls (omega (arith, top, lack.1)) lack.0;
            first = elim w.first as (λ _. IsPlaced find term ⊎ Starts term.0 (waiting ++ i.0 ∷ [])) [ inl p ↦ inl p | inr q ↦ inr (starts-push term.0 waiting i.0 q) ];
          }),
      omega (arith, top, lower, lack.1),
    )

-- a term was put into the cone, and waits no more
pub waits-less : (table : Table) (part new : Part) (term : TermId) (waiting rest now : List ℕ) (k : ℕ) → Waits table part term waiting → waiting ≡ rest ++ k ∷ []
    → IsPart table new → (at : ℕ) × IsPlacing (get nat_eq part.places) (get nat_eq new.places) k at → now ≡ rest
    → Waits table new term now × (work (length table.terms) (get nat_eq new.places) now < work (length table.terms) (get nat_eq part.places) waiting)
waits-less table part new term waiting rest now k w is p placing after =
    let old = get nat_eq part.places in
    let find = get nat_eq new.places in
    let n = length table.terms in
    let at = placing.0 in
    let f = falls-pop old n rest k (subst (Falls old n) is w.falls) in
    let le = low-under old n rest f.0 in
    let here : find k ≡ Some at = placing.1 k ∙ ap (λ (b : Bool). if b then Some at else old k) (eq-eqb k k refl) in
    let less : left find n < left old n = left-less old find k at n placing.1 f.2 (omega (arith, le, f.1)) in
    let product : (left find n + 1) * (n + 1) ≤ left old n * (n + 1) = mul-le-mul_right (n + 1) (omega (arith, less)) in
    let same : low n now ≡ low n rest = ap (low n) after in (
      subst (Waits table new term) (sym after)
          (record {
            gathered = p;
            falls = falls-on old find k at n rest placing.1 f.0 f.1;
            first = elim w.first as (λ _. IsPlaced find term ⊎ Starts term.0 rest) [
              | inl q ↦ inl (still old find k at term.0 placing.1 q)
              | inr q ↦ elim (starts-pop term.0 rest k (subst (Starts term.0) is q)) as (λ _. IsPlaced find term ⊎ Starts term.0 rest) [
                | inl e ↦ inl (at, subst (λ (x : ℕ). find x ≡ Some at) e here)
                | inr s ↦ inr s
              ]
            ];
          }),
      omega (arith, product, same, le),
    )
  where
    still : (before after : ℕ → Option ℕ) (j at t : ℕ) → IsPlacing before after j at → (i : ℕ) × (before t ≡ Some i) → (i : ℕ) × (after t ≡ Some i)
    still before after j at t p q = elim (nat_eq j t) as (λ b. nat_eq j t ≡ b → (i : ℕ) × (after t ≡ Some i)) [
      | true ↦ (λ e. (at, p t ∙ ap (λ (b : Bool). if b then Some at else before t) e))
      | false ↦ (λ e. (q.0, p t ∙ ap (λ (b : Bool). if b then Some at else before t) e ∙ q.1))
    ] refl

-- no term stands in the cone at first
part-none : (table : Table) (part : Part) → IsTable table → part.sources.items ≡ [] → part.shapes.terms ≡ []
    → ((k : ℕ) → get nat_eq part.places k ≡ None) → IsPart table part
part-none table part h s t none = record {
  paired = ap length s ∙ sym (ap length t);
  made = subst (λ (ss : List Source). IsTable (over table (steps_of ss part.shapes.terms))) (sym s) (record { cells = h.cells; terms = tt });
  widths =
      ap (widths_after part.shapes.cells []) t ∙ sym (ap (λ (ss : List Source). widths (over table (steps_of ss part.shapes.terms))) s);
  placed = λ term at e. (let n : None ≡ Some at = sym (none term) ∙ e in absurd cc);
}

-- and the term itself waits
pub waits-first : (table : Table) (part : Part) (term : TermId) (waiting : List ℕ) → IsTable table → part.sources.items ≡ [] → part.shapes.terms ≡ []
    → ((k : ℕ) → get nat_eq part.places k ≡ None) → term.0 < length table.terms → waiting ≡ term.0 ∷ [] → Waits table part term waiting
waits-first table part term waiting h s t none lt is =
    subst (Waits table part term) (sym is) (record { gathered = part-none table part h s t none; falls = (lt, none term.0, tt); first = inr refl })

-- where none waits, the term stands in the cone
pub waits-none : (table : Table) (part : Part) (term : TermId) (waiting : List ℕ) → Waits table part term waiting → length waiting ≡ 0
    → IsPlaced (get nat_eq part.places) term
waits-none table part term waiting w none = elim w.first as (λ _. IsPlaced (get nat_eq part.places) term) [
  | inl p ↦ p
  | inr s ↦ absurd (starts-none term.0 waiting none s)
]
  where
    starts-none : (t : ℕ) (xs : List ℕ) → length xs ≡ 0 → Starts t xs → ⊥
    starts-none t [] e s = s
    starts-none t (x ∷ xs) e s = omega (arith, e)
