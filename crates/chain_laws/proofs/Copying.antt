-- Formulas under new numbers.
use Rattle.std.proofs.Common.{◌≡◌, ℕ, ◌<◌, true, All, List, [], ◌∷◌, length, map, Some, slice_get, zero, suc, refl, sym, ap, ◌∙◌, arith}
use Rattle.std.proofs.lemmas.List.Elements.{All-nil, All-cons}
use Rattle.bv_term.specs.declared.term.Term.TheVariants.{Constant}
use Rattle.bv_term.specs.declared.term.TermId.{TermId}
use Rattle.bv_term.specs.WellFormed.{Table}
use Rattle.c_graph.specs.declared.graph.EdgeId.{EdgeId}
use Rattle.c_graph.specs.Shape.{Flow, HasWidth}
use Rattle.interpolants.specs.Cuts.{AreFormulas}
use Rattle.term_copy.specs.Copies.{AreCopies, number_in}
use Rattle.needed_cells.specs.Formulas.{EdgeImplies, begins_true, is_bit, is_false_term}
use Rattle.chain_laws.proofs.Reading.{at-all}

-- lists under a function
pub map-back : {A B : Type 0} (f : A → B) (xs : List A) (k : ℕ) (b : B) → slice_get (map f xs) k ≡ Some b
    → (a : A) × (slice_get xs k ≡ Some a) × (f a ≡ b)
map-back f [] k b h = absurd cc
map-back f (x ∷ xs) zero b h = let e : f x ≡ b = cc in (x, refl, e)
map-back f (x ∷ xs) (suc k) b h = map-back f xs k b h

pub map-long : {A B : Type 0} (f : A → B) (xs : List A) → length (map f xs) ≡ length xs
map-long f [] = refl
map-long f (x ∷ xs) = ap suc (map-long f xs)

all-mapped : {A B : Type 0} (P : B → Type 0) (f : A → B) (xs : List A) → ((k : ℕ) (a : A) → slice_get xs k ≡ Some a → P (f a)) → All P (map f xs)
all-mapped P f [] h = All-nil P
all-mapped P f (x ∷ xs) h = All-cons P (f x) (map f xs) (h 0 x refl) (all-mapped P f xs (λ k a g. h (suc k) a g))

module _ (table into : Table) (to : List TermId) (long : length to ≡ length table.terms) (copies : AreCopies table into to) where
  pub is-there : (steps : ℕ) (fs : List TermId) (k : ℕ) (f : TermId) → AreFormulas table steps fs → slice_get fs k ≡ Some f → f.0 < length to
  is-there steps fs k f are g =
      let w : HasWidth table f 1 = at-all (λ t. HasWidth table t 1) fs k f are.bits g in
      omega (arith, w.0, long)

  pub copied-bits : (steps : ℕ) (fs : List TermId) → AreFormulas table steps fs → All (λ t. HasWidth into t 1) (map (number_in to) fs)
  copied-bits steps fs are = all-mapped (λ t. HasWidth into t 1) (number_in to) fs (λ k f g.
      let w : HasWidth table f 1 = at-all (λ t. HasWidth table t 1) fs k f are.bits g in
      let lt = is-there steps fs k f are g in
      (copies.there f lt, copies.widths f lt ∙ w.1))

  pub copied-implies : (g : Flow) (e : EdgeId) (f h : TermId) → f.0 < length to → h.0 < length to → EdgeImplies g table e f h
      → EdgeImplies g into e (number_in to f) (number_in to h)
  copied-implies g e f h lf lh implies edge store draws after there whole holds leads =
      copies.values after h lh ∙ implies edge store draws after there whole (sym (copies.values store f lf) ∙ holds) leads

  pub copied-true : (steps : ℕ) (fs : List TermId) → AreFormulas table steps fs
      → begins_true into (map (number_in to) fs) ≡ true
  copied-true steps [] are = absurd (omega (arith, are.count))
  copied-true steps (f ∷ fs) are =
      ap (is_bit 1) (copies.terms f (Constant 1 1) (is-there steps (f ∷ fs) 0 f are refl) (are.first f refl))

  pub copied-false : (steps : ℕ) (fs : List TermId) (f : TermId) → AreFormulas table steps fs → 0 < steps
      → slice_get fs steps ≡ Some f → is_false_term into (number_in to f) ≡ true
  copied-false steps fs f are pos g =
      ap (is_bit 0) (copies.terms f (Constant 1 0) (is-there steps fs steps f are g) (are.last f pos g))
