-- The values of a cone's terms, one after the other.
use Rattle.std.proofs.Common.{◌≡◌, ℕ, ◌+◌, ◌<◌, ◌≤◌, List, [], ◌∷◌, ◌++◌, length, refl, sym, ap, ◌∙◌, subst, zero, suc, arith, Option, Some, slice_get, slice_index, slice_index_or, take, nat_eq}
use Rattle.std.specs.HashMap.{get}
use Rattle.bv_term.specs.declared.term.TermId.{TermId}
use Rattle.bv_term.specs.declared.term.Term.{Term}
use Rattle.bv_term.specs.WellFormed.{IsTable, Table, widths}
use Rattle.bv_term.specs.Values.{AreBelow, IsStore, value, value_in, values}
use Rattle.bv_term.specs.Laws.{Extends}
use Rattle.bv_term.proofs.Staying.{values_stay}
use Rattle.bv_term.proofs.Continuing.{next-value, values-all}
use Rattle.term_values.specs.declared.step.Source.{Source}
use Rattle.term_values.specs.declared.part.Part.{Part}
use Rattle.term_values.specs.Cones.{Cone, IsConeOf, over}
use Rattle.term_values.specs.Steps.{IsPlaced, number_in, or_zero, step_of, steps_of}
use Rattle.term_values.specs.Parts.{IsPart, cone_of}
use Rattle.term_values.proofs.Placing.{length-steps}

steps-get : (ss : List Source) (ts : List Term) (k : ℕ) (s : Source) (t : Term) → slice_get ss k ≡ Some s → slice_get ts k ≡ Some t
    → slice_get (steps_of ss ts) k ≡ Some (step_of s t)
steps-get [] ts k s t e g = absurd cc
steps-get (x ∷ ss) [] k s t e g = absurd cc
steps-get (x ∷ ss) (y ∷ ts) zero s t e g = let p : x ≡ s = cc in let q : y ≡ t = cc in cc
steps-get (x ∷ ss) (y ∷ ts) (suc k) s t e g = steps-get ss ts k s t e g

there-at : (ts : List Term) (k : ℕ) → k < length ts → (t : Term) × (slice_get ts k ≡ Some t)
there-at [] k lt = absurd (omega (arith, lt))
there-at (x ∷ ts) zero lt = (x, refl)
there-at (x ∷ ts) (suc k) lt = there-at ts k (omega (arith, lt))

index-get : (ss : List Source) (k : ℕ) (s : Source) → k < length ss → s ≡ slice_index_or ss k s → slice_get ss k ≡ Some s
index-get [] k s lt e = absurd (omega (arith, lt))
index-get (x ∷ ss) zero s lt e = ap Some (sym e)
index-get (x ∷ ss) (suc k) s lt e = index-get ss k s (omega (arith, lt)) e

abbrev pub AreKnown : Table → Cone → List ℕ → ℕ → List ℕ → Type 0
AreKnown table cone store number known = known ≡ take number (values (over table cone.terms) store)

-- what holds as the value of the term of a number is computed, the first ones being known
pub record NextOf (table : Table) (cone : Cone) (sources : List Source) (shapes : Table) (store known : List ℕ) (number : ℕ) : Type 0 where
  pub count : length known ≡ number
  pub there : length known < length shapes.terms
  pub below : AreBelow (take (length known) (widths shapes)) known
  pub more : (v : ℕ) (s : Source) → s ≡ slice_index_or sources number s
      → ((t : Term) → slice_get shapes.terms (length known) ≡ Some t → v ≡ value_in store (take (length known) (widths shapes)) known (step_of s t))
      → AreKnown table cone store (number + 1) (known ++ v ∷ [])

next-at : (table : Table) (term top : TermId) (sources : List Source) (shapes : Table) (store known : List ℕ) (number : ℕ)
    → length sources ≡ length shapes.terms → number < length sources
    → IsConeOf table term (record { terms = steps_of sources shapes.terms; widths = widths shapes; top = top }) → IsStore table.cells store
    → AreKnown table (record { terms = steps_of sources shapes.terms; widths = widths shapes; top = top }) store number known
    → NextOf table (record { terms = steps_of sources shapes.terms; widths = widths shapes; top = top }) sources shapes store known number
next-at table term top sources shapes store known number paired lt cone is e =
    let steps = over table (steps_of sources shapes.terms) in
    let n : length (steps_of sources shapes.terms) ≡ length shapes.terms = length-steps sources shapes.terms paired in
    let next = next-value steps store known number cone.made is (omega (arith, n, paired, lt)) e in
    let count = next.0 in
    let found = there-at shapes.terms number (omega (arith, paired, lt)) in record {
      count = count;
      there = omega (arith, count, paired, lt);
      below = subst (λ (k : ℕ). AreBelow (take k (widths shapes)) known) (sym count) (subst (λ (ws : List ℕ). AreBelow (take number ws) known) (sym cone.widths) next.1);
      more = λ v s at f.
          let got : slice_get steps.terms number ≡ Some (step_of s found.0) =
          steps-get sources shapes.terms number s found.0 (index-get sources number s lt at) found.1 in
          next.2 v (λ t g.
          let same : step_of s found.0 ≡ t = cc in
          f found.0 (ap (slice_get shapes.terms) count ∙ found.1) ∙ ap (λ (k : ℕ). value_in store (take k (widths shapes)) known (step_of s found.0)) count
          ∙ ap (λ (ws : List ℕ). value_in store (take number ws) known (step_of s found.0)) cone.widths
          ∙ ap (value_in store (take number (widths steps)) known) same);
    }

pub next-of : (cone : Cone) (table : Table) (term top : TermId) (sources : List Source) (shapes : Table) (store known : List ℕ) (number : ℕ)
    → record { terms = steps_of sources shapes.terms; widths = widths shapes; top = top } ≡ cone
    → length sources ≡ length shapes.terms → number < length sources → IsConeOf table term cone → IsStore table.cells store
    → AreKnown table cone store number known → NextOf table cone sources shapes store known number
next-of cone table term top sources shapes store known number view paired lt =
    subst (λ (c : Cone). IsConeOf table term c → IsStore table.cells store → AreKnown table c store number known → NextOf table c sources shapes store known number) view
    (next-at table term top sources shapes store known number paired lt)

-- and once all are known, so is that of the term that is meant
pub last-known : (cone : Cone) (table : Table) (term top : TermId) (sources : List Source) (shapes : Table) (store known : List ℕ) (number v : ℕ)
    → record { terms = steps_of sources shapes.terms; widths = widths shapes; top = top } ≡ cone
    → length sources ≡ length shapes.terms → length sources ≤ number → IsConeOf table term cone → AreKnown table cone store number known
    → v ≡ slice_index known top.0 → v ≡ value table store term
last-known cone table term top sources shapes store known number v view paired le h e is =
    let n : length cone.terms ≡ length shapes.terms = sym (ap (λ (c : Cone). length c.terms) view) ∙ length-steps sources shapes.terms paired in
    is ∙ ap (λ (vs : List ℕ). slice_index vs top.0) (values-all (over table cone.terms) store known number (omega (arith, n, paired, le)) e)
    ∙ ap (λ (c : Cone). slice_index (values (over table cone.terms) store) c.top.0) view ∙ h.value store

-- a part in which the term stands is its cone
pub cone-made : (table : Table) (term top : TermId) (part : Part) → IsPart table part → IsPlaced (get nat_eq part.places) term
    → top ≡ number_in (get nat_eq part.places) term
    → IsConeOf table term (record { terms = steps_of part.sources.items part.shapes.terms; widths = widths part.shapes; top = top })
cone-made table term top part h p e = record {
  made = h.made;
  widths = h.widths;
  value = λ store. ap (λ (t : TermId). slice_index (values (cone_of table part) store) t.0) e
      ∙ ap (λ (o : Option ℕ). slice_index (values (cone_of table part) store) (or_zero o)) p.1 ∙ (h.placed term.0 p.0 p.1).value store;
}

-- a cone stays one as the table grows
pub cone-stays : (table later : Table) (term : TermId) (cone : Cone) → term.0 < length table.terms → Extends table later → IsConeOf table term cone
    → IsConeOf later term cone
cone-stays table later term cone lt g h =
    let e : over table cone.terms ≡ over later cone.terms = ap (λ (cells : List ℕ). record { cells = cells; terms = cone.terms }) (sym g.0) in record {
      made = subst IsTable e h.made;
      widths = h.widths ∙ ap widths e;
      value = λ store. sym (ap (λ (t : Table). value t store cone.top) e) ∙ h.value store ∙ sym (values_stay table later store term g lt);
    }
