-- Formulas stay where they are made, as nodes and as terms.
use Rattle.std.specs.Prelude.{ℕ, ◌<◌, ◌≡◌, ◌==◌, Bool, true, false, List}
use Rattle.std.proofs.Common.{arith, refl, sym, ap, ◌∙◌}
use Rattle.bv_term.specs.declared.term.TermId.{TermId}
use Rattle.bv_term.specs.Numbers.{truth}
use Rattle.bv_term.specs.WellFormed.{Table}
use Rattle.bv_term.specs.Values.{value}
use Rattle.bv_term.specs.Laws.{Extends}
use Rattle.bv_term.proofs.Staying.{values_stay}
use Rattle.formula_diagrams.specs.Shape.{Arena, Grown, count}
use Rattle.formula_diagrams.specs.Truths.{holds}
use Rattle.formula_diagrams.specs.Writings.{IsTruth}
use Rattle.formula_diagrams.proofs.Truth as nodes
use Rattle.formula_diagrams.proofs.Putting as terms
use Rattle.interpolants.specs.declared.items.Formula.{Formula}

-- the truth of a node, and of a term of one bit, in a store
abbrev pub node_truth : Arena → Formula → List ℕ → Bool
node_truth a f store = holds a store f.0

unfoldable pub term_truth : Table → Formula → List ℕ → Bool
term_truth table f store = value table store (record { 0 = f.0 }) == 1

-- the number is that of a term of one bit, whose value in each store is its truth
abbrev pub IsTerm : Table → Formula → Type 0
IsTerm table f = IsTruth table (record { 0 = f.0 }) (term_truth table f)

pub grown-none : (a : Arena) → Grown a a
grown-none a = nodes.grown-none a

pub grown-twice : (a b c : Arena) → Grown a b → Grown b c → Grown a c
grown-twice a b c g h = nodes.grown-twice a b c g h

pub number-stays : (a b : Arena) (f : Formula) → Grown a b → f.0 < count a → f.0 < count b
number-stays a b f g h = let c = nodes.grown-count a b g in omega (arith, c, h)

pub node-stays : (a b : Arena) (f : Formula) (store : List ℕ) → Grown a b → f.0 < count a → node_truth b f store ≡ node_truth a f store
node-stays a b f store g h = nodes.truths_stay a b store f.0 g h

pub cells-grown : (a b : Arena) → Grown a b → b.cells ≡ a.cells
cells-grown a b g = g.cells

pub extends-none : (a : Table) → Extends a a
extends-none a = terms.extends-none a

pub extends-twice : (a b c : Table) → Extends a b → Extends b c → Extends a c
extends-twice a b c g h = terms.extends-twice a b c g h

pub value-stays : (a b : Table) (f : Formula) (store : List ℕ) → Extends a b → IsTerm a f → term_truth b f store ≡ term_truth a f store
unfolding term_truth
value-stays a b f store g h =
    let t : TermId = record { 0 = f.0 } in ap (λ (n : ℕ). n == 1) (values_stay a b store t g h.bit.there)

pub term-stays : (a b : Table) (f : Formula) → Extends a b → IsTerm a f → IsTerm b f
term-stays a b f g h =
    let t : TermId = record { 0 = f.0 } in
    terms.same-truth b t (term_truth a f) (term_truth b f) (λ store. sym (value-stays a b f store g h)) (terms.truth-stays a b t (term_truth a f) g h)

pub cells-extend : (a b : Table) → Extends a b → b.cells ≡ a.cells
cells-extend a b g = g.0

-- a term of a truth
is-one : (x : Bool) → (truth x == 1) ≡ x
is-one true = refl
is-one false = refl

pub term-told : (b : Table) (f : Formula) (g : List ℕ → Bool) (store : List ℕ) → IsTruth b (record { 0 = f.0 }) g → term_truth b f store ≡ g store
unfolding term_truth
term-told b f g store h = ap (λ (n : ℕ). n == 1) (h.told store) ∙ is-one (g store)

pub term-made : (b : Table) (f : Formula) (g : List ℕ → Bool) → IsTruth b (record { 0 = f.0 }) g → IsTerm b f
term-made b f g h =
    let t : TermId = record { 0 = f.0 } in terms.same-truth b t g (term_truth b f) (λ store. sym (term-told b f g store h)) h
