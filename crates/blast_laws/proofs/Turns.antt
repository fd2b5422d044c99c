-- One turn among the terms of a cone: its term is well formed over terms that are done with their widths, and is new.
use Rattle.std.proofs.Common.{◌≡◌, ℕ, ◌<◌, length, List, [], ◌∷◌, map, arith, ap, sym, ◌∙◌, refl, suc, zero, Bool, true, false, not, ◌&&◌, ◌||◌, ◌⊎◌, inl, inr, All, slice_index}
use Rattle.std.proofs.lemmas.Bool.{false≢true}
use Rattle.prop.specs.declared.Lit.{Lit}
use Rattle.prop.specs.Trues.{listed}
use Rattle.bv_term.specs.declared.term.Term.{Term}
use Rattle.bv_term.specs.WellFormed.{Table, IsTable, IsWidth, widths}
use Rattle.bit_blast.specs.Done.{Known, lits_of, is_done}
use Rattle.bit_blast.specs.Cone.{uses_of, numbers, operands_at, wants, falling}
use Rattle.bit_blast.specs.Emission.{emitted, term_at}
use Rattle.bit_blast.proofs.Ready.{FitsAt, widths-at, operand-below}
use Rattle.bit_blast.proofs.Cones.{DoneFit, falls}

pub split : (b : Bool) → (b ≡ true) ⊎ (b ≡ false)
split true = inl refl
split false = inr refl

pub or-right : (a b : Bool) → b ≡ true → (a || b) ≡ true
or-right true b e = refl
or-right false b e = e

from-both : (a b : Bool) → (a && not b) ≡ true → b ≡ false
from-both true true e = sym e
from-both true false e = refl
from-both false b e = absurd (false≢true e)

term-operands : (ts : List Term) (k : ℕ) → k < length ts → operands_at ts k ≡ numbers (uses_of (term_at ts k))
term-operands [] k lt = absurd (omega (arith, lt))
term-operands (t ∷ ts) zero lt = refl
term-operands (t ∷ ts) (suc k) lt = term-operands ts k (omega (arith, lt))

-- what is needed once the term k is, too
abbrev pub with-wants : List Term → (ℕ → Bool) → ℕ → (ℕ → Bool) → ℕ → Bool
with-wants ts done k need j = need j || wants ts done k j

-- nothing that is done is needed
abbrev pub IsFreshNeed : (ℕ → Bool) → (ℕ → Bool) → Type 0
IsFreshNeed done need = (j : ℕ) → need j ≡ true → done j ≡ false

pub fresh-wants : (ts : List Term) (done : ℕ → Bool) (k : ℕ) (need : ℕ → Bool) → IsFreshNeed done need → IsFreshNeed done (with-wants ts done k need)
fresh-wants ts done k need h j g = by (need j) refl g
  where
    by : (b : Bool) → b ≡ need j → (b || wants ts done k j) ≡ true → done j ≡ false
    by true e g = h j (sym e)
    by false e g = from-both (listed (operands_at ts k) j) (done j) g

pub fresh-one : (done : ℕ → Bool) (t : ℕ → Bool) → IsFreshNeed done (λ j. t j && not (done j))
fresh-one done t j g = from-both (t j) (done j) g

-- the term k, where the terms that it needs in turn have been emitted
pub record Turn (table : Table) (done : List Known) (k : ℕ) (us : List ℕ) : Type 0 where
  pub sizes : All IsWidth us
  pub there : (j : ℕ) → listed (numbers (uses_of (term_at table.terms k))) j ≡ true → is_done done j ≡ true
  pub long : (j : ℕ) → listed (numbers (uses_of (term_at table.terms k))) j ≡ true → length (lits_of done j) ≡ slice_index us j
  pub fresh : is_done done k ≡ false

pub turn : (table : Table) (one : Lit) (cells : List (List Lit)) (n : ℕ) (done : List Known) → IsTable table → map length cells ≡ table.cells → DoneFit table done
    → (k : ℕ) (need : ℕ → Bool) → k < length table.terms → IsFreshNeed (is_done done) need → need k ≡ true
    → (us : List ℕ) → FitsAt table.cells (widths table) us (term_at table.terms k) k
    → Turn table (emitted one cells table.terms n done (falling table.terms (is_done done) k (with-wants table.terms (is_done done) k need))).done k us
turn table one cells n done h e d k need lt fresh y us f =
    let ts = table.terms in
    let D = is_done done in
    let up = falling ts D k (with-wants ts D k need) in
    let F = falls table one cells n done h e d k (with-wants ts D k need) (omega (arith, lt)) (fresh-wants ts D k need fresh) in
    let t = term_at ts k in
    let below : (j : ℕ) → listed (numbers (uses_of t)) j ≡ true → j < k
    = λ j g. omega (arith, operand-below table.cells us t j f.fits g, f.many) in
    let r = emitted one cells ts n done up in
    let there : (j : ℕ) → listed (numbers (uses_of t)) j ≡ true → is_done r.done j ≡ true
    = λ j g. F.dones j ∙ elim (split (D j)) [
      | inl q ↦ ap (λ b. b || listed up j) q
      | inr q ↦
          let w : wants ts D k j ≡ true = ap (λ b. b && not (D j)) (ap (λ l. listed l j) (term-operands ts k lt) ∙ g) ∙ ap not q in
          or-right (D j) (listed up j) (F.has j (below j g) (or-right (need j) (wants ts D k j) w))
    ] in
    record {
      sizes = widths-at table k us t h lt f;
      there = there;
      long = λ j g. (F.fit j (there j g)).1 ∙ sym (f.same j (below j g));
      fresh = F.dones k ∙ (ap (λ b. b || listed up k) (fresh k y) ∙ not-listed k up F.below);
    }
  where
    not-listed : (k : ℕ) (ks : List ℕ) → ((j : ℕ) → listed ks j ≡ true → (j < k) × (is_done done j ≡ false)) → listed ks k ≡ false
    not-listed k ks b = elim (split (listed ks k)) [ inl q ↦ absurd (omega (arith, (b k q).0)) | inr q ↦ q ]
