-- What of a map does not fit comes first in one place.
use Rattle.std.proofs.Common.{◌≡◌, ℕ, zero, suc, ◌<◌, inl, inr, List, [], ◌∷◌, ◌++◌, length, take, sym, ap, ◌∙◌, subst, Some, slice_get, arith}
use Rattle.std.proofs.lemmas.List.Elements.{All-head, All-tail}
use Rattle.std.proofs.lemmas.Option.{none-some, same_Some}
use Rattle.bv_term.specs.declared.term.TermId.{TermId}
use Rattle.bv_term.specs.declared.term.Term.{Term as ATerm}
use Rattle.bv_term.specs.WellFormed.{Table, AllFit, Fits, width_in, widths_after}
use Rattle.c_graph.specs.Shape.{Flow, HasWidth, widths_of}
use Rattle.cert_text.specs.declared.Cert.{Cert}
use Rattle.cert_text.specs.Content.{Content, content_of}
use Rattle.cert_check.specs.declared.fails.MapFault.{MapFault}
use Rattle.cert_check.specs.declared.fails.MapFault.TheVariants.{Layout, Nodes, Term, Formula}
use Rattle.cert_check.specs.Answers.{AreBits, numbered, term_id}
use Rattle.cert_check.specs.Causes.{IsFirstMisfit, IsFirstWide, IsMapFault, capped, table_over}
use Rattle.bv_term.specs.WellFormed.{IsTable}
use Rattle.cert_check_laws.proofs.Limits.{which}

-- ---- Terms

-- each term in front of a number is well formed over those before it, where all of them are
fit_below : (cells ws : List ℕ) (ts : List ATerm) (j k : ℕ) (t : ATerm) → j < k → AllFit cells ws (take k ts) → slice_get ts j ≡ Some t
    → Fits cells (widths_after cells ws (take j ts)) t
fit_below cells ws ts j zero t less f e = absurd (omega (arith, less))
fit_below cells ws [] j (suc k) t less f e = absurd (none-some t e)
fit_below cells ws (x ∷ xs) zero (suc k) t less f e = subst (λ (y : ATerm). Fits cells ws y) (same_Some x t e) f.0
fit_below cells ws (x ∷ xs) (suc j) (suc k) t less f e = fit_below cells (ws ++ width_in cells ws x ∷ []) xs j k t (omega (arith, less)) f.1 e

misfit_below : (cells : List ℕ) (ts : List ATerm) (j k : ℕ) → j < k → IsFirstMisfit cells ts j → IsFirstMisfit cells ts k → ⊥
misfit_below cells ts j k less one two = one.misfit (fit_below cells [] ts j k one.term less two.before.terms one.at)

same_misfit : (cells : List ℕ) (ts : List ATerm) (j k : ℕ) → IsFirstMisfit cells ts j → IsFirstMisfit cells ts k → j ≡ k
same_misfit cells ts j k one two = elim (which j k) [
  | inl less ↦ absurd (misfit_below cells ts j k less one two)
  | inr rest ↦ elim rest [
    | inl more ↦ absurd (misfit_below cells ts k j more two one)
    | inr same ↦ same
  ]
]

no_misfit_in : (cells : List ℕ) (ts : List ATerm) (k : ℕ) → IsTable (table_over cells ts) → IsFirstMisfit cells ts k → ⊥
no_misfit_in cells ts k is h = h.misfit (fit_at cells [] ts k h.term is.terms h.at)
  where
    fit_at : (cells ws : List ℕ) (ts : List ATerm) (k : ℕ) (t : ATerm) → AllFit cells ws ts → slice_get ts k ≡ Some t
        → Fits cells (widths_after cells ws (take k ts)) t
    fit_at cells ws [] k t f e = absurd (none-some t e)
    fit_at cells ws (x ∷ xs) zero t f e = subst (λ (y : ATerm). Fits cells ws y) (same_Some x t e) f.0
    fit_at cells ws (x ∷ xs) (suc k) t f e = fit_at cells (ws ++ width_in cells ws x ∷ []) xs k t f.1 e

-- ---- Formulas

bit_below : (table : Table) (ns : List ℕ) (j k n : ℕ) → j < k → AreBits table (numbered (take k ns)) → slice_get ns j ≡ Some n → HasWidth table (term_id n) 1
bit_below table ns j zero n less h e = absurd (omega (arith, less))
bit_below table [] j (suc k) n less h e = absurd (none-some n e)
bit_below table (x ∷ xs) zero (suc k) n less h e =
    subst (λ (y : ℕ). HasWidth table (term_id y) 1) (same_Some x n e)
    (All-head (λ (t : TermId). HasWidth table t 1) (term_id x) (numbered (take k xs)) h)
bit_below table (x ∷ xs) (suc j) (suc k) n less h e =
    bit_below table xs j k n (omega (arith, less)) (All-tail (λ (t : TermId). HasWidth table t 1) (term_id x) (numbered (take k xs)) h) e

wide_below : (table : Table) (ns : List ℕ) (j k : ℕ) → j < k → IsFirstWide table ns j → IsFirstWide table ns k → ⊥
wide_below table ns j k less one two = one.misfit (bit_below table ns j k one.number less two.before one.at)

same_wide : (table : Table) (ns : List ℕ) (j k : ℕ) → IsFirstWide table ns j → IsFirstWide table ns k → j ≡ k
same_wide table ns j k one two = elim (which j k) [
  | inl less ↦ absurd (wide_below table ns j k less one two)
  | inr rest ↦ elim rest [
    | inl more ↦ absurd (wide_below table ns k j more two one)
    | inr same ↦ same
  ]
]

-- ---- Maps

-- what is said of one certificate is said of each that says the same
pub fault_same : (g : Flow) (c d : Cert) (f : MapFault) → content_of d ≡ content_of c → IsMapFault g d f → IsMapFault g c f
fault_same g c d (Layout stored wanted) e h =
    subst (λ (x : Content). (stored ≡ x.layout) × (wanted ≡ 2) × (stored ≡ wanted → ⊥)) e h
fault_same g c d (Nodes stored wanted) e h =
    subst (λ (x : Content). (x.layout ≡ 2) × (stored ≡ capped (length x.formulas)) × (wanted ≡ length g.nodes) × (length x.formulas ≡ wanted → ⊥)) e h
fault_same g c d (Term k) e h =
    subst (λ (x : Content). (x.layout ≡ 2) × (length x.formulas ≡ length g.nodes) × IsFirstMisfit (widths_of g.cells) x.terms k) e h
fault_same g c d (Formula k) e h =
    subst (λ (x : Content). (x.layout ≡ 2) × (length x.formulas ≡ length g.nodes) × IsTable (table_over (widths_of g.cells) x.terms)
    × IsFirstWide (table_over (widths_of g.cells) x.terms) x.formulas k) e h

pub one_fault : (g : Flow) (c : Cert) (a b : MapFault) → IsMapFault g c a → IsMapFault g c b → a ≡ b
one_fault g c (Layout s w) (Layout t v) h k =
    let stored = h.0 ∙ sym k.0 in
    let wanted = h.1 ∙ sym k.1 in
    λ i. Layout (stored i) (wanted i)
one_fault g c (Layout s w) (Nodes t v) h k = absurd (h.2 (h.0 ∙ k.0 ∙ sym h.1))
one_fault g c (Layout s w) (Term j) h k = absurd (h.2 (h.0 ∙ k.0 ∙ sym h.1))
one_fault g c (Layout s w) (Formula j) h k = absurd (h.2 (h.0 ∙ k.0 ∙ sym h.1))
one_fault g c (Nodes s w) (Layout t v) h k = absurd (k.2 (k.0 ∙ h.0 ∙ sym k.1))
one_fault g c (Nodes s w) (Nodes t v) h k =
    let stored = h.1 ∙ sym k.1 in
    let wanted = h.2 ∙ sym k.2 in
    λ i. Nodes (stored i) (wanted i)
one_fault g c (Nodes s w) (Term j) h k = absurd (h.3 (k.1 ∙ sym h.2))
one_fault g c (Nodes s w) (Formula j) h k = absurd (h.3 (k.1 ∙ sym h.2))
one_fault g c (Term j) (Layout t v) h k = absurd (k.2 (k.0 ∙ h.0 ∙ sym k.1))
one_fault g c (Term j) (Nodes t v) h k = absurd (k.3 (h.1 ∙ sym k.2))
one_fault g c (Term i) (Term j) h k = ap Term (same_misfit (widths_of g.cells) c.terms.items i j h.2 k.2)
one_fault g c (Term i) (Formula j) h k = absurd (no_misfit_in (widths_of g.cells) c.terms.items i k.2 h.2)
one_fault g c (Formula j) (Layout t v) h k = absurd (k.2 (k.0 ∙ h.0 ∙ sym k.1))
one_fault g c (Formula j) (Nodes t v) h k = absurd (k.3 (h.1 ∙ sym k.2))
one_fault g c (Formula i) (Term j) h k = absurd (no_misfit_in (widths_of g.cells) c.terms.items j h.2 k.2)
one_fault g c (Formula i) (Formula j) h k = ap Formula (same_wide (table_over (widths_of g.cells) c.terms.items) c.formulas.items i j h.3 k.3)
