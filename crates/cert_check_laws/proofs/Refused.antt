-- What fits and passes is not refused.
use Rattle.std.proofs.Common.{◌≡◌, ℕ, zero, suc, ◌<◌, List, [], ◌∷◌, ◌++◌, length, take, get_or, refl, sym, subst, ap, ◌∙◌, Some, slice_get}
use Rattle.std.proofs.lemmas.List.{get_or-map, length-map}
use Rattle.std.proofs.lemmas.Option.{none-some, same_Some, slice_get_within, get_or_from_slice_get}
use Rattle.bv_term.specs.declared.term.TermId.{TermId}
use Rattle.bv_term.specs.declared.term.Term.{Term as ATerm}
use Rattle.bv_term.specs.WellFormed.{Table, AllFit, Fits, width_in, widths_after}
use Rattle.c_graph.specs.Shape.{Flow, HasWidth, widths_of}
use Rattle.c_graph.specs.Runs.{Formulas, IsMapOf}
use Rattle.cert_text.specs.declared.Cert.{Cert}
use Rattle.resolution_log.specs.declared.Chain.{Chain}
use Rattle.obligations.specs.Stated.{obligation_says}
use Rattle.cert_check.specs.declared.fails.MapFault.{MapFault}
use Rattle.cert_check.specs.declared.fails.MapFault.TheVariants.{Layout, Nodes, Term, Formula}
use Rattle.cert_check.specs.declared.fails.CheckFail.{CheckFail}
use Rattle.cert_check.specs.declared.fails.CheckFail.TheVariants.{WrongMap, Count, BadStep, NoEmpty, Over, Memory}
use Rattle.cert_check.specs.Answers.{AreBits, IsMapIn, Passes, numbered, term_id}
use Rattle.cert_check.specs.Causes.{IsFirstMisfit, IsFirstWide, IsLogCause, IsMapFault, table_over}
use Rattle.cert_check_laws.proofs.Limits.{no_cut}
use Rattle.cert_check_laws.proofs.Steps.{no_refutation}

-- a term of a table is well formed over those before it
fit_at : (cells ws : List ℕ) (ts : List ATerm) (k : ℕ) (t : ATerm) → AllFit cells ws ts → slice_get ts k ≡ Some t → Fits cells (widths_after cells ws (take k ts)) t
fit_at cells ws [] k t f e = absurd (none-some t e)
fit_at cells ws (x ∷ xs) zero t f e = subst (λ (y : ATerm). Fits cells ws y) (same_Some x t e) f.0
fit_at cells ws (x ∷ xs) (suc k) t f e = fit_at cells (ws ++ width_in cells ws x ∷ []) xs k t f.1 e

-- the certificate and the graph determine the map
pub same_map : (g : Flow) (c : Cert) (m w : Formulas) → IsMapIn g c m → IsMapIn g c w → m ≡ w
same_map g c m w a b =
    let cells = a.cells ∙ sym b.cells in
    let terms = a.terms ∙ sym b.terms in
    let at = a.at ∙ sym b.at in
    λ j. record { terms = record { cells = cells j; terms = terms j }; at = at j }

table_is : (g : Flow) (c : Cert) (m : Formulas) → IsMapIn g c m → m.terms ≡ table_over (widths_of g.cells) c.terms.items
table_is g c m s = let cells = s.cells in let terms = s.terms in λ j. record { cells = cells j; terms = terms j }

no_misfit : (g : Flow) (c : Cert) (m : Formulas) (k : ℕ) → IsMapIn g c m → IsFirstMisfit (widths_of g.cells) c.terms.items k → ⊥
no_misfit g c m k s h =
    let all : AllFit (widths_of g.cells) [] c.terms.items
    = subst (λ (x : Table). AllFit x.cells [] x.terms) (table_is g c m s) s.fits.terms in
    h.misfit (fit_at (widths_of g.cells) [] c.terms.items k h.term all h.at)

no_wide : (table : Table) (ns : List ℕ) (k : ℕ) → AreBits table (numbered ns) → IsFirstWide table ns k → ⊥
no_wide table ns k bits h =
    let lt = slice_get_within ns k h.number h.at in
    let there : k < length (numbered ns) = subst (λ (x : ℕ). k < x) (sym (length-map ns term_id)) lt in
    let is : get_or (numbered ns) k (term_id 0) ≡ term_id h.number
    = get_or-map term_id ns k 0 (term_id 0) lt ∙ ap term_id (get_or_from_slice_get ns k h.number 0 h.at) in
    h.misfit (subst (λ (t : TermId). HasWidth table t 1) is (bits k (term_id 0) there))

-- nothing of a map that fits does not fit
pub no_fault : (g : Flow) (c : Cert) (f : MapFault) (m : Formulas) → IsMapIn g c m → IsMapOf g m → IsMapFault g c f → ⊥
no_fault g c (Layout stored wanted) m s is h = h.2 (h.0 ∙ s.layout ∙ sym h.1)
no_fault g c (Nodes stored wanted) m s is h =
    h.3 (sym (length-map c.formulas.items term_id) ∙ ap length (sym s.at) ∙ is.nodes ∙ sym h.2)
no_fault g c (Term k) m s is h = no_misfit g c m k s h.2
no_fault g c (Formula k) m s is h =
    let bits : AreBits (table_over (widths_of g.cells) c.terms.items) m.at
    = subst (λ (x : Table). AreBits x m.at) (table_is g c m s) is.formulas in
    no_wide (table_over (widths_of g.cells) c.terms.items) c.formulas.items k
    (subst (λ (x : List TermId). AreBits (table_over (widths_of g.cells) c.terms.items) x) s.at bits) h.3

-- an obligation that passes by a log fails by it for nothing but want of memory
pub no_cause : (g : Flow) (m : Formulas) (n : ℕ) (log : List Chain) (e : CheckFail) → Passes g m n log → IsLogCause g m n log e → e ≡ Memory
no_cause g m n log (BadStep number k) passes h = absurd (no_refutation (obligation_says g m n) log k h.2 passes.refuted)
no_cause g m n log (NoEmpty number) passes h = absurd (h.2.1 passes.refuted)
no_cause g m n log (Over size) passes h = absurd (no_cut (obligation_says g m n) size passes.within h)
no_cause g m n log Memory passes h = refl
no_cause g m n log (WrongMap fault) passes h = absurd h
no_cause g m n log (Count stored wanted) passes h = absurd h
