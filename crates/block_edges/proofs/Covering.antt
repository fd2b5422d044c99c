-- A term of width 1, or its complement, is 1.
use Rattle.std.proofs.Common.{◌≡◌, ℕ, ◌<◌, ◌^◌, ◌⊎◌, inl, inr, List, ap, ◌∙◌, subst, arith}
use Rattle.std.proofs.lemmas.Bool.{cases_eq}
use Rattle.bv_term.specs.declared.term.TermId.{TermId}
use Rattle.bv_term.specs.declared.term.Term.TheVariants.{Not}
use Rattle.bv_term.specs.Numbers.{complement_in}
use Rattle.bv_term.specs.WellFormed.{Table, IsTable}
use Rattle.bv_term.specs.Values.{value}
use Rattle.bv_term.proofs.Staying.{values_fit}
use Rattle.c_graph.specs.Steps.{IsWhole}
use Rattle.term_laws.proofs.Made.{made}
use Rattle.graph_walk_laws.specs.Walks.{AreComplements}
use Rattle.block_edges.specs.Covering.{ComplementsCover}

one-or-other : (table : Table) (t u : TermId) → IsTable table → AreComplements table t u → (s : List ℕ) → IsWhole table.cells s → (value table s t ≡ 1) ⊎ (value table s u ≡ 1)
one-or-other table t u is c s whole =
    let m = made table s u (Not t) is c.1 in
    let lt : value table s t < 2 ^ 1 = subst (λ (w : ℕ). value table s t < 2 ^ w) c.0.1 (values_fit table s t is whole.fits c.0.0) in
    let e : value table s u ≡ complement_in 1 (value table s t) = m.value ∙ ap (λ (w : ℕ). complement_in w (value table s t)) c.0.1 in
    elim (cases_eq (value table s t) 1) [
      | inl y ↦ inl y
      | inr ne ↦ let z : value table s t ≡ 0 = omega (arith, lt, ne) in inr (e ∙ ap (complement_in 1) z)
    ]

pub complements_cover : ComplementsCover
complements_cover table t u is c = (
  λ s whole. one-or-other table t u is c s whole,
  λ s whole. elim (one-or-other table t u is c s whole) [ inl y ↦ inr y | inr y ↦ inl y ],
)
