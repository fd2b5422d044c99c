-- The formulas of a path's cuts name only cells that the rest of the path reads before it sets them.
use Rattle.std.proofs.Common.{◌≡◌, ℕ, ◌+◌, ◌<◌, ◌≤◌, inl, inr, List, [], ◌∷◌, drop, length, map, Some, slice_get, zero, suc, refl, sym, ap, subst, arith}
use Rattle.std.proofs.lemmas.Option.{slice_get_within}
use Rattle.bv_term.specs.declared.term.TermId.{TermId}
use Rattle.bv_term.specs.WellFormed.{Table}
use Rattle.prop.specs.declared.Lit.{Lit}
use Rattle.bit_blast.specs.Emission.{cell_at}
use Rattle.bit_blast.specs.Held.{Held, new_of}
use Rattle.c_graph.specs.declared.graph.EdgeId.{EdgeId}
use Rattle.c_graph.specs.Shape.{Flow}
use Rattle.path_query.specs.declared.query.Bundle.{Bundle}
use Rattle.path_formula.specs.Paths.{bundles_of}
use Rattle.path_formula.specs.Questions.{asked, plan_of, question_of, stepped}
use Rattle.path_formula.specs.Questions as questions
use Rattle.formula_diagrams.specs.Writings.{IsPlain}
use Rattle.interpolants.specs.NamedCells.{AreNamed, IsCellOf}
use Rattle.term_copy.specs.Copies.{AreCopies, number_in}
use Rattle.obligation_laws.proofs.Alike.{Has}
use Rattle.needed_cells.specs.Reads.{OnlyNames, names, needed_along}
use Rattle.chain_laws.proofs.Copying.{map-back}
use Rattle.chain_laws.proofs.Names.{all-contained, names-plain, plain-copied}
use Rattle.chain_laws.proofs.Needs.{needed-within}

-- the cells of cuts
bundle-has : (held : List (List Lit)) (cells : List ℕ) (k : ℕ) (b : Bundle) → slice_get (bundles_of held cells) k ≡ Some b → Has cells b.cell
bundle-has held [] k b g = absurd cc
bundle-has held (c ∷ cells) zero b g =
    let B : Bundle = record { cell = c; bits = cell_at held c } in
    let e : B ≡ b = cc in inl (sym (ap (λ (x : Bundle). x.cell) e))
bundle-has held (c ∷ cells) (suc k) b g = inr (bundle-has held cells k b g)

cell-has : (held : List (List Lit)) (cells : List ℕ) (c : ℕ) → IsCellOf (bundles_of held cells) c → Has cells c
cell-has held cells c (k, (b, (g, e))) = subst (Has cells) e (bundle-has held cells k b g)

-- the cells of a cut are those that are needed before the rest of the path
record CutOf (g : Flow) (cuts : List (List Bundle)) (k : ℕ) (es : List EdgeId) : Type 0 where
  held : List (List Lit)
  is : slice_get cuts k ≡ Some (bundles_of held (questions.needed_along g es))

asked-cut : (g : Flow) (n : ℕ) (h : Held) (path : List EdgeId) (k : ℕ) → k < length path → CutOf g (asked g n h path).cuts k (drop (suc k) path)
asked-cut g n h [] k lt = absurd (omega (arith, lt))
asked-cut g n h (e ∷ es) zero lt = record { held = (stepped g (plan_of g e es) h).held.cells; is = refl }
asked-cut g n h (e ∷ es) (suc k) lt =
    let m = stepped g (plan_of g e es) h in
    let r = asked-cut g (n + length m.clauses) m.held es k (omega (arith, lt)) in
    record { held = r.held; is = r.is }

cut-of : (g : Flow) (path : List EdgeId) (k : ℕ) → k ≤ length path → CutOf g (question_of g path).cuts k (drop k path)
cut-of g path zero le = record { held = (new_of [] g.terms.cells).cells; is = refl }
cut-of g path (suc k) le =
    let r = asked-cut g 0 (new_of [] g.terms.cells) path k (omega (arith, le)) in record { held = r.held; is = r.is }

module _ (g : Flow) (path : List EdgeId) (table into : Table) (to fs : List TermId) (long : length to ≡ length table.terms)
    (copies : AreCopies table into to) (count : length fs ≡ suc (length path)) (named : AreNamed table (question_of g path) fs) where
  formula-names : (k : ℕ) (f : TermId) → slice_get fs k ≡ Some f → OnlyNames into (number_in to f) (needed_along g (drop k path))
  formula-names k f at =
      let lt = slice_get_within fs k f at in
      let cut = cut-of g path k (omega (arith, lt, count)) in
      let cells : List ℕ = questions.needed_along g (drop k path) in
      let plain : IsPlain table (IsCellOf (bundles_of cut.held cells)) f = named k f at (bundles_of cut.held cells) cut.is in
      let new : IsPlain into (IsCellOf (bundles_of cut.held cells)) (number_in to f) =
      plain-copied table into to long copies (IsCellOf (bundles_of cut.held cells)) f plain in
      all-contained (names into (number_in to f)) (needed_along g (drop k path))
      (λ c h. needed-within g (drop k path) c (cell-has cut.held cells c (names-plain into (IsCellOf (bundles_of cut.held cells)) (number_in to f) new c h)))

  pub formulas-name : (k : ℕ) (f : TermId) → slice_get (map (number_in to) fs) k ≡ Some f → OnlyNames into f (needed_along g (drop k path))
  formulas-name k f at =
      let (a, ga, ea) = map-back (number_in to) fs k f at in
      subst (λ (x : TermId). OnlyNames into x (needed_along g (drop k path))) ea (formula-names k a ga)
