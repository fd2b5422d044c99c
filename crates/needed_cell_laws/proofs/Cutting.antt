-- The cells of a question's cuts are read behind them before they are set.
use Rattle.std.proofs.Common.{◌≡◌, ◌∙◌, ℕ, ◌+◌, inl, inr, List, [], ◌∷◌, drop, length, Some, slice_get, zero, suc, refl, sym, ap, subst}
use Rattle.prop.specs.declared.Lit.{Lit}
use Rattle.bit_blast.specs.Emission.{cell_at}
use Rattle.bit_blast.specs.Held.{Held, new_of}
use Rattle.c_graph.specs.declared.graph.EdgeId.{EdgeId}
use Rattle.c_graph.specs.Shape.{Flow}
use Rattle.path_query.specs.declared.query.Bundle.{Bundle}
use Rattle.path_formula.specs.Paths.{bundles_of}
use Rattle.path_formula.specs.Questions.{asked, needed_along, plan_of, question_of, stepped}
use Rattle.path_laws.proofs.Sharing.{shared_in_cuts}
use Rattle.obligation_laws.proofs.Alike.{Has}
use Rattle.chain_laws.proofs.Needs.{needed-within}
use Rattle.needed_cell_laws.specs.Laws.{CutsAreRead, IsReadAlong, SharedIsRead}
use Rattle.needed_cell_laws.proofs.Reading.{along-read}

bundle-has : (held : List (List Lit)) (cells : List ℕ) (k : ℕ) (b : Bundle) → slice_get (bundles_of held cells) k ≡ Some b → Has cells b.cell
bundle-has held [] k b g = absurd cc
bundle-has held (c ∷ cells) zero b g =
    let B : Bundle = record { cell = c; bits = cell_at held c } in
    let e : B ≡ b = cc in inl (sym (ap (λ (x : Bundle). x.cell) e))
bundle-has held (c ∷ cells) (suc k) b g = inr (bundle-has held cells k b g)

-- the cuts of edges in order, with the one before them
cuts-from : Flow → ℕ → Held → List EdgeId → List (List Bundle)
cuts-from g n h path = bundles_of h.cells (needed_along g path) ∷ (asked g n h path).cuts

-- a cut has the cells that are needed before the edges behind it
record CutOf (g : Flow) (cuts : List (List Bundle)) (k : ℕ) (es : List EdgeId) : Type 0 where
  held : List (List Lit)
  is : slice_get cuts k ≡ Some (bundles_of held (needed_along g es))

first-cut : (g : Flow) (n : ℕ) (h : Held) (path : List EdgeId) → CutOf g (cuts-from g n h path) 0 path
unfolding cuts-from
first-cut g n h path = record { held = h.cells; is = refl }

cut-is : (g : Flow) (n : ℕ) (h : Held) (path : List EdgeId) (k : ℕ) (cut : List Bundle) → slice_get (cuts-from g n h path) k ≡ Some cut
    → CutOf g (cuts-from g n h path) k (drop k path)
unfolding cuts-from
cut-is g n h path zero cut at = first-cut g n h path
cut-is g n h [] (suc k) cut at = absurd cc
cut-is g n h (e ∷ es) (suc k) cut at =
    let m = stepped g (plan_of g e es) h in
    let r = cut-is g (n + length m.clauses) m.held es k cut at in
    record { held = r.held; is = r.is }

cut-there : (g : Flow) (n : ℕ) (h : Held) (path : List EdgeId) (k start : ℕ) → slice_get (asked g n h path).starts k ≡ Some start
    → CutOf g (cuts-from g n h path) k (drop k path)
unfolding cuts-from
cut-there g n h [] k start at = absurd cc
cut-there g n h (e ∷ es) zero start at = first-cut g n h (e ∷ es)
cut-there g n h (e ∷ es) (suc k) start at =
    let m = stepped g (plan_of g e es) h in
    let r = cut-there g (n + length m.clauses) m.held es k start at in
    record { held = r.held; is = r.is }

question-cut : (g : Flow) (path : List EdgeId) (k : ℕ) → CutOf g (cuts-from g 0 (new_of [] g.terms.cells) path) k (drop k path)
    → CutOf g (question_of g path).cuts k (drop k path)
unfolding cuts-from
question-cut g path k c = record { held = c.held; is = c.is }

question-cuts : (g : Flow) (path : List EdgeId) → (question_of g path).cuts ≡ cuts-from g 0 (new_of [] g.terms.cells) path
unfolding cuts-from
question-cuts g path = refl

bundles-are : (a b : List Bundle) → Some a ≡ Some b → a ≡ b
bundles-are a b e = cc

-- a cell of such a cut
cell-read : (g : Flow) (es : List EdgeId) (held : List (List Lit)) (j : ℕ) (b : Bundle) → slice_get (bundles_of held (needed_along g es)) j ≡ Some b
    → IsReadAlong g es b.cell
cell-read g es held j b at = along-read g es b.cell (needed-within g es b.cell (bundle-has held (needed_along g es) j b at))

pub cuts_are_read : CutsAreRead
cuts_are_read g path k cut j b at there =
    let begun = new_of [] g.terms.cells in
    let from = subst (λ (cs : List (List Bundle)). slice_get cs k ≡ Some cut) (question-cuts g path) at in
    let c = question-cut g path k (cut-is g 0 begun path k cut from) in
    let same : cut ≡ bundles_of c.held (needed_along g (drop k path)) = bundles-are cut (bundles_of c.held (needed_along g (drop k path))) (sym at ∙ c.is) in
    cell-read g (drop k path) c.held j b (subst (λ (xs : List Bundle). slice_get xs j ≡ Some b) same there)

pub shared_is_read : SharedIsRead
shared_is_read g path k start m n x flow at before behind first second =
    let c = question-cut g path k (cut-there g 0 (new_of [] g.terms.cells) path k start at) in
    let cut = bundles_of c.held (needed_along g (drop k path)) in
    let (j, b, there, has) = shared_in_cuts g path k start cut m n x flow at c.is before behind first second in
    record { cut = cut; is = c.is; place = j; bundle = b; there = there; has = has; read = cell-read g (drop k path) c.held j b there }
