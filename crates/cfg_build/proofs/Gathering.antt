-- The graphs of functions, one after the other, as the definition has them.
use Rattle.std.proofs.Common.{◌≡◌, ◌∙◌, ℕ, suc, List, [], ◌∷◌, ◌++◌, Some, sym, ap, slice_get, length}
use Rattle.bv_term.specs.WellFormed.{Table}
use Rattle.c_graph.specs.declared.graph.Cell.{Cell}
use Rattle.c_graph.specs.declared.graph.NodeId.{NodeId}
use Rattle.c_graph.specs.Functions.{FnFlow, Flows}
use Rattle.c_graph.specs.Parts.{flows_of}
use Rattle.c_typed.specs.Tree.{Function}
use Rattle.c_typed.specs.Parts.{Parts, tree_of}
use Rattle.c_typed.specs.Run.{main_number}
use Rattle.slot_code.specs.Programs.{code_of}
use Rattle.slot_code.specs.Slots.{slots_in}
use Rattle.slot_code.specs.declared.flat.Instruction.{Instruction}
use Rattle.c_terms.specs.declared.words.Words.{Words}
use Rattle.c_terms.proofs.Choosing.{two, three}
use Rattle.code_moves.specs.Setting.{Setting, site_of}
use Rattle.cfg_build.specs.declared.placing.Range.{Range}
use Rattle.cfg_build.specs.Follows.{Plan}
use Rattle.cfg_build.specs.Made.{graph_of, opened}
use Rattle.cfg_build.specs.Numbers.{numbers_to, owners_to}
use Rattle.cfg_build.specs.Ranges.{main_or, no_ranges, ranges_to}
use Rattle.cfg_build.specs.Graphs.{program_code, program_setting}
use Rattle.cfg_build.specs.Built.{Graphed, built, first_graphs, first_words, graphed, plan_in, with_graph}

-- one graph more
pub graph-added : (code : List Instruction) (numbers owners : List ℕ) (ranges : List Range) (functions : List Function) (main : ℕ) (g : Setting) (a b c : Words) (k m : ℕ)
    (gs all : List FnFlow) (xs ends : List NodeId) (range : Range) (p : Plan) (os : List ℕ) (graph : FnFlow)
    → graphed b gs xs ≡ first_graphs code numbers owners ranges functions main g a k → (c, graph) ≡ graph_of p os (site_of g) (opened g) functions main b → slice_get ranges k ≡ Some range
    → p ≡ plan_in code numbers ranges main range → os ≡ owners → all ≡ gs ++ graph ∷ [] → ends ≡ xs ++ p.exit ∷ [] → suc k ≡ m
    → graphed c all ends ≡ first_graphs code numbers owners ranges functions main g a m
graph-added code numbers owners ranges functions main g a b c k m gs all xs ends range p os graph before made there plan own are end more =
    let q = plan_in code numbers ranges main range in
    let is : (c, graph) ≡ graph_of q owners (site_of g) (opened g) functions main b = made ∙ two (λ (x : Plan) (y : List ℕ). graph_of x y (site_of g) (opened g) functions main b) plan own in
    let words : c ≡ (graph_of q owners (site_of g) (opened g) functions main b).0 = ap (λ (z : Words × FnFlow). z.0) is in
    let added : graph ≡ (graph_of q owners (site_of g) (opened g) functions main b).1 = ap (λ (z : Words × FnFlow). z.1) is in
    three graphed words (are ∙ ap (λ (z : FnFlow). gs ++ z ∷ []) added) (end ∙ ap (λ (z : Plan). xs ++ z.exit ∷ []) plan)
    ∙ two (λ (r : Graphed) o. with_graph code numbers owners ranges functions main g r o) before (sym there)
    ∙ ap (λ (j : ℕ). first_graphs code numbers owners ranges functions main g a j) more

-- the graphs of a program, where each part is the program's
pub is-built : (t : Parts) (order : List ℕ) (code : List Instruction) (numbers owners : List ℕ) (ranges : List Range) (functions : List Function) (main : ℕ) (g : Setting) (a b : Words)
    (gs : List FnFlow) (xs : List NodeId) (cells : List Cell) (terms : Table)
    → code ≡ program_code t order → numbers ≡ numbers_to (program_code t order) main (length (program_code t order)) (code_of (tree_of t) order).links
    → owners ≡ owners_to (length (program_code t order)) (code_of (tree_of t) order).links
    → ranges ≡ ranges_to (length (program_code t order)) (slots_in (program_code t order)) (code_of (tree_of t) order).links (no_ranges (length (tree_of t).functions))
    → functions ≡ (tree_of t).functions → main ≡ main_or (main_number (tree_of t).functions) → g ≡ program_setting t order → a ≡ first_words g → cells ≡ g.lay.cells → terms ≡ b.terms
    → graphed b gs xs ≡ first_graphs code numbers owners ranges functions main g a (length ranges) → flows_of gs cells terms xs main ≡ built t order
is-built t order code numbers owners ranges functions main g a b gs xs cells terms code_is numbers_are owners_are ranges_are functions_are main_is setting words_are cells_are terms_are made =
    let own = program_code t order in
    let links = (code_of (tree_of t) order).links in
    let s = program_setting t order in
    let rs = ranges_to (length own) (slots_in own) links (no_ranges (length (tree_of t).functions)) in
    let whole : List Instruction → List ℕ → List ℕ → List Range → List Function → ℕ → Setting → Words → Flows =
    (λ c n o r f m z w. let q = first_graphs c n o r f m z w (length r) in flows_of q.graphs z.lay.cells q.words.terms q.exits m) in
    let first_are : a ≡ first_words s = words_are ∙ ap first_words setting in
    let terms_is : terms ≡ (first_graphs code numbers owners ranges functions main g a (length ranges)).words.terms = terms_are ∙ ap (λ (q : Graphed). q.words.terms) made in
    let one : flows_of gs cells terms xs main ≡ whole code numbers owners ranges functions main g a = (λ i. flows_of (made i).graphs (cells_are i) (terms_is i) (made i).exits main) in
    let other : whole code numbers owners ranges functions main g a ≡ whole own (numbers_to own main (length own) links) (owners_to (length own) links) rs (tree_of t).functions main s (first_words s) =
    (λ i. whole (code_is i) (numbers_are i) (owners_are i) (ranges_are i) (functions_are i) main (setting i) (first_are i)) in
    one ∙ other ∙ ap (λ (m : ℕ). whole own (numbers_to own m (length own) links) (owners_to (length own) links) rs (tree_of t).functions m s (first_words s)) main_is
