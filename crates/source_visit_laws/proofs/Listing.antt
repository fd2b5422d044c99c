-- The loops that a graph lists are those of main, and all turns of each go to its node.
use Rattle.std.proofs.Common.{◌≡◌, ℕ, ◌==◌, ◌<◌, Bool, true, false, List, length, Option, None, Some, slice_get, refl, sym, ap, ◌∙◌, subst, arith}
use Rattle.std.proofs.lemmas.Option.{none-some, same_Some, slice_get_within}
use Rattle.c_typed.specs.Parts.{Parts}
use Rattle.c_graph.specs.declared.graph.LoopAt.{LoopAt}
use Rattle.c_graph.specs.Shape.{Flow}
use Rattle.c_graph.specs.Functions.{FnFlow, Flows}
use Rattle.bv_term.specs.WellFormed.{Table}
use Rattle.code_moves.specs.Setting.{Setting}
use Rattle.cfg_build.specs.Follows.{Plan}
use Rattle.cfg_build.specs.Graphs.{AreLoops, GraphFollows, IsLoop, ProgramFollows, program_code, program_setting}
use Rattle.cfg_build.proofs.Graphing.{graphs-count}
use Rattle.code_flow_laws.proofs.Graphs.{function-of}
use Rattle.call_inline.specs.Inlining.{Among, IsInlining, loops_of}
use Rattle.call_inline.proofs.Lists.{all-there, from-map, get-there}
use Rattle.inline_visit_laws.specs.Spots.{main_node}
use Rattle.program_visits.specs.Visiting.{IsLoopOf}
use Rattle.loop_visit_laws.specs.Loops.{TurnsInMain}
use Rattle.loop_visit_laws.proofs.Loops.{loops-turn}

loops-in : (b : Bool) (q : Plan) (s : Setting) (table : Table) (graph : FnFlow) → GraphFollows b q s table graph → AreLoops q graph.loops
loops-in true q s table graph h = h.2
loops-in false q s table graph h = h.2

-- all turns of a loop of main's graph go to one place of main, whose node is the loop's
pub listed-turn : (t : Parts) (order : List ℕ) (p : Flows) (f : ProgramFollows t order p) (l : LoopAt) → Among (loops_of (slice_get p.graphs p.main)) l → TurnsInMain t order p f l
listed-turn t order p f l among = by (slice_get p.graphs p.main) refl among
  where
    by : (o : Option FnFlow) → slice_get p.graphs p.main ≡ o → Among (loops_of o) l → TurnsInMain t order p f l
    by None e a = absurd (none-some l a.1)
    by (Some graph) e a =
        let count : length p.graphs ≡ length f.ranges = graphs-count (program_code t order) f.numbers f.ranges p.main (program_setting t order) p.terms (length f.ranges) p.graphs p.exits f.follow in
        let below : p.main < length p.graphs = slice_get_within p.graphs p.main graph e in
        let (range, there) = get-there f.ranges p.main (omega (arith, below, count)) in
        let main = function-of (program_code t order) f.numbers f.ranges p.main (program_setting t order) p.terms p.graphs p.exits p.main range f.follow there in
        let same : main.graph ≡ graph = same_Some main.graph graph (sym main.graph_is ∙ e) in
        let q : Plan = record { code = program_code t order; numbers = f.numbers; ranges = f.ranges; range = range; exit = main.exit } in
        let own : AreLoops q main.graph.loops = loops-in (range.function == p.main) q (program_setting t order) p.terms main.graph main.follows in
        let is : IsLoop q l = all-there (IsLoop q) graph.loops a.0 l (subst (λ (x : FnFlow). AreLoops q x.loops) same own) a.1 in
        loops-turn t order p f q l (record { code = refl; numbers = refl; range = there }) is

-- each loop of the graph with all calls inlined is one of main, at the node that main's copy has
pub loops-are-mains : (p : Flows) (g : Flow) (i : IsInlining p g) (l : LoopAt) → IsLoopOf g l
    → (own : LoopAt) × Among (loops_of (slice_get p.graphs p.main)) own × (own.at ≡ l.at) × (l.node ≡ main_node p g i own.node)
loops-are-mains p g i l (k, there) =
    let moved : LoopAt → LoopAt = λ x. record { at = x.at; node = main_node p g i x.node } in
    let s = subst (λ (ls : List LoopAt). slice_get ls k ≡ Some l) i.loops there in
    let (own, among, is) = from-map moved (loops_of (slice_get p.graphs p.main)) l (k, s) in
    (own, among, sym (ap (λ (x : LoopAt). x.at) is), ap (λ (x : LoopAt). x.node) is)
