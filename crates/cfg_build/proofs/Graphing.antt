-- Graphs that follow code, in a table that grew.
use Rattle.std.proofs.Common.{◌≡◌, ◌⊎◌, inl, inr, ℕ, zero, suc, ◌+◌, ◌-◌, ◌==◌, Bool, true, false, List, [], ◌∷◌, ◌++◌, length, refl, sym, ap, ◌∙◌, subst, arith, ◌<◌, ◌≤◌, Option, None, Some, slice_get, get_or, take, drop, length-append}
use Rattle.std.specs.Prelude.{IfSome}
use Rattle.std.proofs.lemmas.Option.{slice_get_read}
use Rattle.c_typed.specs.declared.tree.Object.{Object}
use Rattle.c_graph.specs.declared.graph.LoopAt.{LoopAt}
use Rattle.c_graph.specs.declared.graph.NodeId.{NodeId}
use Rattle.c_graph.specs.declared.graph.Node.{Node}
use Rattle.c_graph.specs.declared.graph.Edge.{Edge}
use Rattle.c_graph.specs.declared.graph.Cell.{Cell}
use Rattle.c_graph.specs.Functions.{FnFlow, Flows, AreFlows}
use Rattle.c_graph.specs.Parts.{error_flows}
use Rattle.bv_term.specs.WellFormed.{Table}
use Rattle.c_typed.specs.Parts.{Parts, tree_of}
use Rattle.c_typed.specs.Run.{main_number}
use Rattle.slot_code.specs.declared.flat.Instruction.{Instruction}
use Rattle.c_terms.specs.declared.words.Words.{Words}
use Rattle.c_terms.specs.Shown.{Grows}
use Rattle.c_terms.proofs.Putting.{grows-twice}
use Rattle.code_moves.specs.Setting.{Setting, Stands}
use Rattle.code_moves.proofs.Doing.{deeds-later}
use Rattle.cfg_build.specs.declared.draft.Draft.{Draft}
use Rattle.cfg_build.specs.declared.placing.Range.{Range}
use Rattle.lv_base.specs.declared.kind.Model.{Model}
use Rattle.c_graph.specs.Shape.{widths_of}
use Rattle.slot_code.specs.Slots.{slots_in}
use Rattle.code_layout.specs.Layout.{Lay, layout_of}
use Rattle.code_layout.specs.Lies.{Lies}
use Rattle.code_layout.proofs.Lying.{layouts_lie}
use Rattle.cfg_build.specs.declared.placing.Whole.{Whole}
use Rattle.cfg_build.specs.declared.placing.Places.{Places}
use Rattle.cfg_build.specs.Steps.{Built, IsEmpty, node_id, next_of}
use Rattle.cfg_build.specs.Sizes.{nodes_of}
use Rattle.cfg_build.specs.Placed.{CanFollow, CanStand}
use Rattle.cfg_build.specs.Follows.{Plan, plan_of, Joined, Exit, FirstFollow, PlacesFollow}
use Rattle.slot_code.specs.Programs.{Code, code_of}
use Rattle.cfg_build.specs.Ranges.{AreRanges, ProgramRanges}
use Rattle.cfg_build.specs.Fitting.{AreFit, CallsEnter}
use Rattle.cfg_build.specs.Graphs.{Opening, AreLoops, IsGraph, GraphFollows, FirstGraphs, ProgramFollows, program_code, program_setting}
use Rattle.cfg_build.proofs.Adding.{next-more}
use Rattle.cfg_build.proofs.Counting.{first-count}
use Rattle.cfg_build.proofs.Following.{joined-by, first-later, built-by, built-twice}

-- the graph of a draft that was empty
pub graph-of : (d e : Draft) (F : ℕ → List Node → List Edge → Type 0) (p : Plan) (graph : FnFlow) (loops : List LoopAt) → IsEmpty d → Built d e F → AreLoops p loops
    → graph ≡ record { nodes = e.nodes.items; edges = e.edges.items; entry = node_id 0; loops = loops } → IsGraph F p graph
graph-of d e F p graph loops h k l q =
    let ns : k.nodes ≡ e.nodes.items = sym (k.adds.nodes_are ∙ ap (λ (xs : List Node). xs ++ k.nodes) h.0) in
    let es : k.edges ≡ e.edges.items = sym (k.adds.edges_are ∙ ap (λ (xs : List Edge). xs ++ k.edges) h.1) in
    subst (λ (r : FnFlow). IsGraph F p r) (sym q)
    (refl, subst (λ (xs : List Edge). F 0 e.nodes.items xs) es (subst (λ (xs : List Node). F 0 xs k.edges) ns (subst (λ (n : ℕ). F n k.nodes k.edges) (ap length h.0) k.form)), l)

-- ---- In a table that grew

pub places-later : (a b : Words) (p : Plan) (s : Setting) (n : ℕ) (ns : List Node) (es : List Edge) → Grows a b → PlacesFollow p s a.terms n ns es → PlacesFollow p s b.terms n ns es
places-later a b p s n ns es g h = joined-by _ (Exit p) _ (Exit p) n ns es (λ m xs fs z. first-later a b p s _ m xs fs g z) (λ m xs fs z. z) h

pub opening-later : (a b : Words) (s : Setting) (n : ℕ) (ns : List Node) (es : List Edge) → Grows a b → Opening s a.terms n ns es → Opening s b.terms n ns es
opening-later a b s n ns es g h = record { ops = h.ops; does = deeds-later a b h.ops _ g h.does; nodes_are = h.nodes_are; edges_are = h.edges_are }

graph-later : (a b : Words) (o : Bool) (p : Plan) (s : Setting) (graph : FnFlow) → Grows a b → GraphFollows o p s a.terms graph → GraphFollows o p s b.terms graph
graph-later a b true p s graph g h =
    (h.0, joined-by _ _ _ _ 0 graph.nodes graph.edges (λ m xs fs z. opening-later a b s m xs fs g z) (λ m xs fs z. places-later a b p s m xs fs g z) h.1, h.2)
graph-later a b false p s graph g h = (h.0, places-later a b p s 0 graph.nodes graph.edges g h.1, h.2)

graphs-later : (a b : Words) (code : List Instruction) (numbers : List ℕ) (ranges : List Range) (main : ℕ) (s : Setting) (k : ℕ) (gs : List FnFlow) (xs : List NodeId) → Grows a b
    → FirstGraphs code numbers ranges main s a.terms k gs xs → FirstGraphs code numbers ranges main s b.terms k gs xs
graphs-later a b code numbers ranges main s zero gs xs g h = h
graphs-later a b code numbers ranges main s (suc k) gs xs g h = record {
  graphs_before = h.graphs_before;
  exits_before = h.exits_before;
  range = h.range;
  graph = h.graph;
  exit = h.exit;
  before = graphs-later a b code numbers ranges main s k h.graphs_before h.exits_before g h.before;
  there = h.there;
  follows = graph-later a b _ _ s h.graph g h.follows;
  graphs_are = h.graphs_are;
  exits_are = h.exits_are;
}

-- ---- The opening, and the places behind it

pub main-built : (a b c : Words) (x y z : Draft) (p : Plan) (s : Setting) → Grows a b × Built x y (Opening s b.terms) → Grows b c × Built y z (PlacesFollow p s c.terms)
    → Grows a c × Built x z (Joined (Opening s c.terms) (PlacesFollow p s c.terms))
main-built a b c x y z p s h k =
    (grows-twice a b c h.0 k.0, built-twice x y z (Opening s c.terms) (PlacesFollow p s c.terms) (built-by x y (Opening s b.terms) (Opening s c.terms) (λ n ns es w. opening-later b c s n ns es k.0 w) h.1) k.1)

-- ---- One graph more

pub graph-more : (a b c : Words) (code : List Instruction) (numbers : List ℕ) (ranges : List Range) (main : ℕ) (s : Setting) (k m : ℕ) (gs all : List FnFlow) (xs ends : List NodeId) (range : Range) (p : Plan) (graph : FnFlow)
    → Grows a b × FirstGraphs code numbers ranges main s b.terms k gs xs → Grows b c × GraphFollows (p.range.function == main) p s c.terms graph → slice_get ranges k ≡ Some range
    → p ≡ record { code = code; numbers = numbers; ranges = ranges; range = range; exit = p.exit } → all ≡ gs ++ graph ∷ [] → ends ≡ xs ++ p.exit ∷ [] → suc k ≡ m
    → Grows a c × FirstGraphs code numbers ranges main s c.terms m all ends
graph-more a b c code numbers ranges main s k m gs all xs ends range p graph h g t q e f o = (
  grows-twice a b c h.0 g.0,
  subst (λ (j : ℕ). FirstGraphs code numbers ranges main s c.terms j all ends) o
      (record {
        graphs_before = gs;
        exits_before = xs;
        range = range;
        graph = graph;
        exit = p.exit;
        before = graphs-later b c code numbers ranges main s k gs xs g.0 h.1;
        there = t;
        follows = subst (λ (z : Plan). GraphFollows (z.range.function == main) z s c.terms graph) q g.1;
        graphs_are = e;
        exits_are = f;
      }),
)

-- ---- Look-ups

pub none-there : (xs : List Object) (i : ℕ) → length xs ≤ i → None ≡ slice_get xs i
none-there [] i h = refl
none-there (x ∷ xs) zero h = absurd (omega (arith, h))
none-there (x ∷ xs) (suc i) h = none-there xs i (omega (arith, h))

pub some-there : (xs : List Object) (i : ℕ) (x : Object) → i < length xs → x ≡ get_or xs i x → Some x ≡ slice_get xs i
some-there xs i x h e = sym (slice_get_read xs (length xs) i x refl h e)

pub some-of : (o : Option FnFlow) (x : FnFlow) (P : FnFlow → Type 0) → o ≡ Some x → IfSome o P → P x
some-of o x P e h = subst (λ (z : Option FnFlow). IfSome z P) e h

pub plan-is : (ps : Places) (w : Whole) (r : Range) → ps.whole ≡ w → ps.range ≡ r
    → plan_of ps ≡ record { code = w.code.now; numbers = w.numbers.now; ranges = w.ranges.now; range = r; exit = ps.exit }
plan-is ps w r e f =
    let g : plan_of ps ≡ record { code = w.code.now; numbers = w.numbers.now; ranges = w.ranges.now; range = ps.range; exit = ps.exit } =
    ap (λ (z : Whole). record { code = z.code.now; numbers = z.numbers.now; ranges = z.ranges.now; range = ps.range; exit = ps.exit }) e in
    let h : ◌≡◌ {A = Plan} (record { code = w.code.now; numbers = w.numbers.now; ranges = w.ranges.now; range = ps.range; exit = ps.exit }) (record { code = w.code.now; numbers = w.numbers.now; ranges = w.ranges.now; range = r; exit = ps.exit }) =
    ap (λ (z : Range). record { code = w.code.now; numbers = w.numbers.now; ranges = w.ranges.now; range = z; exit = ps.exit }) f in
    g ∙ h

-- ---- A program

-- parts without a graph make no graphs of functions
no-graphs : (p : Flows) → AreFlows p → p.graphs ≡ [] → ⊥
no-graphs p h e = omega (arith, h.main, ap length e)

-- graphs that stand only where two things are so
pub stand-both : (A B : Type 0) (gs hs is : List FnFlow) → (A × (hs ≡ gs)) ⊎ (hs ≡ []) → (B × (is ≡ hs)) ⊎ (is ≡ []) → ((A × B) × (is ≡ gs)) ⊎ (is ≡ [])
stand-both A B gs hs is x (inr none) = inr none
stand-both A B gs hs is (inl x) (inl y) = inl ((x.0, y.0), y.1 ∙ x.1)
stand-both A B gs hs is (inr none) (inl y) = inr (y.1 ∙ none)

pub stand-by : (A B X Y : Type 0) → (A → B) → (A × X) ⊎ Y → (B × X) ⊎ Y
stand-by A B X Y f (inl h) = inl (f h.0, h.1)
stand-by A B X Y f (inr h) = inr h

-- ranges of code that is the program's
pub ranges-stand : (t : Parts) (order : List ℕ) (code : Code) (slots : ℕ) (ranges : List Range) → code ≡ code_of (tree_of t) order → slots ≡ slots_in (program_code t order)
    → AreRanges (length code.instructions) slots code.links ranges → ProgramRanges t order ranges
ranges-stand t order code slots ranges e f h =
    let moved : AreRanges (length code.instructions) (slots_in (program_code t order)) code.links ranges = subst (λ n. AreRanges (length code.instructions) n code.links ranges) f h in
    subst (λ (c : Code). AreRanges (length c.instructions) (slots_in (program_code t order)) c.links ranges) e moved

-- what is tested of a program's code, with the number of its main
pub record Tested (t : Parts) (order : List ℕ) (ranges : List Range) (main : ℕ) : Type 0 where
  pub number : main_number (tree_of t).functions ≡ Some main
  pub stand : ProgramRanges t order ranges
  pub fit : AreFit t.model (tree_of t).objects (program_code t order)
  pub enters : CallsEnter (code_of (tree_of t) order).links (program_code t order)
  pub short : length (program_code t order) < 18446744073709551616

-- what is tested of code alone
abbrev pub IsFitting : Parts → List ℕ → Code → Type 0
IsFitting t order code = AreFit t.model (tree_of t).objects code.instructions × CallsEnter code.links code.instructions × (length code.instructions < 18446744073709551616)

-- code that is the program's
pub fit-stand : (t : Parts) (order : List ℕ) (code : Code) → code ≡ code_of (tree_of t) order → IsFitting t order code → IsFitting t order (code_of (tree_of t) order)
fit-stand t order code e h = subst (λ (c : Code). IsFitting t order c) e h

-- graphs that follow the program's code make function graphs that do
pub program-made : (t : Parts) (order : List ℕ) (code : List Instruction) (numbers : List ℕ) (ranges : List Range) (s : Setting) (gs : List FnFlow) (xs : List NodeId) (cells : List Cell) (T : Table) (main : ℕ)
    → Tested t order ranges main → FirstGraphs code numbers ranges main s T (length ranges) gs xs → s ≡ program_setting t order → code ≡ program_code t order → cells ≡ s.lay.cells
    → ProgramFollows t order (record { graphs = gs; cells = cells; terms = T; exits = xs; main = main })
program-made t order code numbers ranges s gs xs cells T main h k q r f = record {
  numbers = numbers;
  ranges = ranges;
  main = h.number;
  stand = h.stand;
  fit = h.fit;
  enters = h.enters;
  short = h.short;
  follow = subst (λ (z : Setting). FirstGraphs (program_code t order) numbers ranges main z T (length ranges) gs xs) q
      (subst (λ (z : List Instruction). FirstGraphs z numbers ranges main s T (length ranges) gs xs) r k);
  cells = f ∙ ap (λ (z : Setting). z.lay.cells) q;
}

pub program-follows : (t : Parts) (order : List ℕ) (p : Flows) (code : List Instruction) (numbers : List ℕ) (ranges : List Range) (s : Setting) (gs hs : List FnFlow) (xs : List NodeId) (cells : List Cell) (T : Table) (main : ℕ)
    → AreFlows p → (p ≡ record { graphs = hs; cells = cells; terms = T; exits = xs; main = main }) ⊎ (p ≡ error_flows)
    → (Tested t order ranges main × (hs ≡ gs)) ⊎ (hs ≡ [])
    → (gs ≡ []) ⊎ FirstGraphs code numbers ranges main s T (length ranges) gs xs → s ≡ program_setting t order → code ≡ program_code t order → cells ≡ s.lay.cells
    → ProgramFollows t order p ⊎ (p ≡ error_flows)
program-follows t order p code numbers ranges s gs hs xs cells T main w (inr e) h k q r f = inr e
program-follows t order p code numbers ranges s gs hs xs cells T main w (inl e) (inr h) k q r f = absurd (no-graphs p w (ap (λ (z : Flows). z.graphs) e ∙ h))
program-follows t order p code numbers ranges s gs hs xs cells T main w (inl e) (inl h) (inl k) q r f = absurd (no-graphs p w (ap (λ (z : Flows). z.graphs) e ∙ h.1 ∙ k))
program-follows t order p code numbers ranges s gs hs xs cells T main w (inl e) (inl h) (inr k) q r f =
    inl (subst (λ (z : Flows). ProgramFollows t order z) (sym e)
    (program-made t order code numbers ranges s hs xs cells T main h.0 (subst (λ (z : List FnFlow). FirstGraphs code numbers ranges main s T (length ranges) z xs) (sym h.1) k) q r f))

-- what is laid out for objects and code is what is laid out for a program with these objects and this code
pub setting-is :
    (t : Parts) (order : List ℕ) (objects : List Object) (model : Model) (lay : Lay) (code seen : List Instruction) (slots : ℕ)
    → objects ≡ t.objects → model ≡ t.model → code ≡ program_code t order → seen ≡ program_code t order → slots ≡ slots_in seen
    → lay ≡ layout_of objects model code slots
    → ◌≡◌ {A = Setting} (record { objects = objects; model = model; lay = lay }) (program_setting t order)
setting-is t order objects model lay code seen slots eo em ec es en el =
    let counted : slots ≡ slots_in (program_code t order) = en ∙ ap slots_in es in
    let laid : lay ≡ layout_of t.objects t.model (program_code t order) (slots_in (program_code t order)) = el ∙ (λ i. layout_of (eo i) (em i) (ec i) (counted i)) in
    λ i. record { objects = eo i; model = em i; lay = laid i }

-- all lies among the cells of a table over a layout's cells as the layout says
pub stands-by :
    (objects : List Object) (model : Model) (lay : Lay) (code : List Instruction) (slots : ℕ) (words : Words)
    → lay ≡ layout_of objects model code slots → words.terms.cells ≡ widths_of lay.cells
    → Stands (record { objects = objects; model = model; lay = lay }) words
stands-by objects model lay code slots words el ew = record {
  lies = subst (λ (cs : List ℕ). Lies model objects lay cs) (sym ew)
      (subst (λ (l : Lay). Lies model objects l (widths_of l.cells)) (sym el) (layouts_lie objects model code slots));
}

-- graphs, if there are any, without how the table grew
pub either-follows : (gs : List FnFlow) (A B : Type 0) → (gs ≡ []) ⊎ (A × B) → (gs ≡ []) ⊎ B
either-follows gs A B (inl none) = inl none
either-follows gs A B (inr both) = inr both.1

-- ---- How many

pub graphs-count : (code : List Instruction) (numbers : List ℕ) (ranges : List Range) (main : ℕ) (s : Setting) (T : Table) (k : ℕ) (gs : List FnFlow) (xs : List NodeId)
    → FirstGraphs code numbers ranges main s T k gs xs → length gs ≡ k
graphs-count code numbers ranges main s T zero gs xs h = ap length h.0
graphs-count code numbers ranges main s T (suc k) gs xs h =
    let n : length h.graphs_before ≡ k = graphs-count code numbers ranges main s T k h.graphs_before h.exits_before h.before in
    let m : length gs ≡ length h.graphs_before + 1 = ap length h.graphs_are ∙ length-append h.graphs_before (h.graph ∷ []) in
    omega (arith, n, m)

-- the number of the next node behind places, and behind the opening
pub next-follows : (a b : Draft) (p : Plan) (s : Setting) (T : Table) (k : ℕ) → Built a b (FirstFollow p s T k) → next_of b ≡ next_of a + nodes_of (take k (drop p.range.entry p.code))
next-follows a b p s T k h = next-more a b h.nodes h.edges h.adds ∙ ap (λ m. next_of a + m) (first-count p s T k (next_of a) h.nodes h.edges h.form)

pub next-opens : (a b : Draft) (s : Setting) (T : Table) → IsEmpty a → Built a b (Opening s T) → next_of b ≡ 1
next-opens a b s T e h =
    let none : next_of a ≡ 0 = ap length e.0 in
    let one : length h.nodes ≡ 1 = ap length h.form.nodes_are in
    let more : next_of b ≡ next_of a + length h.nodes = next-more a b h.nodes h.edges h.adds in
    omega (arith, none, one, more)

pub next-none : (a : Draft) → IsEmpty a → next_of a ≡ 0
next-none a e = ap length e.0

-- what an instruction at a place of a function needs
pub can-stand : (p : Places) (lay : Lay) (n k place m : ℕ) → CanFollow p lay n → k < p.range.end - p.range.entry → place ≡ p.range.entry + k → m ≡ n + nodes_of (take k (drop p.range.entry p.whole.code.now))
    → (x : Instruction) × CanStand p lay place m x
can-stand p lay n k place m h lt e f =
    let x = h.each k lt in
    (x.0, subst (λ (j : ℕ). CanStand p lay j m x.0) (sym e) (subst (λ (j : ℕ). CanStand p lay (p.range.entry + k) j x.0) (sym f) x.1))

pub exit-stands : (p : Places) (lay : Lay) (n k m : ℕ) → CanFollow p lay n → k ≡ p.range.end - p.range.entry → m ≡ n + nodes_of (take k (drop p.range.entry p.whole.code.now)) → p.exit ≡ node_id m
exit-stands p lay n k m h e f =
    h.last ∙ ap (λ (j : ℕ). node_id (n + nodes_of (take j (drop p.range.entry p.whole.code.now)))) (sym e) ∙ ap node_id (sym f)
