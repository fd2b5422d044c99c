-- Function graphs that follow a program's code keep the facts of function graphs.
use Rattle.std.proofs.Common.{◌≡◌, inl, inr, ℕ, zero, suc, ◌+◌, ◌-◌, ◌<◌, ◌≤◌, nat_lt, nat_eq, Bool, true, false, List, [], ◌∷◌, ◌++◌, length, refl, sym, ap, ◌∙◌, subst, arith, Option, Some, slice_get, slice_index_or, take, drop, length-append, if◌then◌else◌}
use Rattle.std.proofs.lemmas.Bool.{cases_lt, ltb-true, ltb-false}
use Rattle.std.proofs.lemmas.Option.{same_Some, none-some, slice_get_within}
use Rattle.bv_term.specs.WellFormed.{Table}
use Rattle.c_typed.specs.Parts.{tree_of}
use Rattle.c_graph.specs.declared.graph.NodeId.{NodeId}
use Rattle.c_graph.specs.declared.graph.Node.{Node}
use Rattle.c_graph.specs.declared.graph.Node.TheVariants.{Plain, Error, End, Call}
use Rattle.c_graph.specs.declared.graph.Edge.{Edge}
use Rattle.c_graph.specs.Shape.{EdgeFits, GoesOn, OperationFits, has_out}
use Rattle.c_graph.specs.Functions.{FnFlow, CallFits, IsFnFlow}
use Rattle.slot_code.specs.declared.flat.Instruction.{Instruction}
use Rattle.code_moves.specs.Setting.{Setting}
use Rattle.slot_code.specs.Values.{Link}
use Rattle.cfg_build.specs.Ranges.{range_of}
use Rattle.cfg_build.specs.Steps.{node_id}
use Rattle.cfg_build.specs.Sizes.{checks_in, nodes_with, nodes_at, nodes_of}
use Rattle.cfg_build.specs.Follows.{Plan, numbered, Exit, Joined, FirstFollow, PlacesFollow}
use Rattle.cfg_build.specs.Graphs.{AreLoops, GraphFollows, FirstGraphs, program_code, program_setting}
use Rattle.cfg_build.specs.Passing.{FollowingMakesFlows}
use Rattle.cfg_build.proofs.Numbers.{get-right}
use Rattle.cfg_build.proofs.Counting.{first-count, follows-count}
use Rattle.cfg_build.proofs.Graphing.{graphs-count}
use Rattle.cfg_build.proofs.Passing.{position-below}
use Rattle.function_graph_laws.proofs.Forms.{Each, each-by, each-joined, all-of, each-found, get-split, Leads, IsPart, part-joined}
use Rattle.function_graph_laws.proofs.Pieces.{AreNodes, last-part, follows-part, opening-part}

-- where a function's code stands, by the name of its type
abbrev of_type : (A : Type 0) → A → Type 0
of_type A x = A

abbrev first_link : Link
first_link = record { function = 0; entry = 0; slot = 0 }

abbrev Range : Type 0
Range = of_type _ (range_of first_link 0 0)

-- ---- Numbers of places

if-some : (b c : Bool) → 1 ≤ (if b then 1 else if c then 2 else 4)
if-some true c = omega arith
if-some false true = omega arith
if-some false false = omega arith

nodes-with-some : (n : ℕ) → 1 ≤ nodes_with n
nodes-with-some n = if-some (nat_eq n 0) (nat_eq n 1)

-- a place whose node has a number of the graph
record IsNumbered (p : Plan) (nodes place : ℕ) : Type 0 where
  pub number : ℕ
  pub there : slice_get p.numbers place ≡ Some number
  pub below : number < nodes

first-numbers : (p : Plan) (g : Setting) (T : Table) (m n : ℕ) (ns : List Node) (es : List Edge) → FirstFollow p g T m n ns es → (k : ℕ) → k < m → IsNumbered p (n + length ns) (p.range.entry + k)
first-numbers p g T zero n ns es h k lt = absurd (omega (arith, lt))
first-numbers p g T (suc m) n ns es h k lt =
    let s = h.second in
    let all : length ns ≡ length h.nodes_first + length h.nodes_second = ap length h.nodes_are ∙ length-append h.nodes_first h.nodes_second in
    let own : length h.nodes_second ≡ nodes_at s.instruction = follows-count p g T _ s.instruction _ h.nodes_second h.edges_second s.follows in
    elim (cases_lt k m) [
      | inl less ↦ (let r = first-numbers p g T m n h.nodes_first h.edges_first h.first k less in record { number = r.number; there = r.there; below = omega (arith, r.below, all) })
      | inr le ↦
          let is : p.range.entry + m ≡ p.range.entry + k = omega (arith, le, lt) in
          record {
            number = n + length h.nodes_first;
            there = ap (slice_get p.numbers) (sym is) ∙ s.number;
            below = omega (arith, all, own, nodes-with-some (checks_in s.instruction));
          }
    ]

numbered-below : (p : Plan) (nodes : ℕ) (o : Option ℕ) (v : ℕ) → o ≡ Some v → v < nodes → (numbered o p.exit).0 < nodes
numbered-below p nodes o v e lt = subst (λ (z : Option ℕ). (numbered z p.exit).0 < nodes) (sym e) lt

are-nodes : (p : Plan) (g : Setting) (T : Table) (n nodes : ℕ) (ns : List Node) (es : List Edge) → n + length ns ≤ nodes → PlacesFollow p g T n ns es → AreNodes p nodes
are-nodes p g T n nodes ns es le h = record { places = λ place. by place (nat_lt place p.range.entry) (nat_lt place p.range.end) refl refl; exit = exit }
  where
    all : length ns ≡ length h.nodes_first + length h.nodes_second
    all = ap length h.nodes_are ∙ length-append h.nodes_first h.nodes_second

    one : length h.nodes_second ≡ 1
    one = ap length h.second.1

    exit : p.exit.0 < nodes
    exit = let e : n + length h.nodes_first ≡ p.exit.0 = ap (λ (v : NodeId). v.0) h.second.0 in omega (arith, e, all, one, le)

    by : (place : ℕ) (b c : Bool) → nat_lt place p.range.entry ≡ b → nat_lt place p.range.end ≡ c → (if b then p.exit else if c then numbered (slice_get p.numbers place) p.exit else p.exit).0 < nodes
    by place true c q r = exit
    by place false true q r =
        let from : p.range.entry ≤ place = ltb-false place p.range.entry q in
        let to : place < p.range.end = ltb-true place p.range.end r in
        let k = first-numbers p g T (p.range.end - p.range.entry) n h.nodes_first h.edges_first h.first (place - p.range.entry) (omega (arith, from, to)) in
        let is : p.range.entry + (place - p.range.entry) ≡ place = omega (arith, from) in
        numbered-below p nodes (slice_get p.numbers place) k.number (ap (slice_get p.numbers) (sym is) ∙ k.there) (omega (arith, k.below, all, le))
    by place false false q r = exit

-- ---- Parts

none-part : (T : Table) (functions nodes n : ℕ) (ns : List Node) (es : List Edge) → ns ≡ [] → es ≡ [] → IsPart T functions nodes n ns es
none-part T functions nodes n ns es e f =
    subst (λ ms. IsPart T functions nodes n ms es) (sym e) (subst (λ fs. IsPart T functions nodes n [] fs) (sym f)
    (record { edges = tt; on = λ k s. absurd (none-some Plain s); calls = λ k function next s. absurd (none-some (Call function next) s); few = omega arith }))

joined-part : (F G : ℕ → List Node → List Edge → Type 0) (T : Table) (functions nodes n : ℕ) (ns : List Node) (es : List Edge) → n + length ns ≤ nodes
    → ((m : ℕ) (ms : List Node) (fs : List Edge) → m + length ms ≤ nodes → F m ms fs → IsPart T functions nodes m ms fs)
    → ((m : ℕ) (ms : List Node) (fs : List Edge) → m + length ms ≤ nodes → G m ms fs → IsPart T functions nodes m ms fs)
    → Joined F G n ns es → IsPart T functions nodes n ns es
joined-part F G T functions nodes n ns es le f g h =
    let all : length ns ≡ length h.nodes_first + length h.nodes_second = ap length h.nodes_are ∙ length-append h.nodes_first h.nodes_second in
    subst (λ ms. IsPart T functions nodes n ms es) (sym h.nodes_are) (subst (λ fs. IsPart T functions nodes n (h.nodes_first ++ h.nodes_second) fs) (sym h.edges_are)
    (part-joined T functions nodes n h.nodes_first h.nodes_second h.edges_first h.edges_second
    (f n h.nodes_first h.edges_first (omega (arith, le, all)) h.first) (g (n + length h.nodes_first) h.nodes_second h.edges_second (omega (arith, le, all)) h.second)))

first-part : (p : Plan) (g : Setting) (T : Table) (functions nodes k n : ℕ) (ns : List Node) (es : List Edge) → AreNodes p nodes → length p.ranges ≤ functions → n + length ns ≤ nodes → FirstFollow p g T k n ns es
    → IsPart T functions nodes n ns es
first-part p g T functions nodes zero n ns es a f le h = none-part T functions nodes n ns es h.0 h.1
first-part p g T functions nodes (suc k) n ns es a f le h =
    joined-part _ _ T functions nodes n ns es le (λ m ms fs l z. first-part p g T functions nodes k m ms fs a f l z)
    (λ m ms fs l z. follows-part p g T _ z.instruction functions nodes m ms fs a f l z.follows) h

places-part : (p : Plan) (g : Setting) (T : Table) (functions nodes n : ℕ) (ns : List Node) (es : List Edge) → AreNodes p nodes → length p.ranges ≤ functions → n + length ns ≤ nodes → PlacesFollow p g T n ns es
    → IsPart T functions nodes n ns es
places-part p g T functions nodes n ns es a f le h =
    joined-part _ (Exit p) T functions nodes n ns es le (λ m ms fs l z. first-part p g T functions nodes _ m ms fs a f l z)
    (λ m ms fs l z. last-part T functions nodes m End ms fs refl refl z.1 z.2) h

-- ---- A function's graph

-- what its nodes and edges are, and how many nodes it has at most
record IsBuilt (T : Table) (functions : ℕ) (p : Plan) (graph : FnFlow) : Type 0 where
  pub part : IsPart T functions (length graph.nodes) 0 graph.nodes graph.edges
  pub nodes : AreNodes p (length graph.nodes)
  pub end : slice_get graph.nodes p.exit.0 ≡ Some End
  pub few : length graph.nodes ≤ 2 + nodes_of p.code

nodes-take : (k : ℕ) (xs : List Instruction) → nodes_of (take k xs) ≤ nodes_of xs
nodes-take zero xs = omega arith
nodes-take (suc k) [] = omega arith
nodes-take (suc k) (x ∷ xs) = omega (arith, nodes-take k xs)

nodes-drop : (k : ℕ) (xs : List Instruction) → nodes_of (drop k xs) ≤ nodes_of xs
nodes-drop zero xs = omega arith
nodes-drop (suc k) [] = omega arith
nodes-drop (suc k) (x ∷ xs) = omega (arith, nodes-drop k xs)

places-few : (p : Plan) (g : Setting) (T : Table) (n : ℕ) (ns : List Node) (es : List Edge) → PlacesFollow p g T n ns es → (1 ≤ length ns) × (length ns ≤ 1 + nodes_of p.code)
places-few p g T n ns es h =
    let all : length ns ≡ length h.nodes_first + length h.nodes_second = ap length h.nodes_are ∙ length-append h.nodes_first h.nodes_second in
    let one : length h.nodes_second ≡ 1 = ap length h.second.1 in
    let own : length h.nodes_first ≡ nodes_of (take (p.range.end - p.range.entry) (drop p.range.entry p.code)) = first-count p g T _ n h.nodes_first h.edges_first h.first in
    (omega (arith, all, one), omega (arith, all, one, own, nodes-take (p.range.end - p.range.entry) (drop p.range.entry p.code), nodes-drop p.range.entry p.code))

-- the exit stands behind these nodes
places-end : (p : Plan) (g : Setting) (T : Table) (n j : ℕ) (ns : List Node) (es : List Edge) → PlacesFollow p g T n ns es → p.exit.0 ≡ n + j → slice_get ns j ≡ Some End
places-end p g T n j ns es h e =
    let q : n + length h.nodes_first ≡ p.exit.0 = ap (λ (v : NodeId). v.0) h.second.0 in
    ap (λ ms. slice_get ms j) h.nodes_are ∙ get-right h.nodes_first h.nodes_second 0 j (omega (arith, q, e)) ∙ ap (λ ms. slice_get ms 0) h.second.1

is-built : (T : Table) (functions : ℕ) (o : Bool) (p : Plan) (g : Setting) (graph : FnFlow) → length p.ranges ≤ functions → GraphFollows o p g T graph → IsBuilt T functions p graph
is-built T functions false p g graph f h =
    let a = are-nodes p g T 0 (length graph.nodes) graph.nodes graph.edges (omega arith) h.1 in
    record {
      part = places-part p g T functions (length graph.nodes) 0 graph.nodes graph.edges a f (omega arith) h.1;
      nodes = a;
      end = places-end p g T 0 p.exit.0 graph.nodes graph.edges h.1 (omega arith);
      few = omega (arith, (places-few p g T 0 graph.nodes graph.edges h.1).1);
    }
is-built T functions true p g graph f h =
    let j = h.1 in
    let m : ℕ = 0 + length j.nodes_first in
    let one : length j.nodes_first ≡ 1 = ap length j.first.nodes_are in
    let all : length graph.nodes ≡ length j.nodes_first + length j.nodes_second = ap length j.nodes_are ∙ length-append j.nodes_first j.nodes_second in
    let some = places-few p g T m j.nodes_second j.edges_second j.second in
    let a = are-nodes p g T m (length graph.nodes) j.nodes_second j.edges_second (omega (arith, all)) j.second in
    let q : length j.nodes_first + (p.exit.0 - length j.nodes_first) ≡ p.exit.0 = (let e : m + length j.second.nodes_first ≡ p.exit.0 = ap (λ (v : NodeId). v.0) j.second.second.0 in omega (arith, e)) in
    record {
      part = subst (λ ms. IsPart T functions (length graph.nodes) 0 ms graph.edges) (sym j.nodes_are) (subst (λ fs. IsPart T functions (length graph.nodes) 0 (j.nodes_first ++ j.nodes_second) fs) (sym j.edges_are)
          (part-joined T functions (length graph.nodes) 0 j.nodes_first j.nodes_second j.edges_first j.edges_second
          (opening-part g T functions (length graph.nodes) 0 j.nodes_first j.edges_first (omega (arith, some.0, all, one)) j.first)
          (places-part p g T functions (length graph.nodes) m j.nodes_second j.edges_second a f (omega (arith, all)) j.second)));
      nodes = a;
      end = ap (λ ms. slice_get ms p.exit.0) j.nodes_are ∙ get-right j.nodes_first j.nodes_second (p.exit.0 - length j.nodes_first) p.exit.0 (omega (arith, q))
          ∙ places-end p g T m (p.exit.0 - length j.nodes_first) j.nodes_second j.edges_second j.second (omega (arith, q));
      few = omega (arith, all, one, some.1);
    }

call-fits : (T : Table) (functions : ℕ) (graph : FnFlow) (x : Node) (k : ℕ) → IsPart T functions (length graph.nodes) 0 graph.nodes graph.edges → ((v : NodeId) → GoesOn graph.nodes graph.edges v) → slice_get graph.nodes k ≡ Some x → CallFits functions graph x
call-fits T functions graph Plain k h on e = tt
call-fits T functions graph (Error kind at) k h on e = tt
call-fits T functions graph End k h on e = tt
call-fits T functions graph (Call function next) k h on e = let c = h.calls k function next e in (c.0, c.1, on next)

edge-fits : (T : Table) (nodes : List Node) (e : Edge) → Leads T (length nodes) 0 nodes e → EdgeFits nodes T e
edge-fits T nodes e l = let z : e.from.0 ≡ l.behind = omega (arith, l.from) in record { from = ap (slice_get nodes) z ∙ l.plain; to = l.to; operations = all-of (OperationFits T) e.ops l.operations }

fn-flow : (T : Table) (functions : ℕ) (p : Plan) (graph : FnFlow) → IsBuilt T functions p graph → nodes_of p.code ≤ 65536 → graph.entry ≡ node_id 0 → AreLoops p graph.loops → IsFnFlow functions T graph
fn-flow T functions p graph h few entry loops =
    record {
      calls = all-of (CallFits functions graph) graph.nodes (each-found (CallFits functions graph) graph.nodes (λ k x e. call-fits T functions graph x k h.part on e));
      few = omega (arith, h.few, few, h.part.few);
      entry = (let e : graph.entry.0 ≡ 0 = ap (λ (v : NodeId). v.0) entry in omega (arith, e, slice_get_within graph.nodes p.exit.0 End h.end));
      edges = all-of (EdgeFits graph.nodes T) graph.edges (each-by (Leads T (length graph.nodes) 0 graph.nodes) (EdgeFits graph.nodes T) graph.edges (λ e l. edge-fits T graph.nodes e l) h.part.edges);
      entry_goes_on = on graph.entry;
      targets_go_on = λ k d lt. on (slice_index_or graph.edges k d).to;
      loops = λ k d lt. (let l = loops k d lt in subst (λ (v : NodeId). v.0 < length graph.nodes) (sym l.node) (h.nodes.places l.goal));
    }
  where
    on : (v : NodeId) → GoesOn graph.nodes graph.edges v
    on v s = let z : 0 + v.0 ≡ v.0 = omega arith in subst (λ (m : ℕ). has_out graph.edges (node_id m) ≡ true) z (h.part.on v.0 s)

-- ---- All graphs

module _ (code : List Instruction) (numbers : List ℕ) (ranges : List Range) (main : ℕ) (g : Setting) (T : Table) (functions : ℕ) (f : length ranges ≤ functions) (few : nodes_of code ≤ 65536) where
  flows : (k : ℕ) (gs : List FnFlow) (xs : List NodeId) → FirstGraphs code numbers ranges main g T k gs xs → Each (IsFnFlow functions T) gs
  flows zero gs xs h = subst (λ hs. Each (IsFnFlow functions T) hs) (sym h.0) tt
  flows (suc k) gs xs h =
      let p : Plan = record { code = code; numbers = numbers; ranges = ranges; range = h.range; exit = h.exit } in
      let b = is-built T functions _ p g h.graph f h.follows in
      subst (λ hs. Each (IsFnFlow functions T) hs) (sym h.graphs_are)
      (each-joined (IsFnFlow functions T) h.graphs_before (h.graph ∷ []) (flows k h.graphs_before h.exits_before h.before) (fn-flow T functions p h.graph b few (entry-of _ p h.graph h.follows) (loops-of _ p h.graph h.follows), tt))
    where
      entry-of : (o : Bool) (p : Plan) (graph : FnFlow) → GraphFollows o p g T graph → graph.entry ≡ node_id 0
      entry-of true p graph h = h.0
      entry-of false p graph h = h.0

      loops-of : (o : Bool) (p : Plan) (graph : FnFlow) → GraphFollows o p g T graph → AreLoops p graph.loops
      loops-of true p graph h = h.2
      loops-of false p graph h = h.2

  exits-count : (k : ℕ) (gs : List FnFlow) (xs : List NodeId) → FirstGraphs code numbers ranges main g T k gs xs → length xs ≡ k
  exits-count zero gs xs h = ap length h.1
  exits-count (suc k) gs xs h =
      let n : length h.exits_before ≡ k = exits-count k h.graphs_before h.exits_before h.before in
      let m : length xs ≡ length h.exits_before + 1 = ap length h.exits_are ∙ length-append h.exits_before (h.exit ∷ []) in
      omega (arith, n, m)

  returns : (k : ℕ) (gs : List FnFlow) (xs : List NodeId) → FirstGraphs code numbers ranges main g T k gs xs
      → (n : ℕ) (graph : FnFlow) (v : NodeId) → slice_get gs n ≡ Some graph → slice_get xs n ≡ Some v → slice_get graph.nodes v.0 ≡ Some End
  returns zero gs xs h n graph v e q = absurd (none-some graph (ap (λ hs. slice_get hs n) (sym h.0) ∙ e))
  returns (suc k) gs xs h n graph v e q =
      let p : Plan = record { code = code; numbers = numbers; ranges = ranges; range = h.range; exit = h.exit } in
      let gn : length h.graphs_before ≡ k = graphs-count code numbers ranges main g T k h.graphs_before h.exits_before h.before in
      let xn : length h.exits_before ≡ k = exits-count k h.graphs_before h.exits_before h.before in
      elim (get-split h.graphs_before (h.graph ∷ []) n graph (ap (λ hs. slice_get hs n) (sym h.graphs_are) ∙ e)) [
        | inl s ↦ elim (get-split h.exits_before (h.exit ∷ []) n v (ap (λ hs. slice_get hs n) (sym h.exits_are) ∙ q)) [
          | inl r ↦ returns k h.graphs_before h.exits_before h.before n graph v s r
          | inr r ↦ absurd (omega (arith, r.0, slice_get_within h.graphs_before n graph s, gn, xn))
        ]
        | inr s ↦ elim (get-split h.exits_before (h.exit ∷ []) n v (ap (λ hs. slice_get hs n) (sym h.exits_are) ∙ q)) [
          | inl r ↦ absurd (omega (arith, s.0, slice_get_within h.exits_before n v r, gn, xn))
          | inr r ↦
              let is : h.graph ≡ graph = only h.graph graph (n - length h.graphs_before) s.1 in
              let at : h.exit ≡ v = only h.exit v (n - length h.exits_before) r.1 in
              subst (λ (z : FnFlow). slice_get z.nodes v.0 ≡ Some End) is (subst (λ (z : NodeId). slice_get h.graph.nodes z.0 ≡ Some End) at (is-built T functions _ p g h.graph f h.follows).end)
        ]
      ]
    where
      only : {X : Type 0} (x y : X) (j : ℕ) → slice_get (x ∷ []) j ≡ Some y → x ≡ y
      only x y zero e = same_Some x y e
      only x y (suc j) e = absurd (none-some y e)

-- ---- A program

pub following-makes-flows : FollowingMakesFlows
following-makes-flows t order p within h many table cells =
    let code : List Instruction = program_code t order in
    let g : Setting = program_setting t order in
    let count = graphs-count code h.numbers h.ranges p.main g p.terms (length h.ranges) p.graphs p.exits h.follow in
    let f : length h.ranges ≤ length p.graphs = omega (arith, count) in
    let few : nodes_of code ≤ 65536 = omega (arith, within.nodes) in
    record {
      each = all-of (IsFnFlow (length p.graphs) p.terms) p.graphs (flows code h.numbers h.ranges p.main g p.terms (length p.graphs) f few (length h.ranges) p.graphs p.exits h.follow);
      few_cells = omega (arith, within.cells, ap length h.cells);
      cells = cells;
      table = table;
      exits = exits-count code h.numbers h.ranges p.main g p.terms (length p.graphs) f few (length h.ranges) p.graphs p.exits h.follow ∙ sym count;
      returns = returns code h.numbers h.ranges p.main g p.terms (length p.graphs) f few (length h.ranges) p.graphs p.exits h.follow;
      main = omega (arith, many, position-below _ (tree_of t).functions p.main h.main);
    }
