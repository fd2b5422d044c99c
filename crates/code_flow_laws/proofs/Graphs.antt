-- The graph of each function, by its number.
use Rattle.std.proofs.Common.{◌≡◌, ◌⊎◌, inl, inr, ℕ, zero, suc, ◌+◌, ◌-◌, ◌<◌, ◌≤◌, ◌==◌, nat_lt, nat_le, Bool, true, false, if◌then◌else◌, List, [], ◌∷◌, ◌++◌, length, refl, sym, ap, ◌∙◌, subst, arith, Some, slice_get}
use Rattle.std.proofs.lemmas.Bool.{and_parts, ltb-true, leb-true, lt-ltb, le-ltb}
use Rattle.std.proofs.lemmas.Option.{same_Some, slice_get_within}
use Rattle.bv_term.specs.WellFormed.{Table}
use Rattle.slot_code.specs.declared.flat.Instruction.{Instruction}
use Rattle.c_graph.specs.declared.graph.NodeId.{NodeId}
use Rattle.c_graph.specs.declared.graph.Node.{Node}
use Rattle.c_graph.specs.declared.graph.Edge.{Edge}
use Rattle.c_graph.specs.Functions.{FnFlow}
use Rattle.code_moves.specs.Setting.{Setting}
use Rattle.code_flow_laws.proofs.Ranging.{Range}
use Rattle.cfg_build.specs.Steps.{node_id}
use Rattle.cfg_build.specs.Keeping.{is_inside}
use Rattle.cfg_build.specs.Follows.{Plan, FirstFollow, PlacesFollow, node_of, numbered}
use Rattle.cfg_build.specs.Graphs.{GraphFollows, FirstGraphs}
use Rattle.code_flow_laws.proofs.Inside.{Inside, PlaceIn, get-left, inside-all, inside-first, inside-second, place-among, below-last}

get-end : {A : Type 0} (xs : List A) (x : A) (k : ℕ) → length xs ≡ k → slice_get (xs ++ x ∷ []) k ≡ Some x
get-end [] x k e = subst (λ j. slice_get (x ∷ []) j ≡ Some x) e refl
get-end (y ∷ xs) x k e = subst (λ j. slice_get (y ∷ xs ++ x ∷ []) j ≡ Some x) e (get-end xs x (length xs) refl)

length-more : {A : Type 0} (xs : List A) (x : A) → length (xs ++ x ∷ []) ≡ suc (length xs)
length-more [] x = refl
length-more (y ∷ xs) x = ap suc (length-more xs x)

-- a place's node has its number
abbrev pub IsNode : List ℕ → ℕ → NodeId → Type 0
IsNode numbers place v = (n : ℕ) × (slice_get numbers place ≡ Some n) × (v ≡ node_id n)

-- the number of a function's first place: in main's graph the opening stands before it
abbrev pub first_of : Bool → ℕ
first_of true = 1
first_of false = 0

-- ---- Places of a range

pub record Within (r : Range) (place : ℕ) : Type 0 where
  pub from : r.entry ≤ place
  pub to : place < r.end

pub within : (r : Range) (place : ℕ) → is_inside r place ≡ true → Within r place
within r place e =
    let both = and_parts (nat_le r.entry place) (nat_lt place r.end) e in
    record { from = leb-true r.entry place both.0; to = ltb-true place r.end both.1 }

module _ (code : List Instruction) (numbers : List ℕ) (ranges : List Range) (main : ℕ) (g : Setting) (table : Table) where
  abbrev pub plan : Range → NodeId → Plan
  plan range exit = record { code = code; numbers = numbers; ranges = ranges; range = range; exit = exit }

  -- the graph and the exit of a function that has this range
  pub record FunctionOf (graphs : List FnFlow) (exits : List NodeId) (k : ℕ) (range : Range) : Type 0 where
    pub graph : FnFlow
    pub exit : NodeId
    pub range_is : slice_get ranges k ≡ Some range
    pub graph_is : slice_get graphs k ≡ Some graph
    pub exit_is : slice_get exits k ≡ Some exit
    pub follows : GraphFollows (range.function == main) (plan range exit) g table graph

  counted : (n : ℕ) (graphs : List FnFlow) (exits : List NodeId) → FirstGraphs code numbers ranges main g table n graphs exits → (length graphs ≡ n) × (length exits ≡ n)
  counted zero graphs exits h = (ap length h.0, ap length h.1)
  counted (suc n) graphs exits h =
      let before = counted n h.graphs_before h.exits_before h.before in
      (ap length h.graphs_are ∙ length-more h.graphs_before h.graph ∙ ap suc before.0, ap length h.exits_are ∙ length-more h.exits_before h.exit ∙ ap suc before.1)

  function-last : (n : ℕ) (graphs : List FnFlow) (exits : List NodeId) (k : ℕ) (range : Range) (h : FirstGraphs code numbers ranges main g table (suc n) graphs exits) → slice_get ranges k ≡ Some range
      → (k < n → FunctionOf h.graphs_before h.exits_before k range) → (k < n) ⊎ (k ≡ n) → FunctionOf graphs exits k range
  function-last n graphs exits k range h there earlier (inl before) =
      let f = earlier before in
      record {
        graph = f.graph;
        exit = f.exit;
        range_is = there;
        graph_is = subst (λ xs. slice_get xs k ≡ Some f.graph) (sym h.graphs_are) (get-left h.graphs_before (h.graph ∷ []) k f.graph f.graph_is);
        exit_is = subst (λ xs. slice_get xs k ≡ Some f.exit) (sym h.exits_are) (get-left h.exits_before (h.exit ∷ []) k f.exit f.exit_is);
        follows = f.follows;
      }
  function-last n graphs exits k range h there earlier (inr same) =
      let lengths = counted n h.graphs_before h.exits_before h.before in
      let it : h.range ≡ range = same_Some h.range range (sym h.there ∙ ap (slice_get ranges) (sym same) ∙ there) in
      record {
        graph = h.graph;
        exit = h.exit;
        range_is = there;
        graph_is = subst (λ xs. slice_get xs k ≡ Some h.graph) (sym h.graphs_are) (get-end h.graphs_before h.graph k (lengths.0 ∙ sym same));
        exit_is = subst (λ xs. slice_get xs k ≡ Some h.exit) (sym h.exits_are) (get-end h.exits_before h.exit k (lengths.1 ∙ sym same));
        follows = subst (λ (r : Range). GraphFollows (r.function == main) (plan r h.exit) g table h.graph) it h.follows;
      }

  function-at : (n : ℕ) (graphs : List FnFlow) (exits : List NodeId) (k : ℕ) (range : Range) → FirstGraphs code numbers ranges main g table n graphs exits → k < n → slice_get ranges k ≡ Some range
      → FunctionOf graphs exits k range
  function-at zero graphs exits k range h less there = absurd (omega (arith, less))
  function-at (suc n) graphs exits k range h less there =
      function-last n graphs exits k range h there (λ before. function-at n h.graphs_before h.exits_before k range h.before before there) (below-last k n less)

  pub function-of : (graphs : List FnFlow) (exits : List NodeId) (k : ℕ) (range : Range) → FirstGraphs code numbers ranges main g table (length ranges) graphs exits → slice_get ranges k ≡ Some range
      → FunctionOf graphs exits k range
  function-of graphs exits k range h there = function-at (length ranges) graphs exits k range h (slice_get_within ranges k range there) there

  -- ---- Places of a function's graph

  places-in : (n : ℕ) (range : Range) (exit : NodeId) (nodes : List Node) (edges : List Edge) (all : List Node) (leads : List Edge)
      → PlacesFollow (plan range exit) g table n nodes edges → Inside n nodes edges all leads
      → (i : ℕ) → i < range.end - range.entry → PlaceIn (plan range exit) g table (range.entry + i) all leads
  places-in n range exit nodes edges all leads h w i less =
      place-among (plan range exit) g table all leads (range.end - range.entry) n i h.nodes_first h.edges_first h.first (inside-first _ _ n nodes edges all leads h w) less

  places-of : (b : Bool) (range : Range) (exit : NodeId) (graph : FnFlow) → GraphFollows b (plan range exit) g table graph
      → (i : ℕ) → i < range.end - range.entry → PlaceIn (plan range exit) g table (range.entry + i) graph.nodes graph.edges
  places-of true range exit graph h i less =
      places-in _ range exit h.1.nodes_second h.1.edges_second graph.nodes graph.edges h.1.second (inside-second _ _ 0 graph.nodes graph.edges graph.nodes graph.edges h.1 (inside-all graph.nodes graph.edges)) i less
  places-of false range exit graph h i less = places-in 0 range exit graph.nodes graph.edges graph.nodes graph.edges h.1 (inside-all graph.nodes graph.edges) i less

  -- what stands for a place of a function
  pub place-of : (graphs : List FnFlow) (exits : List NodeId) (k : ℕ) (range : Range) (f : FunctionOf graphs exits k range) (place : ℕ) → is_inside range place ≡ true
      → PlaceIn (plan range f.exit) g table place (f.graph).nodes (f.graph).edges
  place-of graphs exits k range f place e =
      let w = within range place e in
      let same : range.entry + (place - range.entry) ≡ place = omega (arith, w.from) in
      subst (λ j. PlaceIn (plan range f.exit) g table j (f.graph).nodes (f.graph).edges) same
      (places-of (range.function == main) range f.exit f.graph f.follows (place - range.entry) (omega (arith, w.from, w.to)))

  -- the node of a place of the function
  pub node-of : (range : Range) (exit : NodeId) (place n : ℕ) → is_inside range place ≡ true → slice_get numbers place ≡ Some n → node_of (plan range exit) place ≡ node_id n
  node-of range exit place n e number =
      let w = within range place e in
      ap (λ b. if b then exit else if nat_lt place range.end then numbered (slice_get numbers place) exit else exit) (le-ltb place range.entry w.from)
      ∙ ap (λ b. if b then numbered (slice_get numbers place) exit else exit) (lt-ltb place range.end w.to)
      ∙ ap (λ o. numbered o exit) number

  pub is-node : (graphs : List FnFlow) (exits : List NodeId) (k : ℕ) (range : Range) (f : FunctionOf graphs exits k range) (place : ℕ) → is_inside range place ≡ true → IsNode numbers place (node_of (plan range f.exit) place)
  is-node graphs exits k range f place e =
      let there = place-of graphs exits k range f place e in
      (there.n, there.stands.number, node-of range f.exit place there.n e there.stands.number)

  -- ---- The first place

  first-number : (k n : ℕ) (range : Range) (exit : NodeId) (nodes : List Node) (edges : List Edge) → FirstFollow (plan range exit) g table (suc k) n nodes edges → slice_get numbers (range.entry + 0) ≡ Some n
  first-number zero n range exit nodes edges h =
      let same : n + length h.nodes_first ≡ n = ap (λ xs. n + length xs) h.first.0 ∙ omega arith in
      subst (λ m. slice_get numbers (range.entry + 0) ≡ Some m) same h.second.number
  first-number (suc k) n range exit nodes edges h = first-number k n range exit h.nodes_first h.edges_first h.first

  first-place : (c n : ℕ) (range : Range) (exit : NodeId) (nodes : List Node) (edges : List Edge) → range.end - range.entry ≡ suc c → PlacesFollow (plan range exit) g table n nodes edges
      → slice_get numbers range.entry ≡ Some n
  first-place c n range exit nodes edges e h =
      let same : range.entry + 0 ≡ range.entry = omega arith in
      subst (λ j. slice_get numbers j ≡ Some n) same
      (first-number c n range exit h.nodes_first h.edges_first (subst (λ k. FirstFollow (plan range exit) g table k n h.nodes_first h.edges_first) e h.first))

  first-in : (c : ℕ) (b : Bool) (range : Range) (exit : NodeId) (graph : FnFlow) → range.end - range.entry ≡ suc c → GraphFollows b (plan range exit) g table graph → slice_get numbers range.entry ≡ Some (first_of b)
  first-in c true range exit graph e h =
      let count : length h.1.nodes_first ≡ 1 = ap length h.1.first.nodes_are in
      let one : 0 + length h.1.nodes_first ≡ 1 = omega (arith, count) in
      subst (λ n. slice_get numbers range.entry ≡ Some n) one (first-place c _ range exit h.1.nodes_second h.1.edges_second e h.1.second)
  first-in c false range exit graph e h = first-place c 0 range exit graph.nodes graph.edges e h.1

  -- the number of a function's first place
  pub first-of : (graphs : List FnFlow) (exits : List NodeId) (k : ℕ) (range : Range) → FunctionOf graphs exits k range → range.entry < range.end → slice_get numbers range.entry ≡ Some (first_of (range.function == main))
  first-of graphs exits k range f some =
      first-in (range.end - range.entry - 1) (range.function == main) range f.exit f.graph (omega (arith, some)) f.follows

  -- the graph of a function begins with its first node
  entry-in : (b : Bool) (range : Range) (exit : NodeId) (graph : FnFlow) → GraphFollows b (plan range exit) g table graph → graph.entry ≡ node_id 0
  entry-in true range exit graph h = h.0
  entry-in false range exit graph h = h.0

  pub entry-of : (graphs : List FnFlow) (exits : List NodeId) (k : ℕ) (range : Range) (f : FunctionOf graphs exits k range) → (f.graph).entry ≡ node_id 0
  entry-of graphs exits k range f = entry-in (range.function == main) range f.exit f.graph f.follows
