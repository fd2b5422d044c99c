-- Each instruction's nodes lead on by one edge or by two that exclude each other, and so do those of all.
use Rattle.std.proofs.Common.{◌≡◌, inl, inr, ◌∙◌, ℕ, ◌+◌, ◌-◌, ◌<◌, ◌≤◌, ◌==◌, Bool, true, false, length, length-append, List, [], ◌∷◌, ◌++◌, Some, suc, zero, slice_get, arith, ap, ap₂, sym, subst, refl, ne_eqb}
use Rattle.std.specs.Prelude.{if◌then◌else◌}
use Rattle.std.proofs.lemmas.Option.{none-some, same_Some}
use Rattle.bv_term.specs.declared.term.TermId.{TermId}
use Rattle.bv_term.specs.WellFormed.{Table}
use Rattle.bv_term.specs.Numbers.{complement_in}
use Rattle.c_graph.specs.declared.graph.NodeId.{NodeId}
use Rattle.c_graph.specs.declared.graph.Node.{Node}
use Rattle.c_graph.specs.declared.graph.Node.TheVariants as node
use Rattle.c_graph.specs.declared.graph.Operation.{Operation}
use Rattle.c_graph.specs.declared.graph.Operation.TheVariants.{Assume}
use Rattle.c_graph.specs.declared.graph.Edge.{Edge}
use Rattle.c_graph.specs.Functions.{FnFlow, Flows}
use Rattle.c_graph.specs.Parts.{error_flows, error_function}
use Rattle.c_terms.specs.declared.failing.Tests.{Tests}
use Rattle.c_terms.specs.declared.failing.Tests.TheVariants as t
use Rattle.slot_code.specs.declared.flat.Instruction.{Instruction}
use Rattle.slot_code.specs.declared.flat.Instruction.TheVariants as i
use Rattle.code_moves.specs.Setting.{Setting}
use Rattle.cfg_build.specs.Steps.{Checked, Fork, IsTurned, Passes, Way, checked_edges, checked_nodes, edge, node_id}
use Rattle.cfg_build.specs.Follows.{Calls, Exit, FirstFollow, Follows, Joined, Last, PlacesFollow, Plan, StandsAt}
use Rattle.cfg_build.specs.Graphs.{FirstGraphs, GraphFollows, Opening, program_code, program_setting}
use Rattle.edge_count_laws.specs.Branching.{AreTwo, Branches, GraphsBranch, leading}
use Rattle.edge_count_laws.proofs.Counting.{Range}

-- ---- Edges that lead from a node

hit : (v : ℕ) (e : Edge) (es : List Edge) → e.from.0 ≡ v → leading v (e ∷ es) ≡ e ∷ leading v es
hit v e es is = ap (λ (b : Bool). if b then e ∷ leading v es else leading v es) (same e.from.0 v is)
  where
    same : (a b : ℕ) → a ≡ b → (a == b) ≡ true
    same a b is = grind arith

miss : (v : ℕ) (e : Edge) (es : List Edge) → (e.from.0 ≡ v → ⊥) → leading v (e ∷ es) ≡ leading v es
miss v e es other = ap (λ (b : Bool). if b then e ∷ leading v es else leading v es) (ne_eqb e.from.0 v other)

leading-append : (v : ℕ) (es fs : List Edge) → leading v (es ++ fs) ≡ leading v es ++ leading v fs
leading-append v [] fs = refl
leading-append v (e ∷ es) fs = go (e.from.0 == v) (leading-append v es fs)
  where
    go : (b : Bool) → leading v (es ++ fs) ≡ leading v es ++ leading v fs
        → (if b then e ∷ leading v (es ++ fs) else leading v (es ++ fs)) ≡ (if b then e ∷ leading v es else leading v es) ++ leading v fs
    go true more = ap (λ (xs : List Edge). e ∷ xs) more
    go false more = more

-- ---- Nodes from a number on, with their edges

pub record IsSegment (table : Table) (n : ℕ) (nodes : List Node) (edges : List Edge) : Type 0 where
  pub before : (v : ℕ) → v < n → leading v edges ≡ []
  pub behind : (v : ℕ) → n + length nodes ≤ v → leading v edges ≡ []
  pub branches : (j : ℕ) (x : Node) → slice_get nodes j ≡ Some x → Branches table x (leading (n + j) edges)

segment-by : (table : Table) (n : ℕ) (nodes ns : List Node) (edges es : List Edge) → nodes ≡ ns → edges ≡ es → IsSegment table n ns es → IsSegment table n nodes edges
segment-by table n nodes ns edges es en ee s =
    subst (λ (xs : List Node). IsSegment table n xs edges) (sym en) (subst (λ (xs : List Edge). IsSegment table n ns xs) (sym ee) s)

-- an item of two lists is one of the first or of the second
pub data Splits {X : Type 0} (xs ys : List X) (j : ℕ) (x : X) : Type 0 where
  in_first : j < length xs → slice_get xs j ≡ Some x → Splits xs ys j x
  in_second : (k : ℕ) → j ≡ length xs + k → slice_get ys k ≡ Some x → Splits xs ys j x

more-split : {X : Type 0} (y : X) (xs ys : List X) (j : ℕ) (x : X) → Splits xs ys j x → Splits (y ∷ xs) ys (suc j) x
more-split y xs ys j x (in_first lt e) = in_first (omega (arith, lt)) e
more-split y xs ys j x (in_second k is e) = in_second k (omega (arith, is)) e

split : {X : Type 0} (xs ys : List X) (j : ℕ) (x : X) → slice_get (xs ++ ys) j ≡ Some x → Splits xs ys j x
split [] ys j x e = in_second j (omega arith) e
split (y ∷ xs) ys zero x e = in_first (omega arith) e
split (y ∷ xs) ys (suc j) x e = more-split y xs ys j x (split xs ys j x e)

none-append : (xs ys : List Edge) → xs ≡ [] → ys ≡ [] → xs ++ ys ≡ []
none-append xs ys a b = ap₂ (λ (x y : List Edge). x ++ y) a b

append-none : (xs : List Edge) → xs ++ [] ≡ xs
append-none [] = refl
append-none (x ∷ xs) = ap (λ (ys : List Edge). x ∷ ys) (append-none xs)

module _ (table : Table) (n : ℕ) (ns ms : List Node) (es fs : List Edge) (a : IsSegment table n ns es) (b : IsSegment table (n + length ns) ms fs) where
  branch-joined : (j : ℕ) (x : Node) → Splits ns ms j x → Branches table x (leading (n + j) (es ++ fs))
  branch-joined j x (in_first lt e) =
      let none : leading (n + j) fs ≡ [] = b.before (n + j) (omega (arith, lt)) in
      let is : leading (n + j) (es ++ fs) ≡ leading (n + j) es =
      leading-append (n + j) es fs ∙ ap (λ (xs : List Edge). leading (n + j) es ++ xs) none ∙ append-none (leading (n + j) es) in
      subst (Branches table x) (sym is) (a.branches j x e)
  branch-joined j x (in_second k at e) =
      let none : leading (n + j) es ≡ [] = a.behind (n + j) (omega (arith, at)) in
      let place : n + j ≡ (n + length ns) + k = omega (arith, at) in
      let is : leading (n + j) (es ++ fs) ≡ leading ((n + length ns) + k) fs =
      leading-append (n + j) es fs ∙ ap (λ (xs : List Edge). xs ++ leading (n + j) fs) none ∙ ap (λ (v : ℕ). leading v fs) place in
      subst (Branches table x) (sym is) (b.branches k x e)

  joined : IsSegment table n (ns ++ ms) (es ++ fs)
  joined = record {
    before = λ v lt. leading-append v es fs ∙ none-append (leading v es) (leading v fs) (a.before v lt) (b.before v (omega (arith, lt)));
    behind = λ v le.
        let long : length (ns ++ ms) ≡ length ns + length ms = length-append ns ms in
        leading-append v es fs ∙ none-append (leading v es) (leading v fs) (a.behind v (omega (arith, le, long))) (b.behind v (omega (arith, le, long)));
    branches = λ j x e. branch-joined j x (split ns ms j x e);
  }

-- ---- What stands for an instruction

-- the first of two nodes is the same
first-is : {X : Type 0} (x y : X) (xs : List X) → slice_get (x ∷ xs) 0 ≡ Some y → x ≡ y
first-is x y xs e = same_Some x y e

-- a node that leads nowhere
module _ (table : Table) (n : ℕ) (x : Node) (ends : Branches table x []) where
  alone-branches : (j : ℕ) (y : Node) → slice_get (x ∷ []) j ≡ Some y → Branches table y []
  alone-branches zero y e = subst (λ (z : Node). Branches table z []) (same_Some x y e) ends
  alone-branches (suc j) y e = absurd (none-some y e)

  alone : IsSegment table n (x ∷ []) []
  alone = record { before = λ v lt. refl; behind = λ v le. refl; branches = alone-branches }

-- a node with one edge
module _ (table : Table) (n : ℕ) (e : Edge) (from : e.from.0 ≡ n) where
  one-branches : (j : ℕ) (y : Node) → slice_get (node.Plain ∷ []) j ≡ Some y → Branches table y (leading (n + j) (e ∷ []))
  one-branches zero y is =
      let here : leading (n + 0) (e ∷ []) ≡ e ∷ [] = hit (n + 0) e [] (omega (arith, from)) in
      subst (λ (z : Node). Branches table z (leading (n + 0) (e ∷ []))) (same_Some node.Plain y is) (inl (e, here))
  one-branches (suc j) y is = absurd (none-some y is)

  one-way : IsSegment table n (node.Plain ∷ []) (e ∷ [])
  one-way = record {
    before = λ v lt. miss v e [] (λ is. omega (arith, lt, is, from));
    behind = λ v le. miss v e [] (λ is. omega (arith, le, is, from));
    branches = one-branches;
  }

-- a node with two
module _ (table : Table) (n : ℕ) (e f : Edge) (from : e.from.0 ≡ n) (also : f.from.0 ≡ n) (test turned : TermId) (rest : List Operation)
    (assumes : e.ops ≡ Assume test ∷ []) (excludes : f.ops ≡ Assume turned ∷ rest) (turns : IsTurned table turned test) where
  two-branches : (j : ℕ) (y : Node) → slice_get (node.Plain ∷ []) j ≡ Some y → Branches table y (leading (n + j) (e ∷ f ∷ []))
  two-branches zero y is =
      let here : leading (n + 0) (e ∷ f ∷ []) ≡ e ∷ f ∷ [] =
      hit (n + 0) e (f ∷ []) (omega (arith, from)) ∙ ap (λ (xs : List Edge). e ∷ xs) (hit (n + 0) f [] (omega (arith, also))) in
      let two : AreTwo table (leading (n + 0) (e ∷ f ∷ [])) =
      record { first = e; second = f; test = test; turned = turned; rest = rest; are = here; assumes = assumes; excludes = excludes; turns = turns } in
      subst (λ (z : Node). Branches table z (leading (n + 0) (e ∷ f ∷ []))) (same_Some node.Plain y is) (inr two)
  two-branches (suc j) y is = absurd (none-some y is)

  two-ways : IsSegment table n (node.Plain ∷ []) (e ∷ f ∷ [])
  two-ways = record {
    before = λ v lt. miss v e (f ∷ []) (λ is. omega (arith, lt, is, from)) ∙ miss v f [] (λ is. omega (arith, lt, is, also));
    behind = λ v le. miss v e (f ∷ []) (λ is. omega (arith, le, is, from)) ∙ miss v f [] (λ is. omega (arith, le, is, also));
    branches = two-branches;
  }

next-to : (table : Table) (n m : ℕ) (nodes : List Node) (edges : List Edge) → n ≡ m → IsSegment table n nodes edges → IsSegment table m nodes edges
next-to table n m nodes edges is s = subst (λ (k : ℕ). IsSegment table k nodes edges) is s

fork-branches : (table : Table) (f : List ℕ → ℕ) (to other : NodeId) (n : ℕ) (nodes : List Node) (edges : List Edge) → Fork table f to other n nodes edges → IsSegment table n nodes edges
fork-branches table f to other n nodes edges h =
    segment-by table n nodes _ edges _ h.nodes_are h.edges_are
    (two-ways table n _ _ refl refl h.test h.turned [] refl refl
    (λ store. record { there = (h.turns store).there; width = (h.turns store).width; told = (h.turns store).told ∙ ap (complement_in 1) (sym (h.tells store).told) }))

tests-branch : (table : Table) (at n : ℕ) (next : NodeId) (tests : Tests) (passed last : TermId) (ops : List Operation) → Passes table tests passed last
    → IsSegment table n (checked_nodes at tests) (checked_edges n next tests passed last ops)
tests-branch table at n next t.None passed last ops passes = one-way table n (edge (node_id n) next ops) refl
tests-branch table at n next (t.One f) passed last ops passes =
    let check = two-ways table n (edge (node_id n) (node_id (n + 1)) (Assume f.when ∷ [])) (edge (node_id n) next (Assume passed ∷ ops)) refl refl f.when passed ops refl refl passes in
    joined table n (node.Plain ∷ []) (node.Error f.kind at ∷ []) _ [] check (alone table (n + 1) (node.Error f.kind at) refl)
tests-branch table at n next (t.Two f g) passed last ops passes =
    let first = two-ways table n (edge (node_id n) (node_id (n + 1)) (Assume f.when ∷ [])) (edge (node_id n) (node_id (n + 2)) (Assume passed ∷ [])) refl refl f.when passed [] refl refl passes.0 in
    let second = two-ways table (n + 2) (edge (node_id (n + 2)) (node_id (n + 3)) (Assume g.when ∷ [])) (edge (node_id (n + 2)) next (Assume last ∷ ops)) refl refl g.when last ops refl refl passes.1 in
    let one = joined table n (node.Plain ∷ []) (node.Error f.kind at ∷ []) _ [] first (alone table (n + 1) (node.Error f.kind at) refl) in
    let other = joined table (n + 2) (node.Plain ∷ []) (node.Error g.kind at ∷ []) _ [] second (alone table ((n + 2) + 1) (node.Error g.kind at) refl) in
    joined table n (node.Plain ∷ node.Error f.kind at ∷ []) (node.Plain ∷ node.Error g.kind at ∷ []) _ _ one other

checked-branches : (g : Setting) (table : Table) (x : Instruction) (next : NodeId) (n : ℕ) (nodes : List Node) (edges : List Edge) → Checked g table x next n nodes edges → IsSegment table n nodes edges
checked-branches g table x next n nodes edges h =
    segment-by table n nodes _ edges _ h.behind.nodes_are h.behind.edges_are
    (tests-branch table _ n next h.tests h.behind.passed h.behind.last h.behind.ops h.behind.passes)

module _ (p : Plan) (g : Setting) (table : Table) where
  last-branches : (x : Node) → Branches table x [] → (n : ℕ) (nodes : List Node) (edges : List Edge) → Last x n nodes edges → IsSegment table n nodes edges
  last-branches x ends n nodes edges h = segment-by table n nodes _ edges _ h.0 h.1 (alone table n x ends)

  way-branches : (to : NodeId) (n : ℕ) (nodes : List Node) (edges : List Edge) → Way to n nodes edges → IsSegment table n nodes edges
  way-branches to n nodes edges h = segment-by table n nodes _ edges _ h.0 h.1 (one-way table n _ refl)

  calls-branch : (place slot : ℕ) (next : NodeId) (n : ℕ) (nodes : List Node) (edges : List Edge) → Calls p g place slot next n nodes edges → IsSegment table n nodes edges
  calls-branch place slot next n nodes edges h = segment-by table n nodes _ edges _ h.nodes_are h.edges_are (alone table n _ refl)

  follows-branch : (place : ℕ) (x : Instruction) (n : ℕ) (nodes : List Node) (edges : List Edge) → Follows p g table place x n nodes edges → IsSegment table n nodes edges
  follows-branch place (i.Fail kind at) n nodes edges h = last-branches (node.Error kind at) refl n nodes edges h
  follows-branch place i.Stop n nodes edges h = last-branches node.End refl n nodes edges h
  follows-branch place (i.Call at goal slot) n nodes edges h = calls-branch goal slot _ n nodes edges h
  follows-branch place (i.Return slot) n nodes edges h = way-branches _ n nodes edges h
  follows-branch place (i.Jump skip) n nodes edges h = way-branches _ n nodes edges h
  follows-branch place (i.Turn at goal) n nodes edges h = way-branches _ n nodes edges h
  follows-branch place (i.SkipZero slot skip) n nodes edges h = fork-branches table _ _ _ n nodes edges h
  follows-branch place (i.SkipEqual slot v skip) n nodes edges h = fork-branches table _ _ _ n nodes edges h
  follows-branch place (i.Constant slot v) n nodes edges h = checked-branches g table (i.Constant slot v) _ n nodes edges h
  follows-branch place (i.Read slot object) n nodes edges h = checked-branches g table (i.Read slot object) _ n nodes edges h
  follows-branch place (i.Element slot at object count) n nodes edges h = checked-branches g table (i.Element slot at object count) _ n nodes edges h
  follows-branch place (i.Locate slot at object count) n nodes edges h = checked-branches g table (i.Locate slot at object count) _ n nodes edges h
  follows-branch place (i.Load slot object) n nodes edges h = checked-branches g table (i.Load slot object) _ n nodes edges h
  follows-branch place (i.Store slot object) n nodes edges h = checked-branches g table (i.Store slot object) _ n nodes edges h
  follows-branch place (i.Convert slot k) n nodes edges h = checked-branches g table (i.Convert slot k) _ n nodes edges h
  follows-branch place (i.Negate slot k at) n nodes edges h = checked-branches g table (i.Negate slot k at) _ n nodes edges h
  follows-branch place (i.Complement slot k at) n nodes edges h = checked-branches g table (i.Complement slot k at) _ n nodes edges h
  follows-branch place (i.Not slot) n nodes edges h = checked-branches g table (i.Not slot) _ n nodes edges h
  follows-branch place (i.Truth slot) n nodes edges h = checked-branches g table (i.Truth slot) _ n nodes edges h
  follows-branch place (i.Binary slot o k at) n nodes edges h = checked-branches g table (i.Binary slot o k at) _ n nodes edges h
  follows-branch place (i.Update slot o k l at object) n nodes edges h = checked-branches g table (i.Update slot o k l at object) _ n nodes edges h
  follows-branch place (i.Change slot before by k at object) n nodes edges h = checked-branches g table (i.Change slot before by k at object) _ n nodes edges h
  follows-branch place (i.Draw slot k) n nodes edges h = checked-branches g table (i.Draw slot k) _ n nodes edges h
  follows-branch place (i.Fill object k count) n nodes edges h = checked-branches g table (i.Fill object k count) _ n nodes edges h
  follows-branch place (i.Begin slot object count values) n nodes edges h = checked-branches g table (i.Begin slot object count values) _ n nodes edges h
  follows-branch place (i.Bind slot object) n nodes edges h = checked-branches g table (i.Bind slot object) _ n nodes edges h
  follows-branch place (i.Take slot at from needed) n nodes edges h = checked-branches g table (i.Take slot at from needed) _ n nodes edges h

  -- ---- All places

  first-branch : (k n : ℕ) (nodes : List Node) (edges : List Edge) → FirstFollow p g table k n nodes edges → IsSegment table n nodes edges
  first-branch zero n nodes edges h = segment-by table n nodes [] edges [] h.0 h.1 (record { before = λ v lt. refl; behind = λ v le. refl; branches = λ j x e. absurd (none-some x e) })
  first-branch (suc k) n nodes edges h =
      let s : StandsAt p g table (p.range.entry + k) (n + length h.nodes_first) h.nodes_second h.edges_second = h.second in
      segment-by table n nodes _ edges _ h.nodes_are h.edges_are
      (joined table n h.nodes_first h.nodes_second h.edges_first h.edges_second (first-branch k n h.nodes_first h.edges_first h.first)
      (follows-branch (p.range.entry + k) s.instruction (n + length h.nodes_first) h.nodes_second h.edges_second s.follows))

  places-branch : (n : ℕ) (nodes : List Node) (edges : List Edge) → PlacesFollow p g table n nodes edges → IsSegment table n nodes edges
  places-branch n nodes edges h =
      let exit : Exit p (n + length h.nodes_first) h.nodes_second h.edges_second = h.second in
      segment-by table n nodes _ edges _ h.nodes_are h.edges_are
      (joined table n h.nodes_first h.nodes_second h.edges_first h.edges_second (first-branch (p.range.end - p.range.entry) n h.nodes_first h.edges_first h.first)
      (segment-by table (n + length h.nodes_first) h.nodes_second _ h.edges_second _ exit.1 exit.2 (alone table (n + length h.nodes_first) node.End refl)))

  graph-branches : (main : Bool) (graph : FnFlow) → GraphFollows main p g table graph → IsSegment table 0 graph.nodes graph.edges
  graph-branches false graph h = places-branch 0 graph.nodes graph.edges h.1
  graph-branches true graph h =
      let j : Joined (Opening g table) (PlacesFollow p g table) 0 graph.nodes graph.edges = h.1 in
      let opening : Opening g table 0 j.nodes_first j.edges_first = j.first in
      segment-by table 0 graph.nodes _ graph.edges _ j.nodes_are j.edges_are
      (joined table 0 j.nodes_first j.nodes_second j.edges_first j.edges_second
      (segment-by table 0 j.nodes_first _ j.edges_first _ opening.nodes_are opening.edges_are (one-way table 0 _ refl))
      (places-branch (0 + length j.nodes_first) j.nodes_second j.edges_second j.second))

-- ---- All functions

abbrev EachBranches : Table → FnFlow → Type 0
EachBranches table f = (v : ℕ) (x : Node) → slice_get f.nodes v ≡ Some x → Branches table x (leading v f.edges)

graphs-branch : (code : List Instruction) (numbers : List ℕ) (ranges : List Range) (main : ℕ) (g : Setting) (table : Table) (n : ℕ) (graphs : List FnFlow) (exits : List NodeId)
    → FirstGraphs code numbers ranges main g table n graphs exits → (k : ℕ) (f : FnFlow) → slice_get graphs k ≡ Some f → EachBranches table f
graphs-branch code numbers ranges main g table zero graphs exits h k f s = absurd (none-some f (subst (λ (x : List FnFlow). slice_get x k ≡ Some f) h.0 s))
graphs-branch code numbers ranges main g table (suc n) graphs exits h k f s =
    by-place (split h.graphs_before (h.graph ∷ []) k f (subst (λ (x : List FnFlow). slice_get x k ≡ Some f) h.graphs_are s))
    (λ j t. graphs-branch code numbers ranges main g table n h.graphs_before h.exits_before h.before j f t)
  where
    plan : Plan
    plan = record { code = code; numbers = numbers; ranges = ranges; range = h.range; exit = h.exit }

    own : EachBranches table h.graph
    own v x e =
        let place : 0 + v ≡ v = omega arith in
        subst (λ (k : ℕ). Branches table x (leading k h.graph.edges)) place ((graph-branches plan g table (h.range.function == main) h.graph h.follows).branches v x e)

    in-last : (j : ℕ) → slice_get (h.graph ∷ []) j ≡ Some f → EachBranches table f
    in-last zero e = subst (EachBranches table) (same_Some h.graph f e) own
    in-last (suc j) e = absurd (none-some f e)

    by-place : Splits h.graphs_before (h.graph ∷ []) k f → ((j : ℕ) → slice_get h.graphs_before j ≡ Some f → EachBranches table f) → EachBranches table f
    by-place (in_first lt e) more = more k e
    by-place (in_second j is e) more = in-last j e

errors-branch : (k : ℕ) (g : FnFlow) → slice_get error_flows.graphs k ≡ Some g → EachBranches error_flows.terms g
errors-branch zero g s = subst (EachBranches error_flows.terms) (same_Some error_function g s) own
  where
    own : EachBranches error_flows.terms error_function
    own zero x e = subst (λ (z : Node). Branches error_flows.terms z []) (same_Some _ x e) refl
    own (suc zero) x e = subst (λ (z : Node). Branches error_flows.terms z []) (same_Some _ x e) refl
    own (suc (suc v)) x e = absurd (none-some x e)
errors-branch (suc k) g s = absurd (none-some g s)

pub graphs-branch-all : GraphsBranch
graphs-branch-all t order p k g v x (inl h) there is =
    graphs-branch (program_code t order) h.numbers h.ranges p.main (program_setting t order) p.terms (length h.ranges) p.graphs p.exits h.follow k g there v x is
graphs-branch-all t order p k g v x (inr e) there is =
    let own : slice_get error_flows.graphs k ≡ Some g = subst (λ (q : Flows). slice_get q.graphs k ≡ Some g) e there in
    subst (λ (q : Flows). Branches q.terms x (leading v g.edges)) (sym e) (errors-branch k g own v x is)
