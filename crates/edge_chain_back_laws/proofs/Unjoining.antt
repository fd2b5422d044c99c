-- A run along a joined edge, edge by edge of the chain.
use Rattle.std.proofs.Common.{◌≡◌, Bool, ◌⊎◌, inl, inr, ℕ, ℤ, ◌+◌, ◌*◌, ◌<◌, ◌≤◌, List, [], ◌∷◌, ◌++◌, Option, Some, None, refl, sym, ap, ◌∙◌, subst, suc, zero, length, slice_get, arith, append_assoc}
use Rattle.std.proofs.Math.Nat.{suc-mul}
use Rattle.std.proofs.lemmas.Option.{slice_get_within}
use Rattle.bv_term.specs.WellFormed.{Table}
use Rattle.c_graph.specs.declared.graph.NodeId.{NodeId}
use Rattle.c_graph.specs.declared.graph.EdgeId.{EdgeId}
use Rattle.c_graph.specs.declared.graph.Edge.{Edge}
use Rattle.c_graph.specs.declared.graph.Operation.{Operation}
use Rattle.c_graph.specs.declared.graph.Node.TheVariants.{Plain}
use Rattle.c_graph.specs.Chains.{source_of}
use Rattle.c_graph.specs.Shape.{Flow, IsFlow}
use Rattle.c_graph.specs.Steps.{Moment, moment, operated, operated_all}
use Rattle.c_graph.specs.Runs.{RunsAlong}
use Rattle.c_graph.proofs.Keeping.{edge-fits}
use Rattle.graph_walk_laws.proofs.Consuming.{taken}
use Rattle.edge_chains.specs.Joining.{Among, Follows, IsJoined}
use Rattle.edge_chain_laws.specs.Keeping.{with_edges}
use Rattle.program_graphs.specs.Weighing.{cost_of, total}
use Rattle.edge_chain_back_laws.specs.Returning.{ChainsComeBack, ChainErrorsComeBack, ChainPathsComeBack, OwnPathsComeBack}
use Rattle.edge_chain_back_laws.proofs.Weights.{Falls, Remains, chain-cost, source-is, sources, weighs-less}

abbrev edge_id : ℕ → EdgeId
edge_id k = record { 0 = k }

none-stays : (table : Table) (ops : List Operation) → operated_all table ops None ≡ None
none-stays table [] = refl
none-stays table (op ∷ ops) = refl

some-or-none : (o : Option Moment) → (o ≡ None) ⊎ ((m : Moment) × (o ≡ Some m))
some-or-none None = inl refl
some-or-none (Some m) = inr (m, refl)

-- operations after operations
in-parts : (table : Table) (xs ys : List Operation) (r : Option Moment) → operated_all table (xs ++ ys) r ≡ operated_all table ys (operated_all table xs r)
in-parts table xs ys None = none-stays table (xs ++ ys) ∙ sym (none-stays table ys) ∙ ap (operated_all table ys) (sym (none-stays table xs))
in-parts table [] ys (Some m) = refl
in-parts table (op ∷ xs) ys (Some m) = in-parts table xs ys (operated table op m)

-- what is between two lists of operations
between : (table : Table) (xs ys : List Operation) (m a : Moment) → operated_all table (xs ++ ys) (Some m) ≡ Some a
    → (mid : Moment) × (operated_all table xs (Some m) ≡ Some mid) × (operated_all table ys (Some mid) ≡ Some a)
between table xs ys m a h = elim (some-or-none (operated_all table xs (Some m))) [
  | inl e ↦
      let q : None ≡ Some a = sym (none-stays table ys) ∙ sym (ap (operated_all table ys) e) ∙ sym (in-parts table xs ys (Some m)) ∙ h in
      absurd (let z : None ≡ Some a = q in cc)
  | inr e ↦ (e.0, e.1, sym (ap (operated_all table ys) e.1) ∙ sym (in-parts table xs ys (Some m)) ∙ h)
]

-- an edge, and a run behind it
one-edge : (g : Flow) (e : Edge) (s : List ℕ) (draws : List ℤ) (mid : Moment) (later : List ℤ) (w : NodeId) (after : List ℕ) (there : Among g.edges e) (path : List EdgeId)
    → operated_all g.terms e.ops (Some (moment s draws)) ≡ Some mid → RunsAlong g path e.to mid.store (mid.inputs ++ later) w after
    → RunsAlong g (edge_id there.0 ∷ path) e.from s (draws ++ later) w after
one-edge g e s draws mid later w after there path go run =
    let (first, split, leads) = taken g.terms e.ops (moment s draws) mid go in
    let all : draws ++ later ≡ first ++ (mid.inputs ++ later) = ap (λ (z : List ℤ). z ++ later) split ∙ append_assoc first mid.inputs later in
    (e, there.1, refl, (mid.store, first, mid.inputs ++ later, all, leads, run))

-- all that follows a node, and a run behind it
abbrev Onward : Flow → (ℕ → Bool) → ℕ → NodeId → List ℕ → List ℤ → NodeId → List ℕ → List EdgeId → Type 0
Onward g inner n v s draws w after path =
    (front : List EdgeId) × (RunsAlong g (front ++ path) v s draws w after × Falls inner g.edges n (sources g.edges front))

chain : (g : Flow) (inner : ℕ → Bool) (n : ℕ) (ops : List Operation) (v to : NodeId) (s : List ℕ) (draws : List ℤ) (mid : List ℕ) (later : List ℤ) (w : NodeId) (after : List ℕ) (path : List EdgeId)
    → Follows inner g.edges n v ops to → operated_all g.terms ops (Some (moment s draws)) ≡ Some (moment mid []) → RunsAlong g path to mid later w after
    → Onward g inner n v s (draws ++ later) w after path
chain g inner zero ops v to s draws mid later w after path (kept, none, goal) go run =
    let stays : moment s draws ≡ moment mid [] =
    (let q : Some (moment s draws) ≡ Some (moment mid []) = ap (λ (o : List Operation). operated_all g.terms o (Some (moment s draws))) (sym none) ∙ go in cc) in
    let same : s ≡ mid = ap (λ (m : Moment). m.store) stays in
    let nothing : draws ≡ [] = ap (λ (m : Moment). m.inputs) stays in
    let run2 : RunsAlong g path v s (draws ++ later) w after =
    subst (λ (x : NodeId). RunsAlong g path x s (draws ++ later) w after) (sym goal)
    (subst (λ (x : List ℕ). RunsAlong g path to x (draws ++ later) w after) (sym same)
    (subst (λ (zs : List ℤ). RunsAlong g path to mid (zs ++ later) w after) (sym nothing) run)) in
    ([], (run2, tt))
chain g inner (suc n) ops v to s draws mid later w after path (gives, (e, rest, only, parts, follows)) go run =
    let go2 : operated_all g.terms (e.ops ++ rest) (Some (moment s draws)) ≡ Some (moment mid []) =
    ap (λ (o : List Operation). operated_all g.terms o (Some (moment s draws))) (sym parts) ∙ go in
    let (half, first, second) = between g.terms e.ops rest (moment s draws) (moment mid []) go2 in
    let (front, (next, falls)) = chain g inner n rest e.to to half.store half.inputs mid later w after path follows second run in
    let all = one-edge g e s draws half later w after only.0 (front ++ path) first next in
    let source : source_of g.edges only.0.0 ≡ v.0 = source-is g.edges only.0.0 e only.0.1 ∙ ap (λ (x : NodeId). x.0) only.1 in
    let here : Remains inner g.edges (suc n) v.0 = (ops, (to, (gives, (e, rest, only, parts, follows)))) in (
      edge_id only.0.0 ∷ front,
      (
        subst (λ (x : NodeId). RunsAlong g (edge_id only.0.0 ∷ (front ++ path)) x s (draws ++ later) w after) only.1 all,
        (subst (λ (x : ℕ). Remains inner g.edges (suc n) x) (sym source) here, falls),
      ),
    )

cost-append : (edges : List Edge) (weight : ℕ → ℕ) (xs ys : List EdgeId) → cost_of edges weight (xs ++ ys) ≡ cost_of edges weight xs + cost_of edges weight ys
cost-append edges weight [] ys = omega arith
cost-append edges weight (k ∷ xs) ys = (let z = cost-append edges weight xs ys in omega (arith, z))

module _ (g : Flow) (new : List Edge) (i : IsJoined g.nodes g.loops g.entry g.edges new) where
  abbrev AreBelow : ℕ → Type 0
  AreBelow most = (k : ℕ) (e : Edge) → slice_get g.edges k ≡ Some e → e.from.0 < most

  -- a run along a path, which costs no more than all nodes weigh for each edge
  abbrev Unjoined : NodeId → List ℕ → List ℤ → NodeId → List ℕ → ℕ → Type 0
  Unjoined v s draws w after edges =
      (path : List EdgeId) × (RunsAlong g path v s draws w after
      × ((weight : ℕ → ℕ) (most : ℕ) → AreBelow most → cost_of g.edges weight path ≤ edges * total weight most))

  unjoined : (path : List EdgeId) (v : NodeId) (s : List ℕ) (draws : List ℤ) (w : NodeId) (after : List ℕ) → RunsAlong (with_edges g new) path v s draws w after
      → Unjoined v s draws w after (length path)
  unjoined [] v s draws w after run = ([], (run, λ weight most below. omega arith))
  unjoined (k ∷ path) v s draws w after (f, is, from, (mid, first, later, split, leads, run)) =
      let (e, there, kept, (n, rest, same, ops, follows)) = i.made f (k.0, is) in
      let go : operated_all g.terms (e.ops ++ rest) (Some (moment s first)) ≡ Some (moment mid []) =
      ap (λ (o : List Operation). operated_all g.terms o (Some (moment s first))) (sym ops) ∙ leads in
      let (half, one, more) = between g.terms e.ops rest (moment s first) (moment mid []) go in
      let (path2, (run2, costs)) = unjoined path f.to mid later w after run in
      let (front, (next, falls)) = chain g i.inner n rest e.to f.to half.store half.inputs mid later w after path2 follows more run2 in
      let all = one-edge g e s first half later w after there (front ++ path2) one next in
      let at : EdgeId = edge_id there.0 in
      let source : source_of g.edges there.0 ≡ e.from.0 = source-is g.edges there.0 e there.1 in (
        at ∷ (front ++ path2),
        (
          subst (λ (zs : List ℤ). RunsAlong g (at ∷ (front ++ path2)) v s zs w after) (sym split)
              (subst (λ (x : NodeId). RunsAlong g (at ∷ (front ++ path2)) x s (first ++ later) w after) (sym same ∙ from) all),
          λ weight most below.
              let here = chain-cost i.inner g.edges weight most n at front below (omega (arith, source, below there.0 e there.1)) (ap i.inner source ∙ kept) falls in
              let parts = cost-append g.edges weight (at ∷ front) path2 in
              let later = costs weight most below in
              let product = suc-mul (length path) (total weight most) in
              omega (arith, here, parts, later, product),
        ),
      )

pub chains_come_back : ChainsComeBack
chains_come_back g new draws v after i (path, store, whole, run) =
    let (path2, (run2, costs)) = unjoined g new i path g.entry store draws v after run in
    (path2, store, whole, run2)

pub chain_errors_come_back : ChainErrorsComeBack
chain_errors_come_back g new draws kind at i (v, (after, run, error)) = (v, (after, chains_come_back g new draws v after i run, error))

pub chain_paths_come_back : ChainPathsComeBack
chain_paths_come_back g new weight flow i path draws kind at f =
    let (path2, (run2, costs)) = unjoined g new i path g.entry f.store draws f.last f.after f.runs in (
      path2,
      (
        record { store = f.store; last = f.last; after = f.after; whole = f.whole; runs = run2; error = f.error },
        costs weight (length g.nodes) (λ k e there. slice_get_within g.nodes e.from.0 Plain (edge-fits g k e flow there).from),
      ),
    )

own-cost : (g : Flow) → IsFlow g → (weight : ℕ → ℕ) (path : List EdgeId) (v : NodeId) (s : List ℕ) (draws : List ℤ) (w : NodeId) (after : List ℕ) → RunsAlong g path v s draws w after
    → cost_of g.edges weight path ≤ length path * total weight (length g.nodes)
own-cost g flow weight [] v s draws w after run = omega arith
own-cost g flow weight (k ∷ path) v s draws w after (e, there, from, (mid, first, later, split, leads, run)) =
    let inside : e.from.0 < length g.nodes = slice_get_within g.nodes e.from.0 Plain (edge-fits g k.0 e flow there).from in
    let here = weighs-less weight (source_of g.edges k.0) (length g.nodes) (omega (arith, source-is g.edges k.0 e there, inside)) in
    let rest = own-cost g flow weight path e.to mid later w after run in
    let product = suc-mul (length path) (total weight (length g.nodes)) in
    omega (arith, here, rest, product)

pub own_paths_come_back : OwnPathsComeBack
own_paths_come_back g weight flow path draws kind at f = (path, (f, own-cost g flow weight path g.entry f.store draws f.last f.after f.runs))
