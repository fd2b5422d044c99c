-- Runs to errors that come back from a graph with joined chains, and from one graph after another.
use Rattle.std.proofs.Common.{◌≡◌, ◌≤◌, ◌*◌, ℕ, List, [], ◌∷◌, length, refl, ap, arith, zero, suc}
use Rattle.std.proofs.Math.Nat.{mul-le-mul_left}
use Rattle.c_graph.specs.declared.graph.EdgeId.{EdgeId}
use Rattle.c_graph.specs.declared.graph.Edge.{Edge}
use Rattle.c_graph.specs.Shape.{Flow}
use Rattle.program_graphs.specs.Returning.{ComesBack}
use Rattle.program_graphs.specs.Weighing.{cost_of, total}
use Rattle.block_join.specs.Joined.{BlocksReturn, ChainsReturn}

-- each node weighs one
abbrev one_each : ℕ → ℕ
one_each v = 1

total-one : (n : ℕ) → total one_each n ≡ n
total-one zero = refl
total-one (suc n) = (let z = total-one n in omega (arith, z))

cost-one : (edges : List Edge) (path : List EdgeId) → cost_of edges one_each path ≡ length path
cost-one edges [] = refl
cost-one edges (k ∷ path) = (let z = cost-one edges path in omega (arith, z))

pub chains-come : (g h : Flow) → ChainsReturn g h → ComesBack g h
chains-come g h chains path draws kind at f =
    let (more, (fails, cost)) = chains one_each path draws kind at f in
    let same : length path * total one_each (length g.nodes) ≡ length path * length g.nodes = ap (λ (x : ℕ). length path * x) (total-one (length g.nodes)) in
    (more, (fails, omega (arith, cost, same, cost-one g.edges more)))

pub blocks-come : (g b h : Flow) → BlocksReturn g b → ChainsReturn b h → ComesBack g h
blocks-come g b h (weight, (blocks, few)) chains path draws kind at f =
    let (mid, (fails, cost)) = chains weight path draws kind at f in
    let (more, (fails2, short)) = blocks mid draws kind at fails in
    let most : length path * total weight (length b.nodes) ≤ length path * length g.nodes = mul-le-mul_left (length path) few in
    (more, (fails2, omega (arith, cost, short, most)))
