-- What the nodes of a chain weigh together: each stands in it once.
use Rattle.std.proofs.Common.{◌≡◌, ℕ, ◌+◌, ◌<◌, ◌≤◌, ◌==◌, Bool, true, false, inl, inr, List, [], ◌∷◌, Some, refl, sym, ap, ◌∙◌, subst, zero, suc, arith, slice_get, if◌then◌else◌, eq-eqb}
use Rattle.std.proofs.lemmas.Bool.{cases_eq, ne_eqb}
use Rattle.c_graph.specs.declared.graph.NodeId.{NodeId}
use Rattle.c_graph.specs.declared.graph.EdgeId.{EdgeId}
use Rattle.c_graph.specs.declared.graph.Edge.{Edge}
use Rattle.c_graph.specs.declared.graph.Operation.{Operation}
use Rattle.c_graph.specs.Chains.{source_of}
use Rattle.edge_chains.specs.Joining.{Follows}
use Rattle.program_graphs.specs.Weighing.{cost_of, total}

-- sums over lists of numbers that are all there once

abbrev NotIn : ℕ → List ℕ → Type 0
NotIn v [] = Unit {0}
NotIn v (x ∷ xs) = (x ≡ v → ⊥) × NotIn v xs

abbrev Once : List ℕ → Type 0
Once [] = Unit {0}
Once (x ∷ xs) = NotIn x xs × Once xs

abbrev AllBelow : ℕ → List ℕ → Type 0
AllBelow n [] = Unit {0}
AllBelow n (x ∷ xs) = (x < n) × AllBelow n xs

abbrev weigh : (ℕ → ℕ) → List ℕ → ℕ
weigh weight [] = 0
weigh weight (x ∷ xs) = weight x + weigh weight xs

abbrev lifted : (ℕ → ℕ) → ℕ → ℕ → ℕ
lifted weight v x = if x == v then 0 else weight x

lifted-here : (weight : ℕ → ℕ) (v : ℕ) → lifted weight v v ≡ 0
lifted-here weight v = let y : (v == v) ≡ true = eq-eqb v v refl in rw y refl

lifted-away : (weight : ℕ → ℕ) (v x : ℕ) → (x ≡ v → ⊥) → lifted weight v x ≡ weight x
lifted-away weight v x ne = let y : (x == v) ≡ false = ne_eqb x v ne in rw y refl

weigh-lifted : (weight : ℕ → ℕ) (v : ℕ) (xs : List ℕ) → NotIn v xs → weigh (lifted weight v) xs ≡ weigh weight xs
weigh-lifted weight v [] off = refl
weigh-lifted weight v (x ∷ xs) off = (let y = lifted-away weight v x off.0 in let z = weigh-lifted weight v xs off.1 in omega (arith, y, z))

total-above : (weight : ℕ → ℕ) (v n : ℕ) → n ≤ v → total (lifted weight v) n ≡ total weight n
total-above weight v zero le = refl
total-above weight v (suc n) le =
    let y = lifted-away weight v n (λ e. omega (arith, e, le)) in
    let z = total-above weight v n (omega (arith, le)) in
    omega (arith, y, z)

total-lifted : (weight : ℕ → ℕ) (v n : ℕ) → v < n → total weight n ≡ weight v + total (lifted weight v) n
total-lifted weight v zero lt = absurd (omega (arith, lt))
total-lifted weight v (suc n) lt = elim (cases_eq n v) [
  | inl e ↦
      let y : lifted weight v n ≡ 0 = ap (lifted weight v) e ∙ lifted-here weight v in
      let z = total-above weight v n (omega (arith, e)) in
      let x : weight n ≡ weight v = ap weight e in
      omega (arith, x, y, z)
  | inr ne ↦
      let y = lifted-away weight v n ne in
      let z = total-lifted weight v n (omega (arith, lt, ne)) in
      omega (arith, y, z)
]

-- one node weighs no more than all
pub weighs-less : (weight : ℕ → ℕ) (v n : ℕ) → v < n → weight v ≤ total weight n
weighs-less weight v n lt = (let z = total-lifted weight v n lt in omega (arith, z))

weigh-total : (xs : List ℕ) (weight : ℕ → ℕ) (n : ℕ) → Once xs → AllBelow n xs → weigh weight xs ≤ total weight n
weigh-total [] weight n once below = omega arith
weigh-total (x ∷ xs) weight n once below =
    let y = weigh-lifted weight x xs once.0 in
    let z = weigh-total xs (lifted weight x) n once.1 below.1 in
    let t = total-lifted weight x n below.0 in
    omega (arith, y, z, t)

-- the nodes that a path leads from
abbrev pub sources : List Edge → List EdgeId → List ℕ
sources edges [] = []
sources edges (k ∷ path) = source_of edges k.0 ∷ sources edges path

cost-sources : (edges : List Edge) (weight : ℕ → ℕ) (path : List EdgeId) → cost_of edges weight path ≡ weigh weight (sources edges path)
cost-sources edges weight [] = refl
cost-sources edges weight (k ∷ path) = ap (λ (x : ℕ). weight (source_of edges k.0) + x) (cost-sources edges weight path)

pub source-is : (edges : List Edge) (k : ℕ) (e : Edge) → slice_get edges k ≡ Some e → source_of edges k ≡ e.from.0
source-is [] k e there = absurd cc
source-is (x ∷ edges) zero e there = (let z : x ≡ e = cc in ap (λ (y : Edge). y.from.0) z)
source-is (x ∷ edges) (suc k) e there = source-is edges k e there

-- chains

-- from the node a chain leads on along so many nodes that give their edges away
abbrev pub Remains : (ℕ → Bool) → List Edge → ℕ → ℕ → Type 0
Remains inner edges n v = (ops : List Operation) × ((to : NodeId) × Follows inner edges n (record { 0 = v }) ops to)

-- so it does from each of these, along one less each time
abbrev pub Falls : (ℕ → Bool) → List Edge → ℕ → List ℕ → Type 0
Falls inner edges zero [] = Unit {0}
Falls inner edges (suc n) (v ∷ vs) = Remains inner edges (suc n) v × Falls inner edges n vs
Falls inner edges _ _ = ⊥

false-true : false ≡ true → ⊥
false-true e = absurd cc

alike : (inner : ℕ → Bool) (edges : List Edge) (n m : ℕ) (v : NodeId) (ops ops2 : List Operation) (to to2 : NodeId) → Follows inner edges n v ops to → Follows inner edges m v ops2 to2 → n ≡ m
alike inner edges zero zero v ops ops2 to to2 f g = refl
alike inner edges zero (suc m) v ops ops2 to to2 f g = absurd (false-true (sym f.0 ∙ g.0))
alike inner edges (suc n) zero v ops ops2 to to2 f g = absurd (false-true (sym g.0 ∙ f.0))
alike inner edges (suc n) (suc m) v ops ops2 to to2 (gives, (e, rest, only, parts, f)) (gives2, (e2, rest2, only2, parts2, f2)) =
    let same : e2 ≡ e = only.2 e2 only2.0 only2.1 in
    ap suc (alike inner edges n m e.to rest rest2 to to2 f (subst (λ (x : Edge). Follows inner edges m x.to rest2 to2) same f2))

not-later : (inner : ℕ → Bool) (edges : List Edge) (n m v : ℕ) (vs : List ℕ) → m < n → Remains inner edges n v → Falls inner edges m vs → NotIn v vs
not-later inner edges n zero v [] lt here falls = tt
not-later inner edges n (suc m) v [] lt here falls = tt
not-later inner edges n zero v (x ∷ xs) lt here falls = absurd falls
not-later inner edges n (suc m) v (x ∷ xs) lt here (first, falls) = (
  λ e.
      let there : Remains inner edges (suc m) v = subst (λ (y : ℕ). Remains inner edges (suc m) y) e first in
      let same : n ≡ suc m = alike inner edges n (suc m) (record { 0 = v }) here.0 there.0 here.1.0 there.1.0 here.1.1 there.1.1 in
      omega (arith, same, lt),
  not-later inner edges n m v xs (omega (arith, lt)) here falls,
)

falls-once : (inner : ℕ → Bool) (edges : List Edge) (n : ℕ) (vs : List ℕ) → Falls inner edges n vs → Once vs
falls-once inner edges zero [] falls = tt
falls-once inner edges (suc n) [] falls = tt
falls-once inner edges zero (v ∷ vs) falls = absurd falls
falls-once inner edges (suc n) (v ∷ vs) (here, falls) = (not-later inner edges (suc n) n v vs (omega arith) here falls, falls-once inner edges n vs falls)

-- a node that is kept is not in a chain
kept-off : (inner : ℕ → Bool) (edges : List Edge) (n v : ℕ) (vs : List ℕ) → inner v ≡ false → Falls inner edges n vs → NotIn v vs
kept-off inner edges zero v [] kept falls = tt
kept-off inner edges (suc n) v [] kept falls = tt
kept-off inner edges zero v (x ∷ xs) kept falls = absurd falls
kept-off inner edges (suc n) v (x ∷ xs) kept (here, falls) =
    (λ e. false-true (sym kept ∙ ap inner (sym e) ∙ here.1.1.0), kept-off inner edges n v xs kept falls)

falls-below : (inner : ℕ → Bool) (edges : List Edge) (most n : ℕ) (vs : List ℕ) → ((k : ℕ) (e : Edge) → slice_get edges k ≡ Some e → e.from.0 < most) → Falls inner edges n vs → AllBelow most vs
falls-below inner edges most zero [] below falls = tt
falls-below inner edges most (suc n) [] below falls = tt
falls-below inner edges most zero (v ∷ vs) below falls = absurd falls
falls-below inner edges most (suc n) (v ∷ vs) below ((ops, (to, (gives, (e, rest, only, parts, f)))), falls) =
    (subst (λ (x : NodeId). x.0 < most) only.1 (below only.0.0 e only.0.1), falls-below inner edges most n vs below falls)

-- an edge from a node that is kept, with the chain behind it, costs no more than all nodes weigh
pub chain-cost : (inner : ℕ → Bool) (edges : List Edge) (weight : ℕ → ℕ) (most n : ℕ) (k : EdgeId) (front : List EdgeId)
    → ((k : ℕ) (e : Edge) → slice_get edges k ≡ Some e → e.from.0 < most) → source_of edges k.0 < most → inner (source_of edges k.0) ≡ false
    → Falls inner edges n (sources edges front) → cost_of edges weight (k ∷ front) ≤ total weight most
chain-cost inner edges weight most n k front below first kept falls =
    let all : List ℕ = sources edges (k ∷ front) in
    let once : Once all = (kept-off inner edges n (source_of edges k.0) (sources edges front) kept falls, falls-once inner edges n (sources edges front) falls) in
    let y = weigh-total all weight most once (first, falls-below inner edges most n (sources edges front) below falls) in
    let z = cost-sources edges weight (k ∷ front) in
    omega (arith, y, z)
