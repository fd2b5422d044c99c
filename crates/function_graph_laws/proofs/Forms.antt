-- What holds of nodes and edges whose numbers begin at some number of a graph, and of such parts one behind the other.
use Rattle.std.proofs.Common.{◌≡◌, ◌⊎◌, inl, inr, ℕ, zero, suc, ◌+◌, ◌-◌, ◌*◌, ◌<◌, ◌≤◌, ◌||◌, nat_eq, true, false, List, [], ◌∷◌, ◌++◌, length, refl, sym, ap, ◌∙◌, subst, arith, Some, slice_get, All, length-append}
use Rattle.bv_term.specs.WellFormed.{Table}
use Rattle.c_graph.specs.declared.graph.NodeId.{NodeId}
use Rattle.c_graph.specs.declared.graph.Node.{Node}
use Rattle.c_graph.specs.declared.graph.Node.TheVariants.{Plain, Call}
use Rattle.c_graph.specs.declared.graph.Edge.{Edge}
use Rattle.c_graph.specs.Shape.{OperationFits, has_out}
use Rattle.cfg_build.specs.Steps.{node_id}
use Rattle.cfg_build.proofs.Numbers.{get-left, get-right}

-- ---- Lists

-- it holds of each element
abbrev pub Each : {X : Type 0} → (X → Type 0) → List X → Type 0
Each P [] = Unit {0}
Each P (x ∷ xs) = P x × Each P xs

pub each-by : {X : Type 0} (P Q : X → Type 0) (xs : List X) → ((x : X) → P x → Q x) → Each P xs → Each Q xs
each-by P Q [] f h = tt
each-by P Q (x ∷ xs) f h = (f x h.0, each-by P Q xs f h.1)

pub each-joined : {X : Type 0} (P : X → Type 0) (xs ys : List X) → Each P xs → Each P ys → Each P (xs ++ ys)
each-joined P [] ys h k = k
each-joined P (x ∷ xs) ys h k = (h.0, each-joined P xs ys h.1 k)

pub all-of : {X : Type 0} (P : X → Type 0) (xs : List X) → Each P xs → All P xs
all-of P [] h k d lt = absurd (omega (arith, lt))
all-of P (x ∷ xs) h zero d lt = h.0
all-of P (x ∷ xs) h (suc k) d lt = all-of P xs h.1 k d (omega (arith, lt))

-- of elements that are found by their numbers
pub each-found : {X : Type 0} (P : X → Type 0) (xs : List X) → ((k : ℕ) (x : X) → slice_get xs k ≡ Some x → P x) → Each P xs
each-found P [] f = tt
each-found P (x ∷ xs) f = (f 0 x refl, each-found P xs (λ k y e. f (suc k) y e))

-- an element of the first list, or of the second one
pub get-split : {X : Type 0} (xs ys : List X) (k : ℕ) (x : X) → slice_get (xs ++ ys) k ≡ Some x → (slice_get xs k ≡ Some x) ⊎ ((length xs ≤ k) × (slice_get ys (k - length xs) ≡ Some x))
get-split [] ys k x h = let e : k ≡ k - 0 = omega arith in inr (omega arith, ap (slice_get ys) (sym e) ∙ h)
get-split (z ∷ zs) ys zero x h = inl h
get-split (z ∷ zs) ys (suc k) x h = elim (get-split zs ys k x h) [
  | inl e ↦ inl e
  | inr e ↦ (let q : k - length zs ≡ suc k - suc (length zs) = omega arith in inr (omega (arith, e.0), ap (slice_get ys) (sym q) ∙ e.1))
]

-- ---- Edges that lead from a node

out-front : (es fs : List Edge) (v : NodeId) → has_out es v ≡ true → has_out (es ++ fs) v ≡ true
out-front [] fs v h = absurd cc
out-front (e ∷ es) fs v h =
    elim (nat_eq e.from.0 v.0) as (λ b. (b || has_out es v) ≡ true → (b || has_out (es ++ fs) v) ≡ true) [
      | true ↦ (λ _. refl)
      | false ↦ (λ t. out-front es fs v t)
    ] h

out-behind : (es fs : List Edge) (v : NodeId) → has_out fs v ≡ true → has_out (es ++ fs) v ≡ true
out-behind [] fs v h = h
out-behind (e ∷ es) fs v h =
    elim (nat_eq e.from.0 v.0) as (λ b. (b || has_out (es ++ fs) v) ≡ true) [
      | true ↦ refl
      | false ↦ out-behind es fs v h
    ]

-- ---- Parts of a graph

-- the edge leads from a plain node of this part to a node of the graph, and its operations fit
pub record Leads (table : Table) (nodes n : ℕ) (ns : List Node) (e : Edge) : Type 0 where
  pub behind : ℕ
  pub from : e.from.0 ≡ n + behind
  pub plain : slice_get ns behind ≡ Some Plain
  pub to : e.to.0 < nodes
  pub operations : Each (OperationFits table) e.ops

-- Part of a graph with so many nodes, beside so many functions: its edges lead so, each plain node has one, calls are of functions and
-- go on at nodes, and there are at most two edges a node.
pub record IsPart (table : Table) (functions nodes n : ℕ) (ns : List Node) (es : List Edge) : Type 0 where
  pub edges : Each (Leads table nodes n ns) es
  pub on : (k : ℕ) → slice_get ns k ≡ Some Plain → has_out es (node_id (n + k)) ≡ true
  pub calls : (k function : ℕ) (next : NodeId) → slice_get ns k ≡ Some (Call function next) → (function < functions) × (next.0 < nodes)
  pub few : length es ≤ 2 * length ns

leads-first : (table : Table) (nodes n : ℕ) (ns ms : List Node) (e : Edge) → Leads table nodes n ns e → Leads table nodes n (ns ++ ms) e
leads-first table nodes n ns ms e h = record { behind = h.behind; from = h.from; plain = get-left ns ms h.behind Plain h.plain; to = h.to; operations = h.operations }

leads-second : (table : Table) (nodes n : ℕ) (ns ms : List Node) (e : Edge) → Leads table nodes (n + length ns) ms e → Leads table nodes n (ns ++ ms) e
leads-second table nodes n ns ms e h = record {
  behind = length ns + h.behind;
  from = omega (arith, h.from);
  plain = get-right ns ms h.behind (length ns + h.behind) refl ∙ h.plain;
  to = h.to;
  operations = h.operations;
}

pub part-joined : (table : Table) (functions nodes n : ℕ) (ns ms : List Node) (es fs : List Edge) → IsPart table functions nodes n ns es → IsPart table functions nodes (n + length ns) ms fs
    → IsPart table functions nodes n (ns ++ ms) (es ++ fs)
part-joined table functions nodes n ns ms es fs h k = record {
  edges = each-joined (Leads table nodes n (ns ++ ms)) es fs (each-by _ _ es (λ e l. leads-first table nodes n ns ms e l) h.edges) (each-by _ _ fs (λ e l. leads-second table nodes n ns ms e l) k.edges);
  on = λ j e. elim (get-split ns ms j Plain e) [
    | inl s ↦ out-front es fs (node_id (n + j)) (h.on j s)
    | inr s ↦ (let q : (n + length ns) + (j - length ns) ≡ n + j = omega (arith, s.0) in out-behind es fs (node_id (n + j)) (subst (λ (m : ℕ). has_out fs (node_id m) ≡ true) q (k.on (j - length ns) s.1)))
  ];
  calls = λ j function next e. elim (get-split ns ms j (Call function next) e) [
    | inl s ↦ h.calls j function next s
    | inr s ↦ k.calls (j - length ns) function next s.1
  ];
  few = omega (arith, h.few, k.few, length-append ns ms, length-append es fs);
}
