-- Truths of numbers as an arena grows, and the truth of a node.
use Rattle.std.proofs.Common.{◌≡◌, ℕ, ◌+◌, ◌-◌, ◌<◌, ◌≤◌, Bool, true, false, List, [], ◌∷◌, ◌++◌, length, refl, sym, ap, ◌∙◌, subst, zero, suc, arith, Some, slice_get, slice_index_or, append_assoc}
use Rattle.std.proofs.lemmas.List.{append-nil}
use Rattle.std.proofs.lemmas.List.{length-append, get_or_append_left, get_or-append-add}
use Rattle.formula_diagrams.specs.declared.items.BitOf.{BitOf}
use Rattle.formula_diagrams.specs.declared.items.NodeId.{NodeId}
use Rattle.formula_diagrams.specs.declared.items.Node.{Node}
use Rattle.formula_diagrams.specs.Shape.{Arena, AllFit, FitsNode, IsArena, Grown, count, with_node}
use Rattle.formula_diagrams.specs.Truths.{choice, is_set, truth_in, truths_after, holds, Tells}
use Rattle.formula_diagrams.specs.Laws.{TruthsStay}

-- earlier truths stand where they stood
truths-keep : (store : List ℕ) (ts : List Bool) (ns : List Node) (k : ℕ) → k < length ts
    → slice_index_or (truths_after store ts ns) k false ≡ slice_index_or ts k false
truths-keep store ts [] k lt = refl
truths-keep store ts (x ∷ ns) k lt =
    let t = truth_in store ts x in
    truths-keep store (ts ++ t ∷ []) ns k (omega (arith, lt, length-append ts (t ∷ []))) ∙ get_or_append_left ts (t ∷ []) false k lt

truths-append : (store : List ℕ) (ts : List Bool) (xs ys : List Node)
    → truths_after store ts (xs ++ ys) ≡ truths_after store (truths_after store ts xs) ys
truths-append store ts [] ys = refl
truths-append store ts (x ∷ xs) ys = truths-append store (ts ++ truth_in store ts x ∷ []) xs ys

length-truths : (store : List ℕ) (ts : List Bool) (xs : List Node) → length (truths_after store ts xs) ≡ length ts + length xs
length-truths store ts [] = omega arith
length-truths store ts (x ∷ xs) =
    let t = truth_in store ts x in
    omega (arith, length-truths store (ts ++ t ∷ []) xs, length-append ts (t ∷ []))

pub truths_stay : TruthsStay
unfolding holds
truths_stay old new store n g lt =
    let ts : List Bool = false ∷ true ∷ [] in
    let more : List Node = g.nodes.0 in
    ap (λ (ns : List Node). slice_index_or (truths_after store ts ns) n false) g.nodes.1
    ∙ ap (λ (xs : List Bool). slice_index_or xs n false) (truths-append store ts old.nodes more)
    ∙ truths-keep store (truths_after store ts old.nodes) more n (omega (arith, lt, length-truths store ts old.nodes))

-- a node's truth, and that it fits
node-from : (cells store : List ℕ) (ts : List Bool) (ns : List Node) (k : ℕ) (x : Node) → AllFit cells (length ts) ns → slice_get ns k ≡ Some x
    → FitsNode cells (length ts + k) x × (slice_index_or (truths_after store ts ns) (length ts + k) false ≡ truth_in store (truths_after store ts ns) x)
node-from cells store ts [] k x f s = absurd cc
node-from cells store ts (y ∷ ns) zero x f s =
    let q : y ≡ x = cc in
    let t : Bool = truth_in store ts y in
    let l : length (ts ++ t ∷ []) ≡ length ts + 1 = length-append ts (t ∷ []) in
    let z : length ts + 0 ≡ length ts = omega arith in
    let all : List Bool = truths_after store (ts ++ t ∷ []) ns in
    let at : slice_index_or all (length ts + 0) false ≡ t =
    truths-keep store (ts ++ t ∷ []) ns (length ts + 0) (omega (arith, l)) ∙ get_or-append-add ts (t ∷ []) 0 false in
    let kept : (n : NodeId) → n.0 < length ts → slice_index_or all n.0 false ≡ slice_index_or ts n.0 false = λ n lt. truths-keep store ts (y ∷ ns) n.0 lt in
    let e : truth_in store all y ≡ t =
    ap (λ (h : Bool). choice (is_set store y.top) h (slice_index_or all y.low.0 false)) (kept y.high f.0.high)
    ∙ ap (λ (h : Bool). choice (is_set store y.top) (slice_index_or ts y.high.0 false) h) (kept y.low f.0.low) in (
      subst (λ (n : ℕ). FitsNode cells n x) (sym z) (subst (λ (w : Node). FitsNode cells (length ts) w) q f.0),
      at ∙ sym e ∙ ap (truth_in store all) q,
    )
node-from cells store ts (y ∷ ns) (suc k) x f s =
    let t : Bool = truth_in store ts y in
    let l : length (ts ++ t ∷ []) ≡ length ts + 1 = length-append ts (t ∷ []) in
    let e : length (ts ++ t ∷ []) + k ≡ length ts + suc k = omega (arith, l) in
    let g : AllFit cells (length (ts ++ t ∷ [])) ns = subst (λ (n : ℕ). AllFit cells n ns) (sym l) f.1 in
    let P : ℕ → Type 0 = λ n. FitsNode cells n x × (slice_index_or (truths_after store (ts ++ t ∷ []) ns) n false ≡ truth_in store (truths_after store (ts ++ t ∷ []) ns) x) in
    subst P e (node-from cells store (ts ++ t ∷ []) ns k x g s)

pub node-fits : (a : Arena) (k : ℕ) (x : Node) → IsArena a → slice_get a.nodes k ≡ Some x → FitsNode a.cells (k + 2) x
node-fits a k x is s =
    let e : 2 + k ≡ k + 2 = omega arith in
    subst (λ (n : ℕ). FitsNode a.cells n x) e (node-from a.cells [] (false ∷ true ∷ []) a.nodes k x is.nodes s).0

pub node-holds : (a : Arena) (k : ℕ) (x : Node) → IsArena a → slice_get a.nodes k ≡ Some x
    → (store : List ℕ) → holds a store (k + 2) ≡ choice (is_set store x.top) (holds a store x.high.0) (holds a store x.low.0)
unfolding holds
node-holds a k x is s store =
    let e : 2 + k ≡ k + 2 = omega arith in
    let ts : List Bool = truths_after store (false ∷ true ∷ []) a.nodes in
    subst (λ (n : ℕ). slice_index_or ts n false ≡ truth_in store ts x) e (node-from a.cells store (false ∷ true ∷ []) a.nodes k x is.nodes s).1

-- the ends
pub holds-false : (a : Arena) (store : List ℕ) → holds a store 0 ≡ false
unfolding holds
holds-false a store = truths-keep store (false ∷ true ∷ []) a.nodes 0 (omega arith)

pub holds-true : (a : Arena) (store : List ℕ) → holds a store 1 ≡ true
unfolding holds
holds-true a store = truths-keep store (false ∷ true ∷ []) a.nodes 1 (omega arith)

-- growing
pub grown-none : (a : Arena) → Grown a a
grown-none a = record { cells = refl; most = refl; nodes = ([], sym (append-nil a.nodes)) }

pub grown-node : (a : Arena) (x : Node) → Grown a (with_node a x)
grown-node a x = record { cells = refl; most = refl; nodes = (x ∷ [], refl) }

pub grown-twice : (a b c : Arena) → Grown a b → Grown b c → Grown a c
grown-twice a b c g h = record {
  cells = h.cells ∙ g.cells;
  most = h.most ∙ g.most;
  nodes = (
    g.nodes.0 ++ h.nodes.0,
    h.nodes.1 ∙ ap (λ (ns : List Node). ns ++ h.nodes.0) g.nodes.1 ∙ append_assoc a.nodes g.nodes.0 h.nodes.0,
  );
}

pub grown-count : (a b : Arena) → Grown a b → count a ≤ count b
grown-count a b g = omega (arith, ap length g.nodes.1, length-append a.nodes g.nodes.0)

-- a node at the end
fit-snoc : (cells : List ℕ) (n : ℕ) (xs : List Node) (x : Node) → AllFit cells n xs → FitsNode cells (n + length xs) x → AllFit cells n (xs ++ x ∷ [])
fit-snoc cells n [] x f g = (subst (λ (m : ℕ). FitsNode cells m x) (let z : n + 0 ≡ n = omega arith in z) g, tt)
fit-snoc cells n (y ∷ xs) x f g =
    let e : n + suc (length xs) ≡ (n + 1) + length xs = omega arith in
    (f.0, fit-snoc cells (n + 1) xs x f.1 (subst (λ (m : ℕ). FitsNode cells m x) e g))

pub arena-snoc : (a : Arena) (x : Node) → IsArena a → FitsNode a.cells (count a) x → length a.nodes < a.most → IsArena (with_node a x)
arena-snoc a x is f lt =
    let e : length a.nodes + 2 ≡ 2 + length a.nodes = omega arith in
    record {
      nodes = fit-snoc a.cells 2 a.nodes x is.nodes (subst (λ (m : ℕ). FitsNode a.cells m x) e f);
      few = omega (arith, lt, length-append a.nodes (x ∷ []));
      most = is.most;
    }

pub last-get : (xs : List Node) (x : Node) → slice_get (xs ++ x ∷ []) (length xs) ≡ Some x
last-get [] x = refl
last-get (y ∷ xs) x = last-get xs x

pub get-below : (xs : List Node) (k : ℕ) (x : Node) → slice_get xs k ≡ Some x → k < length xs
get-below [] k x s = absurd cc
get-below (y ∷ xs) zero x s = omega arith
get-below (y ∷ xs) (suc k) x s = omega (arith, get-below xs k x s)

-- a node found, or entered, tells the choice
pub made-found : (a : Arena) (k : ℕ) (x : Node) (r : NodeId) → IsArena a → slice_get a.nodes k ≡ Some x → r.0 ≡ k + 2
    → Tells a r (λ store. choice (is_set store x.top) (holds a store x.high.0) (holds a store x.low.0))
made-found a k x r is s e = record {
  there = omega (arith, e, get-below a.nodes k x s);
  told = λ store. ap (holds a store) e ∙ node-holds a k x is s store;
}

pub made-last : (a b : Arena) (x : Node) (r : NodeId) → IsArena a → FitsNode a.cells (count a) x → b ≡ with_node a x → r.0 ≡ count a
    → Tells b r (λ store. choice (is_set store x.top) (holds a store x.high.0) (holds a store x.low.0))
unfolding holds
made-last a b x r is f e n =
    let w : Arena = with_node a x in
    let g : Grown a w = grown-node a x in
    let q : length a.nodes + 2 ≡ 2 + length a.nodes = omega arith in
    let fit : AllFit a.cells 2 w.nodes = fit-snoc a.cells 2 a.nodes x is.nodes (subst (λ (m : ℕ). FitsNode a.cells m x) q f) in
    let h : (store : List ℕ) → holds w store (length a.nodes + 2) ≡ choice (is_set store x.top) (holds w store x.high.0) (holds w store x.low.0) =
    λ store. subst (λ (m : ℕ). slice_index_or (truths_after store (false ∷ true ∷ []) w.nodes) m false ≡ truth_in store (truths_after store (false ∷ true ∷ []) w.nodes) x) (sym q)
    (node-from a.cells store (false ∷ true ∷ []) w.nodes (length a.nodes) x fit (last-get a.nodes x)).1 in
    let P : Arena → Type 0 = λ c. Tells c r (λ store. choice (is_set store x.top) (holds a store x.high.0) (holds a store x.low.0)) in
    subst P (sym e) (record {
      there = omega (arith, n, length-append a.nodes (x ∷ []));
      told = λ store. ap (holds w store) n ∙ h store
          ∙ ap (λ (t : Bool). choice (is_set store x.top) t (holds w store x.low.0)) (truths_stay a w store x.high.0 g f.high)
          ∙ ap (λ (t : Bool). choice (is_set store x.top) (holds a store x.high.0) t) (truths_stay a w store x.low.0 g f.low);
    })

-- one formula on both sides is the choice
pub made-equal : (a : Arena) (low high : NodeId) (b : BitOf) → low.0 ≡ high.0 → low.0 < count a
    → Tells a low (λ store. choice (is_set store b) (holds a store high.0) (holds a store low.0))
made-equal a low high b e lt = record {
  there = lt;
  told = λ store. sym (ap (λ (n : ℕ). choice (is_set store b) (holds a store n) (holds a store low.0)) (sym e) ∙ either-way (is_set store b) (holds a store low.0));
}
  where
    either-way : (c x : Bool) → choice c x x ≡ x
    either-way true x = refl
    either-way false x = refl
