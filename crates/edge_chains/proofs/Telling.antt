-- What the tests tell, and one step of each loop.
use Rattle.std.proofs.Common.{◌≡◌, ℕ, zero, suc, ◌+◌, Bool, true, false, if◌then◌else◌, List, [], ◌∷◌, ◌++◌, Option, Some, None, slice_get, arith, ap, sym, ◌∙◌, refl, subst}
use Rattle.std.proofs.lemmas.Bool.{eqb-true}
use Rattle.c_graph.specs.declared.graph.NodeId.{NodeId}
use Rattle.c_graph.specs.declared.graph.Node.{Node}
use Rattle.c_graph.specs.declared.graph.Node.TheVariants.{Plain, Error, End, Call}
use Rattle.c_graph.specs.declared.graph.Operation.{Operation}
use Rattle.c_graph.specs.declared.graph.Edge.{Edge}
use Rattle.c_graph.specs.declared.graph.LoopAt.{LoopAt}
use Rattle.edge_chains.specs.Links.{IsKept, IsLinked, flag_at, link_at}
use Rattle.edge_chains.specs.Made as made

if-parts : (a b : Bool) → (if a then b else false) ≡ true → (a ≡ true) × (b ≡ true)
if-parts true b e = (refl, e)
if-parts false b e = absurd cc

if-not-parts : (a b : Bool) → (if a then false else b) ≡ true → (a ≡ false) × (b ≡ true)
if-not-parts true b e = absurd cc
if-not-parts false b e = (refl, e)

kept-node : (x : Node) (b : Bool) → made.is_kept x b ≡ true → IsKept x b
kept-node Plain b e = tt
kept-node (Error kind at) true e = absurd cc
kept-node (Error kind at) false e = refl
kept-node End b e = tt
kept-node (Call callee next) b e = tt

kept-from : (inner : List Bool) (n : ℕ) (xs : List Node) → made.kept_from inner n xs ≡ true → (k : ℕ) (x : Node) → slice_get xs k ≡ Some x
    → (m : ℕ) → m ≡ n + k → IsKept x (flag_at inner m)
kept-from inner n [] e k x s m q = absurd cc
kept-from inner n (y ∷ ys) e zero x s m q =
    let p = if-parts (made.is_kept y (flag_at inner n)) (made.kept_from inner (n + 1) ys) e in
    let one : y ≡ x = cc in
    let at : n ≡ m = omega (arith, q) in
    subst (λ (z : Node). IsKept z (flag_at inner m)) one (subst (λ (j : ℕ). IsKept y (flag_at inner j)) at (kept-node y (flag_at inner n) p.0))
kept-from inner n (y ∷ ys) e (suc k) x s m q =
    let p = if-parts (made.is_kept y (flag_at inner n)) (made.kept_from inner (n + 1) ys) e in
    kept-from inner (n + 1) ys p.1 k x s m (omega (arith, q))

pub kept-told : (nodes : List Node) (inner : List Bool) → true ≡ made.are_kept nodes inner → (n : ℕ) (x : Node) → slice_get nodes n ≡ Some x → IsKept x (flag_at inner n)
kept-told nodes inner e n x s = kept-from inner 0 nodes (sym e) n x s n (omega arith)

pub clear-told : (inner : List Bool) (places : List LoopAt) → true ≡ made.are_clear inner places → (k : ℕ) (l : LoopAt) → slice_get places k ≡ Some l → flag_at inner l.node.0 ≡ false
clear-told inner [] e k l s = absurd cc
clear-told inner (x ∷ xs) e zero l s =
    let p = if-not-parts (flag_at inner x.node.0) (made.are_clear inner xs) (sym e) in
    let one : x ≡ l = cc in
    subst (λ (z : LoopAt). flag_at inner z.node.0 ≡ false) one p.0
clear-told inner (x ∷ xs) e (suc k) l s =
    let p = if-not-parts (flag_at inner x.node.0) (made.are_clear inner xs) (sym e) in clear-told inner xs (sym p.1) k l s

is-number : (link : Option ℕ) (n : ℕ) → made.is_number link n ≡ true → link ≡ Some n
is-number None n e = absurd cc
is-number (Some l) n e = ap (λ (x : ℕ). Some x) (eqb-true l n e)

linked-one : (inner : List Bool) (links : List (Option ℕ)) (v n : ℕ) → made.is_linked inner links v n ≡ true → IsLinked inner links v n
linked-one inner links v n e gives = is-number (link_at links v) n (sym (ap (λ (b : Bool). if b then made.is_number (link_at links v) n else true) gives) ∙ e)

linked-from : (inner : List Bool) (links : List (Option ℕ)) (n : ℕ) (es : List Edge) → made.linked_from inner links n es ≡ true → (k : ℕ) (e : Edge) → slice_get es k ≡ Some e
    → (m : ℕ) → m ≡ n + k → IsLinked inner links e.from.0 m
linked-from inner links n [] t k e s m q = absurd cc
linked-from inner links n (x ∷ xs) t zero e s m q =
    let p = if-parts (made.is_linked inner links x.from.0 n) (made.linked_from inner links (n + 1) xs) t in
    let one : x ≡ e = cc in
    let at : n ≡ m = omega (arith, q) in
    subst (λ (z : Edge). IsLinked inner links z.from.0 m) one (subst (λ (j : ℕ). IsLinked inner links x.from.0 j) at (linked-one inner links x.from.0 n p.0))
linked-from inner links n (x ∷ xs) t (suc k) e s m q =
    let p = if-parts (made.is_linked inner links x.from.0 n) (made.linked_from inner links (n + 1) xs) t in
    linked-from inner links (n + 1) xs p.1 k e s m (omega (arith, q))

pub linked-told : (inner : List Bool) (links : List (Option ℕ)) (edges : List Edge) → true ≡ made.are_linked inner links edges
    → (k : ℕ) (e : Edge) → slice_get edges k ≡ Some e → IsLinked inner links e.from.0 k
linked-told inner links edges t k e s = linked-from inner links 0 edges (sym t) k e s k (omega arith)

-- one more edge with all that follows it
pub all-step : (edges : List Edge) (inner : List Bool) (links : List (Option ℕ)) (found new es : List Edge) (e : Edge) (b : Bool)
    → (b, new) ≡ made.add edges inner links e found → b ≡ true → made.add_all edges inner links found (e ∷ es) ≡ made.add_all edges inner links new es
all-step edges inner links found new es e b m t =
    ap (λ (p : Bool × List Edge). if p.0 then made.add_all edges inner links p.1 es else None) (sym m)
    ∙ ap (λ (c : Bool). if c then made.add_all edges inner links new es else None) t

-- one more turn along an edge
pub follow-step : (edges : List Edge) (inner : List Bool) (links : List (Option ℕ)) (from to : NodeId) (ops : List Operation) (m n k : ℕ) (x : Edge)
    → m ≡ suc n → made.next_of edges inner links to ≡ Some k → slice_get edges k ≡ Some x
    → made.follow m edges inner links from to ops ≡ made.follow n edges inner links from x.to (ops ++ x.ops)
follow-step edges inner links from to ops m n k x is next there =
    let go : NodeId → List Operation → Option Edge = λ at so_far. made.follow n edges inner links from at so_far in
    ap (λ (j : ℕ). made.follow j edges inner links from to ops) is
    ∙ ap (λ (o : Option ℕ). made.go_along go edges inner from to ops o) next
    ∙ ap (λ (o : Option Edge). made.go_on go ops o) there
