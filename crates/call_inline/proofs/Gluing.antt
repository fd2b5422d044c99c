-- The copies, their edges and their error nodes make an inlining.
use Rattle.std.proofs.Common.{◌≡◌, ℕ, ◌+◌, ◌<◌, length, List, [], ◌∷◌, Option, Some, None, map, arith, ap, sym, ◌∙◌, refl, subst, suc, zero, slice_get, eq-eqb, if◌then◌else◌}
use Rattle.std.proofs.lemmas.Option.{slice_get_within}
use Rattle.c_graph.specs.declared.graph.NodeId.{NodeId}
use Rattle.c_graph.specs.declared.graph.Node.{Node}
use Rattle.c_graph.specs.declared.graph.Node.TheVariants.{End}
use Rattle.c_graph.specs.declared.graph.Edge.{Edge}
use Rattle.c_graph.specs.Functions.{Flows, AreFlows, FnFlow}
use Rattle.call_inline.specs.declared.numbers.Copied.{Copied}
use Rattle.call_inline.specs.Inlining.{Among, edges_in, nodes_in, nodes_of, step}
use Rattle.call_inline.specs.Copying.{Offsets, all_edges, copy_edges, each_from, goal_of, is_at, leads_of, led, moved, node, number_of}
use Rattle.call_inline.proofs.Lists.{among-front, among-back, get-there}

-- what a node of a list gives is among what all give
in-each : {X : Type 0} → (f : ℕ → Node → List X) (n : ℕ) (xs : List Node) (k : ℕ) (x : Node) (y : X)
    → slice_get xs k ≡ Some x → Among (f (n + k) x) y → Among (each_from f n xs) y
in-each f n [] k x y s a = absurd (cc)
in-each f n (z ∷ xs) zero x y s a =
    let e : x ≡ z = cc in
    let o : n + 0 ≡ n = omega arith in
    among-front (f n z) (each_from f (n + 1) xs) y (subst (λ w. Among (f n w) y) e (subst (λ m. Among (f m x) y) o a))
in-each f n (z ∷ xs) (suc k) x y s a =
    let o : n + suc k ≡ (n + 1) + k = omega arith in
    among-back (f n z) (each_from f (n + 1) xs) y (in-each f (n + 1) xs k x y s (subst (λ m. Among (f m x) y) o a))

pub in-first : {X : Type 0} → (f : ℕ → Node → List X) (xs : List Node) (k : ℕ) (x : Node) (y : X)
    → slice_get xs k ≡ Some x → Among (f k x) y → Among (each_from f 0 xs) y
in-first f xs k x y s a = let o : k ≡ 0 + k = omega arith in in-each f 0 xs k x y s (subst (λ m. Among (f m x) y) o a)

-- an edge of a copy is among all
pub in-all : (p : Flows) (offsets : Offsets) (copies : List Copied) (c : Copied) (e : Edge)
    → Among copies c → Among (copy_edges p offsets c) e → Among (all_edges p offsets copies) e
in-all p offsets [] c e (k, s) a = absurd (cc)
in-all p offsets (z ∷ copies) c e (zero, s) a =
    let q : c ≡ z = cc in
    among-front (copy_edges p offsets z) (all_edges p offsets copies) e (subst (λ (w : Copied). Among (copy_edges p offsets w) e) q a)
in-all p offsets (z ∷ copies) c e (suc k, s) a =
    among-back (copy_edges p offsets z) (all_edges p offsets copies) e (in-all p offsets copies c e (k, s) a)

-- a node with a goal has its edge
pub in-leads : (p : Flows) (offsets : Offsets) (copies : List Copied) (c : Copied) (v to : NodeId) (x : Node)
    → Among copies c → slice_get (nodes_in p c.function) v.0 ≡ Some x → goal_of p offsets c v.0 x ≡ Some to
    → Among (all_edges p offsets copies) (step (number_of offsets c v) to)
in-leads p offsets copies c v to x at s goal =
    let e : Edge = step (number_of offsets c v) to in
    let one : Among (led (number_of offsets c (node v.0)) (Some to)) e = (0, refl) in
    let lead : Among (leads_of p offsets c v.0 x) e = subst (λ o. Among (led (number_of offsets c (node v.0)) o) e) (sym goal) one in
    in-all p offsets copies c e at
    (among-front (each_from (leads_of p offsets c) 0 (nodes_in p c.function)) (map (moved offsets c) (edges_in p c.function)) e
    (in-first (leads_of p offsets c) (nodes_in p c.function) v.0 x e s lead))

-- a function's exit is an end node of it
pub exit-ends : (p : Flows) (k : ℕ) (v : NodeId) → AreFlows p → slice_get p.exits k ≡ Some v → slice_get (nodes_in p k) v.0 ≡ Some End
exit-ends p k v flows s =
    let lt : k < length p.exits = slice_get_within p.exits k v s in
    let f = get-there p.graphs k (omega (arith, lt, flows.exits)) in
    subst (λ (o : Option FnFlow). slice_get (nodes_of o) v.0 ≡ Some End) (sym f.1) (flows.returns k f.0 v f.1 s)

-- the goal of an exit
pub exit-goal : (p : Flows) (offsets : Offsets) (c : Copied) (v back : NodeId) → slice_get p.exits c.function ≡ Some v → c.back ≡ Some back
    → goal_of p offsets c v.0 End ≡ Some back
exit-goal p offsets c v back s b =
    ap (λ o. if is_at o v.0 then c.back else None) s ∙ ap (λ t. if t then c.back else None) (eq-eqb v.0 v.0 refl) ∙ b
