-- Sizes that are right give one graph, whatever sizes they name beyond the limit.
use Rattle.std.proofs.Common.{◌≡◌, ℕ, zero, suc, ◌+◌, ◌≤◌, List, [], ◌∷◌, ◌++◌, Option, Some, None, map, min, refl, sym, ◌∙◌, ap, ap₂, subst, arith, slice_get}
use Rattle.std.specs.Prelude.{replicate}
use Rattle.std.proofs.lemmas.Option.{none-some, same_Some}
use Rattle.c_graph.specs.declared.graph.NodeId.{NodeId}
use Rattle.c_graph.specs.declared.graph.Node.{Node}
use Rattle.c_graph.specs.declared.graph.Node.TheVariants.{Plain, Error, End, Call}
use Rattle.c_graph.specs.declared.graph.Edge.{Edge}
use Rattle.c_graph.specs.declared.graph.LoopAt.{LoopAt}
use Rattle.c_graph.specs.Functions.{FnFlow, Flows}
use Rattle.c_graph.specs.Parts.{flow_of}
use Rattle.call_inline.specs.declared.numbers.Copied.{Copied}
use Rattle.call_inline.specs.Inlining.{nodes_of, nodes_in, edges_in, entry_in, loops_of, or_zero}
use Rattle.call_inline.specs.Copying.{Offsets, all_edges, all_lays, all_offsets, called, calls_in, calls_in_any, calls_of, copied_nodes, copies_after, copy_edges, copy_lays, each_from, goal_of, graph_of, items_in, lays_of, leads_of, led, main_copy, main_loops, moved, node, number_of, offsets_among, plain_if, written}
use Rattle.call_inline.specs.Sizes.{AreExact, copy_nodes, nodes_among, nodes_at}
use Rattle.call_inline.specs.Inlined.{inlined, own_offsets, size_of}
use Rattle.call_inline.specs.Layout.{IsLaidOut}
use Rattle.call_inline.proofs.Unfolding.{among-there}

-- ---- Sizes

-- sizes agree where they are below a number
abbrev Agree : (ℕ → ℕ) → (ℕ → ℕ) → ℕ → Type 0
Agree size other bound = (g : ℕ) → size g + 1 ≤ bound → size g ≡ other g

agree-less : (size other : ℕ → ℕ) (bound less : ℕ) → less ≤ bound → Agree size other bound → Agree size other less
agree-less size other bound less le agree g lt = agree g (omega (arith, le, lt))

node-same : (size other : ℕ → ℕ) (bound : ℕ) (x : Node) → nodes_at size x ≤ bound → Agree size other bound → nodes_at size x ≡ nodes_at other x
node-same size other bound Plain le agree = refl
node-same size other bound (Error kind at) le agree = refl
node-same size other bound End le agree = refl
node-same size other bound (Call callee next) le agree = ap (λ (n : ℕ). n + 1) (agree callee le)

among-same : (size other : ℕ → ℕ) (bound : ℕ) (xs : List Node) → nodes_among size xs ≤ bound → Agree size other bound → nodes_among size xs ≡ nodes_among other xs
among-same size other bound [] le agree = refl
among-same size other bound (x ∷ xs) le agree =
    ap₂ (λ (a b : ℕ). a + b) (node-same size other bound x (omega (arith, le)) agree) (among-same size other bound xs (omega (arith, le)) agree)

offsets-alike : (size other : ℕ → ℕ) (bound at : ℕ) (xs : List Node) → nodes_among size xs ≤ bound → Agree size other bound → offsets_among size at xs ≡ offsets_among other at xs
offsets-alike size other bound at [] le agree = refl
offsets-alike size other bound at (x ∷ xs) le agree =
    let same : nodes_at size x ≡ nodes_at other x = node-same size other bound x (omega (arith, le)) agree in
    ap (λ (os : List ℕ). min at 4294967295 ∷ os)
    (offsets-alike size other bound (at + nodes_at size x) xs (omega (arith, le)) agree ∙ ap (λ (n : ℕ). offsets_among other (at + n) xs) same)

-- a size that is right is the number of nodes down to as many calls
size-is : (graphs : List FnFlow) (size : ℕ → ℕ) → AreExact graphs size → (depth f : ℕ) → size f ≤ depth → size f ≤ 65536 → size f ≡ copy_nodes graphs depth f
size-is graphs size exact zero f le few = omega (arith, le)
size-is graphs size exact (suc depth) f le few =
    let own : size f ≡ nodes_among size (nodes_of (slice_get graphs f)) = exact f few in
    let agree : Agree size (copy_nodes graphs depth) (size f) =
    (λ g lt. size-is graphs size exact depth g (omega (arith, le, lt)) (omega (arith, few, lt))) in
    own ∙ among-same size (copy_nodes graphs depth) (size f) (nodes_of (slice_get graphs f)) (omega (arith, own)) agree

module _ (p : Flows) (size : ℕ → ℕ) (exact : AreExact p.graphs size) where
  abbrev Small : ℕ → Type 0
  Small f = size f ≤ 65536

  small-is : (f : ℕ) → Small f → size f ≡ size_of p f
  unfolding size_of
  small-is f few = size-is p.graphs size exact 65536 f few few

  abbrev o : Offsets
  o = all_offsets size p.graphs

  abbrev own : Offsets
  own = own_offsets p

  small-own : (f : ℕ) → Small f → nodes_among size (nodes_in p f) ≤ 65536
  small-own f few = let is : size f ≡ nodes_among size (nodes_in p f) = exact f few in omega (arith, few, is)

  agree : Agree size (size_of p) 65536
  agree g lt = small-is g (omega (arith, lt))

  list-same : (f : ℕ) → Small f → items_in (slice_get o f) ≡ items_in (slice_get own f)
  list-same f few =
      among-there size p.graphs f ∙ offsets-alike size (size_of p) 65536 0 (nodes_in p f) (small-own f few) agree ∙ sym (among-there (size_of p) p.graphs f)

  number-same : (c : Copied) → Small c.function → (v : NodeId) → number_of o c v ≡ number_of own c v
  number-same c few v = ap (λ (xs : List ℕ). node (min (c.base + or_zero (slice_get xs v.0)) 4294967295)) (list-same c.function few)

  numbers-same : (c : Copied) → Small c.function → number_of o c ≡ number_of own c
  numbers-same c few = λ i v. number-same c few v i

  -- ---- What each node of a small function gives

  at-most : (xs : List Node) (k : ℕ) (x : Node) → slice_get xs k ≡ Some x → nodes_at size x ≤ nodes_among size xs
  at-most [] k x e = absurd (none-some x e)
  at-most (y ∷ ys) zero x e = let is : nodes_at size y ≡ nodes_at size x = ap (nodes_at size) (same_Some y x e) in omega (arith, is)
  at-most (y ∷ ys) (suc k) x e = let le : nodes_at size x ≤ nodes_among size ys = at-most ys k x e in omega (arith, le)

  -- a node of a small function calls small functions alone
  abbrev CallsSmall : Node → Type 0
  CallsSmall x = nodes_at size x ≤ 65536

  calls-small : (f : ℕ) → Small f → (k : ℕ) (x : Node) → slice_get (nodes_in p f) k ≡ Some x → CallsSmall x
  calls-small f few k x e = let le : nodes_at size x ≤ nodes_among size (nodes_in p f) = at-most (nodes_in p f) k x e in omega (arith, le, small-own f few)

  each-same : {X : Type 0} (f g : ℕ → Node → List X) (n : ℕ) (xs : List Node) → ((k : ℕ) (x : Node) → slice_get xs k ≡ Some x → CallsSmall x)
      → ((m : ℕ) (x : Node) → CallsSmall x → f m x ≡ g m x) → each_from f n xs ≡ each_from g n xs
  each-same f g n [] small same = refl
  each-same f g n (x ∷ xs) small same =
      ap₂ (λ a b. a ++ b) (same n x (small 0 x refl)) (each-same f g (n + 1) xs (λ k y e. small (suc k) y e) same)

  module _ (c : Copied) (few : Small c.function) where
    abbrev num : NodeId → NodeId
    num = number_of o c

    -- with the numbers of a copy, and those of the copy for a call in it
    called-same : (n callee : ℕ) (next : NodeId) → called o c n callee next ≡ called own c n callee next
    called-same n callee next =
        ap (λ (f : NodeId → NodeId). record { function = callee; base = min ((f (node n)).0 + 1) 4294967295; back = Some (f next) }) (numbers-same c few)

    calls-same : (n : ℕ) (x : Node) → calls_of o c n x ≡ calls_of own c n x
    calls-same n Plain = refl
    calls-same n (Error kind at) = refl
    calls-same n End = refl
    calls-same n (Call callee next) = ap (λ (d : Copied). d ∷ []) (called-same n callee next)

    calls_in-same : calls_in p o c ≡ calls_in p own c
    calls_in-same = each-same (calls_of o c) (calls_of own c) 0 (nodes_in p c.function) (calls-small c.function few) (λ m x s. calls-same m x)

    goal-same : (n : ℕ) (x : Node) → CallsSmall x → goal_of p o c n x ≡ goal_of p own c n x
    goal-same n Plain s = refl
    goal-same n (Error kind at) s = refl
    goal-same n End s = refl
    goal-same n (Call callee next) s =
        ap Some (number-same (called o c n callee next) (omega (arith, s)) (entry_in p callee)
        ∙ ap (λ (d : Copied). number_of own d (entry_in p callee)) (called-same n callee next))

    leads-same : (n : ℕ) (x : Node) → CallsSmall x → leads_of p o c n x ≡ leads_of p own c n x
    leads-same n x s = ap₂ led (number-same c few (node n)) (goal-same n x s)

    lays-same : (n : ℕ) (x : Node) → CallsSmall x → lays_of p o c n x ≡ lays_of p own c n x
    lays-same n x s = ap₂ (λ (v : NodeId) (g : Option NodeId). (v.0, plain_if g x) ∷ []) (number-same c few (node n)) (goal-same n x s)

    moved-same : moved o c ≡ moved own c
    moved-same = (let by : (NodeId → NodeId) → Edge → Edge = λ f e. record { from = f e.from; to = f e.to; ops = e.ops } in ap by (numbers-same c few))

    edges-same : copy_edges p o c ≡ copy_edges p own c
    edges-same =
        ap₂ (λ (a b : List Edge). a ++ b)
        (each-same (leads_of p o c) (leads_of p own c) 0 (nodes_in p c.function) (calls-small c.function few) leads-same)
        (ap (λ (f : Edge → Edge). map f (edges_in p c.function)) moved-same)

    copy_lays-same : copy_lays p o c ≡ copy_lays p own c
    copy_lays-same = each-same (lays_of p o c) (lays_of p own c) 0 (nodes_in p c.function) (calls-small c.function few) lays-same

  -- ---- All copies

  abbrev AreSmall : List Copied → Type 0
  AreSmall cs = (k : ℕ) (c : Copied) → slice_get cs k ≡ Some c → Small c.function

  all_edges-same : (cs : List Copied) → AreSmall cs → all_edges p o cs ≡ all_edges p own cs
  all_edges-same [] small = refl
  all_edges-same (c ∷ cs) small = ap₂ (λ (a b : List Edge). a ++ b) (edges-same c (small 0 c refl)) (all_edges-same cs (λ k d e. small (suc k) d e))

  all_lays-same : (cs : List Copied) → AreSmall cs → all_lays p o cs ≡ all_lays p own cs
  all_lays-same [] small = refl
  all_lays-same (c ∷ cs) small = ap₂ (λ (a b : List (ℕ × Node)). a ++ b) (copy_lays-same c (small 0 c refl)) (all_lays-same cs (λ k d e. small (suc k) d e))

  small-append : (cs ds : List Copied) → AreSmall cs → AreSmall ds → AreSmall (cs ++ ds)
  small-append [] ds a b k c e = b k c e
  small-append (x ∷ xs) ds a b zero c e = a 0 c e
  small-append (x ∷ xs) ds a b (suc k) c e = small-append xs ds (λ j d f. a (suc j) d f) b k c e

  -- the copies for calls in a list of nodes that call small functions
  called-small : (c : Copied) (n : ℕ) (xs : List Node) → ((k : ℕ) (x : Node) → slice_get xs k ≡ Some x → CallsSmall x) → AreSmall (each_from (calls_of o c) n xs)
  called-small c n [] small k d e = absurd (none-some d e)
  called-small c n (x ∷ xs) small k d e = small-append (calls_of o c n x) (each_from (calls_of o c) (n + 1) xs) (one x (small 0 x refl)) (called-small c (n + 1) xs (λ j y h. small (suc j) y h)) k d e
    where
      one : (y : Node) → CallsSmall y → (j : ℕ) (f : Copied) → slice_get (calls_of o c n y) j ≡ Some f → Small f.function
      one Plain s k d e = absurd (none-some d e)
      one (Error kind at) s k d e = absurd (none-some d e)
      one End s k d e = absurd (none-some d e)
      one (Call callee next) s zero d e = let is : callee ≡ d.function = ap (λ (x : Copied). x.function) (same_Some _ d e) in subst Small is (omega (arith, s))
      one (Call callee next) s (suc k) d e = absurd (none-some d e)

  any-small : (x : Option Copied) → ((c : Copied) → x ≡ Some c → Small c.function) → AreSmall (calls_in_any p o x)
  any-small None small k d e = absurd (none-some d e)
  any-small (Some c) small k d e = called-small c 0 (nodes_in p c.function) (calls-small c.function (small c refl)) k d e

  any-same : (x : Option Copied) → ((c : Copied) → x ≡ Some c → Small c.function) → calls_in_any p o x ≡ calls_in_any p own x
  any-same None small = refl
  any-same (Some c) small = calls_in-same c (small c refl)

  module _ (few : Small p.main) where
    copies-small : (n : ℕ) → AreSmall (copies_after p o n)
    copies-small zero zero c e = subst Small (ap (λ (x : Copied). x.function) (same_Some (main_copy p) c e)) few
    copies-small zero (suc k) c e = absurd (none-some c e)
    copies-small (suc n) k c e =
        small-append (copies_after p o n) (calls_in_any p o (slice_get (copies_after p o n) n)) (copies-small n) (any-small (slice_get (copies_after p o n) n) (λ d h. copies-small n n d h)) k c e

    copies-same : (n : ℕ) → copies_after p o n ≡ copies_after p own n
    copies-same zero = refl
    copies-same (suc n) =
        ap₂ (λ (a b : List Copied). a ++ b) (copies-same n)
        (any-same (slice_get (copies_after p o n) n) (λ c e. copies-small n n c e) ∙ ap (λ (cs : List Copied). calls_in_any p own (slice_get cs n)) (copies-same n))

    nodes-same : (n : ℕ) → copied_nodes p o (copies_after p o n) n ≡ copied_nodes p own (copies_after p own n) n
    nodes-same n =
        ap (λ (ls : List (ℕ × Node)). written (replicate n End) ls) (all_lays-same (copies_after p o n) (copies-small n))
        ∙ ap (λ (cs : List Copied). copied_nodes p own cs n) (copies-same n)

    whole-edges-same : (n : ℕ) → all_edges p o (copies_after p o n) ≡ all_edges p own (copies_after p own n)
    whole-edges-same n = all_edges-same (copies_after p o n) (copies-small n) ∙ ap (all_edges p own) (copies-same n)

    loops-same : main_loops p o ≡ main_loops p own
    loops-same = ap (λ (f : NodeId → NodeId). map (λ (l : LoopAt). record { at = l.at; node = f l.node }) (loops_of (slice_get p.graphs p.main))) (numbers-same (main_copy p) few)

    graph-same : (n : ℕ) → graph_of p o (copies_after p o n) n ≡ graph_of p own (copies_after p own n) n
    graph-same n = λ i. flow_of (nodes-same n i) (whole-edges-same n i) p.cells p.terms (number-same (main_copy p) few (entry_in p p.main) i) (loops-same i)

-- whatever the sizes are by which copies are laid out, there is one graph
pub laid-is-inlined : (p : Flows) (offsets : Offsets) (total : ℕ) → IsLaidOut p offsets total → graph_of p offsets (copies_after p offsets total) total ≡ inlined p
laid-is-inlined p offsets total out =
    let few : out.size p.main ≤ 65536 = omega (arith, out.main, out.few) in
    let size : total ≡ size_of p p.main = sym out.main ∙ small-is p out.size out.exact p.main few in
    ap (λ (o : Offsets). graph_of p o (copies_after p o total) total) out.lists ∙ graph-same p out.size out.exact few total
    ∙ ap (λ (n : ℕ). graph_of p (own_offsets p) (copies_after p (own_offsets p) n) n) size
