-- What is made of function graphs is a graph, where these have few edges.
use Rattle.std.proofs.Common.{◌≡◌, ◌⊎◌, inl, inr, ℕ, ◌+◌, ◌*◌, ◌<◌, ◌≤◌, ◌||◌, length, length-append, Bool, true, false, List, [], ◌∷◌, ◌++◌, Option, Some, None, map, suc, zero, slice_get, replicate, arith, ap, sym, ◌∙◌, refl, subst, eq-eqb, nat_eq}
use Rattle.std.specs.List.{All}
use Rattle.std.proofs.lemmas.Bool.{eqb-true}
use Rattle.std.proofs.lemmas.Option.{none-some, same_Some, get_or_from_slice_get}
use Rattle.bv_term.specs.WellFormed.{Table}
use Rattle.c_graph.specs.declared.graph.NodeId.{NodeId}
use Rattle.c_graph.specs.declared.graph.Node.{Node}
use Rattle.c_graph.specs.declared.graph.Node.TheVariants.{Plain, Error, End, Call}
use Rattle.c_graph.specs.declared.graph.Edge.{Edge}
use Rattle.c_graph.specs.declared.graph.LoopAt.{LoopAt}
use Rattle.c_graph.specs.declared.graph.Cell.{Cell}
use Rattle.c_graph.specs.Parts.{flow_of}
use Rattle.c_graph.specs.Shape.{EdgeFits, GoesOn, IsFlow, IsNoCall, IsNodeOf, OperationFits, has_out}
use Rattle.c_graph.specs.Functions.{AreFlows, FnFlow, Flows}
use Rattle.call_inline.specs.declared.numbers.Copied.{Copied}
use Rattle.call_inline.specs.Inlining.{Among, IsCall, IsOwn, IsReturn, edges_in, edges_of, entry_in, entry_of, loops_of, nodes_in, nodes_of, step}
use Rattle.call_inline.specs.Copying.{Offsets, all_edges, all_lays, called, copied_nodes, copies_after, copy_edges, copy_lays, each_from, goal_of, graph_of, laid, lays_of, leads_of, led, loop_in, main_copy, main_loops, moved, node, number_of, plain_if}
use Rattle.call_inline.specs.Layout.{AreSparse, IsLaidOut}
use Rattle.call_inline.proofs.Lists.{all-there, among-back, among-either, among-map, from-map, get-there}
use Rattle.call_inline.proofs.Gluing.{in-all, in-leads, exit-ends, exit-goal}
use Rattle.call_inline.proofs.Turning.{first, followed}
use Rattle.call_inline.proofs.Leading.{only}
use Rattle.call_inline.proofs.Weighing.{count, count-adds, weigh}
use Rattle.call_inline.proofs.Unfolding.{HasOrigin, IsPlaced, all-weigh, call-fits, fewer, function-of, number-below, placed}
use Rattle.call_inline.proofs.Standing.{length-copied, stands, written-all}

-- ---- Lists

all-from : {X : Type 0} (P : X → Type 0) (xs : List X) → ((k : ℕ) (x : X) → slice_get xs k ≡ Some x → P x) → All P xs
all-from P xs h = λ k d lt. let (x, s) = get-there xs k lt in subst P (sym (get_or_from_slice_get xs k x d s)) (h k x s)

has-edge : (es : List Edge) (e : Edge) (v : NodeId) → Among es e → e.from.0 ≡ v.0 → has_out es v ≡ true
has-edge [] e v (k, s) is = absurd (none-some e s)
has-edge (x ∷ es) e v (zero, s) is =
    let here : x.from.0 ≡ v.0 = ap (λ (y : Edge). y.from.0) (same_Some x e s) ∙ is in
    rw (eq-eqb x.from.0 v.0 here) refl
has-edge (x ∷ es) e v (suc k, s) is =
    elim (nat_eq x.from.0 v.0) as (λ b. (b || has_out es v) ≡ true) [
      | true ↦ refl
      | false ↦ has-edge es e v (k, s) is
    ]

from-step : (x : Edge) (es : List Edge) (v : NodeId) (b : Bool) → nat_eq x.from.0 v.0 ≡ b → (b || has_out es v) ≡ true → (has_out es v ≡ true → (e : Edge) × Among es e × (e.from.0 ≡ v.0)) → (e : Edge) × Among (x ∷ es) e × (e.from.0 ≡ v.0)
from-step x es v true is h rest = (x, (0, refl), eqb-true x.from.0 v.0 is)
from-step x es v false is h rest = let (e, at, from) = rest h in (e, (suc at.0, at.1), from)

from-edge : (es : List Edge) (v : NodeId) → has_out es v ≡ true → (e : Edge) × Among es e × (e.from.0 ≡ v.0)
from-edge [] v h = absurd (cc h)
from-edge (x ∷ es) v h = from-step x es v (nat_eq x.from.0 v.0) refl h (λ t. from-edge es v t)

-- ---- Few edges

led-few : (here : NodeId) (o : Option NodeId) → length (led here o) ≤ 1
led-few here None = omega arith
led-few here (Some to) = omega arith

leads-few : (p : Flows) (offsets : Offsets) (c : Copied) (n : ℕ) (xs : List Node) → length (each_from (leads_of p offsets c) n xs) ≤ length (each_from (lays_of p offsets c) n xs)
leads-few p offsets c n [] = omega arith
leads-few p offsets c n (x ∷ xs) =
    let one : length (leads_of p offsets c n x) ≤ 1 = led-few (number_of offsets c (node n)) (goal_of p offsets c n x) in
    let rest : length (each_from (leads_of p offsets c) (n + 1) xs) ≤ length (each_from (lays_of p offsets c) (n + 1) xs) = leads-few p offsets c (n + 1) xs in
    let both : length (leads_of p offsets c n x ++ each_from (leads_of p offsets c) (n + 1) xs) ≡ length (leads_of p offsets c n x) + length (each_from (leads_of p offsets c) (n + 1) xs) =
    length-append (leads_of p offsets c n x) (each_from (leads_of p offsets c) (n + 1) xs) in
    omega (arith, one, rest, both)

length-lays : (p : Flows) (offsets : Offsets) (c : Copied) (n : ℕ) (xs : List Node) → length (each_from (lays_of p offsets c) n xs) ≡ length xs
length-lays p offsets c n [] = refl
length-lays p offsets c n (x ∷ xs) = ap suc (length-lays p offsets c (n + 1) xs)

length-moved : (offsets : Offsets) (c : Copied) (es : List Edge) → length (map (moved offsets c) es) ≡ length es
length-moved offsets c [] = refl
length-moved offsets c (e ∷ es) = ap suc (length-moved offsets c es)

sparse-in : (p : Flows) (k : ℕ) (o : Option FnFlow) → AreSparse p → slice_get p.graphs k ≡ o → length (edges_of o) ≤ 30000 * length (nodes_of o)
sparse-in p k None sparse is = omega arith
sparse-in p k (Some g) sparse is = sparse k g is

edges-few : (p : Flows) (offsets : Offsets) (cs : List Copied) → AreSparse p → length (all_edges p offsets cs) ≤ 30001 * length (all_lays p offsets cs)
edges-few p offsets [] sparse = omega arith
edges-few p offsets (c ∷ cs) sparse =
    let rest : length (all_edges p offsets cs) ≤ 30001 * length (all_lays p offsets cs) = edges-few p offsets cs sparse in
    let leads : length (each_from (leads_of p offsets c) 0 (nodes_in p c.function)) ≤ length (copy_lays p offsets c) = leads-few p offsets c 0 (nodes_in p c.function) in
    let nodes : length (copy_lays p offsets c) ≡ length (nodes_in p c.function) = length-lays p offsets c 0 (nodes_in p c.function) in
    let own : length (map (moved offsets c) (edges_in p c.function)) ≡ length (edges_in p c.function) = length-moved offsets c (edges_in p c.function) in
    let few : length (edges_in p c.function) ≤ 30000 * length (nodes_in p c.function) = sparse-in p c.function (slice_get p.graphs c.function) sparse refl in
    let one : length (copy_edges p offsets c) ≡ length (each_from (leads_of p offsets c) 0 (nodes_in p c.function)) + length (map (moved offsets c) (edges_in p c.function)) =
    length-append (each_from (leads_of p offsets c) 0 (nodes_in p c.function)) (map (moved offsets c) (edges_in p c.function)) in
    let both : length (copy_edges p offsets c ++ all_edges p offsets cs) ≡ length (copy_edges p offsets c) + length (all_edges p offsets cs) = length-append (copy_edges p offsets c) (all_edges p offsets cs) in
    let lays : length (copy_lays p offsets c ++ all_lays p offsets cs) ≡ length (copy_lays p offsets c) + length (all_lays p offsets cs) = length-append (copy_lays p offsets c) (all_lays p offsets cs) in
    omega (arith, rest, leads, nodes, own, few, one, both, lays)

weigh-count : (ls : List (ℕ × Node)) → weigh (λ (l : ℕ × Node). count l.0 1) ls ≡ length ls
weigh-count [] = refl
weigh-count (l ∷ ls) = let rest : weigh (λ (a : ℕ × Node). count a.0 1) ls ≡ length ls = weigh-count ls in omega (arith, rest)

-- ---- No calls

end-no-call : (o : Option NodeId) → IsNoCall (plain_if o End)
end-no-call None = tt
end-no-call (Some to) = tt

plain-no-call : (p : Flows) (offsets : Offsets) (c : Copied) (n : ℕ) (x : Node) → IsNoCall (plain_if (goal_of p offsets c n x) x)
plain-no-call p offsets c n Plain = tt
plain-no-call p offsets c n (Error kind at) = tt
plain-no-call p offsets c n End = end-no-call (goal_of p offsets c n End)
plain-no-call p offsets c n (Call callee next) = tt

lays-no-call : (p : Flows) (offsets : Offsets) (c : Copied) (n : ℕ) (xs : List Node) (k : ℕ) (l : ℕ × Node) → slice_get (each_from (lays_of p offsets c) n xs) k ≡ Some l → IsNoCall l.1
lays-no-call p offsets c n [] k l s = absurd (none-some l s)
lays-no-call p offsets c n (x ∷ xs) zero l s = subst (λ (a : ℕ × Node). IsNoCall a.1) (same_Some (laid p offsets c n x) l s) (plain-no-call p offsets c n x)
lays-no-call p offsets c n (x ∷ xs) (suc k) l s = lays-no-call p offsets c (n + 1) xs k l s

all-no-call : (p : Flows) (offsets : Offsets) (cs : List Copied) (k : ℕ) (l : ℕ × Node) → slice_get (all_lays p offsets cs) k ≡ Some l → IsNoCall l.1
all-no-call p offsets [] k l s = absurd (none-some l s)
all-no-call p offsets (c ∷ cs) k l s = elim (among-either (copy_lays p offsets c) (all_lays p offsets cs) l (k, s)) [
  | inl a ↦ lays-no-call p offsets c 0 (nodes_in p c.function) a.0 l a.1
  | inr a ↦ all-no-call p offsets cs a.0 l a.1
]

ends-no-call : (n i : ℕ) (x : Node) → slice_get (replicate n End) i ≡ Some x → IsNoCall x
ends-no-call zero i x s = absurd (none-some x s)
ends-no-call (suc n) zero x s = subst IsNoCall (same_Some End x s) tt
ends-no-call (suc n) (suc i) x s = ends-no-call n i x s

-- ---- Edges

-- a node that is plain in a copy is plain, or leads on without doing anything
plain-goal : (o : Option NodeId) (x : Node) → plain_if o x ≡ Plain → (x ≡ Plain) ⊎ ((to : NodeId) × (o ≡ Some to))
plain-goal None x e = inl e
plain-goal (Some to) x e = inr (to, refl)

-- a node that leads on without doing anything is plain in a copy
goal-plain : (o : Option NodeId) (x : Node) (to : NodeId) → o ≡ Some to → plain_if o x ≡ Plain
goal-plain o x to e = ap (λ (z : Option NodeId). plain_if z x) e

module _ (p : Flows) (offsets : Offsets) (total : ℕ) (flows : AreFlows p) (out : IsLaidOut p offsets total) where
  abbrev copies : List Copied
  copies = copies_after p offsets total

  abbrev nodes : List Node
  nodes = copied_nodes p offsets copies total

  abbrev edges : List Edge
  edges = all_edges p offsets copies

  -- a node to which an edge may lead
  abbrev IsTarget : NodeId → Type 0
  IsTarget v = IsNodeOf nodes v × GoesOn nodes edges v

  there : (c : Copied) (v : NodeId) → Among copies c → IsNodeOf (nodes_in p c.function) v → IsNodeOf nodes (number_of offsets c v)
  there c v at lt =
      let below : (number_of offsets c (node v.0)).0 < total = number-below p offsets total flows out c v.0 (placed p offsets total flows out total c at).0 lt in
      let long : length nodes ≡ total = length-copied p offsets copies total in
      omega (arith, below, long)

  goes : (c : Copied) (v : NodeId) (x : Node) → Among copies c → slice_get (nodes_in p c.function) v.0 ≡ Some x → GoesOn (nodes_in p c.function) (edges_in p c.function) v → GoesOn nodes edges (number_of offsets c v)
  goes c v x at s on plain =
      let both : Some (plain_if (goal_of p offsets c v.0 x) x) ≡ Some Plain = sym (stands p offsets total flows out c v x at s) ∙ plain in
      elim (plain-goal (goal_of p offsets c v.0 x) x (same_Some (plain_if (goal_of p offsets c v.0 x) x) Plain both)) [
        | inl e ↦
            let out_there : has_out (edges_in p c.function) v ≡ true = on (s ∙ ap (λ (y : Node). Some y) e) in
            let (own, own_there, from) = from-edge (edges_in p c.function) v out_there in
            has-edge edges (moved offsets c own) (number_of offsets c v)
            (in-all p offsets copies c (moved offsets c own) at
            (among-back (each_from (leads_of p offsets c) 0 (nodes_in p c.function)) (map (moved offsets c) (edges_in p c.function)) (moved offsets c own) (among-map (moved offsets c) (edges_in p c.function) own own_there)))
            (ap (λ (i : ℕ). (number_of offsets c (node i)).0) from)
        | inr g ↦ has-edge edges (step (number_of offsets c v) g.0) (number_of offsets c v) (in-leads p offsets copies c v g.0 x at s g.1) refl
      ]

  target : (c : Copied) (v : NodeId) → Among copies c → IsNodeOf (nodes_in p c.function) v → GoesOn (nodes_in p c.function) (edges_in p c.function) v → IsTarget (number_of offsets c v)
  target c v at lt on = let (x, s) = get-there (nodes_in p c.function) v.0 lt in (there c v at lt, goes c v x at s on)

  -- the entry of a function in a copy of it
  entry-target : (c : Copied) → Among copies c → IsTarget (number_of offsets c (entry_in p c.function))
  entry-target c at =
      let h : IsPlaced p offsets total flows out c = (placed p offsets total flows out total c at).0 in
      let (f, is, fits) = function-of p offsets total flows out c.function h.there in
      let entry : IsNodeOf (nodes_in p c.function) (entry_in p c.function) × GoesOn (nodes_in p c.function) (edges_in p c.function) (entry_in p c.function) =
      subst (λ (o : Option FnFlow). IsNodeOf (nodes_of o) (entry_of o) × GoesOn (nodes_of o) (edges_of o) (entry_of o)) (sym is) (fits.entry, fits.entry_goes_on) in
      target c (entry_in p c.function) at entry.0 entry.1

  -- where a copy goes on
  back-target : (c : Copied) (back : NodeId) → HasOrigin p offsets total flows out copies c → c.back ≡ Some back → IsTarget back
  back-target c back (inl main) b = let none : None ≡ Some back = ap (λ (d : Copied). d.back) (sym main) ∙ b in absurd (none-some back none)
  back-target c back (inr o) b =
      let is : number_of offsets o.caller o.next ≡ back = same_Some (number_of offsets o.caller o.next) back (sym o.back ∙ b) in
      let fits = call-fits p offsets total flows out o.caller o.placed o.place c.function o.next o.call in
      subst IsTarget is (target o.caller o.next o.among fits.1 fits.2)

  -- what is asked of an edge, and of where it leads
  record IsGood (e : Edge) : Type 0 where
    fits : EdgeFits nodes p.terms e
    goes_on : GoesOn nodes edges e.to

  good-step : (c : Copied) (v to goal : NodeId) (x : Node) → Among copies c → slice_get (nodes_in p c.function) v.0 ≡ Some x → goal_of p offsets c v.0 x ≡ Some goal → IsTarget to → IsGood (step (number_of offsets c v) to)
  good-step c v to goal x at s leads t = record {
    fits = record {
      from = stands p offsets total flows out c v x at s ∙ ap (λ (y : Node). Some y) (goal-plain (goal_of p offsets c v.0 x) x goal leads);
      to = t.0;
      operations = all-from (OperationFits p.terms) [] (λ k y s. absurd (none-some y s));
    };
    goes_on = t.1;
  }

  good-own : (c : Copied) (e : Edge) → Among copies c → IsOwn p copies (number_of offsets) c e → IsGood e
  good-own c e at o =
      let h : IsPlaced p offsets total flows out c = (placed p offsets total flows out total c at).0 in
      let (f, is, fits) = function-of p offsets total flows out c.function h.there in
      let own : Among f.edges o.own = subst (λ (g : Option FnFlow). Among (edges_of g) o.own) is o.there in
      let fit : EdgeFits f.nodes p.terms o.own = all-there (EdgeFits f.nodes p.terms) f.edges own.0 o.own fits.edges own.1 in
      let on : GoesOn f.nodes f.edges o.own.to = all-there (λ (x : Edge). GoesOn f.nodes f.edges x.to) f.edges own.0 o.own fits.targets_go_on own.1 in
      let known : (slice_get (nodes_in p c.function) o.own.from.0 ≡ Some Plain) × IsNodeOf (nodes_in p c.function) o.own.to × GoesOn (nodes_in p c.function) (edges_in p c.function) o.own.to =
      subst (λ (g : Option FnFlow). (slice_get (nodes_of g) o.own.from.0 ≡ Some Plain) × IsNodeOf (nodes_of g) o.own.to × GoesOn (nodes_of g) (edges_of g) o.own.to) (sym is) (fit.from, fit.to, on) in
      let t : IsTarget (number_of offsets c o.own.to) = target c o.own.to at known.1 known.2 in
      subst IsGood (sym o.is) (record {
        fits = record { from = stands p offsets total flows out c o.own.from Plain at known.0; to = t.0; operations = fit.operations };
        goes_on = t.1;
      })

  good-call : (c : Copied) (e : Edge) → Among copies c → IsCall p copies (number_of offsets) c e → IsGood e
  good-call c e at o =
      let entry : IsTarget (number_of offsets o.copy (entry_in p o.callee)) = subst (λ (k : ℕ). IsTarget (number_of offsets o.copy (entry_in p k))) o.function (entry-target o.copy o.among) in
      let goal : NodeId = number_of offsets (called offsets c o.node.0 o.callee o.next) (entry_in p o.callee) in
      subst IsGood (sym o.is) (good-step c o.node (number_of offsets o.copy (entry_in p o.callee)) goal (Call o.callee o.next) at o.there refl entry)

  good-return : (c : Copied) (e : Edge) → Among copies c → IsReturn p copies (number_of offsets) c e → IsGood e
  good-return c e at o =
      let origin = (placed p offsets total flows out total c at).1 in
      subst IsGood (sym o.is) (good-step c o.exit o.back o.back End at (exit-ends p c.function o.exit flows o.there) (exit-goal p offsets c o.exit o.back o.there o.goes_on) (back-target c o.back origin o.goes_on))

  good : (e : Edge) → Among edges e → IsGood e
  good e a =
      let (c, at, kind) = only p offsets total copies (followed p offsets total) (fewer p offsets total flows out total) e a in
      elim kind [
        | inl o ↦ good-own c e at o
        | inr (inl o) ↦ good-call c e at o
        | inr (inr o) ↦ good-return c e at o
      ]

  main-there : Among copies (main_copy p)
  main-there = (0, first p offsets total)

  few : AreSparse p → length nodes + length edges ≤ 2147483647
  few sparse =
      let long : length nodes ≡ total = length-copied p offsets copies total in
      let most : total ≤ 65536 = out.few in
      let leads : length edges ≤ 30001 * length (all_lays p offsets copies) = edges-few p offsets copies sparse in
      let all : length (all_lays p offsets copies) ≡ total = sym (weigh-count (all_lays p offsets copies)) ∙ all-weigh p offsets total flows out count count-adds in
      omega (arith, long, most, leads, all)

  loop-there : (k : ℕ) (l : LoopAt) → slice_get (map (loop_in offsets (main_copy p)) (loops_of (slice_get p.graphs p.main))) k ≡ Some l → IsNodeOf nodes l.node
  loop-there k l s =
      let (own, at, is) = from-map (loop_in offsets (main_copy p)) (loops_of (slice_get p.graphs p.main)) l (k, s) in
      let (f, g, fits) = function-of p offsets total flows out p.main flows.main in
      let own_there : Among f.loops own = subst (λ (o : Option FnFlow). Among (loops_of o) own) g at in
      let lt : IsNodeOf f.nodes own.node = all-there (λ (x : LoopAt). IsNodeOf f.nodes x.node) f.loops own_there.0 own fits.loops own_there.1 in
      let lt_in : IsNodeOf (nodes_in p p.main) own.node = subst (λ (o : Option FnFlow). IsNodeOf (nodes_of o) own.node) (sym g) lt in
      subst (λ (x : LoopAt). IsNodeOf nodes x.node) (sym is) (there (main_copy p) own.node main-there lt_in)

  pub fits : AreSparse p → IsFlow (graph_of p offsets (copies_after p offsets total) total)
  fits sparse =
      let entry : IsTarget (number_of offsets (main_copy p) (entry_in p p.main)) = entry-target (main_copy p) main-there in
      record {
        no_calls = all-from IsNoCall nodes (written-all IsNoCall (replicate total End) (all_lays p offsets copies) (ends-no-call total) (all-no-call p offsets copies));
        few = few sparse;
        few_cells = flows.few_cells;
        entry = entry.0;
        edges = all-from (EdgeFits nodes p.terms) edges (λ k e s. (good e (k, s)).fits);
        entry_goes_on = entry.1;
        targets_go_on = all-from (λ (e : Edge). GoesOn nodes edges e.to) edges (λ k e s. (good e (k, s)).goes_on);
        loops = all-from (λ (l : LoopAt). IsNodeOf nodes l.node) (map (loop_in offsets (main_copy p)) (loops_of (slice_get p.graphs p.main))) loop-there;
        cells = flows.cells;
        table = flows.table;
      }

-- the parts that are made are those
pub parts-are : (p : Flows) (offsets : Offsets) (total : ℕ) (cs : List Copied) (ns : List Node) (es : List Edge) (cells : List Cell) (terms : Table) (entry : NodeId) (loops : List LoopAt)
    → cs ≡ copies_after p offsets total → ns ≡ copied_nodes p offsets cs total → es ≡ all_edges p offsets cs → cells ≡ p.cells → terms ≡ p.terms → entry ≡ number_of offsets (main_copy p) (entry_in p p.main) → loops ≡ main_loops p offsets
    → flow_of ns es cells terms entry loops ≡ graph_of p offsets (copies_after p offsets total) total
parts-are p offsets total cs ns es cells terms entry loops hc hn he hl ht hy ho =
    ap (λ (x : List Node). flow_of x es cells terms entry loops) (hn ∙ ap (λ (c : List Copied). copied_nodes p offsets c total) hc)
    ∙ ap (λ (x : List Edge). flow_of (copied_nodes p offsets (copies_after p offsets total) total) x cells terms entry loops) (he ∙ ap (all_edges p offsets) hc)
    ∙ ap (λ (x : List Cell). flow_of (copied_nodes p offsets (copies_after p offsets total) total) (all_edges p offsets (copies_after p offsets total)) x terms entry loops) hl
    ∙ ap (λ (x : Table). flow_of (copied_nodes p offsets (copies_after p offsets total) total) (all_edges p offsets (copies_after p offsets total)) p.cells x entry loops) ht
    ∙ ap (λ (x : NodeId). flow_of (copied_nodes p offsets (copies_after p offsets total) total) (all_edges p offsets (copies_after p offsets total)) p.cells p.terms x loops) hy
    ∙ ap (λ (x : List LoopAt). flow_of (copied_nodes p offsets (copies_after p offsets total) total) (all_edges p offsets (copies_after p offsets total)) p.cells p.terms (number_of offsets (main_copy p) (entry_in p p.main)) x) ho
