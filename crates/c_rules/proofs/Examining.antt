-- What is found of a typed tree's functions is what the rules say of the tree.
use Rattle.std.proofs.Common.{◌≡◌, ℕ, ◌<◌, List, [], ◌∷◌, ◌++◌, map, Option, None, Some, refl, ap, ◌∙◌, sym, subst, Vec, Global}
use Rattle.c_run.specs.Breaking.{Broken, first_broken}
use Rattle.c_typed.specs.Tree.{Program, Function}
use Rattle.c_typed.specs.Rules as r
use Rattle.c_typed.specs.Facts.{IsTyped}
use Rattle.c_typed.specs.Parts as typed
use Rattle.c_typed.specs.Parts.{tree_of}
use Rattle.c_typed.specs.View.{function_of}
use Rattle.c_typed.specs.declared.tree.Function.{Function as F}
use Rattle.first_broken.specs.Found.{Summary, summary, both}
use Rattle.first_broken.proofs.Least.{joined_is}
use Rattle.call_order.specs.declared.calls.CallAt.{CallAt}
use Rattle.call_order.specs.Seen.{all_calls, graph_of}
use Rattle.call_order.specs.Order.{callees, IsOrder}
use Rattle.call_order.specs.Walks.{order_by_walk}
use Rattle.call_order.specs.Layers.{IsBounded, HasNoCycle}
use Rattle.call_order.proofs.Leading.{cycles_broken}
use Rattle.c_rules.specs.declared.label.LabelAt.{LabelAt}
use Rattle.c_rules.specs.Examined.{IsExamined, labels_from}
use Rattle.c_rules.specs.Gathered as g
use Rattle.c_rules.proofs.Bounds.{bounded}
use Rattle.call_order.proofs.Arms.{graphs}
use Rattle.c_rules.proofs.Arms.{none_broken}

pub graph_is : (xs : List (Vec CallAt Global)) (cs : List (List r.Call)) → all_calls xs ≡ cs → graph_of xs ≡ map (λ ds. map (λ c. c.to) ds) cs
graph_is xs cs h = graphs xs ∙ ap (map (λ ds. map (λ c. c.to) ds)) h

-- gathering, with the calls on cycles
pub with_cycles : (fs : List Function) (xs : List (Vec CallAt Global)) (labels : List LabelAt) (old cycles new : Summary) →
    (let z : g.Gathering = record { found = old; labels = labels; calls = all_calls xs } in z) ≡ g.gathering fs →
    (IsBounded (graph_of xs) → cycles ≡ summary (r.recursion (graph_of xs) 0 (all_calls xs))) → new ≡ both old cycles → IsBounded (g.callees fs) →
    (let z : g.Gathering = record { found = new; labels = labels; calls = all_calls xs } in z) ≡ g.checked fs
with_cycles fs xs labels old cycles new e c n b =
    let calls_are : all_calls xs ≡ r.calls_of_functions fs = ap (λ (z : g.Gathering). z.calls) e in
    let same : graph_of xs ≡ g.callees fs = graph_is xs (r.calls_of_functions fs) calls_are in
    let bound : IsBounded (graph_of xs) = subst IsBounded (sym same) b in
    ap (λ (f : Summary). let z : g.Gathering = record { found = f; labels = labels; calls = all_calls xs } in z)
    (n ∙ ap (λ z. both z cycles) (ap (λ (z : g.Gathering). z.found) e)
    ∙ ap (both (summary (r.functions_faults fs)))
    (c bound ∙ ap (λ z. summary (r.recursion z 0 (all_calls xs))) same ∙ ap (λ z. summary (r.recursion (g.callees fs) 0 z)) calls_are))
    ∙ ap (λ (l : List LabelAt). let z : g.Gathering = record { found = both (summary (r.functions_faults fs)) (summary (r.recursion_faults fs)); labels = l; calls = all_calls xs } in z) (ap (λ (z : g.Gathering). z.labels) e)
    ∙ ap (λ (k : List (List r.Call)). let z : g.Gathering = record { found = both (summary (r.functions_faults fs)) (summary (r.recursion_faults fs)); labels = labels_from 0 fs; calls = k } in z) calls_are

found_is : (p : Program) → (g.checked p.functions).found ≡ summary (r.broken p)
found_is p = sym (joined_is (r.functions_faults p.functions) (r.recursion_faults p.functions))

-- the first rule that is broken
pub least_is : (p : Program) (x : g.Gathering) → IsTyped p → x ≡ g.checked p.functions → x.found.least ≡ first_broken (r.broken p)
least_is p x h e = ap (λ (z : g.Gathering). z.found.least) e ∙ ap (λ (z : Summary). z.least) (found_is p)

good : (p : Program) (x : g.Gathering) → IsTyped p → x ≡ g.checked p.functions → x.found.least ≡ None → r.broken p ≡ []
good p x h e n = none_broken (r.broken p) (sym n ∙ least_is p x h e)

second_empty : (xs ys : List Broken) → xs ++ ys ≡ [] → ys ≡ []
second_empty [] ys h = h
second_empty (x ∷ xs) ys h = absurd (cc)

pub is_bounded : (p : Program) (x : g.Gathering) (xs : List (Vec CallAt Global)) → IsTyped p → x ≡ g.checked p.functions → x.calls ≡ all_calls xs → IsBounded (graph_of xs)
is_bounded p x xs h e c = subst IsBounded (sym (graph_is xs (r.calls_of_functions p.functions) (sym c ∙ ap (λ (z : g.Gathering). z.calls) e))) (bounded p h)

pub has_no_cycle : (p : Program) (x : g.Gathering) (xs : List (Vec CallAt Global)) → IsTyped p → x ≡ g.checked p.functions → x.calls ≡ all_calls xs → x.found.least ≡ None → HasNoCycle (graph_of xs)
has_no_cycle p x xs h e c n =
    subst HasNoCycle (sym (graph_is xs (r.calls_of_functions p.functions) (sym c ∙ ap (λ (z : g.Gathering). z.calls) e)))
    (cycles_broken (r.calls_of_functions p.functions) (second_empty (r.functions_faults p.functions) (r.recursion_faults p.functions) (good p x h e n)))

pub is_examined : (p : Program) (x : g.Gathering) (xs : List (Vec CallAt Global)) (order : List ℕ) → IsTyped p → x ≡ g.checked p.functions → x.calls ≡ all_calls xs → x.found.least ≡ None → IsOrder (graph_of xs) order → order ≡ order_by_walk (graph_of xs) →
    IsExamined p x.labels order
is_examined p x xs order h e c n o w = record {
  good = good p x h e n;
  labels_are = ap (λ (z : g.Gathering). z.labels) e;
  ordered = subst (λ z. IsOrder z order) (graph_is xs (r.calls_of_functions p.functions) (sym c ∙ ap (λ (z : g.Gathering). z.calls) e)) o;
  walked = w ∙ ap order_by_walk (graph_is xs (r.calls_of_functions p.functions) (sym c ∙ ap (λ (z : g.Gathering). z.calls) e));
}

-- what is gathered of a typed tree's functions
pub known : (t : typed.Parts) (fs : List F) (x : g.Gathering) → IsTyped (tree_of t) → fs ≡ t.functions → (IsBounded (g.callees (map function_of fs)) → x ≡ g.checked (map function_of fs)) → x ≡ g.checked (tree_of t).functions
known t fs x h e k =
    let P : List F → Type 0 = λ z. IsBounded (g.callees (map function_of z)) → x ≡ g.checked (map function_of z) in
    let f : P t.functions = subst P e k in
    f (bounded (tree_of t) h)

pub lent_cycles : (ys xs : List (Vec CallAt Global)) (found : Summary) → ys ≡ xs → (IsBounded (graph_of ys) → found ≡ summary (r.recursion (graph_of ys) 0 (all_calls ys))) →
    IsBounded (graph_of xs) → found ≡ summary (r.recursion (graph_of xs) 0 (all_calls xs))
lent_cycles ys xs found e h = let P : List (Vec CallAt Global) → Type 0 = λ z. IsBounded (graph_of z) → found ≡ summary (r.recursion (graph_of z) 0 (all_calls z)) in subst P e h
