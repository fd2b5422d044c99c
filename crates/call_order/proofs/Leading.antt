-- Layers lead to their goal, and the calls found by them are those of the rule.
use Rattle.std.proofs.Common.{◌≡◌, ℕ, zero, suc, ◌<◌, ◌+◌, Bool, true, false, ◌||◌, List, [], ◌∷◌, ◌++◌, length, map, get_or, refl, ap, ◌∙◌, sym, arith, zero-add, add-zero, add-one, length-append}
use Rattle.std.specs.Prelude.{nat_eq, nat_lt, not}
use Rattle.std.specs.List.{list_all}
use Rattle.std.proofs.lemmas.Bool.{ltb-true, ltb-false}
use Rattle.std.proofs.lemmas.List.{get_or_append_left, get_or_push, get_or-map, length-map}
use Rattle.lv_base.specs.declared.fault.SourceFault.TheVariants as fault
use Rattle.c_run.specs.Breaking.{Broken, line}
use Rattle.c_typed.specs.Rules.{Call, leads, recursion, recursion_in}
use Rattle.call_order.specs.Layers as l
use Rattle.call_order.proofs.Bools.{and_first, and_second, and_both, all_at, any_same, not_true}

pub length_first : (n goal : ℕ) → length (l.first_layer n goal) ≡ n
length_first zero goal = refl
length_first (suc n) goal = let e : length (l.first_layer n goal) ≡ n = length_first n goal in omega (arith, e, length-append (l.first_layer n goal) (nat_eq n goal ∷ []))

number_at : (n goal i : ℕ) → i < n → get_or (l.first_layer n goal) i false ≡ nat_eq i goal
number_at zero goal i h = absurd (omega (arith, h))
number_at (suc n) goal i h = by (number_at n goal i) (nat_lt i n) refl
  where
    by : (i < n → get_or (l.first_layer n goal) i false ≡ nat_eq i goal) → (b : Bool) → b ≡ nat_lt i n → get_or (l.first_layer n goal ++ nat_eq n goal ∷ []) i false ≡ nat_eq i goal
    by ih true e = get_or_append_left (l.first_layer n goal) (nat_eq n goal ∷ []) false i (omega (arith, length_first n goal, ltb-true i n (sym e))) ∙ ih (ltb-true i n (sym e))
    by ih false e =
        let k : i ≡ n = omega (arith, h, ltb-false i n (sym e)) in
        ap (λ z. get_or (l.first_layer n goal ++ nat_eq n goal ∷ []) z false) k ∙ get_or_push (l.first_layer n goal) (nat_eq n goal) false n (length_first n goal) ∙ ap (λ z. nat_eq z goal) (sym k)

layer_at : (number : ℕ) (graph : List (List ℕ)) (goal : ℕ) (before : List Bool) (i : ℕ) → i < length graph →
    get_or (l.layer_from number graph goal before) i false ≡ (nat_eq (number + i) goal || l.any_marked before (get_or graph i []))
layer_at number [] goal before i h = absurd (omega (arith, h))
layer_at number (fs ∷ rest) goal before zero h = ap (λ z. nat_eq z goal || l.any_marked before fs) (sym (add-zero number))
layer_at number (fs ∷ rest) goal before (suc i) h =
    layer_at (number + 1) rest goal before i (omega (arith, h))
    ∙ ap (λ z. nat_eq z goal || l.any_marked before (get_or rest i [])) (let e : number + 1 + i ≡ number + suc i = omega arith in e)

leads_is : (graph : List (List ℕ)) (goal count number : ℕ) → l.IsBounded graph → number < length graph → get_or (l.layers graph goal count) number false ≡ leads graph count number goal
leads_is graph goal zero number b h = number_at (length graph) goal number h
leads_is graph goal (suc n) number b h =
    layer_at 0 graph goal (l.layers graph goal n) number h
    ∙ ap (λ z. nat_eq z goal || l.any_marked (l.layers graph goal n) (get_or graph number [])) (zero-add number)
    ∙ ap (λ z. nat_eq number goal || z)
    (any_same (length graph) (λ f. get_or (l.layers graph goal n) f false) (λ f. leads graph n f goal) (get_or graph number [])
    (all_at (λ fs. list_all (λ f. nat_lt f (length graph)) fs) graph number [] b h) (λ f k. leads_is graph goal n f b k))

pub layers_lead : l.LayersLead
layers_lead = leads_is

abbrev targets_of : List Call → List ℕ
targets_of cs = map (λ c. c.to) cs

lines_are : (graph : List (List ℕ)) (caller : ℕ) (marks : List Bool) (cs : List Call) → list_all (λ f. nat_lt f (length graph)) (targets_of cs) ≡ true →
    ((f : ℕ) → f < length graph → get_or marks f false ≡ leads graph (length graph) f caller) → l.lines_in marks cs ≡ recursion_in graph caller cs
lines_are graph caller marks [] b h = refl
lines_are graph caller marks (c ∷ cs) b h =
    ap (λ z. line z fault.Recursion c.at ++ l.lines_in marks cs) (h c.to (ltb-true c.to (length graph) (and_first (nat_lt c.to (length graph)) _ b)))
    ∙ ap (λ z. line (leads graph (length graph) c.to caller) fault.Recursion c.at ++ z) (lines_are graph caller marks cs (and_second (nat_lt c.to (length graph)) _ b) h)

all_are : (graph : List (List ℕ)) (caller : ℕ) (calls : List (List Call)) → l.IsBounded graph → list_all (λ fs. list_all (λ f. nat_lt f (length graph)) fs) (map targets_of calls) ≡ true →
    l.all_lines graph caller calls ≡ recursion graph caller calls
all_are graph caller [] b h = refl
all_are graph caller (cs ∷ rest) b h =
    ap (λ z. z ++ l.all_lines graph (caller + 1) rest)
    (lines_are graph caller (l.layers graph caller (length graph)) cs (and_first (list_all (λ f. nat_lt f (length graph)) (targets_of cs)) _ h) (λ f k. leads_is graph caller (length graph) f b k))
    ∙ ap (λ z. recursion_in graph caller cs ++ z)
    (all_are graph (caller + 1) rest b (and_second (list_all (λ f. nat_lt f (length graph)) (targets_of cs)) _ h) ∙ ap (λ z. recursion graph z rest) (add-one caller))

pub cycles_found : l.CyclesFound
cycles_found calls b = all_are (map targets_of calls) 0 calls b b

-- ---- No line, no cycle

first_empty : (xs ys : List Broken) → xs ++ ys ≡ [] → xs ≡ []
first_empty [] ys h = refl
first_empty (x ∷ xs) ys h = absurd (cc)

second_empty : (xs ys : List Broken) → xs ++ ys ≡ [] → ys ≡ []
second_empty [] ys h = h
second_empty (x ∷ xs) ys h = absurd (cc)

line_empty : (b : Bool) (at : ℕ) → line b fault.Recursion at ≡ [] → not b ≡ true
line_empty true at h = absurd (cc)
line_empty false at h = refl

none_in : (graph : List (List ℕ)) (caller : ℕ) (cs : List Call) → recursion_in graph caller cs ≡ [] → list_all (λ c. not (leads graph (length graph) c caller)) (targets_of cs) ≡ true
none_in graph caller [] h = refl
none_in graph caller (c ∷ cs) h =
    and_both (not (leads graph (length graph) c.to caller)) _
    (line_empty (leads graph (length graph) c.to caller) c.at (first_empty (line (leads graph (length graph) c.to caller) fault.Recursion c.at) (recursion_in graph caller cs) h))
    (none_in graph caller cs (second_empty (line (leads graph (length graph) c.to caller) fault.Recursion c.at) (recursion_in graph caller cs) h))

none_at : (graph : List (List ℕ)) (caller : ℕ) (calls : List (List Call)) (i : ℕ) → recursion graph caller calls ≡ [] → i < length calls → recursion_in graph (caller + i) (get_or calls i []) ≡ []
none_at graph caller [] i h k = absurd (omega (arith, k))
none_at graph caller (cs ∷ rest) zero h k = ap (λ z. recursion_in graph z cs) (add-zero caller) ∙ first_empty (recursion_in graph caller cs) (recursion graph (suc caller) rest) h
none_at graph caller (cs ∷ rest) (suc i) h k =
    ap (λ z. recursion_in graph z (get_or rest i [])) (let e : caller + suc i ≡ suc caller + i = omega arith in e)
    ∙ none_at graph (suc caller) rest i (second_empty (recursion_in graph caller cs) (recursion graph (suc caller) rest) h) (omega (arith, k))

pub cycles_broken : l.CyclesBroken
cycles_broken calls h f k =
    let graph : List (List ℕ) = map targets_of calls in
    let e : f < length calls = omega (arith, k, length-map calls targets_of) in
    ap (λ z. list_all (λ c. not (leads graph (length graph) c f)) z) (get_or-map targets_of calls f [] [] e)
    ∙ none_in graph f (get_or calls f []) (ap (λ z. recursion_in graph z (get_or calls f [])) (sym (zero-add f)) ∙ none_at graph 0 calls f h e)

-- ---- No cycle, no line

no_lines : (graph : List (List ℕ)) (caller : ℕ) (cs : List Call) → list_all (λ c. not (leads graph (length graph) c caller)) (targets_of cs) ≡ true → recursion_in graph caller cs ≡ []
no_lines graph caller [] h = refl
no_lines graph caller (c ∷ cs) h =
    ap (λ z. line z fault.Recursion c.at ++ recursion_in graph caller cs) (not_true (leads graph (length graph) c.to caller) (and_first (not (leads graph (length graph) c.to caller)) _ h))
    ∙ no_lines graph caller cs (and_second (not (leads graph (length graph) c.to caller)) _ h)

none_left : (graph : List (List ℕ)) (caller : ℕ) (calls : List (List Call)) →
    ((i : ℕ) → i < length calls → list_all (λ c. not (leads graph (length graph) c (caller + i))) (targets_of (get_or calls i [])) ≡ true) → recursion graph caller calls ≡ []
none_left graph caller [] h = refl
none_left graph caller (cs ∷ rest) h =
    ap (λ z. z ++ recursion graph (suc caller) rest) (no_lines graph caller cs (ap (λ z. list_all (λ c. not (leads graph (length graph) c z)) (targets_of cs)) (sym (add-zero caller)) ∙ h 0 (omega arith)))
    ∙ none_left graph (suc caller) rest
    (λ i k. ap (λ z. list_all (λ c. not (leads graph (length graph) c z)) (targets_of (get_or rest i []))) (let e : suc caller + i ≡ caller + suc i = omega arith in e) ∙ h (suc i) (omega (arith, k)))

pub cycles_none : l.CyclesNone
cycles_none calls h =
    let graph : List (List ℕ) = map targets_of calls in
    none_left graph 0 calls
    (λ i k. ap (λ z. list_all (λ c. not (leads graph (length graph) c z)) (targets_of (get_or calls i []))) (zero-add i)
    ∙ ap (λ z. list_all (λ c. not (leads graph (length graph) c i)) z) (sym (get_or-map targets_of calls i [] [] k))
    ∙ h i (omega (arith, k, length-map calls targets_of)))
