-- What arms and loops give, by the answers of the calls in them.
use Rattle.std.proofs.Common.{◌≡◌, ℕ, zero, suc, ◌<◌, ◌≤◌, ◌+◌, Bool, true, false, ◌||◌, List, [], ◌∷◌, ◌++◌, length, map, take, drop, get_or, set, append_assoc, append-nil, Option, Result, Ok, Err, refl, ap, ◌∙◌, sym, subst, Vec, Global, arith, add-one}
use Rattle.std.specs.Prelude.{IfOk, Box, nat_eq, ◌&&◌}
use Rattle.std.specs.List.{list_any, list_all}
use Rattle.std.proofs.lemmas.List.{drop_more, length-map, length-take}
use denote.Ref.{Bor}
use Rattle.lv_base.specs.declared.kind.Kind.{Kind}
use Rattle.lv_base.specs.declared.fault.SourceFault.TheVariants as fault
use Rattle.c_run.specs.Breaking.{Broken, line}
use Rattle.c_typed.specs.declared.tree.Value.{Value}
use Rattle.c_typed.specs.declared.tree.Value.TheVariants as va
use Rattle.c_typed.specs.Tree as t
use Rattle.c_typed.specs.Rules as r
use Rattle.c_typed.specs.View.{value, values_of}
use Rattle.first_broken.specs.Found.{Summary, summary, both}
use Rattle.first_broken.proofs.Least.{joined_is}
use Rattle.step_values.specs.Seen.{values}
use Rattle.step_values.proofs.Views.{value_Call, value_Comma}
use Rattle.step_values.proofs.Rows.{values_taken, take_more}
use Rattle.call_order.specs.declared.calls.CallAt.{CallAt}
use Rattle.call_order.specs.Seen.{calls, call_of, targets, graph_of, all_calls}
use Rattle.call_order.specs.Layers as l
use Rattle.call_order.specs.Peel as p
use Rattle.call_order.specs.Apart as a
use Rattle.first_broken.specs.declared.lines.Found.{Found}
use Rattle.first_broken.specs.Seen.{found_of}
use Rattle.call_order.proofs.Leading.{cycles_found, cycles_none}
use Rattle.call_order.proofs.Peeling.{whole_acyclic}
use Rattle.call_order.proofs.Confirming.{first_is}

-- ---- Calls

pub calls_behind : (xs : List CallAt) (x : CallAt) → calls (xs ++ x ∷ []) ≡ calls xs ++ call_of x ∷ []
calls_behind [] x = refl
calls_behind (y ∷ xs) x = ap (λ zs. call_of y ∷ zs) (calls_behind xs x)

pub list_step : (xs : List Value) (i : ℕ) (x : Value) (old all new : List r.Call) → i < length xs → x ≡ get_or xs i x →
    all ≡ old ++ r.calls_in (values_of (take i xs)) → new ≡ all ++ r.calls (value x) → new ≡ old ++ r.calls_in (values_of (take (i + 1) xs))
list_step xs i x old all new h e m n =
    n ∙ ap (λ z. z ++ r.calls (value x)) m ∙ append_assoc old (r.calls_in (values_of (take i xs))) (r.calls (value x))
    ∙ ap (λ y. old ++ (r.calls_in (values_of (take i xs)) ++ r.calls (value y))) e ∙ ap (λ z. old ++ r.calls_in z) (sym (values_taken xs i x h))

of_behind : (xs : List t.Val) (x : t.Val) → r.calls_of (xs ++ x ∷ []) ≡ r.calls_of xs ++ r.calls x
of_behind [] x = append-nil (r.calls x)
of_behind (y ∷ xs) x = ap (λ z. r.calls y ++ z) (of_behind xs x) ∙ sym (append_assoc (r.calls y) (r.calls_of xs) (r.calls x))

values_behind : (xs : List (Bor Value)) (x : Bor Value) → values (xs ++ x ∷ []) ≡ values xs ++ value x.now ∷ []
values_behind [] x = refl
values_behind (y ∷ xs) x = ap (λ zs. value y.now ∷ zs) (values_behind xs x)

pub of_step : (xs : List (Bor Value)) (i : ℕ) (x : Bor Value) (all new : List r.Call) → i < length xs → x ≡ get_or xs i x →
    all ≡ r.calls_of (values (take i xs)) → new ≡ all ++ r.calls (value x.now) → new ≡ r.calls_of (values (take (i + 1) xs))
of_step xs i x all new h e m n =
    n ∙ ap (λ z. z ++ r.calls (value x.now)) m ∙ sym (of_behind (values (take i xs)) (value x.now)) ∙ ap r.calls_of (sym (values_behind (take i xs) x))
    ∙ ap (λ y. r.calls_of (values (take i xs ++ y ∷ []))) e ∙ ap (λ z. r.calls_of (values z)) (sym (take_more xs i x h))

pub call_arm : {A B : Type 0} (x : Value) (k : Option Kind) (at bracket f : ℕ) (vs : Vec Value Global) (list : List Value) (own : CallAt) (old mid new : List r.Call) (o : Result A B) →
    x ≡ va.Call k at bracket f vs → list ≡ vs.items → call_of own ≡ record { at = at; to = f } → mid ≡ old ++ call_of own ∷ [] → IfOk o (λ _. new ≡ mid ++ r.calls_in (values_of list)) → IfOk o (λ _. new ≡ old ++ r.calls (value x))
call_arm x k at bracket f vs list own old mid new (Ok y) is a c m n =
    n ∙ ap (λ z. mid ++ r.calls_in (values_of z)) a ∙ ap (λ z. z ++ r.calls_in (values_of vs.items)) (m ∙ ap (λ z. old ++ z ∷ []) c)
    ∙ append_assoc old (record { at = at; to = f } ∷ []) (r.calls_in (values_of vs.items))
    ∙ sym (ap (λ z. old ++ r.calls (value z)) is ∙ ap (λ z. old ++ r.calls z) (value_Call k at bracket f vs))
call_arm x k at bracket f vs list own old mid new (Err y) is a c m n = n

-- ---- Cycles

pub first_step : (n goal : ℕ) (old new : List Bool) → old ≡ l.first_layer n goal → new ≡ old ++ nat_eq n goal ∷ [] → new ≡ l.first_layer (n + 1) goal
first_step n goal old new m h = h ∙ ap (λ z. z ++ nat_eq n goal ∷ []) m ∙ ap (λ z. l.first_layer z goal) (sym (add-one n))

pub layer_step : (cs : List (Vec CallAt Global)) (i : ℕ) (x : Vec CallAt Global) (goal : ℕ) (before marks new all : List Bool) (m : Bool) → i < length cs → x ≡ get_or cs i x →
    marks ++ l.layer_from i (graph_of (drop i cs)) goal before ≡ all → m ≡ (nat_eq i goal || l.any_marked before (targets x.items)) → new ≡ marks ++ m ∷ [] →
    new ++ l.layer_from (i + 1) (graph_of (drop (i + 1) cs)) goal before ≡ all
layer_step cs i x goal before marks new all m h e s t n =
    ap (λ z. z ++ l.layer_from (i + 1) (graph_of (drop (i + 1) cs)) goal before) (n ∙ ap (λ z. marks ++ z ∷ []) (t ∙ ap (λ (y : Vec CallAt Global). nat_eq i goal || l.any_marked before (targets y.items)) e))
    ∙ append_assoc marks (_ ∷ []) (l.layer_from (i + 1) (graph_of (drop (i + 1) cs)) goal before)
    ∙ ap (λ z. marks ++ l.layer_from i (graph_of z) goal before) (sym (drop_more cs i x h)) ∙ s

pub layers_step : (graph : List (List ℕ)) (goal n : ℕ) (old new : List Bool) → old ≡ l.layers graph goal n → new ≡ l.next_layer graph goal old → new ≡ l.layers graph goal (n + 1)
layers_step graph goal n old new m h = h ∙ ap (l.next_layer graph goal) m ∙ ap (l.layers graph goal) (sym (add-one n))

abbrev call_line : List Bool → r.Call → List Broken
call_line marks c = line (get_or marks c.to false) fault.Recursion c.at

lines_behind : (marks : List Bool) (cs : List r.Call) (c : r.Call) → l.lines_in marks (cs ++ c ∷ []) ≡ l.lines_in marks cs ++ call_line marks c
lines_behind marks [] c = append-nil (call_line marks c)
lines_behind marks (d ∷ cs) c = ap (λ z. call_line marks d ++ z) (lines_behind marks cs c) ∙ sym (append_assoc (call_line marks d) (l.lines_in marks cs) (call_line marks c))

pub lines_step : (marks : List Bool) (xs : List CallAt) (i : ℕ) (d : CallAt) (test : Bool) (at : ℕ) (all own new : Summary) → i < length xs →
    all ≡ summary (l.lines_in marks (calls (take i xs))) → test ≡ get_or marks (get_or xs i d).to false → at ≡ (get_or xs i d).at → own ≡ summary (line test fault.Recursion at) → new ≡ both all own →
    new ≡ summary (l.lines_in marks (calls (take (i + 1) xs)))
lines_step marks xs i d test at all own new h m t k o n =
    n ∙ ap (λ z. both z own) m ∙ ap (both (summary (l.lines_in marks (calls (take i xs))))) (o ∙ ap (λ z. summary (line z fault.Recursion at)) t ∙ ap (λ z. summary (line (get_or marks (get_or xs i d).to false) fault.Recursion z)) k)
    ∙ sym (joined_is (l.lines_in marks (calls (take i xs))) (call_line marks (call_of (get_or xs i d))))
    ∙ ap summary (sym (lines_behind marks (calls (take i xs)) (call_of (get_or xs i d))) ∙ ap (l.lines_in marks) (sym (calls_behind (take i xs) (get_or xs i d))))
    ∙ ap (λ z. summary (l.lines_in marks (calls z))) (sym (take_more xs i d h))

all_behind : (graph : List (List ℕ)) (n : ℕ) (xs : List (List r.Call)) (x : List r.Call) → l.all_lines graph n (xs ++ x ∷ []) ≡ l.all_lines graph n xs ++ l.lines_in (l.layers graph (n + length xs) (length graph)) x
all_behind graph n [] x = append-nil (l.lines_in (l.layers graph n (length graph)) x) ∙ ap (λ z. l.lines_in (l.layers graph z (length graph)) x) (let e : n ≡ n + length {A = List r.Call} [] = omega arith in e)
all_behind graph n (y ∷ xs) x =
    ap (λ z. l.lines_in (l.layers graph n (length graph)) y ++ z)
    (all_behind graph (n + 1) xs x ∙ ap (λ z. l.all_lines graph (n + 1) xs ++ l.lines_in (l.layers graph z (length graph)) x) (let e : n + 1 + length xs ≡ n + length (y ∷ xs) = omega arith in e))
    ∙ sym (append_assoc (l.lines_in (l.layers graph n (length graph)) y) (l.all_lines graph (n + 1) xs) (l.lines_in (l.layers graph (n + length (y ∷ xs)) (length graph)) x))

all_calls_behind : (xs : List (Vec CallAt Global)) (x : Vec CallAt Global) → all_calls (xs ++ x ∷ []) ≡ all_calls xs ++ calls x.items ∷ []
all_calls_behind [] x = refl
all_calls_behind (y ∷ xs) x = ap (λ zs. calls y.items ∷ zs) (all_calls_behind xs x)

pub all_step : (graph : List (List ℕ)) (xs : List (Vec CallAt Global)) (i : ℕ) (x : Vec CallAt Global) (marks lent : List Bool) (ys : List CallAt) (all own new : Summary) → i < length xs → x ≡ get_or xs i x → length graph ≡ length xs →
    all ≡ summary (l.all_lines graph 0 (all_calls (take i xs))) → marks ≡ l.layers graph i (length xs) → lent ≡ marks → ys ≡ x.items → own ≡ summary (l.lines_in lent (calls ys)) → new ≡ both all own →
    new ≡ summary (l.all_lines graph 0 (all_calls (take (i + 1) xs)))
all_step graph xs i x marks lent ys all own new h e g m t a b o n =
    n ∙ ap (λ z. both z own) m
    ∙ ap (both (summary (l.all_lines graph 0 (all_calls (take i xs)))))
    (o ∙ ap (λ z. summary (l.lines_in lent (calls z))) b ∙ ap (λ z. summary (l.lines_in z (calls x.items))) (a ∙ t ∙ ap (l.layers graph i) (sym g))
    ∙ ap (λ z. summary (l.lines_in (l.layers graph z (length graph)) (calls x.items))) (let k : i ≡ 0 + length (all_calls (take i xs)) = omega (arith, h, length-map (take i xs) (λ (y : Vec CallAt Global). calls y.items), length-take i xs) in k))
    ∙ sym (joined_is (l.all_lines graph 0 (all_calls (take i xs))) (l.lines_in (l.layers graph (0 + length (all_calls (take i xs))) (length graph)) (calls x.items)))
    ∙ ap summary (sym (all_behind graph 0 (all_calls (take i xs)) (calls x.items)) ∙ ap (l.all_lines graph 0) (sym (all_calls_behind (take i xs) x)))
    ∙ ap (λ y. summary (l.all_lines graph 0 (all_calls (take i xs ++ y ∷ [])))) e ∙ ap (λ z. summary (l.all_lines graph 0 (all_calls z))) (sym (take_more xs i x h))

-- ---- Orders

pub round_step : (cs : List (Vec CallAt Global)) (i : ℕ) (x : Vec CallAt Global) (st mid all : p.Taking) → i < length cs → x ≡ get_or cs i x →
    p.round i (graph_of (drop i cs)) st ≡ all → mid ≡ p.visit i (targets x.items) st → p.round (i + 1) (graph_of (drop (i + 1) cs)) mid ≡ all
round_step cs i x st mid all h e s v =
    ap (p.round (i + 1) (graph_of (drop (i + 1) cs))) (v ∙ ap (λ (y : Vec CallAt Global). p.visit i (targets y.items) st) e)
    ∙ ap (λ z. p.round i (graph_of z) st) (sym (drop_more cs i x h)) ∙ s

pub rounds_step : (graph : List (List ℕ)) (n : ℕ) (st old new : p.Taking) → old ≡ p.rounds graph n st → new ≡ p.next_round graph old → new ≡ p.rounds graph (n + 1) st
rounds_step graph n st old new m h = h ∙ ap (p.next_round graph) m ∙ ap (λ z. p.rounds graph z st) (sym (add-one n))

-- a place past the end is not marked
pub set_past : (xs : List Bool) (i : ℕ) (x : Bool) → length xs ≤ i → set xs i x ≡ xs
set_past [] i x h = refl
set_past (y ∷ xs) zero x h = absurd (omega (arith, h))
set_past (y ∷ xs) (suc i) x h = ap (λ z. y ∷ z) (set_past xs i x (omega (arith, h)))

-- ---- What is found

targets_are : (cs : List CallAt) → targets cs ≡ map (λ c. c.to) (calls cs)
targets_are [] = refl
targets_are (c ∷ cs) = ap (λ z. c.to ∷ z) (targets_are cs)

pub graphs : (xs : List (Vec CallAt Global)) → graph_of xs ≡ map (λ cs. map (λ c. c.to) cs) (all_calls xs)
graphs [] = refl
graphs (x ∷ xs) = ap (λ z. z ∷ graph_of xs) (targets_are x.items) ∙ ap (λ z. map (λ c. c.to) (calls x.items) ∷ z) (graphs xs)

pub next_arm : (graph : List (List ℕ)) (old new : p.Taking) (b : Bool) → b ≡ p.is_whole old.taken → new ≡ p.unless_whole b graph old → new ≡ p.next_round graph old
next_arm graph old new b e n = n ∙ ap (λ z. p.unless_whole z graph old) e

pub none_found : (xs : List (Vec CallAt Global)) (guess : List ℕ) (w : p.Taking) (b : Bool) (found : Summary) → w ≡ p.guided (graph_of xs) guess → b ≡ p.is_whole w.taken → b ≡ true → found ≡ summary [] →
    l.IsBounded (graph_of xs) → found ≡ summary (r.recursion (graph_of xs) 0 (all_calls xs))
none_found xs guess w b found e i t n h =
    n ∙ ap summary (sym (nothing (whole_acyclic (graph_of xs) guess h (ap (λ (z : p.Taking). p.is_whole z.taken) (sym e) ∙ sym i ∙ t))))
  where
    nothing : l.HasNoCycle (graph_of xs) → r.recursion (graph_of xs) 0 (all_calls xs) ≡ []
    nothing = subst (λ (z : List (List ℕ)). l.HasNoCycle z → r.recursion z 0 (all_calls xs) ≡ []) (sym (graphs xs)) (cycles_none (all_calls xs))

pub some_found : {B : Type 0} (xs : List (Vec CallAt Global)) (o : Result Found B) → IfOk o (λ x. found_of x ≡ summary (l.all_lines (graph_of xs) 0 (all_calls xs))) →
    IfOk o (λ x. l.IsBounded (graph_of xs) → found_of x ≡ summary (r.recursion (graph_of xs) 0 (all_calls xs)))
some_found xs (Ok x) h = λ b. h ∙ ap summary (same b)
  where
    same : l.IsBounded (graph_of xs) → l.all_lines (graph_of xs) 0 (all_calls xs) ≡ r.recursion (graph_of xs) 0 (all_calls xs)
    same = subst (λ (z : List (List ℕ)). l.IsBounded z → l.all_lines z 0 (all_calls xs) ≡ r.recursion z 0 (all_calls xs)) (sym (graphs xs)) (cycles_found (all_calls xs))
some_found xs (Err y) h = h

-- ---- Tests of what is called

pub any_targets : (q : ℕ → Bool) (cs : List CallAt) → list_any (λ (c : CallAt). q c.to) cs ≡ list_any q (targets cs)
any_targets q [] = refl
any_targets q (c ∷ cs) = ap (λ z. q c.to || z) (any_targets q cs)

pub all_targets : (q : ℕ → Bool) (cs : List CallAt) → list_all (λ (c : CallAt). q c.to) cs ≡ list_all q (targets cs)
all_targets q [] = refl
all_targets q (c ∷ cs) = ap (λ z. q c.to && z) (all_targets q cs)

pub comma_arm : {A B : Type 0} (x : Value) (vs : Vec Value Global) (q : Box Value Global) (list : List Value) (last : Value) (old mid new : List r.Call) (o : Result A B) →
    x ≡ va.Comma vs q → list ≡ vs.items → last ≡ q.value → mid ≡ old ++ r.calls_in (values_of list) → IfOk o (λ _. new ≡ mid ++ r.calls (value last)) → IfOk o (λ _. new ≡ old ++ r.calls (value x))
comma_arm x vs q list last old mid new (Ok y) is a b m n =
    n ∙ ap (λ z. mid ++ r.calls (value z)) b ∙ ap (λ z. z ++ r.calls (value q.value)) (m ∙ ap (λ z. old ++ r.calls_in (values_of z)) a)
    ∙ append_assoc old (r.calls_in (values_of vs.items)) (r.calls (value q.value))
    ∙ sym (ap (λ z. old ++ r.calls (value z)) is ∙ ap (λ z. old ++ r.calls z) (value_Comma vs q))
comma_arm x vs q list last old mid new (Err y) is a b m n = n

pub graph_length : (xs : List (Vec CallAt Global)) → length (graph_of xs) ≡ length xs
graph_length [] = refl
graph_length (x ∷ xs) = ap suc (graph_length xs)

-- ---- Functions in the order of a guess

graph_at : (xs : List (Vec CallAt Global)) (i : ℕ) (d : Vec CallAt Global) → i < length xs → get_or (graph_of xs) i [] ≡ targets (get_or xs i d).items
graph_at [] i d h = absurd (omega (arith, h))
graph_at (x ∷ xs) zero d h = refl
graph_at (x ∷ xs) (suc i) d h = graph_at xs i d (omega (arith, h))

pub visits_step : (graph : List (List ℕ)) (order : List ℕ) (i f : ℕ) (st mid all : p.Taking) → i < length order → f ≡ get_or order i f →
    p.visits graph (drop i order) st ≡ all → mid ≡ p.visit_at graph f st → p.visits graph (drop (i + 1) order) mid ≡ all
visits_step graph order i f st mid all h e s v =
    ap (p.visits graph (drop (i + 1) order)) (v ∙ ap (λ z. p.visit_at graph z st) e) ∙ ap (λ z. p.visits graph z st) (sym (drop_more order i f h)) ∙ s

pub marks_step : (cs : List CallAt) (i : ℕ) (c : CallAt) (marks mid all : List Bool) → i < length cs → c ≡ get_or cs i c →
    a.marked_all marks (targets (drop i cs)) ≡ all → mid ≡ p.marked marks c.to → a.marked_all mid (targets (drop (i + 1) cs)) ≡ all
marks_step cs i c marks mid all h e s v =
    ap (λ z. a.marked_all z (targets (drop (i + 1) cs))) (v ∙ ap (λ (z : CallAt). p.marked marks z.to) e) ∙ ap (λ z. a.marked_all marks (targets z)) (sym (drop_more cs i c h)) ∙ s

-- ---- Calls in parts

all_of_calls : (q : r.Call → Bool) (cs : List CallAt) → list_all (λ (c : CallAt). q (call_of c)) cs ≡ list_all q (calls cs)
all_of_calls q [] = refl
all_of_calls q (c ∷ cs) = ap (λ z. q (call_of c) && z) (all_of_calls q cs)

any_of_calls : (q : r.Call → Bool) (cs : List CallAt) → list_any (λ (c : CallAt). q (call_of c)) cs ≡ list_any q (calls cs)
any_of_calls q [] = refl
any_of_calls q (c ∷ cs) = ap (λ z. q (call_of c) || z) (any_of_calls q cs)

calls_at : (xs : List (Vec CallAt Global)) (i : ℕ) (d : Vec CallAt Global) → i < length xs → get_or (all_calls xs) i [] ≡ calls (get_or xs i d).items
calls_at [] i d h = absurd (omega (arith, h))
calls_at (x ∷ xs) zero d h = refl
calls_at (x ∷ xs) (suc i) d h = calls_at xs i d (omega (arith, h))

pub made_arm : (xs : List (Vec CallAt Global)) (i : ℕ) (x : Vec CallAt Global) (ys : List CallAt) (at to : ℕ) (test : Bool) → i < length xs → x ≡ get_or xs i x → ys ≡ x.items →
    test ≡ list_any (λ (c : CallAt). a.is_call at to (call_of c)) ys → test ≡ a.is_made at to i (all_calls xs)
made_arm xs i x ys at to test h e y t =
    t ∙ ap (list_any (λ (c : CallAt). a.is_call at to (call_of c))) y ∙ any_of_calls (a.is_call at to) x.items ∙ ap (λ (z : Vec CallAt Global). list_any (a.is_call at to) (calls z.items)) e
    ∙ ap (list_any (a.is_call at to)) (sym (calls_at xs i x h))

-- the test of a function, and those of the functions behind it
pub apart_rest : (parts : List ℕ) (at : ℕ) (xs : List (Vec CallAt Global)) (i : ℕ) (x : Vec CallAt Global) (ys : List CallAt) (own : ℕ) (test : Bool) → i < length xs → x ≡ get_or xs i x → ys ≡ x.items →
    own ≡ a.part_of parts i → test ≡ list_all (λ (c : CallAt). a.is_apart parts at own (call_of c)) ys →
    a.all_apart parts at i (all_calls (drop i xs)) ≡ (test && a.all_apart parts at (i + 1) (all_calls (drop (i + 1) xs)))
apart_rest parts at xs i x ys own test h e y o t =
    ap (λ z. a.all_apart parts at i (all_calls z)) (drop_more xs i x h)
    ∙ ap (λ z. z && a.all_apart parts at (i + 1) (all_calls (drop (i + 1) xs)))
    (sym (t ∙ ap (list_all (λ (c : CallAt). a.is_apart parts at own (call_of c))) y ∙ all_of_calls (a.is_apart parts at own) x.items
    ∙ ap (λ z. list_all (a.is_apart parts at z) (calls x.items)) o ∙ ap (λ (z : Vec CallAt Global). list_all (a.is_apart parts at (a.part_of parts i)) (calls z.items)) e))

pub apart_step : (parts : List ℕ) (at : ℕ) (xs : List (Vec CallAt Global)) (i : ℕ) (x : Vec CallAt Global) (ys : List CallAt) (own : ℕ) (test whole : Bool) → i < length xs → x ≡ get_or xs i x → ys ≡ x.items →
    own ≡ a.part_of parts i → test ≡ list_all (λ (c : CallAt). a.is_apart parts at own (call_of c)) ys →
    a.all_apart parts at i (all_calls (drop i xs)) ≡ whole → test ≡ true → a.all_apart parts at (i + 1) (all_calls (drop (i + 1) xs)) ≡ whole
apart_step parts at xs i x ys own test whole h e y o t s b =
    ap (λ z. z && a.all_apart parts at (i + 1) (all_calls (drop (i + 1) xs))) (sym b) ∙ sym (apart_rest parts at xs i x ys own test h e y o t) ∙ s

pub apart_stop : (parts : List ℕ) (at : ℕ) (xs : List (Vec CallAt Global)) (i : ℕ) (x : Vec CallAt Global) (ys : List CallAt) (own : ℕ) (test whole : Bool) → i < length xs → x ≡ get_or xs i x → ys ≡ x.items →
    own ≡ a.part_of parts i → test ≡ list_all (λ (c : CallAt). a.is_apart parts at own (call_of c)) ys →
    a.all_apart parts at i (all_calls (drop i xs)) ≡ whole → test ≡ false → false ≡ whole
apart_stop parts at xs i x ys own test whole h e y o t s b =
    ap (λ z. z && a.all_apart parts at (i + 1) (all_calls (drop (i + 1) xs))) (sym b) ∙ sym (apart_rest parts at xs i x ys own test h e y o t) ∙ s

-- a call that is shown to be the first on a cycle
pub confirmed_arm : (xs : List (Vec CallAt Global)) (parts : List ℕ) (at to caller : ℕ) (marks : List Bool) (ap1 made mark : Bool) (found : Summary) → ap1 ≡ a.all_apart parts at 0 (all_calls xs) → ap1 ≡ true →
    made ≡ a.is_made at to caller (all_calls xs) → made ≡ true → a.AreReached (graph_of xs) to marks → mark ≡ get_or marks caller false → mark ≡ true → found ≡ summary (line true fault.Recursion at) →
    l.IsBounded (graph_of xs) → found ≡ summary (r.recursion (graph_of xs) 0 (all_calls xs))
confirmed_arm xs parts at to caller marks ap1 made mark found p pt m mt re k kt n b =
    n ∙ shown b (re caller (sym k ∙ kt))
  where
    shown : l.IsBounded (graph_of xs) → a.Reaches (graph_of xs) to caller → summary (line true fault.Recursion at) ≡ summary (r.recursion (graph_of xs) 0 (all_calls xs))
    shown = subst (λ (z : List (List ℕ)). l.IsBounded z → a.Reaches z to caller → summary (line true fault.Recursion at) ≡ summary (r.recursion z 0 (all_calls xs))) (sym (graphs xs))
        (λ c d. first_is (all_calls xs) parts at to caller c (sym p ∙ pt) (sym m ∙ mt) d)
