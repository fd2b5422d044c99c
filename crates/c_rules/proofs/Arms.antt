-- What loops and arms give, by the answers of the calls in them.
use Rattle.std.proofs.Common.{◌≡◌, ℕ, ◌<◌, ◌+◌, Bool, true, false, List, [], ◌∷◌, ◌++◌, length, map, take, get_or, append_assoc, append-nil, Option, None, Some, refl, ap, ◌∙◌, sym, Vec, Global, arith}
use Rattle.std.proofs.lemmas.List.{length-map, length-take}
use Rattle.step_values.proofs.Rows.{take_more}
use Rattle.lv_base.specs.declared.kind.Kind.{Kind}
use Rattle.c_run.specs.Breaking.{Broken, first_broken}
use Rattle.c_typed.specs.Tree as t
use Rattle.c_typed.specs.Rules as r
use Rattle.c_typed.specs.View as v
use Rattle.c_typed.specs.declared.tree.Function.{Function}
use Rattle.first_broken.specs.Found.{Summary, summary, both}
use Rattle.first_broken.proofs.Least.{joined_is}
use Rattle.jump_rules.specs.declared.jumps.Jump.{Jump}
use Rattle.jump_rules.specs.Seen.{jump_of, jumps}
use Rattle.c_rules.specs.declared.label.LabelAt.{LabelAt}
use Rattle.c_rules.specs.Examined.{labels_at, labels_from}
use Rattle.jump_rules.specs.Walk as w
use Rattle.call_order.specs.declared.calls.CallAt.{CallAt}
use Rattle.call_order.specs.Seen.{calls, all_calls}
use Rattle.c_rules.specs.Gathered as g

-- ---- Labels

jumps_behind : (xs : List Jump) (x : Jump) → jumps (xs ++ x ∷ []) ≡ jumps xs ++ jump_of x ∷ []
jumps_behind [] x = refl
jumps_behind (y ∷ xs) x = ap (λ zs. jump_of y ∷ zs) (jumps_behind xs x)

labels_at_behind : (number : ℕ) (ls : List r.Jump) (l : r.Jump) → labels_at number (ls ++ l ∷ []) ≡ labels_at number ls ++ (record { function = number; name = l.name; at = l.named_at }) ∷ []
labels_at_behind number [] l = refl
labels_at_behind number (k ∷ ls) l = ap (λ zs. (let z : LabelAt = record { function = number; name = k.name; at = k.named_at } in z) ∷ zs) (labels_at_behind number ls l)

pub labels_step : (number : ℕ) (xs : List Jump) (i : ℕ) (x : Jump) (own : LabelAt) (old all new : List LabelAt) → i < length xs → x ≡ get_or xs i x →
    all ≡ old ++ labels_at number (jumps (take i xs)) → own ≡ record { function = number; name = x.name; at = x.named_at } → new ≡ all ++ own ∷ [] →
    new ≡ old ++ labels_at number (jumps (take (i + 1) xs))
labels_step number xs i x own old all new h e m o n =
    n ∙ ap (λ z. z ++ own ∷ []) m ∙ append_assoc old (labels_at number (jumps (take i xs))) (own ∷ [])
    ∙ ap (λ z. old ++ (labels_at number (jumps (take i xs)) ++ z ∷ [])) o
    ∙ ap (λ z. old ++ z) (sym (labels_at_behind number (jumps (take i xs)) (jump_of x)) ∙ ap (labels_at number) (sym (jumps_behind (take i xs) x)))
    ∙ ap (λ y. old ++ labels_at number (jumps (take i xs ++ y ∷ []))) e ∙ ap (λ z. old ++ labels_at number (jumps z)) (sym (take_more xs i x h))

-- ---- Functions

faults_behind : (fs : List t.Function) (f : t.Function) → r.functions_faults (fs ++ f ∷ []) ≡ r.functions_faults fs ++ r.function_faults f
faults_behind [] f = append-nil (r.function_faults f)
faults_behind (k ∷ fs) f = ap (λ z. r.function_faults k ++ z) (faults_behind fs f) ∙ sym (append_assoc (r.function_faults k) (r.functions_faults fs) (r.function_faults f))

labels_behind : (number : ℕ) (fs : List t.Function) (f : t.Function) → labels_from number (fs ++ f ∷ []) ≡ labels_from number fs ++ labels_at (number + length fs) (r.labels_of_all [] f.body)
labels_behind number [] f = append-nil (labels_at number (r.labels_of_all [] f.body)) ∙ ap (λ z. labels_at z (r.labels_of_all [] f.body)) (let e : number ≡ number + length {A = t.Function} [] = omega arith in e)
labels_behind number (k ∷ fs) f =
    ap (λ z. labels_at number (r.labels_of_all [] k.body) ++ z)
    (labels_behind (number + 1) fs f ∙ ap (λ z. labels_from (number + 1) fs ++ labels_at z (r.labels_of_all [] f.body)) (let e : number + 1 + length fs ≡ number + length (k ∷ fs) = omega arith in e))
    ∙ sym (append_assoc (labels_at number (r.labels_of_all [] k.body)) (labels_from (number + 1) fs) (labels_at (number + length (k ∷ fs)) (r.labels_of_all [] f.body)))

calls_behind : (fs : List t.Function) (f : t.Function) → r.calls_of_functions (fs ++ f ∷ []) ≡ r.calls_of_functions fs ++ g.calls_in f ∷ []
calls_behind [] f = refl
calls_behind (k ∷ fs) f = ap (λ z. g.calls_in k ∷ z) (calls_behind fs f)

map_behind : (xs : List Function) (x : Function) → map v.function_of (xs ++ x ∷ []) ≡ map v.function_of xs ++ v.function_of x ∷ []
map_behind [] x = refl
map_behind (y ∷ xs) x = ap (λ zs. v.function_of y ∷ zs) (map_behind xs x)

one_more : (fs : List t.Function) (f : t.Function) (number : ℕ) → number ≡ length fs → g.gathering (fs ++ f ∷ []) ≡ g.with_function (g.gathering fs) number f
one_more fs f number e =
    ap (λ (z : Summary). let y : g.Gathering = record { found = z; labels = labels_from 0 (fs ++ f ∷ []); calls = r.calls_of_functions (fs ++ f ∷ []) } in y)
    (ap summary (faults_behind fs f) ∙ joined_is (r.functions_faults fs) (r.function_faults f))
    ∙ ap (λ (z : List LabelAt). let y : g.Gathering = record { found = both (summary (r.functions_faults fs)) (summary (r.function_faults f)); labels = z; calls = r.calls_of_functions (fs ++ f ∷ []) } in y)
    (labels_behind 0 fs f ∙ ap (λ z. labels_from 0 fs ++ labels_at z (r.labels_of_all [] f.body)) (let k : 0 + length fs ≡ number = omega (arith, e) in k))
    ∙ ap (λ (z : List (List r.Call)). let y : g.Gathering = record { found = both (summary (r.functions_faults fs)) (summary (r.function_faults f)); labels = labels_from 0 fs ++ labels_at number (r.labels_of_all [] f.body); calls = z } in y)
    (calls_behind fs f)

pub gather_step : (xs : List Function) (i : ℕ) (x : Function) (old new : g.Gathering) → i < length xs → x ≡ get_or xs i x → old ≡ g.gathering (map v.function_of (take i xs)) → new ≡ g.with_function old i (v.function_of x) →
    new ≡ g.gathering (map v.function_of (take (i + 1) xs))
gather_step xs i x old new h e m n =
    n ∙ ap (λ z. g.with_function z i (v.function_of x)) m
    ∙ sym (one_more (map v.function_of (take i xs)) (v.function_of x) i (let k : i ≡ length (map v.function_of (take i xs)) = omega (arith, h, length-map (take i xs) v.function_of, length-take i xs) in k))
    ∙ ap g.gathering (sym (map_behind (take i xs) x)) ∙ ap (λ y. g.gathering (map v.function_of (take i xs ++ y ∷ []))) e ∙ ap (λ z. g.gathering (map v.function_of z)) (sym (take_more xs i x h))

-- ---- What is found

pub none_broken : (bs : List Broken) → None ≡ first_broken bs → bs ≡ []
none_broken [] h = refl
none_broken (b ∷ bs) h = absurd (cc)

pub function_arm : (f : t.Function) (number fn : ℕ) (body : t.Steps) (walk : w.State) (labels gotos lent : List r.Jump) (jumped two own alone new : Summary) (called : List r.Call) (old : g.Gathering) (ls : List LabelAt) (cs : List (List r.Call)) →
    body ≡ f.body → walk ≡ w.walk_of f.result body → labels ≡ walk.labels → gotos ≡ walk.gotos → lent ≡ walk.labels →
    jumped ≡ summary (r.repeated_labels [] labels ++ r.lost_gotos labels gotos ++ r.entering_gotos labels gotos) → two ≡ both jumped walk.found →
    (let z : g.Checked = record { found = alone; calls = called } in z) ≡ g.values_checked f → own ≡ both two alone → fn ≡ number → ls ≡ old.labels ++ labels_at fn lent → cs ≡ old.calls ++ called ∷ [] → new ≡ both old.found own →
    (let z : g.Gathering = record { found = new; labels = ls; calls = cs } in z) ≡ g.with_function old number f
function_arm f number fn body walk labels gotos lent jumped two own alone new called old ls cs b h a k m j tw ch o nu li ca n =
    let here : walk ≡ w.walk_of f.result f.body = h ∙ ap (w.walk_of f.result) b in
    let ll : labels ≡ r.labels_of_all [] f.body = a ∙ ap (λ (z : w.State). z.labels) here in
    let gg : gotos ≡ r.gotos_of_all [] f.body = k ∙ ap (λ (z : w.State). z.gotos) here in
    let lines : List r.Jump → List r.Jump → List Broken = λ x y. r.repeated_labels [] x ++ r.lost_gotos x y ++ r.entering_gotos x y in
    let first : jumped ≡ summary (lines (r.labels_of_all [] f.body) (r.gotos_of_all [] f.body)) = j ∙ ap (λ z. summary (lines z gotos)) ll ∙ ap (λ z. summary (lines (r.labels_of_all [] f.body) z)) gg in
    let second : two ≡ summary (lines (r.labels_of_all [] f.body) (r.gotos_of_all [] f.body) ++ r.misplaced_all f.result false None [] f.body) =
    tw ∙ ap (λ z. both z walk.found) first ∙ ap (λ (z : w.State). both (summary (lines (r.labels_of_all [] f.body) (r.gotos_of_all [] f.body))) z.found) here
    ∙ sym (joined_is (lines (r.labels_of_all [] f.body) (r.gotos_of_all [] f.body)) (r.misplaced_all f.result false None [] f.body)) in
    let third : own ≡ summary (r.function_faults f) =
    o ∙ ap (λ z. both z alone) second ∙ ap (λ (z : g.Checked). both (summary (lines (r.labels_of_all [] f.body) (r.gotos_of_all [] f.body) ++ r.misplaced_all f.result false None [] f.body)) z.found) ch
    ∙ sym (joined_is (lines (r.labels_of_all [] f.body) (r.gotos_of_all [] f.body) ++ r.misplaced_all f.result false None [] f.body) (r.unsequenced_of (r.all_of_all f.body))) in
    ap (λ (z : Summary). let y : g.Gathering = record { found = z; labels = ls; calls = cs } in y) (n ∙ ap (both old.found) third)
    ∙ ap (λ (z : List LabelAt). let y : g.Gathering = record { found = both old.found (summary (r.function_faults f)); labels = z; calls = cs } in y)
    (li ∙ ap (λ z. old.labels ++ labels_at z lent) nu ∙ ap (λ z. old.labels ++ labels_at number z) (m ∙ ap (λ (z : w.State). z.labels) here))
    ∙ ap (λ (z : List (List r.Call)). let y : g.Gathering = record { found = both old.found (summary (r.function_faults f)); labels = old.labels ++ labels_at number (r.labels_of_all [] f.body); calls = z } in y)
    (ca ∙ ap (λ (z : g.Checked). old.calls ++ z.calls ∷ []) ch)

pub all_calls_behind : (xs : List (Vec CallAt Global)) (x : Vec CallAt Global) → all_calls (xs ++ x ∷ []) ≡ all_calls xs ++ calls x.items ∷ []
all_calls_behind [] x = refl
all_calls_behind (y ∷ xs) x = ap (λ zs. calls y.items ∷ zs) (all_calls_behind xs x)
