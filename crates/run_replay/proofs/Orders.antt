-- An order of a program's functions, each once and behind those that it calls, is one in which its code runs as the program.
use Rattle.std.proofs.Common.{◌≡◌, ◌⊎◌, inl, inr, ⊎_elim, ℕ, zero, suc, ◌+◌, ◌<◌, Bool, true, false, List, [], ◌∷◌, ◌++◌, length, map, Option, Some, None, slice_get, refl, sym, ap, ◌∙◌, arith}
use Rattle.std.specs.Prelude.{nat_eq, nat_lt, ◌||◌, ◌&&◌, cond, slice_index_or, bytes_eq, codes}
use Rattle.std.specs.List.{list_all, position_or_len}
use Rattle.std.proofs.lemmas.Bool.{ltb-true}
use Rattle.std.proofs.lemmas.List.Folds.{list_any-append}
use Rattle.c_typed.specs.Tree.{Function, Program}
use Rattle.c_typed.specs.Run.{main_number}
use Rattle.c_typed.specs.Rules.{has, Call, calls_of, calls_of_functions, all_of_all}
use Rattle.call_order.specs.Order as calls
use Rattle.call_order.specs.Order.{bit, times, callees_first}
use Rattle.slot_laws.specs.Laws.{CallsAmong, MayStand, CalleesFirst, MainStands, IsOrder}
use Rattle.run_replay.specs.Replays.{OrdersAgree}

-- ---- Tests

and_first : (a b : Bool) → (a && b) ≡ true → a ≡ true
and_first true b h = refl
and_first false b h = h

and_second : (a b : Bool) → (a && b) ≡ true → b ≡ true
and_second true b h = h
and_second false b h = absurd cc

or_first : (a b : Bool) → a ≡ true → (a || b) ≡ true
or_first a b h = ap (λ z. z || b) h

or_second : (a b : Bool) → b ≡ true → (a || b) ≡ true
or_second true b h = refl
or_second false b h = h

or_cases : (a b : Bool) → (a || b) ≡ true → (a ≡ true) ⊎ (b ≡ true)
or_cases true b h = inl refl
or_cases false b h = inr h

or_alone : (a : Bool) → (a || false) ≡ true → a ≡ true
or_alone true h = refl
or_alone false h = h

-- ---- The functions before

-- each function of one list is in another
abbrev Within : List ℕ → List ℕ → Type 0
Within xs ys = (x : ℕ) → has xs x ≡ true → has ys x ≡ true

within_more : (xs ys : List ℕ) (f : ℕ) → Within xs ys → Within (xs ++ f ∷ []) (f ∷ ys)
within_more xs ys f w x h =
    ⊎_elim (λ e. or_second (nat_eq x f) (has ys x) (w x e)) (λ e. or_first (nat_eq x f) (has ys x) (or_alone (nat_eq x f) e))
    (or_cases (has xs x) (has (f ∷ []) x) (sym (list_any-append (nat_eq x) xs (f ∷ [])) ∙ h))

calls_among : (before other : List ℕ) (cs : List Call) → Within before other → list_all (has before) (map (λ c. c.to) cs) ≡ true → CallsAmong other cs
calls_among before other [] w h = tt
calls_among before other (c ∷ cs) w h =
    (w c.to (and_first (has before c.to) (list_all (has before) (map (λ c. c.to) cs)) h), calls_among before other cs w (and_second (has before c.to) (list_all (has before) (map (λ c. c.to) cs)) h))

-- ---- What each function calls

abbrev graph_of : List Function → List (List ℕ)
graph_of functions = map (λ cs. map (λ c. c.to) cs) (calls_of_functions functions)

graph_long : (functions : List Function) → length (graph_of functions) ≡ length functions
graph_long [] = refl
graph_long (f ∷ fs) = ap suc (graph_long fs)

called : (functions : List Function) (n : ℕ) (f : Function) → slice_get functions n ≡ Some f → slice_index_or (graph_of functions) n [] ≡ map (λ c. c.to) (calls_of (all_of_all f.body))
called [] n f h = absurd cc
called (g ∷ gs) zero f h = let e : g ≡ f = cc in ap (λ (y : Function). map (λ c. c.to) (calls_of (all_of_all y.body))) e
called (g ∷ gs) (suc n) f h = called gs n f h

is_there : (functions : List Function) (n : ℕ) → n < length functions → slice_get functions n ≡ None → ⊥
is_there [] n b h = omega (arith, b)
is_there (g ∷ gs) zero b h = cc
is_there (g ∷ gs) (suc n) b h = is_there gs n (omega (arith, b)) h

may_stand : (functions : List Function) (before other : List ℕ) (n : ℕ) (o : Option Function) → slice_get functions n ≡ o → n < length functions → Within before other →
    list_all (has before) (slice_index_or (graph_of functions) n []) ≡ true → MayStand other o
may_stand functions before other n None e b w h = is_there functions n b e
may_stand functions before other n (Some f) e b w h =
    calls_among before other (calls_of (all_of_all f.body)) w (sym (ap (λ fs. list_all (has before) fs) (called functions n f e)) ∙ h)

callees_stand : (functions : List Function) (before other order : List ℕ) → Within before other → list_all (λ f. nat_lt f (length (graph_of functions))) order ≡ true →
    callees_first (graph_of functions) before order ≡ true → CalleesFirst functions other order
callees_stand functions before other [] w b h = tt
callees_stand functions before other (n ∷ ns) w b h =
    let low : n < length (graph_of functions) = ltb-true n (length (graph_of functions)) (and_first (nat_lt n (length (graph_of functions))) (list_all (λ f. nat_lt f (length (graph_of functions))) ns) b) in
    let front : list_all (has before) (slice_index_or (graph_of functions) n []) ≡ true =
    and_first (list_all (has before) (slice_index_or (graph_of functions) n [])) (callees_first (graph_of functions) (before ++ n ∷ []) ns) h in (
      may_stand functions before other n (slice_get functions n) refl (omega (arith, low, graph_long functions)) w front,
      callees_stand functions (before ++ n ∷ []) (n ∷ other) ns (within_more before other n w)
          (and_second (nat_lt n (length (graph_of functions))) (list_all (λ f. nat_lt f (length (graph_of functions))) ns) b)
          (and_second (list_all (has before) (slice_index_or (graph_of functions) n [])) (callees_first (graph_of functions) (before ++ n ∷ []) ns) h),
    )

-- ---- `main`

times_has : (f : ℕ) (gs : List ℕ) → times f gs ≡ 1 → has gs f ≡ true
times_has f [] h = absurd (omega (arith, h))
times_has f (g ∷ gs) h = by (times_has f gs) (nat_eq f g) refl
  where
    by : (times f gs ≡ 1 → has gs f ≡ true) → (b : Bool) → b ≡ nat_eq f g → (nat_eq f g || has gs f) ≡ true
    by later true e = or_first (nat_eq f g) (has gs f) (sym e)
    by later false e = or_second (nat_eq f g) (has gs f) (later (let none : bit (nat_eq f g) ≡ 0 = ap bit (sym e) in omega (arith, none, h)))

stands_at : (functions : List Function) (order : List ℕ) → ((f : ℕ) → f < length (graph_of functions) → times f order ≡ 1) → (n : ℕ) (b : Bool) → b ≡ nat_lt n (length functions) → MainStands (cond b (Some n) None) order
stands_at functions order once n true e = let low : n < length functions = ltb-true n (length functions) (sym e) in times_has n order (once n (omega (arith, low, graph_long functions)))
stands_at functions order once n false e = tt

main_stands : (functions : List Function) (order : List ℕ) → ((f : ℕ) → f < length (graph_of functions) → times f order ≡ 1) → MainStands (main_number functions) order
main_stands functions order once =
    let n : ℕ = position_or_len (λ (f : Function). bytes_eq f.name (codes "main")) functions in stands_at functions order once n (nat_lt n (length functions)) refl

pub orders_agree : OrdersAgree
orders_agree program order h = record { callees = callees_stand program.functions [] [] order (λ x e. e) h.below h.behind; main = main_stands program.functions order h.once }
