-- What loops and arms give, by the answers of the calls in them.
use Rattle.std.proofs.Common.{◌≡◌, ℕ, ◌<◌, ◌+◌, Bool, ◌||◌, List, [], ◌∷◌, ◌++◌, length, take, get_or, append-nil, refl, ap, ◌∙◌, sym}
use Rattle.std.specs.Prelude.{IfOk, Box}
use Rattle.std.proofs.Common.{Result, Ok, Err, Option, Vec, Global, false}
use denote.Ref.{Bor}
use Rattle.lv_base.specs.declared.kind.Kind.{Kind}
use Rattle.c_typed.specs.declared.tree.Target.{Target}
use Rattle.c_typed.specs.declared.tree.Value.TheVariants as va
use Rattle.step_values.proofs.Views.{value_Call}
use Rattle.effect_rules.specs.declared.effects.Effects.{Effects}
use Rattle.effect_rules.specs.Seen.{effects_of}
use Rattle.c_typed.specs.declared.tree.Value.{Value}
use Rattle.c_typed.specs.Tree as t
use Rattle.c_typed.specs.Rules as r
use Rattle.c_typed.specs.View.{value, target, values_of}
use Rattle.step_values.specs.Seen.{values}
use Rattle.step_values.proofs.Rows.{values_taken, take_more}
use Rattle.c_run.specs.Breaking.{Broken}
use Rattle.first_broken.specs.Found.{Summary, summary, both}
use Rattle.first_broken.proofs.Least.{joined_is}
use Rattle.effect_rules.specs.Effects as e
use Rattle.effect_rules.proofs.Summing.{effects_summed}

pub list_step : (xs : List Value) (i : ℕ) (x : Value) (all own new : e.Effects) → i < length xs → x ≡ get_or xs i x →
    all ≡ e.list_effects (values_of (take i xs)) → own ≡ e.effects (value x) → new ≡ e.joined all own → new ≡ e.list_effects (values_of (take (i + 1) xs))
list_step xs i x all own new l h m o n =
    n ∙ ap (λ z. e.joined z own) m ∙ ap (e.joined (e.list_effects (values_of (take i xs)))) (o ∙ ap (λ y. e.effects (value y)) h) ∙ ap e.list_effects (sym (values_taken xs i x l))

pub clash_step : (xs : List Value) (i : ℕ) (x : Value) (all own : e.Effects) (test new clashes : Bool) → i < length xs → x ≡ get_or xs i x →
    all ≡ e.list_effects (values_of (take i xs)) → own ≡ e.effects (value x) → test ≡ e.arguments_clash (values_of (take i xs)) → clashes ≡ e.parts_clash all own → new ≡ (clashes || test) →
    new ≡ e.arguments_clash (values_of (take (i + 1) xs))
clash_step xs i x all own test new clashes l h m o s k n =
    n ∙ ap (λ z. z || test) k ∙ ap (λ z. e.parts_clash z own || test) m ∙ ap (λ z. e.parts_clash (e.list_effects (values_of (take i xs))) z || test) (o ∙ ap (λ y. e.effects (value y)) h)
    ∙ ap (λ z. e.parts_clash (e.list_effects (values_of (take i xs))) (e.effects (value (get_or xs i x))) || z) s ∙ ap e.arguments_clash (sym (values_taken xs i x l))

-- one expression more
unsequenced_behind : (xs : List t.Val) (x : t.Val) → r.unsequenced_of (xs ++ x ∷ []) ≡ r.unsequenced_of xs ++ r.unsequenced x
unsequenced_behind [] x = append-nil (r.unsequenced x)
unsequenced_behind (y ∷ xs) x = ap (λ z. r.unsequenced y ++ z) (unsequenced_behind xs x) ∙ sym (assoc (r.unsequenced y) (r.unsequenced_of xs) (r.unsequenced x))
  where
    assoc : (a b c : List Broken) → (a ++ b) ++ c ≡ a ++ (b ++ c)
    assoc [] b c = refl
    assoc (z ∷ a) b c = ap (λ w. z ∷ w) (assoc a b c)

values_behind : (xs : List (Bor Value)) (x : Bor Value) → values (xs ++ x ∷ []) ≡ values xs ++ value x.now ∷ []
values_behind [] x = refl
values_behind (y ∷ xs) x = ap (λ zs. value y.now ∷ zs) (values_behind xs x)

pub found_step : (xs : List (Bor Value)) (i : ℕ) (x : Bor Value) (all new : Summary) (own : e.Effects) → i < length xs → x ≡ get_or xs i x →
    all ≡ summary (r.unsequenced_of (values (take i xs))) → own ≡ e.effects (value x.now) → new ≡ both all own.found → new ≡ summary (r.unsequenced_of (values (take (i + 1) xs)))
found_step xs i x all new own l h m o n =
    n ∙ ap (λ z. both z own.found) m
    ∙ ap (λ (z : e.Effects). both (summary (r.unsequenced_of (values (take i xs)))) z.found) (o ∙ effects_summed (value x.now))
    ∙ sym (joined_is (r.unsequenced_of (values (take i xs))) (r.unsequenced (value x.now)))
    ∙ ap summary (sym (unsequenced_behind (values (take i xs)) (value x.now)))
    ∙ ap (λ z. summary (r.unsequenced_of z)) (sym (values_behind (take i xs) x))
    ∙ ap (λ y. summary (r.unsequenced_of (values (take i xs ++ y ∷ [])))) h
    ∙ ap (λ z. summary (r.unsequenced_of (values z))) (sym (take_more xs i x l))

pub assign_arm : {B : Type 0} (x : Value) (k : Kind) (at : ℕ) (p : Box Target Global) (q : Box Value Global) (g : Target) (v : Value) (h : Target) (object : ℕ) (index own : e.Effects) (o : Result Effects B) →
    x ≡ va.Assign k at p q → g ≡ p.value → v ≡ q.value → h ≡ p.value → object ≡ r.object_in (target h) → index ≡ e.goal_effects (target g) → own ≡ e.effects (value v) →
    IfOk o (λ y. effects_of y ≡ e.assigned false at object index own) → IfOk o (λ y. effects_of y ≡ e.effects (value x))
assign_arm x k at p q g v h object index own (Ok y) is a b c d i w n =
    n ∙ ap (λ z. e.assigned false at z index own) (d ∙ ap (λ z. r.object_in (target z)) c)
    ∙ ap (λ z. e.assigned false at (r.object_in (target p.value)) z own) (i ∙ ap (λ z. e.goal_effects (target z)) a)
    ∙ ap (e.assigned false at (r.object_in (target p.value)) (e.goal_effects (target p.value))) (w ∙ ap (λ z. e.effects (value z)) b)
    ∙ sym (ap (λ z. e.effects (value z)) is)
assign_arm x k at p q g v h object index own (Err y) is a b c d i w n = n

pub call_arm : {B : Type 0} (x : Value) (k : Option Kind) (at bracket f : ℕ) (vs : Vec Value Global) (list : List Value) (o : Result Effects B) →
    x ≡ va.Call k at bracket f vs → list ≡ vs.items →
    IfOk o (λ y. effects_of y ≡ e.lined (e.list_effects (values_of list)) (e.arguments_clash (values_of list)) bracket) → IfOk o (λ y. effects_of y ≡ e.effects (value x))
call_arm x k at bracket f vs list (Ok y) is a n =
    n ∙ ap (λ z. e.lined (e.list_effects (values_of z)) (e.arguments_clash (values_of z)) bracket) a
    ∙ sym (ap (λ z. e.effects (value z)) is ∙ ap e.effects (value_Call k at bracket f vs))
call_arm x k at bracket f vs list (Err y) is a n = n
