-- What loops and arms give, by the answers of the calls in them.
use Rattle.std.proofs.Common.{◌≡◌, ℕ, ◌<◌, ◌+◌, List, [], ◌∷◌, ◌++◌, length, take, get_or, append_assoc, Option, Result, Ok, Err, refl, ap, ◌∙◌, sym, Vec, Global}
use Rattle.std.specs.Prelude.{IfOk, Box}
use denote.Ref.{Bor}
use Rattle.c_typed.specs.declared.tree.Value.{Value}
use Rattle.c_typed.specs.declared.tree.Step.{Step}
use Rattle.c_typed.specs.declared.tree.Step.TheVariants as st
use Rattle.c_typed.specs.Tree as t
use Rattle.c_typed.specs.Rules as r
use Rattle.c_typed.specs.View.{value, values_of, step, steps_of, option_value}
use Rattle.step_values.specs.Seen.{values}
use Rattle.step_values.proofs.Views.{step_Block, step_For}
use Rattle.step_values.proofs.Rows.{values_taken, steps_taken}

pub values_behind : (xs : List (Bor Value)) (x : Bor Value) → values (xs ++ x ∷ []) ≡ values xs ++ value x.now ∷ []
values_behind [] x = refl
values_behind (y ∷ xs) x = ap (λ zs. value y.now ∷ zs) (values_behind xs x)

pub parts_step : (xs : List Value) (i : ℕ) (x : Value) (old all new : List t.Val) → i < length xs → x ≡ get_or xs i x →
    all ≡ old ++ r.all_parts (values_of (take i xs)) → new ≡ all ++ value x ∷ [] → new ≡ old ++ r.all_parts (values_of (take (i + 1) xs))
parts_step xs i x old all new l e m n =
    n ∙ ap (λ z. z ++ value x ∷ []) m ∙ append_assoc old (r.all_parts (values_of (take i xs))) (value x ∷ [])
    ∙ ap (λ y. old ++ (r.all_parts (values_of (take i xs)) ++ value y ∷ [])) e ∙ ap (λ z. old ++ r.all_parts z) (sym (values_taken xs i x l))

pub steps_step : (xs : List Step) (i : ℕ) (x : Step) (old all new : List t.Val) → i < length xs → x ≡ get_or xs i x →
    all ≡ old ++ r.all_of_all (steps_of (take i xs)) → new ≡ all ++ r.all_values (step x) → new ≡ old ++ r.all_of_all (steps_of (take (i + 1) xs))
steps_step xs i x old all new l e m n =
    n ∙ ap (λ z. z ++ r.all_values (step x)) m ∙ append_assoc old (r.all_of_all (steps_of (take i xs))) (r.all_values (step x))
    ∙ ap (λ y. old ++ (r.all_of_all (steps_of (take i xs)) ++ r.all_values (step y))) e ∙ ap (λ z. old ++ r.all_of_all z) (sym (steps_taken xs i x l))

pub block_arm : {A B : Type 0} (x : Step) (ss : Vec Step Global) (list : List Step) (old new : List t.Val) (o : Result A B) → x ≡ st.Block ss → list ≡ ss.items →
    IfOk o (λ _. new ≡ old ++ r.all_of_all (steps_of list)) → IfOk o (λ _. new ≡ old ++ r.all_values (step x))
block_arm x ss list old new (Ok f) p q h =
    h ∙ ap (λ z. old ++ r.all_of_all (steps_of z)) q ∙ sym (ap (λ z. old ++ r.all_values (step z)) p ∙ ap (λ z. old ++ r.all_values z) (step_Block ss))
block_arm x ss list old new (Err e) p q h = h

pub for_arm : {A B : Type 0} (x : Step) (at : ℕ) (ss : Vec Step Global) (v w : Option (Box Value Global)) (s : Box Step Global) (list : List Step) (inner : Step) (old a b c new : List t.Val) (o : Result A B) →
    x ≡ st.For at ss v w s → list ≡ ss.items → inner ≡ s.value → a ≡ old ++ r.all_of_all (steps_of list) → b ≡ a ++ r.all_option (option_value v) → c ≡ b ++ r.all_option (option_value w) →
    IfOk o (λ _. new ≡ c ++ r.all_values (step inner)) → IfOk o (λ _. new ≡ old ++ r.all_values (step x))
for_arm x at ss v w s list inner old a b c new (Ok f) p q i d e g h =
    h ∙ ap (λ z. c ++ r.all_values (step z)) i
    ∙ ap (λ z. z ++ r.all_values (step s.value)) (g ∙ ap (λ z. z ++ r.all_option (option_value w)) (e ∙ ap (λ z. z ++ r.all_option (option_value v)) (d ∙ ap (λ z. old ++ r.all_of_all (steps_of z)) q)))
    ∙ ap (λ z. z ++ r.all_option (option_value w) ++ r.all_values (step s.value)) (append_assoc old (r.all_of_all (steps_of ss.items)) (r.all_option (option_value v)))
    ∙ ap (λ z. z ++ r.all_values (step s.value)) (append_assoc old (r.all_of_all (steps_of ss.items) ++ r.all_option (option_value v)) (r.all_option (option_value w)))
    ∙ append_assoc old (r.all_of_all (steps_of ss.items) ++ r.all_option (option_value v) ++ r.all_option (option_value w)) (r.all_values (step s.value))
    ∙ sym (ap (λ z. old ++ r.all_values (step z)) p ∙ ap (λ z. old ++ r.all_values z) (step_For at ss v w s))
for_arm x at ss v w s list inner old a b c new (Err k) p q i d e g h = h
