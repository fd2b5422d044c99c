-- Lists, one element more at a time.
use Rattle.std.proofs.Common.{◌≡◌, ℕ, ◌<◌, ◌+◌, suc, List, [], ◌∷◌, ◌++◌, length, take, get_or, ap, ◌∙◌, arith}
use Rattle.std.proofs.Math.Seq.{take-suc}
use Rattle.c_typed.specs.declared.tree.Value.{Value}
use Rattle.c_typed.specs.declared.tree.Step.{Step}
use Rattle.c_typed.specs.Tree as t
use Rattle.c_typed.specs.View.{value, values_of, step, steps_of}
use Rattle.step_values.proofs.Views.{values_push, steps_push}

pub take_more : {A : Type 0} (xs : List A) (i : ℕ) (d : A) → i < length xs → take (i + 1) xs ≡ take i xs ++ (get_or xs i d ∷ [])
take_more xs i d b = let e : i + 1 ≡ suc i = omega arith in rw e (take-suc xs i d b)

pub values_taken : (xs : List Value) (i : ℕ) (d : Value) → i < length xs → values_of (take (i + 1) xs) ≡ t.values_and (values_of (take i xs)) (value (get_or xs i d))
values_taken xs i d b = ap values_of (take_more xs i d b) ∙ values_push (take i xs) (get_or xs i d)

pub steps_taken : (xs : List Step) (i : ℕ) (d : Step) → i < length xs → steps_of (take (i + 1) xs) ≡ t.steps_and (steps_of (take i xs)) (step (get_or xs i d))
steps_taken xs i d b = ap steps_of (take_more xs i d b) ∙ steps_push (take i xs) (get_or xs i d)
