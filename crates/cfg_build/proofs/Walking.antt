-- What the walk over statements finds in a list and in a block, by the answers of the calls in it.
use Rattle.std.proofs.Common.{◌≡◌, ℕ, ◌<◌, ◌+◌, List, ◌++◌, length, take, get_or, append_assoc, Result, Ok, Err, ap, ◌∙◌, sym, Vec, Global}
use Rattle.std.specs.Prelude.{IfOk}
use Rattle.c_typed.specs.declared.tree.Step.{Step}
use Rattle.c_typed.specs.declared.tree.Step.TheVariants as st
use Rattle.c_typed.specs.View.{step, steps_of}
use Rattle.step_values.proofs.Views.{step_Block}
use Rattle.step_values.proofs.Rows.{steps_taken}
use Rattle.cfg_build.specs.Looped.{loops_in, loops_of}

-- one statement more
pub steps-more : (xs : List Step) (i : ℕ) (x : Step) (old all new : List ℕ) → i < length xs → x ≡ get_or xs i x
    → all ≡ old ++ loops_in (steps_of (take i xs)) → new ≡ all ++ loops_of (step x) → new ≡ old ++ loops_in (steps_of (take (i + 1) xs))
steps-more xs i x old all new l e m n =
    n ∙ ap (λ (z : List ℕ). z ++ loops_of (step x)) m ∙ append_assoc old (loops_in (steps_of (take i xs))) (loops_of (step x))
    ∙ ap (λ (y : Step). old ++ (loops_in (steps_of (take i xs)) ++ loops_of (step y))) e ∙ ap (λ z. old ++ loops_in z) (sym (steps_taken xs i x l))

-- a block
pub in-block : {A B : Type 0} (x : Step) (ss : Vec Step Global) (list : List Step) (old new : List ℕ) (o : Result A B) → x ≡ st.Block ss → list ≡ ss.items
    → IfOk o (λ u. new ≡ old ++ loops_in (steps_of list)) → IfOk o (λ u. new ≡ old ++ loops_of (step x))
in-block x ss list old new (Ok f) p q h =
    h ∙ ap (λ (z : List Step). old ++ loops_in (steps_of z)) q ∙ sym (ap (λ (z : Step). old ++ loops_of (step z)) p ∙ ap (λ z. old ++ loops_of z) (step_Block ss))
in-block x ss list old new (Err e) p q h = h
