-- What arms and loops of the walk give, by the answers of the calls in them.
use Rattle.std.proofs.Common.{◌≡◌, ℕ, ◌<◌, ◌+◌, Bool, true, List, [], ◌∷◌, ◌++◌, length, take, get_or, map, append_assoc, Option, Result, Ok, Err, refl, ap, ◌∙◌, sym, Vec, Global}
use Rattle.std.specs.Prelude.{IfOk, Box}
use Rattle.lv_base.specs.declared.kind.Kind.{Kind}
use Rattle.c_typed.specs.declared.tree.Value.{Value}
use Rattle.c_typed.specs.declared.tree.Step.{Step}
use Rattle.c_typed.specs.declared.tree.Step.TheVariants as st
use Rattle.c_typed.specs.Tree as t
use Rattle.c_typed.specs.Rules as r
use Rattle.c_typed.specs.View.{step, steps_of, option_value}
use Rattle.step_values.proofs.Views.{step_Block, step_For}
use Rattle.step_values.proofs.Rows.{steps_taken}
use Rattle.jump_rules.specs.declared.jumps.Jump.{Jump}
use Rattle.jump_rules.specs.Seen.{jump_of, jumps}
use Rattle.jump_rules.specs.Walk as w

pub jumps_behind : (xs : List Jump) (x : Jump) → jumps (xs ++ x ∷ []) ≡ jumps xs ++ jump_of x ∷ []
jumps_behind [] x = refl
jumps_behind (y ∷ xs) x = ap (λ zs. jump_of y ∷ zs) (jumps_behind xs x)

pub label_arm : (old new : w.State) (xs ys : List Jump) (x : Jump) (n : List ℕ) (at : ℕ) → old.labels ≡ jumps xs → ys ≡ xs ++ x ∷ [] → jump_of x ≡ r.jump n at at old.scope →
    new ≡ record { scope = old.scope; labels = jumps ys; gotos = old.gotos; found = old.found } → new ≡ w.with_label old n at
label_arm old new xs ys x n at o y j e =
    e ∙ ap (λ z. let a : w.State = record { scope = old.scope; labels = z; gotos = old.gotos; found = old.found } in a) (ap jumps y ∙ jumps_behind xs x ∙ ap (λ z. z ++ jump_of x ∷ []) (sym o) ∙ ap (λ z. old.labels ++ z ∷ []) j)

pub declared_step : (xs : List Step) (i : ℕ) (x : Step) (old all new : w.State) → i < length xs → x ≡ get_or xs i x →
    all ≡ w.declaring old (r.declared_in (steps_of (take i xs))) → new ≡ w.declaring all (r.declared_by (step x)) → new ≡ w.declaring old (r.declared_in (steps_of (take (i + 1) xs)))
declared_step xs i x old all new l e m n =
    n ∙ ap (λ z. w.declaring z (r.declared_by (step x))) m
    ∙ ap (λ y. w.declaring (w.declaring old (r.declared_in (steps_of (take i xs)))) (r.declared_by (step y))) e
    ∙ ap (w.with_scope old) (append_assoc old.scope (r.declared_in (steps_of (take i xs))) (r.declared_by (step (get_or xs i x))))
    ∙ ap (λ z. w.declaring old (r.declared_in z)) (sym (steps_taken xs i x l))

module _ (k : Option Kind) (b : Bool) (s : Option ℕ) where
  pub walk_more : (xs : List Step) (i : ℕ) (x : Step) (old all mid new : w.State) → i < length xs → x ≡ get_or xs i x →
      all ≡ w.walked_all k b s old (steps_of (take i xs)) → mid ≡ w.walked k b s all (step x) → new ≡ w.declaring mid (r.declared_by (step x)) →
      new ≡ w.walked_all k b s old (steps_of (take (i + 1) xs))
  walk_more xs i x old all mid new l e m o n =
      n ∙ ap (λ z. w.declaring z (r.declared_by (step x))) (o ∙ ap (λ z. w.walked k b s z (step x)) m)
      ∙ ap (λ y. w.declaring (w.walked k b s (w.walked_all k b s old (steps_of (take i xs))) (step y)) (r.declared_by (step y))) e
      ∙ ap (w.walked_all k b s old) (sym (steps_taken xs i x l))

  pub block_arm : (x : Step) (ss : Vec Step Global) (list : List Step) (depth : ℕ) (old mid new : w.State) → x ≡ st.Block ss → list ≡ ss.items → depth ≡ length old.scope →
      mid ≡ w.walked_all k b s old (steps_of list) → new ≡ w.leaving depth mid → new ≡ w.walked k b s old (step x)
  block_arm x ss list depth old mid new p q d m n =
      n ∙ ap (λ z. w.leaving z mid) d ∙ ap (w.leaving (length old.scope)) (m ∙ ap (λ z. w.walked_all k b s old (steps_of z)) q)
      ∙ sym (ap (λ z. w.walked k b s old (step z)) p ∙ ap (w.walked k b s old) (step_Block ss))

  pub for_arm : (x : Step) (at : ℕ) (ss : Vec Step Global) (v u : Option (Box Value Global)) (body : Box Step Global) (list : List Step) (inner : Step) (depth : ℕ) (old first mid new : w.State) →
      x ≡ st.For at ss v u body → list ≡ ss.items → inner ≡ body.value → depth ≡ length old.scope → first ≡ w.declaring old (r.declared_in (steps_of list)) →
      mid ≡ w.walked k true s first (step inner) → new ≡ w.leaving depth mid → new ≡ w.walked k b s old (step x)
  for_arm x at ss v u body list inner depth old first mid new p q i d f m n =
      n ∙ ap (λ z. w.leaving z mid) d
      ∙ ap (w.leaving (length old.scope)) (m ∙ ap (λ z. w.walked k true s first (step z)) i ∙ ap (λ z. w.walked k true s z (step body.value)) (f ∙ ap (λ z. w.declaring old (r.declared_in (steps_of z))) q))
      ∙ sym (ap (λ z. w.walked k b s old (step z)) p ∙ ap (w.walked k b s old) (step_For at ss v u body))
