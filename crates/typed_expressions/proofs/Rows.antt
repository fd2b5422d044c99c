-- Lists of values, one element more at a time.
use Rattle.std.proofs.Common.{◌≡◌, ℕ, ◌<◌, ◌+◌, suc, List, [], ◌∷◌, ◌++◌, length, length-take-le, take, get_or, refl, ap, ◌∙◌, sym, arith, slice_index_or}
use Rattle.std.proofs.Math.Seq.{take-suc}
use Rattle.lv_base.specs.declared.kind.Kind.{Kind}
use Rattle.lv_base.specs.declared.kind.Kind.TheVariants as kind
use Rattle.lv_base.specs.declared.kind.Model.{Model}
use Rattle.c_tree.specs.declared.tree.Listed.{Listed}
use Rattle.c_tree.specs.Tree as tr
use Rattle.c_tree.specs.View.{expr, parts_of, parts_behind}
use Rattle.c_tree.proofs.Views.{parts_push}
use Rattle.c_meaning.specs.Tokens.{count_parts}
use Rattle.c_meaning.specs.Bindings.{Env}
use Rattle.c_typed.specs.Tree as t
use Rattle.c_types.specs.Elaborated as el

take_more : {A : Type 0} (xs : List A) (i : ℕ) (d : A) → i < length xs → take (i + 1) xs ≡ take i xs ++ (get_or xs i d ∷ [])
take_more xs i d b = let e : i + 1 ≡ suc i = omega arith in rw e (take-suc xs i d b)

count_behind : (xs : List Listed) (es : tr.Parts) → count_parts (parts_behind es xs) ≡ count_parts es + length xs
count_behind [] es = omega arith
count_behind (x ∷ xs) es = count_behind xs (tr.parts_and es x.comma (expr x.value.value)) ∙ omega arith

count_is : (xs : List Listed) → count_parts (parts_of xs) ≡ length xs
count_is xs = count_behind xs tr.no_parts ∙ omega arith

length_taken : {A : Type 0} (xs : List A) (i : ℕ) → i < length xs → length (take i xs) ≡ i
length_taken xs i b = length-take-le i xs (omega (arith, b))

module _ (env : Env) (model : Model) (bodies : List (List ℕ)) where
  pub values_more : (xs : List Listed) (i : ℕ) (d : Listed) → i < length xs →
      el.values env model bodies (parts_of (take (i + 1) xs)) ≡ t.values_and (el.values env model bodies (parts_of (take i xs))) (el.value env model bodies (expr (get_or xs i d).value.value))
  values_more xs i d b = ap (λ ys. el.values env model bodies (parts_of ys)) (take_more xs i d b) ∙ ap (el.values env model bodies) (parts_push (take i xs) (get_or xs i d))

  pub arguments_more : (ks : List Kind) (xs : List Listed) (i : ℕ) (d : Listed) → i < length xs →
      el.arguments env model bodies ks (parts_of (take (i + 1) xs)) ≡ t.values_and (el.arguments env model bodies ks (parts_of (take i xs))) (t.vConvert (slice_index_or ks i kind.Int) (el.value env model bodies (expr (get_or xs i d).value.value)))
  arguments_more ks xs i d b =
      ap (λ ys. el.arguments env model bodies ks (parts_of ys)) (take_more xs i d b) ∙ ap (el.arguments env model bodies ks) (parts_push (take i xs) (get_or xs i d))
      ∙ ap (λ (n : ℕ). t.values_and (el.arguments env model bodies ks (parts_of (take i xs))) (t.vConvert (slice_index_or ks n kind.Int) (el.value env model bodies (expr (get_or xs i d).value.value)))) (count_is (take i xs) ∙ length_taken xs i b)
