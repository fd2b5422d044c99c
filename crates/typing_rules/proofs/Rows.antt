-- Lists, one element more at a time.
use Rattle.std.proofs.Common.{◌≡◌, ℕ, ◌<◌, ◌+◌, ◌-◌, suc, List, [], ◌∷◌, ◌++◌, length, take, get_or, refl, ap, ◌∙◌, sym, arith}
use Rattle.std.proofs.Math.Seq.{take-suc}
use Rattle.lv_base.specs.declared.kind.Model.{Model}
use Rattle.c_tree.specs.declared.tree.Listed.{Listed}
use Rattle.c_tree.specs.declared.tree.Spec.{Spec}
use Rattle.c_tree.specs.declared.tree.Enumerator.{Enumerator, Plain, Valued'}
use Rattle.c_tree.specs.Tree as t
use Rattle.c_tree.specs.View.{expr, parts_of, parts_behind, word, words_behind, enumerators_of, enumerator_behind}
use Rattle.c_tree.proofs.Views.{parts_push, words_push, enumerators_push}
use Rattle.c_meaning.specs.Bindings.{Env}
use Rattle.first_broken.specs.Found.{both}
use Rattle.typing_rules.specs.Summed as s

take_more : {A : Type 0} (xs : List A) (i : ℕ) (d : A) → i < length xs → take (i + 1) xs ≡ take i xs ++ (get_or xs i d ∷ [])
take_more xs i d b = let e : i + 1 ≡ suc i = omega arith in rw e (take-suc xs i d b)

module _ (env : Env) (model : Model) where
  pub values_more : (xs : List Listed) (i : ℕ) (d : Listed) → i < length xs →
      s.values_found env model (parts_of (take (i + 1) xs)) ≡ both (s.values_found env model (parts_of (take i xs))) (s.value_found env model (expr (get_or xs i d).value.value))
  values_more xs i d b = ap (λ ys. s.values_found env model (parts_of ys)) (take_more xs i d b) ∙ ap (s.values_found env model) (parts_push (take i xs) (get_or xs i d))

  last_index : {A : Type 0} (x y : A) (xs : List A) (d : A) → get_or (y ∷ xs) (length (y ∷ xs) - 1) d ≡ get_or (x ∷ (y ∷ xs)) (length (x ∷ (y ∷ xs)) - 1) d
  last_index x y xs d = let e : length (x ∷ (y ∷ xs)) - 1 ≡ suc (length (y ∷ xs) - 1) = omega arith in rw e refl

  last_behind : (xs : List Listed) (es : t.Parts) (d : Listed) → 0 < length xs → s.last_found env model (parts_behind es xs) ≡ s.value_or_void env model (expr (get_or xs (length xs - 1) d).value.value)
  last_behind [] es d b = absurd (omega arith)
  last_behind (x ∷ []) es d b = refl
  last_behind (x ∷ (y ∷ xs)) es d b = last_behind (y ∷ xs) (t.parts_and es x.comma (expr x.value.value)) d (omega arith) ∙ ap (λ z. s.value_or_void env model (expr z.value.value)) (last_index x y xs d)

  pub last_is : (xs : List Listed) (d : Listed) → 0 < length xs → s.last_found env model (parts_of xs) ≡ s.value_or_void env model (expr (get_or xs (length xs - 1) d).value.value)
  last_is xs d b = last_behind xs t.no_parts d b

  module _ (bodies : List (List ℕ)) (again : List ℕ) where
    pub parts_more : (xs : List Listed) (i : ℕ) (d : Listed) → i < length xs →
        s.found_of_parts env model bodies again (parts_of (take (i + 1) xs)) ≡ both (s.found_of_parts env model bodies again (parts_of (take i xs))) (s.found env model bodies again (expr (get_or xs i d).value.value))
    parts_more xs i d b = ap (λ ys. s.found_of_parts env model bodies again (parts_of ys)) (take_more xs i d b) ∙ ap (s.found_of_parts env model bodies again) (parts_push (take i xs) (get_or xs i d))

    pub words_more : (xs : List Spec) (i : ℕ) (d : Spec) → i < length xs →
        s.found_of_words env model bodies again (words_behind t.no_words (take (i + 1) xs)) ≡ both (s.found_of_words env model bodies again (words_behind t.no_words (take i xs))) (s.found_of_word env model bodies again (word (get_or xs i d)))
    words_more xs i d b = ap (λ ys. s.found_of_words env model bodies again (words_behind t.no_words ys)) (take_more xs i d b) ∙ ap (s.found_of_words env model bodies again) (words_push (take i xs) (get_or xs i d))

    behind : (es : t.Ens) (x : Enumerator) → s.found_of_enumerators env model bodies again (enumerator_behind es x) ≡ s.with_enumerator env model bodies again (s.found_of_enumerators env model bodies again es) x
    behind es (Plain c n at) = refl
    behind es (Valued' c n at a p e) = refl

    pub enumerators_more : (xs : List Enumerator) (i : ℕ) (d : Enumerator) → i < length xs →
        s.found_of_enumerators env model bodies again (enumerators_of (take (i + 1) xs)) ≡ s.with_enumerator env model bodies again (s.found_of_enumerators env model bodies again (enumerators_of (take i xs))) (get_or xs i d)
    enumerators_more xs i d b =
        ap (λ ys. s.found_of_enumerators env model bodies again (enumerators_of ys)) (take_more xs i d b) ∙ ap (s.found_of_enumerators env model bodies again) (enumerators_push (take i xs) (get_or xs i d))
        ∙ behind (enumerators_of (take i xs)) (get_or xs i d)
