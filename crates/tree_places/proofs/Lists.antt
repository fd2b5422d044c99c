-- The first and the last element of a list in a tree.
use Rattle.std.proofs.Common.{◌≡◌, ℕ, ◌<◌, ◌-◌, ◌+◌, Option, suc, List, [], ◌∷◌, length, get_or, refl, ap, ◌∙◌, sym, arith}
use Rattle.c_tree.specs.declared.tree.Listed.{Listed}
use Rattle.c_tree.specs.declared.tree.Spec.{Spec}
use Rattle.c_tree.specs.Tree as t
use Rattle.c_tree.specs.View.{expr, parts_of, parts_behind, word, words_behind}
use Rattle.c_meaning.specs.Tokens as tok
pub use Rattle.c_tree.proofs.Views.{expr_Call, expr_Comma, expr_Cast, expr_SizeofType}

-- the list goes on behind its first part
first_more : (xs : List Listed) (es : t.Parts) (c : Option ℕ) (e : t.Ex) → tok.first_of_parts (parts_behind (t.parts_and es c e) xs) ≡ tok.first_of_parts (t.parts_and es c e)
first_more [] es c e = refl
first_more (x ∷ xs) es c e = first_more xs (t.parts_and es c e) x.comma (expr x.value.value)

pub first_part : (xs : List Listed) (d : Listed) → 0 < length xs → tok.first_of_parts (parts_of xs) ≡ tok.first_of (expr (get_or xs 0 d).value.value)
first_part [] d b = absurd (omega arith)
first_part (x ∷ xs) d b = first_more xs t.no_parts x.comma (expr x.value.value)

last_index : {A : Type 0} (x y : A) (xs : List A) (d : A) → get_or (y ∷ xs) (length (y ∷ xs) - 1) d ≡ get_or (x ∷ (y ∷ xs)) (length (x ∷ (y ∷ xs)) - 1) d
last_index x y xs d = let e : length (x ∷ (y ∷ xs)) - 1 ≡ suc (length (y ∷ xs) - 1) = omega arith in rw e refl

last_behind : (xs : List Listed) (es : t.Parts) (d : Listed) → 0 < length xs → tok.last_of_parts (parts_behind es xs) ≡ tok.last_of (expr (get_or xs (length xs - 1) d).value.value)
last_behind [] es d b = absurd (omega arith)
last_behind (x ∷ []) es d b = refl
last_behind (x ∷ (y ∷ xs)) es d b = last_behind (y ∷ xs) (t.parts_and es x.comma (expr x.value.value)) d (omega arith) ∙ ap (λ z. tok.last_of (expr z.value.value)) (last_index x y xs d)

pub last_part : (xs : List Listed) (d : Listed) → 0 < length xs → tok.last_of_parts (parts_of xs) ≡ tok.last_of (expr (get_or xs (length xs - 1) d).value.value)
last_part xs d b = last_behind xs t.no_parts d b

own_behind : (xs : List Listed) (es : t.Parts) (d : Listed) → 0 < length xs → tok.own_token_parts (parts_behind es xs) ≡ tok.own_token (expr (get_or xs (length xs - 1) d).value.value)
own_behind [] es d b = absurd (omega arith)
own_behind (x ∷ []) es d b = refl
own_behind (x ∷ (y ∷ xs)) es d b = own_behind (y ∷ xs) (t.parts_and es x.comma (expr x.value.value)) d (omega arith) ∙ ap (λ z. tok.own_token (expr z.value.value)) (last_index x y xs d)

pub own_part : (xs : List Listed) (d : Listed) → 0 < length xs → tok.own_token_parts (parts_of xs) ≡ tok.own_token (expr (get_or xs (length xs - 1) d).value.value)
own_part xs d b = own_behind xs t.no_parts d b

count_behind : (xs : List Listed) (es : t.Parts) → tok.count_parts (parts_behind es xs) ≡ tok.count_parts es + length xs
count_behind [] es = omega arith
count_behind (x ∷ xs) es = count_behind xs (t.parts_and es x.comma (expr x.value.value)) ∙ omega arith

pub count_is : (xs : List Listed) → tok.count_parts (parts_of xs) ≡ length xs
count_is xs = count_behind xs t.no_parts ∙ omega arith

word_more : (xs : List Spec) (ws : t.Words) (w : t.Word) → tok.first_of_words (words_behind (t.words_and ws w) xs) ≡ tok.first_of_words (t.words_and ws w)
word_more [] ws w = refl
word_more (x ∷ xs) ws w = word_more xs (t.words_and ws w) (word x)

pub first_word : (xs : List Spec) (d : Spec) → 0 < length xs → tok.first_of_words (words_behind t.no_words xs) ≡ tok.first_of_word (word (get_or xs 0 d))
first_word [] d b = absurd (omega arith)
first_word (x ∷ xs) d b = word_more xs t.no_words (word x)
