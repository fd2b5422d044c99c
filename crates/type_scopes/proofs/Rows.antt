-- Lists of words, constants and parameters, one more at a time.
use Rattle.std.proofs.Common.{◌≡◌, ℕ, ◌<◌, ◌+◌, suc, Bool, true, if◌then◌else◌, List, [], ◌∷◌, ◌++◌, length, take, get_or, ◌-◌, Option, Some, refl, ap, ◌∙◌, sym, arith, Vec, Global, pos, int_lt}
use Rattle.std.proofs.Math.Seq.{take-suc}
use Rattle.c_tree.specs.declared.tree.Enumerator.{Enumerator, Plain, Valued'}
use Rattle.c_tree.specs.declared.tree.Spec.{Spec, Enum, TagEnum}
use Rattle.c_tree.specs.declared.tree.Parameter.{Parameter}
use Rattle.c_tree.specs.Tree as t
use Rattle.c_tree.specs.View.{word, words_behind, words_of, enumerators_of, enumerator_behind, params_of, parts_of, parts_behind, expr}
use Rattle.c_tree.proofs.Views.{words_push, enumerators_push, params_push, word_Enum, word_TagEnum}
use Rattle.c_meaning.specs.Types.{type_of, type_of_last}
use Rattle.lv_base.specs.declared.kind.Model.{Model}
use Rattle.c_tree.specs.declared.tree.Listed.{Listed}
use Rattle.c_meaning.specs.Bindings.{Env, word_kind, enum_kind, has_negative, has_const, constant_value, declared_at, params_kinds, kind_or_int, words_type}
use Rattle.type_scopes.specs.Steps.{const_with, place_of}

take_more : {A : Type 0} (xs : List A) (i : ℕ) (d : A) → i < length xs → take (i + 1) xs ≡ take i xs ++ (get_or xs i d ∷ [])
take_more xs i d b = let e : i + 1 ≡ suc i = omega arith in rw e (take-suc xs i d b)

pub words_take : (xs : List Spec) (i : ℕ) (d : Spec) → i < length xs → words_behind t.no_words (take (i + 1) xs) ≡ t.words_and (words_behind t.no_words (take i xs)) (word (get_or xs i d))
words_take xs i d b = ap (words_behind t.no_words) (take_more xs i d b) ∙ words_push (take i xs) (get_or xs i d)

negative_behind : (env : Env) (es : t.Ens) (x : Enumerator) → has_negative env (enumerator_behind es x) ≡ (if int_lt (constant_value (declared_at env (place_of x))) (pos 0) then true else has_negative env es)
negative_behind env es (Plain c n at) = refl
negative_behind env es (Valued' c n at a p e) = refl

pub negative_take : (env : Env) (xs : List Enumerator) (i : ℕ) (d : Enumerator) → i < length xs →
    has_negative env (enumerators_of (take (i + 1) xs)) ≡ (if int_lt (constant_value (declared_at env (place_of (get_or xs i d)))) (pos 0) then true else has_negative env (enumerators_of (take i xs)))
negative_take env xs i d b =
    ap (λ es. has_negative env (enumerators_of es)) (take_more xs i d b) ∙ ap (has_negative env) (enumerators_push (take i xs) (get_or xs i d)) ∙ negative_behind env (enumerators_of (take i xs)) (get_or xs i d)

abbrev is_negative : Env → Enumerator → Bool
is_negative env x = int_lt (constant_value (declared_at env (place_of x))) (pos 0)

pub negative_step : (env : Env) (xs : List Enumerator) (i : ℕ) (x : Enumerator) (r n f : Bool) → i < length xs → x ≡ get_or xs i x →
    r ≡ (if n then true else f) → n ≡ int_lt (constant_value (declared_at env (place_of x))) (pos 0) → f ≡ has_negative env (enumerators_of (take i xs)) → r ≡ has_negative env (enumerators_of (take (i + 1) xs))
negative_step env xs i x r n f b e p q h =
    p ∙ ap (λ (y : Bool). if y then true else f) q ∙ ap (λ y. if is_negative env y then true else f) e ∙ ap (λ (y : Bool). if is_negative env (get_or xs i x) then true else y) h ∙ sym (negative_take env xs i x b)

pub kind_of_Enum : (env : Env) (at a : ℕ) (es : Vec Enumerator Global) (c : Option ℕ) (b : ℕ) → word_kind env (word (Enum at a es c b)) ≡ Some (enum_kind env (enumerators_of es.items))
kind_of_Enum env at a es c b = ap (word_kind env) (word_Enum at a es c b)

pub kind_of_TagEnum : (env : Env) (at : ℕ) (n : List ℕ) (x a : ℕ) (es : Vec Enumerator Global) (c : Option ℕ) (b : ℕ) → word_kind env (word (TagEnum at n x a es c b)) ≡ Some (enum_kind env (enumerators_of es.items))
kind_of_TagEnum env at n x a es c b = ap (word_kind env) (word_TagEnum at n x a es c b)

const_and : (env : Env) (ws : t.Words) (w : t.Word) → has_const env (t.words_and ws w) ≡ const_with env w (has_const env ws)
const_and env ws (t.wType w at) = refl
const_and env ws (t.wStorage w at) = refl
const_and env ws (t.wConst w at) = refl
const_and env ws (t.wExtension at) = refl
const_and env ws (t.wAttribute a) = refl
const_and env ws (t.wTypedef n at) = refl
const_and env ws (t.wTag at n b) = refl
const_and env ws (t.wEnum at a es c b) = refl
const_and env ws (t.wTagEnum at n x a es c b) = refl

pub const_take : (env : Env) (xs : List Spec) (i : ℕ) (d : Spec) → i < length xs →
    has_const env (words_behind t.no_words (take (i + 1) xs)) ≡ const_with env (word (get_or xs i d)) (has_const env (words_behind t.no_words (take i xs)))
const_take env xs i d b = ap (has_const env) (words_take xs i d b) ∙ const_and env (words_behind t.no_words (take i xs)) (word (get_or xs i d))

pub params_take : (env : Env) (xs : List Parameter) (i : ℕ) (d : Parameter) → i < length xs →
    params_kinds env (params_of (take (i + 1) xs)) ≡ params_kinds env (params_of (take i xs)) ++ (kind_or_int (words_type env (words_of (get_or xs i d).specs)) ∷ [])
params_take env xs i d b = ap (λ ps. params_kinds env (params_of ps)) (take_more xs i d b) ∙ ap (params_kinds env) (params_push (take i xs) (get_or xs i d))

-- ---- The last part of a list

last_of_more : (env : Env) (model : Model) (xs : List Listed) (es : t.Parts) (x : Listed) → type_of_last env model (parts_behind (t.parts_and es x.comma (expr x.value.value)) xs) ≡ type_of_last env model (parts_of (x ∷ xs))
last_of_more env model [] es x = refl
last_of_more env model (y ∷ xs) es x = last_of_more env model xs (t.parts_and es x.comma (expr x.value.value)) y ∙ sym (last_of_more env model xs (t.parts_and t.no_parts x.comma (expr x.value.value)) y)

pub last_type_is : (env : Env) (model : Model) (xs : List Listed) (d : Listed) → 0 < length xs → type_of_last env model (parts_of xs) ≡ type_of env model (expr (get_or xs (length xs - 1) d).value.value)
last_type_is env model [] d b = absurd (omega arith)
last_type_is env model (x ∷ []) d b = refl
last_type_is env model (x ∷ (y ∷ xs)) d b =
    last_of_more env model xs (t.parts_and t.no_parts x.comma (expr x.value.value)) y ∙ last_type_is env model (y ∷ xs) d (omega arith) ∙ ap (λ z. type_of env model (expr z.value.value)) (last_get y xs d)
  where
    last_get : (y : Listed) (xs : List Listed) (d : Listed) → get_or (y ∷ xs) (length (y ∷ xs) - 1) d ≡ get_or (x ∷ (y ∷ xs)) (length (x ∷ (y ∷ xs)) - 1) d
    last_get y xs d = let e : length (x ∷ (y ∷ xs)) - 1 ≡ suc (length (y ∷ xs) - 1) = omega arith in rw e refl
