-- Lists in a tree, one element more at a time.
use Rattle.std.proofs.Common.{◌≡◌, ℕ, ◌<◌, ◌+◌, suc, List, [], ◌∷◌, ◌++◌, length, take, get_or, Option, refl, ap, ◌∙◌, arith}
use Rattle.std.proofs.Math.Seq.{take-suc}
use Rattle.lv_base.specs.declared.kind.Model.{Model}
use Rattle.c_tree.specs.declared.symbol.StorageWord.TheVariants as storage
use Rattle.c_tree.specs.declared.tree.Listed.{Listed}
use Rattle.c_tree.specs.declared.tree.Spec.{Spec}
use Rattle.c_tree.specs.declared.tree.Enumerator.{Enumerator, Plain, Valued'}
use Rattle.c_tree.specs.declared.tree.Parameter.{Parameter}
use Rattle.c_tree.specs.declared.tree.Declarator.{Declarator}
use Rattle.c_tree.specs.declared.tree.Statement.{Statement}
use Rattle.c_tree.specs.declared.tree.Item.{Item}
use Rattle.c_tree.specs.Tree as t
use Rattle.c_tree.specs.View.{expr, parts_of, word, words_behind, words_of, enumerators_of, enumerator_behind, params_of, option_name, name_of, form_of, initial_of, declarators_of, statement, statements_of, items_of, items_behind, item_of}
use Rattle.c_tree.proofs.Views.{parts_push, words_push, enumerators_push, params_push, declarators_push, statements_push}
use Rattle.c_meaning.specs.Scope as s
use Rattle.c_meaning.specs.Bindings.{Env}
use Rattle.name_bindings.specs.Bound as bd
use Rattle.source_bindings.specs.Steps as step

take_more : {A : Type 0} (xs : List A) (i : ℕ) (d : A) → i < length xs → take (i + 1) xs ≡ take i xs ++ (get_or xs i d ∷ [])
take_more xs i d b = let e : i + 1 ≡ suc i = omega arith in rw e (take-suc xs i d b)

words_take : (xs : List Spec) (i : ℕ) (d : Spec) → i < length xs → words_behind t.no_words (take (i + 1) xs) ≡ t.words_and (words_behind t.no_words (take i xs)) (word (get_or xs i d))
words_take xs i d b = ap (words_behind t.no_words) (take_more xs i d b) ∙ words_push (take i xs) (get_or xs i d)

typedef_and : (ws : t.Words) (w : t.Word) → s.has_typedef (t.words_and ws w) ≡ step.typedef_with w (s.has_typedef ws)
typedef_and ws (t.wType w at) = refl
typedef_and ws (t.wStorage storage.Auto at) = refl
typedef_and ws (t.wStorage storage.Extern at) = refl
typedef_and ws (t.wStorage storage.Register at) = refl
typedef_and ws (t.wStorage storage.Static at) = refl
typedef_and ws (t.wStorage storage.Typedef at) = refl
typedef_and ws (t.wStorage storage.Inline at) = refl
typedef_and ws (t.wStorage storage.InlineShort at) = refl
typedef_and ws (t.wStorage storage.InlineLong at) = refl
typedef_and ws (t.wStorage storage.Noreturn at) = refl
typedef_and ws (t.wConst w at) = refl
typedef_and ws (t.wExtension at) = refl
typedef_and ws (t.wAttribute a) = refl
typedef_and ws (t.wTypedef n at) = refl
typedef_and ws (t.wTag at n b) = refl
typedef_and ws (t.wEnum at a es c b) = refl
typedef_and ws (t.wTagEnum at n x a es c b) = refl

pub typedef_take : (xs : List Spec) (i : ℕ) (d : Spec) → i < length xs →
    s.has_typedef (words_behind t.no_words (take (i + 1) xs)) ≡ step.typedef_with (word (get_or xs i d)) (s.has_typedef (words_behind t.no_words (take i xs)))
typedef_take xs i d b = ap s.has_typedef (words_take xs i d b) ∙ typedef_and (words_behind t.no_words (take i xs)) (word (get_or xs i d))

pub enumerators_take : (xs : List Enumerator) (i : ℕ) (d : Enumerator) → i < length xs → enumerators_of (take (i + 1) xs) ≡ enumerator_behind (enumerators_of (take i xs)) (get_or xs i d)
enumerators_take xs i d b = ap enumerators_of (take_more xs i d b) ∙ enumerators_push (take i xs) (get_or xs i d)

module _ (model : Model) where
  module _ (scope : s.Scope) (owner : Option ℕ) where
    pub words_more : (env : Env) (xs : List Spec) (i : ℕ) (d : Spec) → i < length xs →
        bd.words model scope owner env (words_behind t.no_words (take (i + 1) xs)) ≡ bd.word model scope owner (bd.words model scope owner env (words_behind t.no_words (take i xs))) (word (get_or xs i d))
    words_more env xs i d b = ap (bd.words model scope owner env) (words_take xs i d b)

    pub parts_more : (env : Env) (xs : List Listed) (i : ℕ) (d : Listed) → i < length xs →
        bd.parts model scope owner env (parts_of (take (i + 1) xs)) ≡ bd.expression model scope owner (bd.parts model scope owner env (parts_of (take i xs))) (expr (get_or xs i d).value.value)
    parts_more env xs i d b = ap (λ ys. bd.parts model scope owner env (parts_of ys)) (take_more xs i d b) ∙ ap (bd.parts model scope owner env) (parts_push (take i xs) (get_or xs i d))

    constant_more : (env : Env) (es : t.Ens) (x : Enumerator) → bd.enumerators model scope owner env (enumerator_behind es x) ≡ step.constant_with model scope owner (step.value_in model scope owner (bd.enumerators model scope owner env es) x) es x
    constant_more env es (Plain c n at) = refl
    constant_more env es (Valued' c n at a p e) = refl

    pub constants_more : (env : Env) (xs : List Enumerator) (i : ℕ) (d : Enumerator) → i < length xs →
        bd.enumerators model scope owner env (enumerators_of (take (i + 1) xs)) ≡ step.constant_with model scope owner (step.value_in model scope owner (bd.enumerators model scope owner env (enumerators_of (take i xs))) (get_or xs i d)) (enumerators_of (take i xs)) (get_or xs i d)
    constants_more env xs i d b = ap (bd.enumerators model scope owner env) (enumerators_take xs i d b) ∙ constant_more env (enumerators_of (take i xs)) (get_or xs i d)

    pub params_more : (env : Env) (xs : List Parameter) (i : ℕ) (d : Parameter) → i < length xs →
        bd.params model scope owner env (params_of (take (i + 1) xs)) ≡ bd.parameter model scope owner (bd.params model scope owner env (params_of (take i xs))) (words_of (get_or xs i d).specs) (option_name (get_or xs i d).name)
    params_more env xs i d b = ap (λ ys. bd.params model scope owner env (params_of ys)) (take_more xs i d b) ∙ ap (bd.params model scope owner env) (params_push (take i xs) (get_or xs i d))

    pub names_more : (env : Env) (xs : List Parameter) (i : ℕ) (d : Parameter) → i < length xs →
        bd.names model scope owner env (params_of (take (i + 1) xs)) ≡ bd.name model scope owner (bd.names model scope owner env (params_of (take i xs))) (words_of (get_or xs i d).specs) (option_name (get_or xs i d).name)
    names_more env xs i d b = ap (λ ys. bd.names model scope owner env (params_of ys)) (take_more xs i d b) ∙ ap (bd.names model scope owner env) (params_push (take i xs) (get_or xs i d))

    pub declarator_is : (env : Env) (ws : t.Words) (n : List ℕ) (at : ℕ) (f : t.Form) (i : t.Initial) →
        bd.declarator model scope owner env ws n at f i ≡ bd.declared model scope owner (step.form_in model scope owner env f) ws n at (step.behind at f) f i
    declarator_is env ws n at t.fPlain i = refl
    declarator_is env ws n at (t.fArray a e b) i = refl
    declarator_is env ws n at (t.fFunction ps) i = refl

    pub declarators_more : (env : Env) (ws : t.Words) (xs : List Declarator) (i : ℕ) (d : Declarator) → i < length xs →
        bd.declarators model scope owner env ws (declarators_of (take (i + 1) xs))
        ≡ bd.whole_declarator model scope owner (bd.declarators model scope owner env ws (declarators_of (take i xs))) ws (name_of (get_or xs i d).name) (form_of (get_or xs i d).form) (initial_of (get_or xs i d).initial)
    declarators_more env ws xs i d b = ap (λ ys. bd.declarators model scope owner env ws (declarators_of ys)) (take_more xs i d b) ∙ ap (bd.declarators model scope owner env ws) (declarators_push (take i xs) (get_or xs i d))

    pub statements_more : (env : Env) (xs : List Statement) (i : ℕ) (d : Statement) → i < length xs →
        bd.statements model owner scope env (statements_of (take (i + 1) xs)) ≡ bd.statement model owner scope (bd.statements model owner scope env (statements_of (take i xs))) (statement (get_or xs i d))
    statements_more env xs i d b = ap (λ ys. bd.statements model owner scope env (statements_of ys)) (take_more xs i d b) ∙ ap (bd.statements model owner scope env) (statements_push (take i xs) (get_or xs i d))

  items_push_behind : (xs : List Item) (x : Item) (is : t.Items) → items_behind is (xs ++ x ∷ []) ≡ t.items_and (items_behind is xs) (item_of x)
  items_push_behind [] x is = refl
  items_push_behind (y ∷ xs) x is = items_push_behind xs x (t.items_and is (item_of y))

  items_take : (xs : List Item) (i : ℕ) (d : Item) → i < length xs → items_of (take (i + 1) xs) ≡ t.items_and (items_of (take i xs)) (item_of (get_or xs i d))
  items_take xs i d b = ap items_of (take_more xs i d b) ∙ items_push_behind (take i xs) (get_or xs i d) t.no_items

  pub items_more : (env : Env) (xs : List Item) (i : ℕ) (d : Item) → i < length xs →
      bd.items model env (items_of (take (i + 1) xs)) ≡ bd.item model (s.count_bodies (items_of (take i xs))) (bd.items model env (items_of (take i xs))) (item_of (get_or xs i d))
  items_more env xs i d b = ap (bd.items model env) (items_take xs i d b)

  bodies_and : (is : t.Items) (x : t.Item) → s.count_bodies (t.items_and is x) ≡ step.bodies_with (s.count_bodies is) x
  bodies_and is (t.tSkipped x at r b) = refl
  bodies_and is (t.tFunction ws n ps ats (t.bBlock a ss b)) = refl
  bodies_and is (t.tFunction ws n ps ats (t.bSkipped a r b)) = refl
  bodies_and is (t.tDeclaration d) = refl
  bodies_and is (t.tEmpty at) = refl

  pub bodies_more : (xs : List Item) (i : ℕ) (d : Item) → i < length xs →
      s.count_bodies (items_of (take (i + 1) xs)) ≡ step.bodies_with (s.count_bodies (items_of (take i xs))) (item_of (get_or xs i d))
  bodies_more xs i d b = ap s.count_bodies (items_take xs i d b) ∙ bodies_and (items_of (take i xs)) (item_of (get_or xs i d))
