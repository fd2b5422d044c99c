-- Lists in a tree and in an environment, one element more or less at a time.
use Rattle.std.proofs.Common.{◌≡◌, ℕ, ◌<◌, ◌+◌, suc, Bool, true, false, if◌then◌else◌, List, [], ◌∷◌, ◌++◌, length, take, drop, drop-cons, get_or, map, Option, None, Some, refl, ap, ◌∙◌, sym, arith, ℤ}
use Rattle.std.proofs.Math.Seq.{take-suc}
use Rattle.std.proofs.lemmas.List.{append-nil, map-append}
use Rattle.lv_base.specs.declared.kind.Kind.{Kind}
use Rattle.lv_base.specs.declared.kind.Model.{Model}
use Rattle.lv_base.specs.Integers.{converted}
use Rattle.c_tree.specs.declared.tree.Listed.{Listed}
use Rattle.c_tree.specs.declared.tree.Parameter.{Parameter}
use Rattle.c_tree.specs.declared.tree.Item.{Item}
use Rattle.c_tree.specs.Tree as tr
use Rattle.c_tree.specs.View.{expr, parts_of, words_of, option_name, params_of, items_of, items_behind, item_of}
use Rattle.c_tree.proofs.Views.{parts_push, params_push}
use Rattle.c_meaning.specs.Bindings as b
use Rattle.c_meaning.specs.Constants.{constant_of, or_zero}
use Rattle.c_meaning.specs.Program as program
use Rattle.c_typed.specs.declared.tree.Object as typed_object
use Rattle.c_typed.specs.declared.tree.Function.{Function}
use Rattle.c_typed.specs.Tree as t
use Rattle.c_typed.specs.View as tv
use Rattle.c_types.specs.Elaborated as el
use Rattle.type_scopes.specs.declared.entries.Entry.{Entry}
use Rattle.type_scopes.specs.declared.entries.Object.{Object}
use Rattle.c_tree.specs.declared.tree.Initial.{Initial}
use Rattle.c_tree.specs.View.{initial_of}
use Rattle.std.specs.Option.{option_map}
use Rattle.type_scopes.specs.Found.{some_initial}
use Rattle.type_scopes.specs.Seen.{object_of}
use Rattle.typed_programs.specs.Parts as part

take_more : {A : Type 0} (xs : List A) (i : ℕ) (d : A) → i < length xs → take (i + 1) xs ≡ take i xs ++ (get_or xs i d ∷ [])
take_more xs i d b = let e : i + 1 ≡ suc i = omega arith in rw e (take-suc xs i d b)

map_more : {A B : Type 0} (f : A → B) (xs : List A) (i : ℕ) (d : A) → i < length xs → map f (drop i xs) ≡ f (get_or xs i d) ∷ map f (drop (i + 1) xs)
map_more f xs i d b = let e : i + 1 ≡ suc i = omega arith in rw e (ap (map f) (drop-cons xs i d b))

-- ---- Items

items_push_behind : (xs : List Item) (x : Item) (is : tr.Items) → items_behind is (xs ++ x ∷ []) ≡ tr.items_and (items_behind is xs) (item_of x)
items_push_behind [] x is = refl
items_push_behind (y ∷ xs) x is = items_push_behind xs x (tr.items_and is (item_of y))

items_take : (xs : List Item) (i : ℕ) (d : Item) → i < length xs → items_of (take (i + 1) xs) ≡ tr.items_and (items_of (take i xs)) (item_of (get_or xs i d))
items_take xs i d b = ap items_of (take_more xs i d b) ∙ items_push_behind (take i xs) (get_or xs i d) tr.no_items

pub names_more : (xs : List Item) (i : ℕ) (d : Item) → i < length xs → part.names_of (items_of (take (i + 1) xs)) ≡ part.names_of (items_of (take i xs)) ++ part.names_in (item_of (get_or xs i d))
names_more xs i d b = ap part.names_of (items_take xs i d b)

functions_and : (env : b.Env) (is : tr.Items) (x : tr.Item) → program.functions_of env (tr.items_and is x) ≡ program.functions_of env is ++ part.functions_in env x
functions_and env is (tr.tSkipped e a r b) = sym (append-nil (program.functions_of env is))
functions_and env is (tr.tFunction ws (tr.named n at) ps ats (tr.bBlock a ss b)) = refl
functions_and env is (tr.tFunction ws (tr.named n at) ps ats (tr.bSkipped a r b)) = sym (append-nil (program.functions_of env is))
functions_and env is (tr.tDeclaration d) = sym (append-nil (program.functions_of env is))
functions_and env is (tr.tEmpty at) = sym (append-nil (program.functions_of env is))

names_in_are : (env : b.Env) (x : tr.Item) → part.names_in x ≡ map (λ (f : program.Function). f.name) (part.functions_in env x)
names_in_are env (tr.tSkipped e a r b) = refl
names_in_are env (tr.tFunction ws (tr.named n at) ps ats (tr.bBlock a ss b)) = refl
names_in_are env (tr.tFunction ws (tr.named n at) ps ats (tr.bSkipped a r b)) = refl
names_in_are env (tr.tDeclaration d) = refl
names_in_are env (tr.tEmpty at) = refl

-- the names are those of the functions
pub names_are : (env : b.Env) (is : tr.Items) → part.names_of is ≡ map (λ (f : program.Function). f.name) (program.functions_of env is)
names_are env tr.no_items = refl
names_are env (tr.items_and is x) =
    ap (λ ns. ns ++ part.names_in x) (names_are env is) ∙ ap (λ ns. map (λ (f : program.Function). f.name) (program.functions_of env is) ++ ns) (names_in_are env x)
    ∙ sym (map-append (λ (f : program.Function). f.name) (program.functions_of env is) (part.functions_in env x)) ∙ sym (ap (map (λ (f : program.Function). f.name)) (functions_and env is x))

pub functions_more : (env : b.Env) (model : Model) (bodies : List (List ℕ)) (xs : List Item) (i : ℕ) (d : Item) → i < length xs →
    map (el.function_of env model bodies) (program.functions_of env (items_of (take (i + 1) xs)))
    ≡ map (el.function_of env model bodies) (program.functions_of env (items_of (take i xs))) ++ map (el.function_of env model bodies) (part.functions_in env (item_of (get_or xs i d)))
functions_more env model bodies xs i d b =
    ap (λ is. map (el.function_of env model bodies) (program.functions_of env is)) (items_take xs i d b)
    ∙ ap (map (el.function_of env model bodies)) (functions_and env (items_of (take i xs)) (item_of (get_or xs i d)))
    ∙ map-append (el.function_of env model bodies) (program.functions_of env (items_of (take i xs))) (part.functions_in env (item_of (get_or xs i d)))

pub functions_push : (xs : List Function) (x : Function) → map tv.function_of (xs ++ x ∷ []) ≡ map tv.function_of xs ++ tv.function_of x ∷ []
functions_push xs x = map-append tv.function_of xs (x ∷ [])

-- ---- Parameters

number_and : (env : b.Env) (ps : tr.Params) (c : Option ℕ) (ws : tr.Words) (n : Option tr.Name) →
    program.params_numbers env (tr.params_and ps c ws n) ≡ program.params_numbers env ps ++ program.number_at env (part.parameter_at ws n)
number_and env ps c ws None = refl
number_and env ps c ws (Some (tr.named n at)) = refl

pub numbers_more : (env : b.Env) (xs : List Parameter) (i : ℕ) (d : Parameter) → i < length xs →
    program.params_numbers env (params_of (take (i + 1) xs))
    ≡ program.params_numbers env (params_of (take i xs)) ++ program.number_at env (part.parameter_at (words_of (get_or xs i d).specs) (option_name (get_or xs i d).name))
numbers_more env xs i d b =
    ap (λ ps. program.params_numbers env (params_of ps)) (take_more xs i d b) ∙ ap (program.params_numbers env) (params_push (take i xs) (get_or xs i d))
    ∙ number_and env (params_of (take i xs)) (get_or xs i d).comma (words_of (get_or xs i d).specs) (option_name (get_or xs i d).name)

-- ---- Initial values

pub constants_more : (env : b.Env) (model : Model) (k : Kind) (xs : List Listed) (i : ℕ) (d : Listed) → i < length xs →
    program.constants env model k (parts_of (take (i + 1) xs)) ≡ program.constants env model k (parts_of (take i xs)) ++ converted k model (or_zero (constant_of env model (expr (get_or xs i d).value.value))) ∷ []
constants_more env model k xs i d b = ap (λ ys. program.constants env model k (parts_of ys)) (take_more xs i d b) ∙ ap (program.constants env model k) (parts_push (take i xs) (get_or xs i d))

pub initial_is : (o : Option Initial) → part.or_nothing (option_map initial_of o) ≡ some_initial o
initial_is None = refl
initial_is (Some i) = refl

-- ---- Objects

pub objects_more : (env : b.Env) (model : Model) (xs : List Object) (i : ℕ) (d : Object) → i < length xs →
    el.objects_from env model i (map object_of (drop i xs)) ≡ part.object_from env model i (object_of (get_or xs i d)) ∷ el.objects_from env model (i + 1) (map object_of (drop (i + 1) xs))
objects_more env model xs i d b =
    ap (el.objects_from env model i) (map_more object_of xs i d b)
    ∙ (let e : i + 1 ≡ suc i = omega arith in ap (λ (n : ℕ). part.object_from env model i (object_of (get_or xs i d)) ∷ el.objects_from env model n (map object_of (drop (i + 1) xs))) (sym e))

-- ---- Loops and the whole

pub numbers_step : (env : b.Env) (old new : List ℕ) (xs : List Parameter) (i : ℕ) (x : Parameter) (at : ℕ) → i < length xs → x ≡ get_or xs i x → at ≡ part.parameter_at (words_of x.specs) (option_name x.name) →
    old ≡ program.params_numbers env (params_of (take i xs)) → new ≡ old ++ program.number_at env at → new ≡ program.params_numbers env (params_of (take (i + 1) xs))
numbers_step env old new xs i x at b e p h n =
    n ∙ ap (λ z. z ++ program.number_at env at) h ∙ ap (λ (z : ℕ). program.params_numbers env (params_of (take i xs)) ++ program.number_at env z) p
    ∙ ap (λ (z : Parameter). program.params_numbers env (params_of (take i xs)) ++ program.number_at env (part.parameter_at (words_of z.specs) (option_name z.name))) e
    ∙ sym (numbers_more env xs i x b)

pub constants_step : (env : b.Env) (model : Model) (k : Kind) (old new : List ℤ) (xs : List Listed) (i : ℕ) (x : Listed) (v w : ℤ) → i < length xs → x ≡ get_or xs i x →
    v ≡ converted k model (or_zero (constant_of env model (expr x.value.value))) → old ≡ program.constants env model k (parts_of (take i xs)) → w ≡ v → new ≡ old ++ w ∷ [] →
    new ≡ program.constants env model k (parts_of (take (i + 1) xs))
constants_step env model k old new xs i x v w b e p h q n =
    n ∙ ap (λ z. z ++ w ∷ []) h ∙ ap (λ (z : ℤ). program.constants env model k (parts_of (take i xs)) ++ z ∷ []) (q ∙ p)
    ∙ ap (λ (z : Listed). program.constants env model k (parts_of (take i xs)) ++ converted k model (or_zero (constant_of env model (expr z.value.value))) ∷ []) e
    ∙ sym (constants_more env model k xs i x b)

abbrev of_parts : Model → List t.Object → List t.Function → t.Program
of_parts model objects functions = record { model = model; objects = objects; functions = functions }

pub program_is : (env : b.Env) (model : Model) (objects : List typed_object.Object) (functions : List Function) (bodies names : List (List ℕ)) (xs ys all : List Item) → xs ≡ all → ys ≡ all →
    names ≡ part.names_of (items_of xs) → bodies ≡ names → map tv.function_of functions ≡ map (el.function_of env model bodies) (program.functions_of env (items_of ys)) →
    map tv.object_of objects ≡ el.objects_from env model 0 env.objects → tv.program_of model objects functions ≡ el.program_of env model (program.functions_of env (items_of all))
program_is env model objects functions bodies names xs ys all p r n q f o =
    ap (λ z. of_parts model z (map tv.function_of functions)) o
    ∙ ap (of_parts model (el.objects_from env model 0 env.objects))
    (f ∙ ap (λ z. map (el.function_of env model z) (program.functions_of env (items_of ys))) (q ∙ n ∙ ap (λ z. part.names_of (items_of z)) p ∙ names_are env (items_of all))
    ∙ ap (λ z. map (el.function_of env model (map (λ (g : program.Function). g.name) (program.functions_of env (items_of all)))) (program.functions_of env (items_of z))) r)
