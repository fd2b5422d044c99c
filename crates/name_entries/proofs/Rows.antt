-- Lists in a tree, one more at a time.
use Rattle.std.proofs.Common.{◌≡◌, ◌<◌, ◌-◌, suc, List, [], ◌∷◌, length, get_or, Some, refl, ap, ◌∙◌, arith}
use Rattle.c_tree.specs.declared.tree.Enumerator.{Enumerator, Plain, Valued'}
use Rattle.c_tree.specs.Tree as t
use Rattle.c_tree.specs.View.{enumerators_of, enumerators_behind, enumerator_behind}
use Rattle.c_meaning.specs.Bindings.{Env, constant_value, declared_at}
use Rattle.c_meaning.specs.Constants.{last_constant}
use Rattle.type_scopes.specs.Steps.{place_of}

last_index : {A : Type 0} (x y : A) (xs : List A) (d : A) → get_or (y ∷ xs) (length (y ∷ xs) - 1) d ≡ get_or (x ∷ (y ∷ xs)) (length (x ∷ (y ∷ xs)) - 1) d
last_index x y xs d = let e : length (x ∷ (y ∷ xs)) - 1 ≡ suc (length (y ∷ xs) - 1) = omega arith in rw e refl

last_one : (env : Env) (es : t.Ens) (x : Enumerator) → last_constant env (enumerator_behind es x) ≡ Some (constant_value (declared_at env (place_of x)))
last_one env es (Plain c n at) = refl
last_one env es (Valued' c n at a p e) = refl

last_behind : (env : Env) (xs : List Enumerator) (es : t.Ens) (d : Enumerator) → 0 < length xs → last_constant env (enumerators_behind es xs) ≡ Some (constant_value (declared_at env (place_of (get_or xs (length xs - 1) d))))
last_behind env [] es d b = absurd (omega arith)
last_behind env (x ∷ []) es d b = last_one env es x
last_behind env (x ∷ (y ∷ xs)) es d b = last_behind env (y ∷ xs) (enumerator_behind es x) d (omega arith) ∙ ap (λ z. Some (constant_value (declared_at env (place_of z)))) (last_index x y xs d)

pub last_constant_is : (env : Env) (xs : List Enumerator) (d : Enumerator) → 0 < length xs → last_constant env (enumerators_of xs) ≡ Some (constant_value (declared_at env (place_of (get_or xs (length xs - 1) d))))
last_constant_is env xs d b = last_behind env xs t.no_enumerators d b
