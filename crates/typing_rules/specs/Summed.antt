-- The rules of names, types, calls and constants that an expression breaks, summed up part by part. `again` has the offsets of
-- the names that are declared a second time in their scopes.
use Rattle.std.specs.Prelude.{◌≡◌, ℕ, nat_eq, Bool, true, false, ◌&&◌, ◌||◌, not, if◌then◌else◌, List, [], ◌∷◌, map, length, Option, None, Some, bytes_eq, slice_get, ℤ}
use Rattle.std.specs.List.{list_any}
use Rattle.lv_base.specs.declared.kind.Kind.TheVariants as kind
use Rattle.lv_base.specs.declared.kind.Model.{Model}
use Rattle.lv_base.specs.Integers.{is_in_range}
use Rattle.lv_base.specs.declared.fault.SourceFault.{SourceFault}
use Rattle.lv_base.specs.declared.fault.SourceFault.TheVariants as fault
use Rattle.c_tree.specs.declared.tree.PrefixOp.{PrefixOp}
use Rattle.c_tree.specs.declared.tree.PrefixOp.TheVariants as pre
use Rattle.c_tree.specs.declared.tree.Enumerator.{Enumerator, Plain, Valued'}
use Rattle.c_tree.specs.View.{expr}
use Rattle.c_tree.specs.Tree.{Ex, eName, eNumber, eLetter, eParen, eCall, eIndex, ePostfix, ePrefix, eSizeof, eCast, eBinary, eCond, eAssign, eComma, Parts, no_parts, parts_and, Words, no_words, words_and, Word, wTag, wEnum, wTagEnum, Ens, no_enumerators, plain_and, valued_and}
use Rattle.c_run.specs.Breaking.{Broken, line}
use Rattle.c_meaning.specs.Kinds.{CType, tVoid, is_kind, is_array, is_void}
use Rattle.c_meaning.specs.Tokens.{count_parts, first_of, own_token}
use Rattle.c_meaning.specs.Bindings.{Env, Entity, anObjectOf, aFunctionOf, aNameOf, entity_of, entity_type, is_const_object, visible, declared_at, constant_value, words_type}
use Rattle.c_meaning.specs.Known.{known_of}
use Rattle.c_meaning.specs.Types.{type_of}
use Rattle.c_meaning.specs.Constants.{is_constant, constant_of}
use Rattle.c_meaning.specs.Rules as r
use Rattle.first_broken.specs.Found.{Summary, summary, both, unless_found}

-- one line
abbrev pub one : Bool → SourceFault → ℕ → Summary
one test f at = summary (line test f at)

abbrev pub nothing : Summary
nothing = summary []

-- ---- Targets

abbrev pub is_scalar_name : Env → Entity → Bool
is_scalar_name env entity = r.is_object_name entity && is_kind (entity_type env entity)

abbrev pub is_const_name : Env → Entity → Bool
is_const_name env (anObjectOf number) = is_const_object (slice_get env.objects number)
is_const_name env (aNameOf k c) = c
is_const_name env _ = false

-- an object that is no array, or an element
abbrev pub is_target : Env → Ex → Bool
is_target env (eName n at) = is_scalar_name env (entity_of env n at)
is_target env (eIndex a x i y) = true
is_target env (eParen a e b) = is_target env e
is_target env (ePrefix pre.Extension at e) = is_target env e
is_target env _ = false

abbrev pub is_const_target : Env → Ex → Bool
is_const_target env (eName n at) = is_const_name env (entity_of env n at)
is_const_target env (eIndex a x i y) = is_const_target env a
is_const_target env (eParen a e b) = is_const_target env e
is_const_target env (ePrefix pre.Extension at e) = is_const_target env e
is_const_target env _ = false

-- ---- Lines

abbrev pub is_again : List ℕ → ℕ → Bool
is_again again at = list_any (λ a. nat_eq a at) again

abbrev pub declared_found : List ℕ → ℕ → Summary
declared_found again at = one (is_again again at) fault.Redeclared at

abbrev pub name_found : Env → List ℕ → ℕ → Summary
name_found env n at = one (not (r.is_value_name (entity_of env n at))) fault.UnknownName at

abbrev pub tag_found : Env → List ℕ → ℕ → Summary
tag_found env n at = one (r.is_none (visible env true n at)) fault.UnknownName at

abbrev pub target_found : Env → ℕ → Ex → Summary
target_found env at e = both (one (not (is_target env e)) fault.NotScalar at) (one (is_target env e && is_const_target env e) fault.ConstWritten at)

abbrev pub is_callable : List (List ℕ) → List ℕ → Bool
is_callable bodies n = list_any (λ m. bytes_eq m n) bodies || not (r.is_none (known_of n))

abbrev pub takes : Entity → ℕ → Bool
takes (aFunctionOf result parameters) count = nat_eq (length parameters) count
takes _ count = false

abbrev pub is_right_call : Env → List (List ℕ) → List ℕ → ℕ → ℕ → Bool
is_right_call env bodies n at count = takes (entity_of env n at) count && is_callable bodies n

abbrev pub named_found : Env → List (List ℕ) → List ℕ → ℕ → ℕ → Summary
named_found env bodies n at count = one (not (is_right_call env bodies n at count)) fault.WrongCall at

abbrev pub wrong_call : ℕ → Summary
wrong_call bracket = one true fault.WrongCall bracket

abbrev pub callee_found : Env → List (List ℕ) → Ex → ℕ → ℕ → Summary
callee_found env bodies (eName n at) bracket count = named_found env bodies n at count
callee_found env bodies _ bracket count = wrong_call bracket

-- a value that an `int` doesn't hold
abbrev pub range_line : Model → ℤ → ℕ → Summary
range_line model v at = one (not (is_in_range kind.Int model v)) fault.NotConstant at

module _ (env : Env) (model : Model) where
  abbrev pub value_found : Ex → Summary
  value_found e = one (not (is_kind (type_of env model e))) fault.NotScalar (own_token e)

  abbrev pub value_or_void : Ex → Summary
  value_or_void e = one (not (is_kind (type_of env model e) || is_void (type_of env model e))) fault.NotScalar (own_token e)

  abbrev pub sizeof_found : Ex → Summary
  sizeof_found e = one (not (is_kind (type_of env model e) || is_array (type_of env model e))) fault.NotScalar (own_token e)

  abbrev pub last_found : Parts → Summary
  last_found no_parts = nothing
  last_found (parts_and es c e) = value_or_void e

  abbrev pub arms_found : Ex → Ex → Summary
  arms_found a b = if is_void (type_of env model a) && is_void (type_of env model b) then nothing else both (value_found a) (value_found b)

  abbrev pub cond_found : Ex → Ex → Ex → Summary
  cond_found c a b = both (value_found c) (arms_found a b)

  abbrev pub constant_found : Ex → Summary
  constant_found e =
      both (value_found e) (one (not (is_constant env e) || (is_kind (type_of env model e) && r.is_none (constant_of env model e))) fault.NotConstant (first_of e))

  abbrev pub prefix_found : PrefixOp → ℕ → Ex → Summary
  prefix_found pre.Increment at e = target_found env at e
  prefix_found pre.Decrement at e = target_found env at e
  prefix_found pre.Extension at e = nothing
  prefix_found pre.Sizeof at e = sizeof_found e
  prefix_found o at e = value_found e

  abbrev pub cast_found : CType → Ex → Summary
  cast_found tVoid e = nothing
  cast_found _ e = value_found e

  abbrev pub values_found : Parts → Summary
  values_found no_parts = nothing
  values_found (parts_and es c e) = both (values_found es) (value_found e)

  abbrev pub index_found : Ex → ℕ → Ex → Summary
  index_found a x i = both (one (not (is_array (type_of env model a))) fault.NotScalar x) (value_found i)

  -- a constant's value lies in `int`
  abbrev pub range_found : ℕ → ℕ → Summary
  range_found name at = range_line model (constant_value (declared_at env name)) at

  -- what the value of an enumeration's constant is asked for
  abbrev pub own_found : ℕ → Ex → Summary
  own_found name e = both (constant_found e) (range_found name (first_of e))

  abbrev pub call_found : List (List ℕ) → Ex → ℕ → Parts → Summary
  call_found bodies f bracket es = both (callee_found env bodies f bracket (count_parts es)) (values_found es)

  module _ (bodies : List (List ℕ)) (again : List ℕ) where
    abbrev mutual
      pub found : Ex → Summary
      found (eName n at) = name_found env n at
      found (eNumber v f at) = nothing
      found (eLetter v at) = nothing
      found (eParen a e b) = found e
      found (eCall f a es b) = unless_found (both (found f) (found_of_parts es)) (call_found bodies f a es)
      found (eIndex a x i y) = unless_found (both (found a) (found i)) (index_found a x i)
      found (ePostfix e c at) = unless_found (found e) (target_found env at e)
      found (ePrefix o at e) = unless_found (found e) (prefix_found o at e)
      found (eSizeof at a ws b) = found_of_words ws
      found (eCast a ws b e) = unless_found (both (found_of_words ws) (found e)) (cast_found (words_type env ws) e)
      found (eBinary a o at b) = unless_found (both (found a) (found b)) (both (value_found a) (value_found b))
      found (eCond c x a y b) = unless_found (both (both (found c) (found a)) (found b)) (cond_found c a b)
      found (eAssign a o at b) = unless_found (both (found a) (found b)) (both (target_found env at a) (value_found b))
      found (eComma es) = unless_found (found_of_parts es) (last_found es)

      pub found_of_parts : Parts → Summary
      found_of_parts no_parts = nothing
      found_of_parts (parts_and es c e) = both (found_of_parts es) (found e)

      pub found_of_words : Words → Summary
      found_of_words no_words = nothing
      found_of_words (words_and ws w) = both (found_of_words ws) (found_of_word w)

      pub found_of_word : Word → Summary
      found_of_word (wTag at n b) = tag_found env n b
      found_of_word (wEnum at a es c b) = found_of_enumerators es
      found_of_word (wTagEnum at n x a es c b) = both (declared_found again x) (found_of_enumerators es)
      found_of_word _ = nothing

      pub found_of_enumerators : Ens → Summary
      found_of_enumerators no_enumerators = nothing
      found_of_enumerators (plain_and es c n at) = both (both (found_of_enumerators es) (declared_found again at)) (range_found at at)
      found_of_enumerators (valued_and es c n at a e) = both (both (found_of_enumerators es) (declared_found again at)) (unless_found (found e) (own_found at e))

    -- the lines of a constant behind those of the constants before it
    abbrev pub with_enumerator : Summary → Enumerator → Summary
    with_enumerator all (Plain c n at) = both (both all (declared_found again at)) (range_found at at)
    with_enumerator all (Valued' c n at a p e) = both (both all (declared_found again at)) (unless_found (found (expr e)) (own_found at (expr e)))

-- the offsets of the names that are declared a second time
abbrev pub again_in : Env → Model → List (List ℕ) → List ℕ
again_in env model bodies = map (λ b. b.at) (r.redeclared env model bodies [] env.entries)

-- the sums are those of the rules
abbrev pub ExpressionsSummed : Type 0
ExpressionsSummed = (env : Env) (model : Model) (bodies : List (List ℕ)) (e : Ex) →
    found env model bodies (again_in env model bodies) e ≡ summary (r.faults env model bodies e)

abbrev pub WordsSummed : Type 0
WordsSummed = (env : Env) (model : Model) (bodies : List (List ℕ)) (ws : Words) →
    found_of_words env model bodies (again_in env model bodies) ws ≡ summary (r.faults_of_words env model bodies ws)

abbrev pub ConstantsSummed : Type 0
ConstantsSummed = (env : Env) (model : Model) (bodies : List (List ℕ)) (e : Ex) →
    constant_found env model e ≡ summary (r.constant_lines env model bodies e)
