-- Sums of broken lines are those of their lists.
use Rattle.std.proofs.Common.{◌≡◌, ℕ, Bool, true, false, ◌&&◌, ◌||◌, if◌then◌else◌, List, [], ◌∷◌, ◌++◌, map, refl, ap, sym, ◌∙◌}
use Rattle.std.specs.Prelude.{nat_eq, not}
use Rattle.std.specs.List.{list_any}
use Rattle.lv_base.specs.declared.kind.Model.{Model}
use Rattle.lv_base.specs.declared.fault.SourceFault.TheVariants as fault
use Rattle.c_tree.specs.declared.tree.PrefixOp.{PrefixOp}
use Rattle.c_tree.specs.declared.tree.PrefixOp.TheVariants as pre
use Rattle.c_tree.specs.Tree as t
use Rattle.c_run.specs.Breaking.{Broken, line}
use Rattle.c_meaning.specs.Kinds.{CType, tVoid, tKind, tArray, tFunction, tNone, is_kind, is_array, is_void}
use Rattle.c_meaning.specs.Tokens.{count_parts, first_of}
use Rattle.c_meaning.specs.Bindings.{Env, Entity, anObjectOf, aFunctionOf, aConstantOf, aTypeOf, aTagOf, aNameOf, nothingOf, entity_of, words_type, declared_at, constant_value}
use Rattle.c_meaning.specs.Types.{type_of}
use Rattle.c_meaning.specs.Constants.{is_constant, constant_of}
use Rattle.c_meaning.specs.Rules as r
use Rattle.first_broken.specs.Found.{Summary, summary, both, unless_found}
use Rattle.first_broken.proofs.Least.{joined_is, tried_is}
use Rattle.typing_rules.specs.Summed as s

-- two sums are the sum of both lists
pub join : (f g : Summary) (xs ys : List Broken) → f ≡ summary xs → g ≡ summary ys → both f g ≡ summary (xs ++ ys)
join f g xs ys p q = ap (λ z. both z g) p ∙ ap (both (summary xs)) q ∙ sym (joined_is xs ys)

pub try_lines : (f g : Summary) (xs ys : List Broken) → f ≡ summary xs → g ≡ summary ys → unless_found f g ≡ summary (r.unless xs ys)
try_lines f g xs ys p q = ap (λ z. unless_found z g) p ∙ ap (unless_found (summary xs)) q ∙ sym (tried_is xs ys)

again_is : (bs : List Broken) (at : ℕ) → list_any (λ a. nat_eq a at) (map (λ b. b.at) bs) ≡ list_any (λ b. nat_eq b.at at) bs
again_is [] at = refl
again_is (b ∷ bs) at = ap (λ z. nat_eq b.at at || z) (again_is bs at)

choose_lines : (b : Bool) (f : Summary) (xs : List Broken) → f ≡ summary xs → (if b then s.nothing else f) ≡ summary (if b then [] else xs)
choose_lines true f xs p = refl
choose_lines false f xs p = p

module _ (env : Env) (model : Model) (bodies : List (List ℕ)) where
  abbrev again : List ℕ
  again = s.again_in env model bodies

  value_is : (e : t.Ex) → s.value_found env model e ≡ summary (r.value_line env model bodies e)
  value_is e = refl

  base_is : (a : t.Ex) (x : ℕ) → s.one (not (is_array (type_of env model a))) fault.NotScalar x ≡ summary (line (not (is_array (type_of env model a))) fault.NotScalar x)
  base_is a x = refl

  range_is : (name at : ℕ) → s.range_found env model name at ≡ summary (r.range_line env model bodies (constant_value (declared_at env name)) at)
  range_is name at = refl

  const_name : (e : Entity) → s.is_const_name env e ≡ r.is_const_name env model bodies e
  const_name (anObjectOf n) = refl
  const_name (aFunctionOf k ks) = refl
  const_name (aConstantOf v) = refl
  const_name (aTypeOf k c) = refl
  const_name (aTagOf k) = refl
  const_name (aNameOf k c) = refl
  const_name nothingOf = refl

  target_same : (e : t.Ex) → s.is_target env e ≡ r.is_target env model bodies e
  target_same (t.eName n at) = refl
  target_same (t.eNumber v f at) = refl
  target_same (t.eLetter v at) = refl
  target_same (t.eParen a e b) = target_same e
  target_same (t.eCall f a es b) = refl
  target_same (t.eIndex a x i y) = refl
  target_same (t.ePostfix e c at) = refl
  target_same (t.ePrefix pre.Increment at e) = refl
  target_same (t.ePrefix pre.Decrement at e) = refl
  target_same (t.ePrefix pre.Plus at e) = refl
  target_same (t.ePrefix pre.Minus at e) = refl
  target_same (t.ePrefix pre.Complement at e) = refl
  target_same (t.ePrefix pre.Not at e) = refl
  target_same (t.ePrefix pre.Extension at e) = target_same e
  target_same (t.ePrefix pre.Sizeof at e) = refl
  target_same (t.eSizeof at a ws b) = refl
  target_same (t.eCast a ws b e) = refl
  target_same (t.eBinary a o at b) = refl
  target_same (t.eCond c x a y b) = refl
  target_same (t.eAssign a o at b) = refl
  target_same (t.eComma es) = refl

  const_same : (e : t.Ex) → s.is_const_target env e ≡ r.is_const_target env model bodies e
  const_same (t.eName n at) = const_name (entity_of env n at)
  const_same (t.eNumber v f at) = refl
  const_same (t.eLetter v at) = refl
  const_same (t.eParen a e b) = const_same e
  const_same (t.eCall f a es b) = refl
  const_same (t.eIndex a x i y) = const_same a
  const_same (t.ePostfix e c at) = refl
  const_same (t.ePrefix pre.Increment at e) = refl
  const_same (t.ePrefix pre.Decrement at e) = refl
  const_same (t.ePrefix pre.Plus at e) = refl
  const_same (t.ePrefix pre.Minus at e) = refl
  const_same (t.ePrefix pre.Complement at e) = refl
  const_same (t.ePrefix pre.Not at e) = refl
  const_same (t.ePrefix pre.Extension at e) = const_same e
  const_same (t.ePrefix pre.Sizeof at e) = refl
  const_same (t.eSizeof at a ws b) = refl
  const_same (t.eCast a ws b e) = refl
  const_same (t.eBinary a o at b) = refl
  const_same (t.eCond c x a y b) = refl
  const_same (t.eAssign a o at b) = refl
  const_same (t.eComma es) = refl

  target_is : (at : ℕ) (e : t.Ex) → s.target_found env at e ≡ summary (r.target_lines env model bodies at e)
  target_is at e =
      ap (λ z. both (s.one (not z) fault.NotScalar at) (s.one (z && s.is_const_target env e) fault.ConstWritten at)) (target_same e)
      ∙ ap (λ z. both (s.one (not (r.is_target env model bodies e)) fault.NotScalar at) (s.one (r.is_target env model bodies e && z) fault.ConstWritten at)) (const_same e)
      ∙ sym (joined_is (line (not (r.is_target env model bodies e)) fault.NotScalar at) (line (r.is_target env model bodies e && r.is_const_target env model bodies e) fault.ConstWritten at))

  takes_same : (e : Entity) (n : ℕ) → s.takes e n ≡ r.takes env model bodies e n
  takes_same (anObjectOf x) n = refl
  takes_same (aFunctionOf k ks) n = refl
  takes_same (aConstantOf v) n = refl
  takes_same (aTypeOf k c) n = refl
  takes_same (aTagOf k) n = refl
  takes_same (aNameOf k c) n = refl
  takes_same nothingOf n = refl

  callee_is : (f : t.Ex) (bracket n : ℕ) → s.callee_found env bodies f bracket n ≡ summary (r.call_line env model bodies f bracket n)
  callee_is (t.eName x at) bracket n = ap (λ z. s.one (not (z && s.is_callable bodies x)) fault.WrongCall at) (takes_same (entity_of env x at) n)
  callee_is (t.eNumber v f at) bracket n = refl
  callee_is (t.eLetter v at) bracket n = refl
  callee_is (t.eParen a e b) bracket n = refl
  callee_is (t.eCall f a es b) bracket n = refl
  callee_is (t.eIndex a x i y) bracket n = refl
  callee_is (t.ePostfix e c at) bracket n = refl
  callee_is (t.ePrefix o at e) bracket n = refl
  callee_is (t.eSizeof at a ws b) bracket n = refl
  callee_is (t.eCast a ws b e) bracket n = refl
  callee_is (t.eBinary a o at b) bracket n = refl
  callee_is (t.eCond c x a y b) bracket n = refl
  callee_is (t.eAssign a o at b) bracket n = refl
  callee_is (t.eComma es) bracket n = refl

  last_is : (es : t.Parts) → s.last_found env model es ≡ summary (r.last_line env model bodies es)
  last_is t.no_parts = refl
  last_is (t.parts_and es c e) = refl

  arms_are : (a b : t.Ex) → s.arms_found env model a b ≡ summary (r.arm_lines env model bodies a b)
  arms_are a b =
      choose_lines (is_void (type_of env model a) && is_void (type_of env model b)) (both (s.value_found env model a) (s.value_found env model b)) (r.value_line env model bodies a ++ r.value_line env model bodies b)
      (sym (joined_is (r.value_line env model bodies a) (r.value_line env model bodies b)))

  pub constant_is : (e : t.Ex) → s.constant_found env model e ≡ summary (r.constant_lines env model bodies e)
  constant_is e = sym (joined_is (r.value_line env model bodies e) (line (not (is_constant env e) || (is_kind (type_of env model e) && r.is_none (constant_of env model e))) fault.NotConstant (first_of e)))

  prefix_is : (o : PrefixOp) (at : ℕ) (e : t.Ex) → s.prefix_found env model o at e ≡ summary (r.prefix_lines env model bodies o at e)
  prefix_is pre.Increment at e = target_is at e
  prefix_is pre.Decrement at e = target_is at e
  prefix_is pre.Extension at e = refl
  prefix_is pre.Sizeof at e = refl
  prefix_is pre.Plus at e = refl
  prefix_is pre.Minus at e = refl
  prefix_is pre.Complement at e = refl
  prefix_is pre.Not at e = refl

  cast_is : (c : CType) (e : t.Ex) → s.cast_found env model c e ≡ summary (r.cast_lines env model bodies c e)
  cast_is tVoid e = refl
  cast_is (tKind k) e = refl
  cast_is (tArray k n) e = refl
  cast_is (tFunction k ks) e = refl
  cast_is tNone e = refl

  values_are : (es : t.Parts) → s.values_found env model es ≡ summary (r.value_lines env model bodies es)
  values_are t.no_parts = refl
  values_are (t.parts_and es c e) = join _ (s.value_found env model e) _ (r.value_line env model bodies e) (values_are es) refl

  declared_is : (at : ℕ) → s.declared_found again at ≡ summary (line (r.is_redeclared env model bodies at) fault.Redeclared at)
  declared_is at = ap (λ z. s.one z fault.Redeclared at) (again_is (r.redeclared env model bodies [] env.entries) at)

  mutual
    pub expression_is : (e : t.Ex) → s.found env model bodies again e ≡ summary (r.faults env model bodies e)
    expression_is (t.eName n at) = refl
    expression_is (t.eNumber v f at) = refl
    expression_is (t.eLetter v at) = refl
    expression_is (t.eParen a e b) = expression_is e
    expression_is (t.eCall f a es b) = try_lines _ _ _ _ (join _ _ _ _ (expression_is f) (parts_are es)) (join _ _ _ _ (callee_is f a (count_parts es)) (values_are es))
    expression_is (t.eIndex a x i y) = try_lines _ _ _ _ (join _ _ _ _ (expression_is a) (expression_is i)) (join _ _ _ _ (base_is a x) (value_is i))
    expression_is (t.ePostfix e c at) = try_lines _ _ _ _ (expression_is e) (target_is at e)
    expression_is (t.ePrefix o at e) = try_lines _ _ _ _ (expression_is e) (prefix_is o at e)
    expression_is (t.eSizeof at a ws b) = words_are ws
    expression_is (t.eCast a ws b e) = try_lines _ _ _ _ (join _ _ _ _ (words_are ws) (expression_is e)) (cast_is (words_type env ws) e)
    expression_is (t.eBinary a o at b) = try_lines _ _ _ _ (join _ _ _ _ (expression_is a) (expression_is b)) (join _ _ _ _ (value_is a) (value_is b))
    expression_is (t.eCond c x a y b) = try_lines _ _ _ _ (join _ _ _ _ (join _ _ _ _ (expression_is c) (expression_is a)) (expression_is b)) (join _ _ _ _ (value_is c) (arms_are a b))
    expression_is (t.eAssign a o at b) = try_lines _ _ _ _ (join _ _ _ _ (expression_is a) (expression_is b)) (join _ _ _ _ (target_is at a) (value_is b))
    expression_is (t.eComma es) = try_lines _ _ _ _ (parts_are es) (last_is es)

    parts_are : (es : t.Parts) → s.found_of_parts env model bodies again es ≡ summary (r.faults_of_parts env model bodies es)
    parts_are t.no_parts = refl
    parts_are (t.parts_and es c e) = join _ _ _ _ (parts_are es) (expression_is e)

    pub words_are : (ws : t.Words) → s.found_of_words env model bodies again ws ≡ summary (r.faults_of_words env model bodies ws)
    words_are t.no_words = refl
    words_are (t.words_and ws w) = join _ _ _ _ (words_are ws) (word_is w)

    word_is : (w : t.Word) → s.found_of_word env model bodies again w ≡ summary (r.faults_of_word env model bodies w)
    word_is (t.wType w at) = refl
    word_is (t.wStorage w at) = refl
    word_is (t.wConst w at) = refl
    word_is (t.wExtension at) = refl
    word_is (t.wAttribute a) = refl
    word_is (t.wTypedef n at) = refl
    word_is (t.wTag at n b) = refl
    word_is (t.wEnum at a es c b) = enumerators_are es
    word_is (t.wTagEnum at n x a es c b) = join _ _ _ _ (declared_is x) (enumerators_are es)

    enumerators_are : (es : t.Ens) → s.found_of_enumerators env model bodies again es ≡ summary (r.faults_of_enumerators env model bodies es)
    enumerators_are t.no_enumerators = refl
    enumerators_are (t.plain_and es c n at) = join _ _ _ _ (join _ _ _ _ (enumerators_are es) (declared_is at)) (range_is at at)
    enumerators_are (t.valued_and es c n at a e) =
        join _ _ _ _ (join _ _ _ _ (enumerators_are es) (declared_is at)) (try_lines _ _ _ _ (expression_is e) (join _ _ _ _ (constant_is e) (range_is at (first_of e))))
