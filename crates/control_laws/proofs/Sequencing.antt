-- A typed value has unsequenced effects exactly where its expression does.
use Rattle.std.proofs.Common.{◌≡◌, ◌⊎◌, inl, inr, ℕ, Bool, true, false, ◌||◌, List, [], ◌∷◌, ◌++◌, Option, None, Some, refl, ap, sym, ◌∙◌, append-nil}
use Rattle.std.specs.Prelude.{slice_get, slice_index_or}
use Rattle.lv_base.specs.declared.kind.Kind.{Kind}
use Rattle.lv_base.specs.declared.kind.Kind.TheVariants as kind
use Rattle.lv_base.specs.declared.kind.Model.{Model}
use Rattle.lv_base.specs.declared.fault.SourceFault.TheVariants as fault
use Rattle.c_tree.specs.declared.tree.PrefixOp.TheVariants as pre
use Rattle.c_tree.specs.declared.symbol.BinaryOp.TheVariants as op
use Rattle.c_tree.specs.declared.symbol.AssignOp.TheVariants as to
use Rattle.c_tree.specs.Tree as t
use Rattle.c_run.specs.Breaking.{Broken, line}
use Rattle.c_meaning.specs.Kinds.{CType, tKind, tVoid, tArray, tFunction, tNone}
use Rattle.c_meaning.specs.Bindings.{Env, Entity, anObjectOf, aFunctionOf, aConstantOf, aTypeOf, aTagOf, aNameOf, nothingOf, Object, entity_of, words_type}
use Rattle.c_meaning.specs.Tokens.{count_parts}
use Rattle.c_meaning.specs.Types.{type_of}
use Rattle.c_meaning.specs.Value.{base_of, parameters_of}
use Rattle.c_meaning.specs.Jumps as source
use Rattle.c_typed.specs.Rules as typed
use Rattle.c_typed.specs.Tree as p
use Rattle.c_types.specs.Elaborated as elab
use Rattle.c_types.specs.Fit.{AreNone, IsThere, Fits, AllFit}
use Rattle.control_laws.specs.Aims.{Aims, AllAim, KnownHaveNone}
use Rattle.control_laws.proofs.Effects.{both, three, one_none, IsCall, IsSilent, call_told, goal_object, writes_same, writes_goal, reads_same, reads_goal}

-- ---- Names, casts and choices

named_scalar : (number : ℕ) (k : Kind) (n : Option ℕ) → typed.unsequenced (elab.scalar_or_array number k n) ≡ []
named_scalar number k None = refl
named_scalar number k (Some n) = refl

named_object : (number : ℕ) (o : Option Object) → typed.unsequenced (elab.object_value number o) ≡ []
named_object number None = refl
named_object number (Some o) = named_scalar number o.kind o.length

named : (env : Env) (e : Entity) → typed.unsequenced (elab.named_value env e) ≡ []
named env (anObjectOf number) = named_object number (slice_get env.objects number)
named env (aFunctionOf r ps) = refl
named env (aConstantOf v) = refl
named env (aTypeOf k c) = refl
named env (aTagOf k) = refl
named env (aNameOf k c) = refl
named env nothingOf = refl

cast : (k : CType) (v : p.Val) → typed.unsequenced (elab.cast_to k v) ≡ typed.unsequenced v
cast (tKind k) v = refl
cast tVoid v = refl
cast (tArray k n) v = refl
cast (tFunction r ps) v = refl
cast tNone v = refl

choice : (k : CType) (c a b : p.Val) → typed.unsequenced (elab.choice k c a b) ≡ typed.unsequenced c ++ typed.unsequenced a ++ typed.unsequenced b
choice (tKind k) c a b = refl
choice tVoid c a b = refl
choice (tArray k n) c a b = refl
choice (tFunction r ps) c a b = refl
choice tNone c a b = refl

-- ---- Clashes

or_false : (b : Bool) → b ≡ b || false
or_false true = refl
or_false false = refl

has_same : (one : List ℕ) (x : ℕ) (ys zs : List ℕ) → one ≡ x ∷ [] → ys ≡ zs → typed.has ys x ≡ source.meets one zs
has_same one x ys zs e f = ap (λ us. typed.has us x) f ∙ or_false (typed.has zs x) ∙ ap (λ us. source.meets us zs) (sym e)

clash_same : (env : Env) (w x r s w' x' r' s' : List ℕ) → w ≡ x → r ≡ s → w' ≡ x' → r' ≡ s' → typed.clash w r w' r' ≡ source.clash env x s x' s'
clash_same env w x r s w' x' r' s' e f g h =
    ap (λ u. source.clash env u r w' r') e ∙ ap (λ u. source.clash env x u w' r') f ∙ ap (λ u. source.clash env x s u r') g ∙ ap (λ u. source.clash env x s x' u) h

or_same : (a b c d : Bool) → a ≡ b → c ≡ d → (a || c) ≡ (b || d)
or_same a b c d e f = ap (λ u. u || c) e ∙ ap (λ u. b || u) f

lines : (xs ys : List Broken) (a b : Bool) (at : ℕ) → xs ≡ ys → a ≡ b → xs ++ line a fault.Unsequenced at ≡ ys ++ line b fault.Unsequenced at
lines xs ys a b at e f = both e (ap (λ u. line u fault.Unsequenced at) f)

module _ (env : Env) (model : Model) (bodies : List (List ℕ)) (known : KnownHaveNone bodies) where
  abbrev E : t.Ex → p.Val
  E e = elab.value env model bodies e

  abbrev G : t.Ex → p.Goal
  G e = elab.goal env model bodies e

  W : (e : t.Ex) → Fits env bodies e → Aims env e → typed.writes (E e) ≡ source.writes env e
  W e f a = writes_same env model bodies known e f a

  R : (e : t.Ex) → Fits env bodies e → Aims env e → typed.reads (E e) ≡ source.reads env e
  R e f a = reads_same env model bodies known e f a

  parts_clash : (x y : t.Ex) → Fits env bodies x → Aims env x → Fits env bodies y → Aims env y → typed.values_clash (E x) (E y) ≡ source.parts_clash env x y
  parts_clash x y f a g b = clash_same env _ _ _ _ _ _ _ _ (W x f a) (R x f a) (W y g b) (R y g b)

  -- each argument is converted
  any_clash : (k : Kind) (e : t.Ex) (ks : List Kind) (es : t.Parts) → Fits env bodies e → Aims env e → AllFit env bodies es → AllAim env es →
      typed.any_clash (p.vConvert k (E e)) (elab.arguments env model bodies ks es) ≡ source.any_clash env e es
  any_clash k e ks t.no_parts f a g b = refl
  any_clash k e ks (t.parts_and es c x) f a g b = or_same _ _ _ _ (parts_clash x e g.1 b.1 f a) (any_clash k e ks es f a g.0 b.0)

  arguments_clash : (ks : List Kind) (es : t.Parts) → AllFit env bodies es → AllAim env es → typed.arguments_clash (elab.arguments env model bodies ks es) ≡ source.arguments_clash env es
  arguments_clash ks t.no_parts f a = refl
  arguments_clash ks (t.parts_and es c e) f a = or_same _ _ _ _ (any_clash (slice_index_or ks (count_parts es) kind.Int) e ks es f.1 a.1 f.0 a.0) (arguments_clash ks es f.0 a.0)

  assignment_clash : (x y : t.Ex) → Fits env bodies x × Fits env bodies y → IsThere (source.object_in env x) × Aims env x × Aims env y →
      typed.assignment_clash (G x) (E y) ≡ source.assignment_clash env x y
  assignment_clash x y f a =
      let object = goal_object env model bodies known x a.0 f.0 in
      let written = writes_goal env model bodies known x f.0 a.0 a.1 in
      or_same _ _ _ _ (clash_same env _ _ _ _ _ _ _ _ written (reads_goal env model bodies known x f.0 a.0 a.1) (W y f.1 a.2) (R y f.1 a.2))
      (or_same _ _ _ _ (has_same _ _ _ _ object (W y f.1 a.2)) (has_same _ _ _ _ object written))

  target_clash : (e : t.Ex) → Fits env bodies e → IsThere (source.object_in env e) → Aims env e →
      typed.has (typed.writes_of_goal (G e)) (typed.object_in (G e)) ≡ source.meets (source.one (source.object_in env e)) (source.writes env e)
  target_clash e f h a = has_same _ _ _ _ (goal_object env model bodies known e h f) (writes_goal env model bodies known e f h a)

  none_unsequenced : (es : t.Parts) (at : ℕ) → AreNone es → source.unsequenced_in env es ++ line (source.arguments_clash env es) fault.Unsequenced at ≡ []
  none_unsequenced t.no_parts at h = refl
  none_unsequenced (t.parts_and es c e) at h = absurd h

  call_unsequenced : (v : p.Val) (bracket : ℕ) (vs : p.Vals) (told : List source.Call) (es : t.Parts) → IsCall v bracket vs told ⊎ IsSilent v es told →
      typed.unsequenced_in vs ≡ source.unsequenced_in env es → typed.arguments_clash vs ≡ source.arguments_clash env es →
      typed.unsequenced v ≡ source.unsequenced_in env es ++ line (source.arguments_clash env es) fault.Unsequenced bracket
  call_unsequenced v bracket vs told es (inl c) e f = ap typed.unsequenced c.is ∙ lines _ _ _ _ bracket e f
  call_unsequenced v bracket vs told es (inr c) e f = c.unsequenced ∙ sym (none_unsequenced es bracket c.none)

  mutual
    pub unsequenced_same : (e : t.Ex) → Fits env bodies e → Aims env e → typed.unsequenced (E e) ≡ source.unsequenced env e
    unsequenced_same (t.eName n at) f a = named env (entity_of env n at)
    unsequenced_same (t.eNumber v form at) f a = refl
    unsequenced_same (t.eLetter v at) f a = refl
    unsequenced_same (t.eParen x e y) f a = unsequenced_same e f a
    unsequenced_same (t.eCall g x es y) f a =
        call_unsequenced _ x (elab.arguments env model bodies (parameters_of env g) es) _ es (call_told env model bodies known g x es (elab.arguments env model bodies (parameters_of env g) es) f.0)
        (arguments_same (parameters_of env g) es f.1 a) (arguments_clash (parameters_of env g) es f.1 a)
    unsequenced_same (t.eIndex b x i y) f a = lines _ _ _ _ x (unsequenced_same i f.1 a) (has_same _ _ _ _ (one_none env (base_of env b) f.0) (W i f.1 a))
    unsequenced_same (t.ePostfix e c at) f a = lines _ _ _ _ at (goal_same e f a.0 a.1) (target_clash e f a.0 a.1)
    unsequenced_same (t.ePrefix pre.Increment at e) f a = lines _ _ _ _ at (goal_same e f a.0 a.1) (target_clash e f a.0 a.1)
    unsequenced_same (t.ePrefix pre.Decrement at e) f a = lines _ _ _ _ at (goal_same e f a.0 a.1) (target_clash e f a.0 a.1)
    unsequenced_same (t.ePrefix pre.Plus at e) f a = unsequenced_same e f a
    unsequenced_same (t.ePrefix pre.Minus at e) f a = unsequenced_same e f a
    unsequenced_same (t.ePrefix pre.Complement at e) f a = unsequenced_same e f a
    unsequenced_same (t.ePrefix pre.Not at e) f a = unsequenced_same e f a
    unsequenced_same (t.ePrefix pre.Extension at e) f a = unsequenced_same e f a
    unsequenced_same (t.ePrefix pre.Sizeof at e) f a = refl
    unsequenced_same (t.eSizeof at x ws y) f a = refl
    unsequenced_same (t.eCast x ws y e) f a = cast (words_type env ws) (E e) ∙ unsequenced_same e f a
    unsequenced_same (t.eBinary x op.AndAlso at y) f a = both (unsequenced_same x f.0 a.0) (unsequenced_same y f.1 a.1) ∙ sym (append-nil (source.unsequenced env x ++ source.unsequenced env y))
    unsequenced_same (t.eBinary x op.OrElse at y) f a = both (unsequenced_same x f.0 a.0) (unsequenced_same y f.1 a.1) ∙ sym (append-nil (source.unsequenced env x ++ source.unsequenced env y))
    unsequenced_same (t.eBinary x o at y) f a =
        three (unsequenced_same x f.0 a.0) (unsequenced_same y f.1 a.1) (ap (λ u. line u fault.Unsequenced at) (parts_clash x y f.0 a.0 f.1 a.1))
    unsequenced_same (t.eCond c q x r y) f a =
        choice (type_of env model (t.eCond c q x r y)) (E c) (E x) (E y) ∙ three (unsequenced_same c f.0 a.0) (unsequenced_same x f.1 a.1) (unsequenced_same y f.2 a.2)
    unsequenced_same (t.eAssign x to.Plain at y) f a = three (goal_same x f.0 a.0 a.1) (unsequenced_same y f.1 a.2) (ap (λ u. line u fault.Unsequenced at) (assignment_clash x y f a))
    unsequenced_same (t.eAssign x o at y) f a = three (goal_same x f.0 a.0 a.1) (unsequenced_same y f.1 a.2) (ap (λ u. line u fault.Unsequenced at) (assignment_clash x y f a))
    unsequenced_same (t.eComma t.no_parts) f a = refl
    unsequenced_same (t.eComma (t.parts_and es c e)) f a = both (values_same es f.0 a.0) (unsequenced_same e f.1 a.1)

    goal_same : (e : t.Ex) → Fits env bodies e → IsThere (source.object_in env e) → Aims env e → typed.unsequenced_goal (G e) ≡ source.unsequenced_target env e
    goal_same (t.eName n at) f h a = refl
    goal_same (t.eIndex b x i y) f h a = unsequenced_same i f.1 a
    goal_same (t.eParen x e y) f h a = goal_same e f h a
    goal_same (t.ePrefix pre.Extension at e) f h a = goal_same e f h a
    goal_same e f h a = absurd h

    values_same : (es : t.Parts) → AllFit env bodies es → AllAim env es → typed.unsequenced_in (elab.values env model bodies es) ≡ source.unsequenced_in env es
    values_same t.no_parts f a = refl
    values_same (t.parts_and es c e) f a = both (values_same es f.0 a.0) (unsequenced_same e f.1 a.1)

    arguments_same : (ks : List Kind) (es : t.Parts) → AllFit env bodies es → AllAim env es → typed.unsequenced_in (elab.arguments env model bodies ks es) ≡ source.unsequenced_in env es
    arguments_same ks t.no_parts f a = refl
    arguments_same ks (t.parts_and es c e) f a = both (arguments_same ks es f.0 a.0) (unsequenced_same e f.1 a.1)
