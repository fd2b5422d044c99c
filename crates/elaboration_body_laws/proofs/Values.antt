-- Each value of a typed expression that breaks no rule has the kind that its place asks for.
use Rattle.std.proofs.Common.{◌≡◌, ℕ, zero, suc, ◌<◌, ◌≤◌, ◌+◌, ◌*◌, Bool, true, false, ◌&&◌, not, if◌then◌else◌, List, [], ◌∷◌, ◌++◌, length, map, Option, None, Some, bytes_eq, pos, refl, ap, sym, ◌∙◌, subst, arith}
use Rattle.std.specs.Prelude.{position, slice_get, slice_index_or, reverse}
use Rattle.std.proofs.lemmas.Bool.{eqb-true}
use Rattle.std.proofs.lemmas.Int.{ints}
use Rattle.std.proofs.lemmas.List.{reverse-append}
use Rattle.lv_base.specs.declared.kind.Kind.{Kind}
use Rattle.lv_base.specs.declared.kind.Kind.TheVariants as kind
use Rattle.lv_base.specs.declared.kind.Model.{Model}
use Rattle.lv_base.specs.declared.kind.Model.TheVariants as model
use Rattle.lv_base.specs.declared.fault.SourceFault.TheVariants as fault
use Rattle.lv_base.specs.Integers.{InRange}
use Rattle.c_tree.specs.declared.known.Typing.{Typing}
use Rattle.c_tree.specs.declared.known.Typing.TheVariants as ty
use Rattle.c_tree.specs.declared.symbol.BinaryOp.TheVariants as op
use Rattle.c_tree.specs.declared.symbol.AssignOp.{AssignOp}
use Rattle.c_tree.specs.declared.symbol.AssignOp.TheVariants as to
use Rattle.c_tree.specs.declared.tree.PrefixOp.TheVariants as pre
use Rattle.c_tree.specs.Tree as t
use Rattle.c_run.specs.Breaking.{line}
use Rattle.c_run.specs.Operators.{assigned_op, is_logical}
use Rattle.c_meaning.specs.Kinds.{CType, tKind, tVoid, tArray, tFunction, tNone, is_kind, is_array, is_void, kind_of, bytes_of, size_kind, size_of}
use Rattle.c_meaning.specs.Tokens.{count_parts}
use Rattle.c_meaning.specs.Bindings.{Env, Entity, anObjectOf, aFunctionOf, aConstantOf, aTypeOf, aTagOf, aNameOf, nothingOf, Object, entity_of, entity_type, object_type, object_number, words_type, named_in, typing_of, typing_type, or_typing}
use Rattle.c_meaning.specs.Known.{Known, reaches, aborts, draws, known_of}
use Rattle.c_meaning.specs.Types.{type_of, element_type, arms_type}
use Rattle.c_meaning.specs.Value.{base_of, parameters_of, entity_parameters}
use Rattle.c_meaning.specs.Rules as rules
use Rattle.c_typed.specs.Tree as v
use Rattle.c_typed.specs.Facts as facts
use Rattle.c_types.specs.Elaborated as el
use Rattle.c_types.specs.Fit.{IsThere, NumberFits, EntityFits, NameFits, LengthFits}
use Rattle.elaboration_fit_laws.specs.Laws.{IsNoName, Unnamed, AllUnnamed}
use Rattle.elaboration_fit_laws.proofs.Fitting.{nil_left, nil_right, line_holds, not_false, and_left, and_right, unless_parts, unless_lines, fits, is_target_of, void_no_array, called_no_array, element_no_array, promoted_no_array, words_no_array, binary_no_array, arms_no_array, target_no_array}
use Rattle.elaboration_offset_laws.proofs.Parameters.{typed_of, typed_there}
use Rattle.elaboration_body_laws.specs.Held.{Held, AllHeld}
use Rattle.elaboration_body_laws.specs.Told.{IsShort, Told}
use Rattle.elaboration_body_laws.proofs.Agreeing.{Agrees, agree_kind, promoted_right, operation_right, right_fits, index_array, kinds}

-- ---- Sizes

-- an array with not too many elements
abbrev Short : CType → Type 0
Short (tArray k n) = n ≤ 1024
Short _ = Unit {0}

kind_small : (m : Model) (k : Kind) → bytes_of k m ≤ 8
kind_small m kind.Bool = omega arith
kind_small m kind.Char = omega arith
kind_small m kind.UChar = omega arith
kind_small m kind.Short = omega arith
kind_small m kind.UShort = omega arith
kind_small m kind.Int = omega arith
kind_small m kind.UInt = omega arith
kind_small model.Ilp32 kind.Long = omega arith
kind_small model.Lp64 kind.Long = omega arith
kind_small model.Ilp32 kind.ULong = omega arith
kind_small model.Lp64 kind.ULong = omega arith
kind_small m kind.LongLong = omega arith
kind_small m kind.ULongLong = omega arith

times_small : (n b : ℕ) → n ≤ 1024 → b ≤ 8 → n * b ≤ 8192
times_small n zero h l = omega (arith, h)
times_small n (suc zero) h l = omega (arith, h)
times_small n (suc (suc zero)) h l = omega (arith, h)
times_small n (suc (suc (suc zero))) h l = omega (arith, h)
times_small n (suc (suc (suc (suc zero)))) h l = omega (arith, h)
times_small n (suc (suc (suc (suc (suc zero))))) h l = omega (arith, h)
times_small n (suc (suc (suc (suc (suc (suc zero)))))) h l = omega (arith, h)
times_small n (suc (suc (suc (suc (suc (suc (suc zero))))))) h l = omega (arith, h)
times_small n (suc (suc (suc (suc (suc (suc (suc (suc zero)))))))) h l = omega (arith, h)
times_small n (suc (suc (suc (suc (suc (suc (suc (suc (suc b))))))))) h l = absurd (omega (arith, l))

size_small : (m : Model) (c : CType) → Short c → size_of m c ≤ 8192
size_small m (tKind k) h = let l : bytes_of k m ≤ 8 = kind_small m k in omega (arith, l)
size_small m tVoid h = omega arith
size_small m (tArray k n) h = times_small n (bytes_of k m) h (kind_small m k)
size_small m (tFunction r ps) h = omega arith
size_small m tNone h = omega arith

small_in_range : (m : Model) (n : ℕ) → n ≤ 8192 → InRange (size_kind m) m (pos n)
small_in_range model.Ilp32 n h = (omega (arith, ints), omega (arith, ints, h))
small_in_range model.Lp64 n h = (omega (arith, ints), omega (arith, ints, h))

typing_short : (u : Typing) → Short (typing_type u)
typing_short ty.Untyped = tt
typing_short ty.Void = tt
typing_short ty.Bool = tt
typing_short ty.Named = tt
typing_short (ty.Basic s z i) = tt

words_short : (k : Option Kind) (u : Typing) → Short (or_typing k u)
words_short None u = typing_short u
words_short (Some k) u = tt

-- ---- Arguments

abbrev firsts : ℕ → List Kind → List (Option Kind)
firsts zero ks = []
firsts (suc n) ks = Some (slice_index_or ks n kind.Int) ∷ firsts n ks

firsts_more : (n : ℕ) (k : Kind) (ks : List Kind) → firsts (suc n) (k ∷ ks) ≡ firsts n ks ++ Some k ∷ []
firsts_more zero k ks = refl
firsts_more (suc n) k ks = ap (λ rest. Some (slice_index_or ks n kind.Int) ∷ rest) (firsts_more n k ks)

backwards : (ks : List Kind) → reverse (map Some ks) ≡ firsts (length ks) ks
backwards [] = refl
backwards (k ∷ ks) = reverse-append (Some k ∷ []) (map Some ks) ∙ ap (λ rest. rest ++ Some k ∷ []) (backwards ks) ∙ sym (firsts_more (length ks) k ks)

not_logical : (o : AssignOp) → is_logical (assigned_op o) ≡ false
not_logical to.Plain = refl
not_logical to.Multiply = refl
not_logical to.Divide = refl
not_logical to.Remainder = refl
not_logical to.Add = refl
not_logical to.Subtract = refl
not_logical to.ShiftLeft = refl
not_logical to.ShiftRight = refl
not_logical to.BitAnd = refl
not_logical to.BitXor = refl
not_logical to.BitOr = refl

no_comparison : (o : AssignOp) → facts.is_comparison (assigned_op o) ≡ false
no_comparison to.Plain = refl
no_comparison to.Multiply = refl
no_comparison to.Divide = refl
no_comparison to.Remainder = refl
no_comparison to.Add = refl
no_comparison to.Subtract = refl
no_comparison to.ShiftLeft = refl
no_comparison to.ShiftRight = refl
no_comparison to.BitAnd = refl
no_comparison to.BitXor = refl
no_comparison to.BitOr = refl

module _ (env : Env) (model : Model) (bodies : List (List ℕ)) (functions : List v.Function) (told : Told env model bodies functions) where
  abbrev objects : List v.Object
  objects = el.objects_from env model 0 env.objects

  abbrev pub FitsHere : v.Val → Type 0
  FitsHere w = facts.Fits model objects functions w

  abbrev pub AllFitHere : v.Vals → Type 0
  AllFitHere ws = facts.AllFit model objects functions ws

  arguments_kinds : (ks : List Kind) (es : t.Parts) → facts.kinds_of (el.arguments env model bodies ks es) ≡ firsts (count_parts es) ks
  arguments_kinds ks t.no_parts = refl
  arguments_kinds ks (t.parts_and es c e) = ap (λ rest. Some (slice_index_or ks (count_parts es) kind.Int) ∷ rest) (arguments_kinds ks es)

  -- ---- Arrays

  -- the array that an expression is, with the object of this base
  record ArrayAt (base : Option ℕ) (c : CType) : Type 0 where
    number : ℕ
    array : Object
    count : ℕ
    is_base : base ≡ Some number
    there : slice_get env.objects number ≡ Some array
    long : array.length ≡ Some count
    typed : c ≡ tArray array.kind count

  length_array : (number : ℕ) (o : Object) (l : Option ℕ) → o.length ≡ l → slice_get env.objects number ≡ Some o → is_array (elim l [ None ↦ tKind o.kind | Some n ↦ tArray o.kind n ]) ≡ true →
      ArrayAt (Some number) (elim l [ None ↦ tKind o.kind | Some n ↦ tArray o.kind n ])
  length_array number o None e h a = cc
  length_array number o (Some n) e h a = record { number = number; array = o; count = n; is_base = refl; there = h; long = e; typed = refl }

  object_array : (number : ℕ) (q : Option Object) → slice_get env.objects number ≡ q → is_array (object_type q) ≡ true → ArrayAt (Some number) (object_type q)
  object_array number None e a = cc
  object_array number (Some o) e a = length_array number o o.length refl e a

  entity_array : (x : Entity) → is_array (entity_type env x) ≡ true → ArrayAt (object_number x) (entity_type env x)
  entity_array (anObjectOf n) a = object_array n (slice_get env.objects n) refl a
  entity_array (aFunctionOf r ps) a = cc
  entity_array (aConstantOf w) a = cc
  entity_array (aTypeOf k c) a = cc
  entity_array (aTagOf k) a = cc
  entity_array (aNameOf k c) a = cc
  entity_array nothingOf a = cc

  arrays : (e : t.Ex) → rules.faults env model bodies e ≡ [] → is_array (type_of env model e) ≡ true → ArrayAt (base_of env e) (type_of env model e)
  arrays (t.eName n at) h a = entity_array (entity_of env n at) a
  arrays (t.eNumber w form at) h a = cc
  arrays (t.eLetter w at) h a = cc
  arrays (t.eParen x e y) h a = arrays e h a
  arrays (t.eCall f x es y) h a = absurd (called_no_array (type_of env model f) a)
  arrays (t.eIndex b x i y) h a = absurd (element_no_array (type_of env model b) a)
  arrays (t.ePostfix e c at) h a = absurd (target_no_array env model bodies told.takes e (is_target_of env model bodies told.takes at e (unless_lines (rules.faults env model bodies e) _ h)) a)
  arrays (t.ePrefix pre.Increment at e) h a = absurd (target_no_array env model bodies told.takes e (is_target_of env model bodies told.takes at e (unless_lines (rules.faults env model bodies e) _ h)) a)
  arrays (t.ePrefix pre.Decrement at e) h a = absurd (target_no_array env model bodies told.takes e (is_target_of env model bodies told.takes at e (unless_lines (rules.faults env model bodies e) _ h)) a)
  arrays (t.ePrefix pre.Plus at e) h a = absurd (promoted_no_array (type_of env model e) a)
  arrays (t.ePrefix pre.Minus at e) h a = absurd (promoted_no_array (type_of env model e) a)
  arrays (t.ePrefix pre.Complement at e) h a = absurd (promoted_no_array (type_of env model e) a)
  arrays (t.ePrefix pre.Not at e) h a = cc
  arrays (t.ePrefix pre.Extension at e) h a = arrays e (unless_parts (rules.faults env model bodies e) [] h) a
  arrays (t.ePrefix pre.Sizeof at e) h a = cc
  arrays (t.eSizeof at x ws y) h a = cc
  arrays (t.eCast x ws y e) h a = absurd (words_no_array (named_in env ws) (typing_of ws) a)
  arrays (t.eBinary x o at y) h a = absurd (binary_no_array model o (type_of env model x) (type_of env model y) a)
  arrays (t.eCond c q x r y) h a = absurd (arms_no_array model (type_of env model x) (type_of env model y) a)
  arrays (t.eAssign x o at y) h a =
      absurd (target_no_array env model bodies told.takes x (is_target_of env model bodies told.takes at x (nil_left _ _ (unless_lines (rules.faults env model bodies x ++ rules.faults env model bodies y) _ h))) a)
  arrays (t.eComma t.no_parts) h a = cc
  arrays (t.eComma (t.parts_and es c e)) h a = absurd (void_no_array (type_of env model e) (not_false _ (line_holds _ _ _ (unless_lines (rules.faults_of_parts env model bodies (t.parts_and es c e)) _ h))) a)

  array_positive : (number : ℕ) (o : Object) (n : ℕ) → slice_get env.objects number ≡ Some o → o.length ≡ Some n → (0 < n) × (n ≤ 1024)
  array_positive number o n h e = let r = told.arrays number o h in (subst LengthFits e r.0, subst IsShort e r.1)

  index_fits : (base : Option ℕ) (c : CType) → ArrayAt base c → facts.IsArray model objects functions (el.or_none env base) (kind_of (element_type c))
  index_fits base c r = record {
    told = typed_of env model functions (0 + r.number) r.array;
    there = ap (λ b. slice_get objects (el.or_none env b)) r.is_base ∙ typed_there env model functions 0 env.objects r.number r.array r.there;
    kind = sym (ap (λ d. kind_of (element_type d)) r.typed);
    elements = subst (λ l. 0 < el.length_of l) (sym r.long) ((array_positive r.number r.array r.count r.there r.long).0);
  }

  short_by : (b : Bool) (c : CType) (base : Option ℕ) → is_array c ≡ b → (b ≡ true → ArrayAt base c) → Short c
  short_by b (tKind k) base e h = tt
  short_by b tVoid base e h = tt
  short_by b (tFunction r ps) base e h = tt
  short_by b tNone base e h = tt
  short_by false (tArray k n) base e h = cc
  short_by true (tArray k n) base e h =
      let r = h refl in
      let same : n ≡ r.count = count_same k r.array.kind n r.count r.typed in
      subst (λ m. m ≤ 1024) (sym same) ((array_positive r.number r.array r.count r.there r.long).1)
    where
      count_same : (k l : Kind) (n m : ℕ) → tArray k n ≡ tArray l m → n ≡ m
      count_same k l n m q = cc

  type_short : (e : t.Ex) → rules.faults env model bodies e ≡ [] → Short (type_of env model e)
  type_short e h = short_by (is_array (type_of env model e)) (type_of env model e) (base_of env e) refl (λ a. arrays e h a)

  -- ---- Scalars

  scalar_by : (number : ℕ) (o : Object) → slice_get env.objects number ≡ Some o → o.length ≡ None → facts.IsScalar model objects functions number o.kind
  scalar_by number o h e = record {
    told = typed_of env model functions (0 + number) o;
    there = typed_there env model functions 0 env.objects number o h;
    kind = refl;
    scalar = ap el.length_of e;
  }

  array_by : (number : ℕ) (o : Object) (n : ℕ) → slice_get env.objects number ≡ Some o → o.length ≡ Some n → facts.IsArray model objects functions number o.kind
  array_by number o n h e = record {
    told = typed_of env model functions (0 + number) o;
    there = typed_there env model functions 0 env.objects number o h;
    kind = refl;
    elements = subst (λ l. 0 < el.length_of l) (sym e) ((array_positive number o n h e).0);
  }

  length_scalar : (number : ℕ) (o : Object) (l : Option ℕ) → o.length ≡ l → slice_get env.objects number ≡ Some o → is_kind (elim l [ None ↦ tKind o.kind | Some n ↦ tArray o.kind n ]) ≡ true →
      facts.IsScalar model objects functions number (kind_of (elim l [ None ↦ tKind o.kind | Some n ↦ tArray o.kind n ]))
  length_scalar number o None e h k = scalar_by number o h e
  length_scalar number o (Some n) e h k = cc

  object_scalar : (number : ℕ) (q : Option Object) → slice_get env.objects number ≡ q → is_kind (object_type q) ≡ true → facts.IsScalar model objects functions number (kind_of (object_type q))
  object_scalar number None e k = cc
  object_scalar number (Some o) e k = length_scalar number o o.length refl e k

  name_goal : (x : Entity) → rules.is_object_name x ≡ true → is_kind (entity_type env x) ≡ true → IsNoName x → facts.GoalFits model objects functions (kind_of (entity_type env x)) (v.gObject (el.or_first (object_number x)))
  name_goal (anObjectOf n) h k u = object_scalar n (slice_get env.objects n) refl k
  name_goal (aFunctionOf r ps) h k u = cc
  name_goal (aConstantOf w) h k u = cc
  name_goal (aTypeOf l c) h k u = cc
  name_goal (aTagOf l) h k u = cc
  name_goal (aNameOf l c) h k u = absurd u
  name_goal nothingOf h k u = cc

  -- ---- Names

  length_fits : (number : ℕ) (o : Object) (l : Option ℕ) → o.length ≡ l → slice_get env.objects number ≡ Some o → FitsHere (el.scalar_or_array number o.kind l)
  length_fits number o None e h = scalar_by number o h e
  length_fits number o (Some n) e h = (o.kind, array_by number o n h e)

  object_fits : (number : ℕ) (o : Object) (q : Option Object) → slice_get env.objects number ≡ Some o → slice_get env.objects number ≡ q → FitsHere (el.object_value number q)
  object_fits number o None h e = cc
  object_fits number o (Some p) h e = length_fits number p p.length refl e

  name_fits : (x : Entity) (n : List ℕ) (at : ℕ) → entity_of env n at ≡ x → FitsHere (el.named_value env x)
  name_fits (anObjectOf number) n at e = let r = told.there n at number e in object_fits number r.0 (slice_get env.objects number) r.1 refl
  name_fits (aFunctionOf r ps) n at e = tt
  name_fits (aConstantOf w) n at e = told.constants n at w e
  name_fits (aTypeOf k c) n at e = tt
  name_fits (aTagOf k) n at e = tt
  name_fits (aNameOf k c) n at e = tt
  name_fits nothingOf n at e = tt

  -- ---- Calls

  called_fits : (r : Option Kind) (ps : List Kind) (n : List ℕ) (at bracket : ℕ) (es : t.Parts) (o : Option ℕ) → position (λ m. bytes_eq m n) bodies ≡ o → entity_of env n at ≡ aFunctionOf r ps → length ps ≡ count_parts es → IsThere o →
      AllFitHere (el.arguments env model bodies ps es) → FitsHere (el.called env model bodies r at bracket o (el.arguments env model bodies ps es))
  called_fits r ps n at bracket es None q x l h a = absurd h
  called_fits r ps n at bracket es (Some f) q x l h a =
      let g = told.called n at f r ps x q in (
        record { told = g.0; there = g.1; result_is = g.2; arguments = ap reverse g.3 ∙ backwards ps ∙ ap (λ m. firsts m ps) l ∙ sym (arguments_kinds ps es) },
        a,
      )

  known_fits : (k : Known) (r : Option Kind) (n : List ℕ) (at bracket : ℕ) (vs : v.Vals) → FitsHere (el.called_known env model bodies (Some k) r n at bracket vs)
  known_fits reaches r n at bracket vs = tt
  known_fits aborts r n at bracket vs = tt
  known_fits (draws k) None n at bracket vs = tt
  known_fits (draws k) (Some r) n at bracket vs = ((k, refl), tt)

  number_fits : (k : Option Known) (r : Option Kind) (ps : List Kind) (n : List ℕ) (at bracket : ℕ) (es : t.Parts) → known_of n ≡ k → entity_of env n at ≡ aFunctionOf r ps → length ps ≡ count_parts es → NumberFits env bodies k n es →
      AllFitHere (el.arguments env model bodies ps es) → FitsHere (el.called_known env model bodies k r n at bracket (el.arguments env model bodies ps es))
  number_fits (Some k) r ps n at bracket es e x l h a = known_fits k r n at bracket _
  number_fits None r ps n at bracket es e x l h a = called_fits r ps n at bracket es (position (λ m. bytes_eq m n) bodies) refl x l h a

  entity_fits : (x : Entity) (n : List ℕ) (at bracket : ℕ) (es : t.Parts) → entity_of env n at ≡ x → rules.takes env model bodies x (count_parts es) ≡ true → EntityFits env bodies x n es →
      AllFitHere (el.arguments env model bodies (entity_parameters x) es) → FitsHere (el.called_entity env model bodies x n at bracket (el.arguments env model bodies (entity_parameters x) es))
  entity_fits (aFunctionOf r ps) n at bracket es e l h a = number_fits (known_of n) r ps n at bracket es refl e (eqb-true (length ps) (count_parts es) l) h a
  entity_fits (anObjectOf m) n at bracket es e l h a = absurd h
  entity_fits (aConstantOf w) n at bracket es e l h a = absurd h
  entity_fits (aTypeOf k c) n at bracket es e l h a = absurd h
  entity_fits (aTagOf k) n at bracket es e l h a = absurd h
  entity_fits (aNameOf k c) n at bracket es e l h a = absurd h
  entity_fits nothingOf n at bracket es e l h a = absurd h

  call_fits : (f : t.Ex) (bracket : ℕ) (es : t.Parts) → rules.call_line env model bodies f bracket (count_parts es) ≡ [] → NameFits env bodies f es →
      AllFitHere (el.arguments env model bodies (parameters_of env f) es) → FitsHere (el.called_name env model bodies f bracket (el.arguments env model bodies (parameters_of env f) es))
  call_fits (t.eName n at) bracket es l h a = entity_fits (entity_of env n at) n at bracket es refl (and_left (rules.takes env model bodies (entity_of env n at) (count_parts es)) _ (not_false _ (line_holds _ _ _ l))) h a
  call_fits f bracket es l h a = absurd h

  -- ---- Arms

  arm_fits : (c d : CType) (x a b : v.Val) (p q : ℕ) → facts.HasKind x → Agrees c (facts.kind_of a) → Agrees d (facts.kind_of b) →
      (if is_void c && is_void d then [] else line (not (is_kind c)) fault.NotScalar p ++ line (not (is_kind d)) fault.NotScalar q) ≡ [] → FitsHere x → FitsHere a → FitsHere b → FitsHere (el.choice (arms_type model c d) x a b)
  arm_fits (tKind k) (tKind l) x a b p q h g f e fx fa fb = (h, refl, refl, fx, ((k, g), fa), ((l, f), fb))
  arm_fits (tKind k) tVoid x a b p q h g f e fx fa fb = cc
  arm_fits (tKind k) (tArray l n) x a b p q h g f e fx fa fb = cc
  arm_fits (tKind k) (tFunction r ps) x a b p q h g f e fx fa fb = cc
  arm_fits (tKind k) tNone x a b p q h g f e fx fa fb = cc
  arm_fits tVoid (tKind l) x a b p q h g f e fx fa fb = cc
  arm_fits tVoid tVoid x a b p q h g f e fx fa fb = (h, g, f, fx, fa, fb)
  arm_fits tVoid (tArray l n) x a b p q h g f e fx fa fb = cc
  arm_fits tVoid (tFunction r ps) x a b p q h g f e fx fa fb = cc
  arm_fits tVoid tNone x a b p q h g f e fx fa fb = cc
  arm_fits (tArray k n) d x a b p q h g f e fx fa fb = cc
  arm_fits (tFunction r ps) d x a b p q h g f e fx fa fb = cc
  arm_fits tNone d x a b p q h g f e fx fa fb = cc

  -- ---- Expressions

  abbrev W : t.Ex → v.Val
  W e = el.value env model bodies e

  pub has_kind : (e : t.Ex) → Unnamed env e → rules.faults env model bodies e ≡ [] → rules.value_line env model bodies e ≡ [] → facts.HasKind (W e)
  has_kind e u h l = (kind_of (type_of env model e), agree_kind (type_of env model e) (facts.kind_of (W e)) (not_false _ (line_holds _ _ _ l)) (kinds env model bodies told.takes told.known e u h))

  cast_fits : (c : CType) (e : t.Ex) → (rules.value_line env model bodies e ≡ [] → facts.HasKind (W e)) → rules.cast_lines env model bodies c e ≡ [] → FitsHere (W e) → FitsHere (el.cast_to c (W e))
  cast_fits (tKind k) e h l f = (h l, f)
  cast_fits tVoid e h l f = f
  cast_fits (tArray k n) e h l f = f
  cast_fits (tFunction r ps) e h l f = f
  cast_fits tNone e h l f = f

  mutual
    pub value_fits : (e : t.Ex) → Unnamed env e → Held model e → rules.faults env model bodies e ≡ [] → FitsHere (W e)
    value_fits (t.eName n at) u g h = name_fits (entity_of env n at) n at refl
    value_fits (t.eNumber w form at) u g h = g
    value_fits (t.eLetter w at) u g h = g
    value_fits (t.eParen x e y) u g h = value_fits e u g h
    value_fits (t.eCall f x es y) u g h =
        let p = unless_parts (rules.faults env model bodies f ++ rules.faults_of_parts env model bodies es) _ h in
        let l = unless_lines (rules.faults env model bodies f ++ rules.faults_of_parts env model bodies es) _ h in
        let s = fits env model bodies told.takes (t.eCall f x es y) u h in
        call_fits f x es (nil_left _ _ l) s.0
        (arguments_fit (parameters_of env f) es u.1 g.1 (nil_right (rules.faults env model bodies f) _ p) (nil_right (rules.call_line env model bodies f x (count_parts es)) _ l))
    value_fits (t.eIndex a x i y) u g h =
        let p = unless_parts (rules.faults env model bodies a ++ rules.faults env model bodies i) _ h in
        let l = unless_lines (rules.faults env model bodies a ++ rules.faults env model bodies i) _ h in
        let pa = nil_left (rules.faults env model bodies a) _ p in
        let pb = nil_right (rules.faults env model bodies a) _ p in
        (index_fits (base_of env a) (type_of env model a) (arrays a pa (index_array env model bodies told.takes told.known a x i y h)), has_kind i u.1 pb (nil_right _ _ l), value_fits i u.1 g.1 pb)
    value_fits (t.ePostfix e c at) u g h = goal_fits e u g (unless_parts (rules.faults env model bodies e) _ h) (is_target_of env model bodies told.takes at e (unless_lines (rules.faults env model bodies e) _ h))
    value_fits (t.ePrefix pre.Increment at e) u g h = goal_fits e u g (unless_parts (rules.faults env model bodies e) _ h) (is_target_of env model bodies told.takes at e (unless_lines (rules.faults env model bodies e) _ h))
    value_fits (t.ePrefix pre.Decrement at e) u g h = goal_fits e u g (unless_parts (rules.faults env model bodies e) _ h) (is_target_of env model bodies told.takes at e (unless_lines (rules.faults env model bodies e) _ h))
    value_fits (t.ePrefix pre.Plus at e) u g h =
        let p = unless_parts (rules.faults env model bodies e) _ h in
        (has_kind e u p (unless_lines (rules.faults env model bodies e) _ h), value_fits e u g p)
    value_fits (t.ePrefix pre.Minus at e) u g h =
        let p = unless_parts (rules.faults env model bodies e) _ h in
        (promoted_right (kind_of (type_of env model e)), refl, (has_kind e u p (unless_lines (rules.faults env model bodies e) _ h), value_fits e u g p))
    value_fits (t.ePrefix pre.Complement at e) u g h =
        let p = unless_parts (rules.faults env model bodies e) _ h in
        (promoted_right (kind_of (type_of env model e)), refl, (has_kind e u p (unless_lines (rules.faults env model bodies e) _ h), value_fits e u g p))
    value_fits (t.ePrefix pre.Not at e) u g h =
        let p = unless_parts (rules.faults env model bodies e) _ h in
        (has_kind e u p (unless_lines (rules.faults env model bodies e) _ h), value_fits e u g p)
    value_fits (t.ePrefix pre.Extension at e) u g h = value_fits e u g (unless_parts (rules.faults env model bodies e) [] h)
    value_fits (t.ePrefix pre.Sizeof at e) u g h = small_in_range model _ (size_small model (type_of env model e) (type_short e (unless_parts (rules.faults env model bodies e) _ h)))
    value_fits (t.eSizeof at x ws y) u g h = small_in_range model _ (size_small model (words_type env ws) (words_short (named_in env ws) (typing_of ws)))
    value_fits (t.eCast x ws y e) u g h =
        let p = nil_right (rules.faults_of_words env model bodies ws) _ (unless_parts (rules.faults_of_words env model bodies ws ++ rules.faults env model bodies e) _ h) in
        cast_fits (words_type env ws) e (has_kind e u p) (unless_lines (rules.faults_of_words env model bodies ws ++ rules.faults env model bodies e) _ h) (value_fits e u g p)
    value_fits (t.eBinary a op.AndAlso at b) u g h =
        let p = unless_parts (rules.faults env model bodies a ++ rules.faults env model bodies b) _ h in
        let l = unless_lines (rules.faults env model bodies a ++ rules.faults env model bodies b) _ h in
        let pa = nil_left (rules.faults env model bodies a) _ p in
        let pb = nil_right (rules.faults env model bodies a) _ p in
        (has_kind a u.0 pa (nil_left _ _ l), has_kind b u.1 pb (nil_right (rules.value_line env model bodies a) _ l), value_fits a u.0 g.0 pa, value_fits b u.1 g.1 pb)
    value_fits (t.eBinary a op.OrElse at b) u g h =
        let p = unless_parts (rules.faults env model bodies a ++ rules.faults env model bodies b) _ h in
        let l = unless_lines (rules.faults env model bodies a ++ rules.faults env model bodies b) _ h in
        let pa = nil_left (rules.faults env model bodies a) _ p in
        let pb = nil_right (rules.faults env model bodies a) _ p in
        (has_kind a u.0 pa (nil_left _ _ l), has_kind b u.1 pb (nil_right (rules.value_line env model bodies a) _ l), value_fits a u.0 g.0 pa, value_fits b u.1 g.1 pb)
    value_fits (t.eBinary a o at b) u g h =
        let p = unless_parts (rules.faults env model bodies a ++ rules.faults env model bodies b) _ h in
        let l = unless_lines (rules.faults env model bodies a ++ rules.faults env model bodies b) _ h in
        let pa = nil_left (rules.faults env model bodies a) _ p in
        let pb = nil_right (rules.faults env model bodies a) _ p in
        (operation_right model o (kind_of (type_of env model a)) (kind_of (type_of env model b)), refl, refl, right_fits model o (kind_of (type_of env model a)) (kind_of (type_of env model b)), (has_kind a u.0 pa (nil_left _ _ l), value_fits a u.0 g.0 pa), (has_kind b u.1 pb (nil_right (rules.value_line env model bodies a) _ l), value_fits b u.1 g.1 pb))
    value_fits (t.eCond c x a y b) u g h =
        let p = unless_parts (rules.faults env model bodies c ++ rules.faults env model bodies a ++ rules.faults env model bodies b) _ h in
        let q = nil_left (rules.faults env model bodies c ++ rules.faults env model bodies a) _ p in
        let pc = nil_left (rules.faults env model bodies c) _ q in
        let pa = nil_right (rules.faults env model bodies c) _ q in
        let pb = nil_right (rules.faults env model bodies c ++ rules.faults env model bodies a) _ p in
        let l = unless_lines (rules.faults env model bodies c ++ rules.faults env model bodies a ++ rules.faults env model bodies b) _ h in
        arm_fits (type_of env model a) (type_of env model b) (W c) (W a) (W b) _ _ (has_kind c u.0 pc (nil_left _ _ l)) (kinds env model bodies told.takes told.known a u.1 pa) (kinds env model bodies told.takes told.known b u.2 pb)
        (nil_right (rules.value_line env model bodies c) _ l) (value_fits c u.0 g.0 pc) (value_fits a u.1 g.1 pa) (value_fits b u.2 g.2 pb)
    value_fits (t.eAssign a to.Plain at b) u g h =
        let p = unless_parts (rules.faults env model bodies a ++ rules.faults env model bodies b) _ h in
        let l = unless_lines (rules.faults env model bodies a ++ rules.faults env model bodies b) _ h in
        let pa = nil_left (rules.faults env model bodies a) _ p in
        let pb = nil_right (rules.faults env model bodies a) _ p in
        (goal_fits a u.0 g.0 pa (is_target_of env model bodies told.takes at a (nil_left _ _ l)), refl, (has_kind b u.1 pb (nil_right (rules.target_lines env model bodies at a) _ l), value_fits b u.1 g.1 pb))
    value_fits (t.eAssign a o at b) u g h =
        let p = unless_parts (rules.faults env model bodies a ++ rules.faults env model bodies b) _ h in
        let l = unless_lines (rules.faults env model bodies a ++ rules.faults env model bodies b) _ h in
        let pa = nil_left (rules.faults env model bodies a) _ p in
        let pb = nil_right (rules.faults env model bodies a) _ p in
        (operation_right model (assigned_op o) (kind_of (type_of env model a)) (kind_of (type_of env model b)), not_logical o, no_comparison o, goal_fits a u.0 g.0 pa (is_target_of env model bodies told.takes at a (nil_left _ _ l)), right_fits model (assigned_op o) (kind_of (type_of env model a)) (kind_of (type_of env model b)), (has_kind b u.1 pb (nil_right (rules.target_lines env model bodies at a) _ l), value_fits b u.1 g.1 pb))
    value_fits (t.eComma t.no_parts) u g h = tt
    value_fits (t.eComma (t.parts_and es c e)) u g h =
        let p = unless_parts (rules.faults_of_parts env model bodies (t.parts_and es c e)) _ h in
        (values_fit es u.0 g.0 (nil_left _ _ p), value_fits e u.1 g.1 (nil_right (rules.faults_of_parts env model bodies es) _ p))

    pub values_fit : (es : t.Parts) → AllUnnamed env es → AllHeld model es → rules.faults_of_parts env model bodies es ≡ [] → AllFitHere (el.values env model bodies es)
    values_fit t.no_parts u g h = tt
    values_fit (t.parts_and es c e) u g h = (values_fit es u.0 g.0 (nil_left _ _ h), value_fits e u.1 g.1 (nil_right (rules.faults_of_parts env model bodies es) _ h))

    arguments_fit : (ks : List Kind) (es : t.Parts) → AllUnnamed env es → AllHeld model es → rules.faults_of_parts env model bodies es ≡ [] → rules.value_lines env model bodies es ≡ [] → AllFitHere (el.arguments env model bodies ks es)
    arguments_fit ks t.no_parts u g h l = tt
    arguments_fit ks (t.parts_and es c e) u g h l =
        let p = nil_right (rules.faults_of_parts env model bodies es) _ h in
        (arguments_fit ks es u.0 g.0 (nil_left _ _ h) (nil_left _ _ l), (has_kind e u.1 p (nil_right (rules.value_lines env model bodies es) _ l), value_fits e u.1 g.1 p))

    pub goal_fits : (e : t.Ex) → Unnamed env e → Held model e → rules.faults env model bodies e ≡ [] → rules.is_target env model bodies e ≡ true → facts.GoalFits model objects functions (kind_of (type_of env model e)) (el.goal env model bodies e)
    goal_fits (t.eName n at) u g h k =
        name_goal (entity_of env n at) (and_left (rules.is_object_name (entity_of env n at)) (is_kind (entity_type env (entity_of env n at))) k)
        (and_right (rules.is_object_name (entity_of env n at)) (is_kind (entity_type env (entity_of env n at))) k) u
    goal_fits (t.eIndex a x i y) u g h k =
        let p = unless_parts (rules.faults env model bodies a ++ rules.faults env model bodies i) _ h in
        let l = unless_lines (rules.faults env model bodies a ++ rules.faults env model bodies i) _ h in
        let pa = nil_left (rules.faults env model bodies a) _ p in
        let pb = nil_right (rules.faults env model bodies a) _ p in
        (index_fits (base_of env a) (type_of env model a) (arrays a pa (index_array env model bodies told.takes told.known a x i y h)), has_kind i u.1 pb (nil_right _ _ l), value_fits i u.1 g.1 pb)
    goal_fits (t.eParen x e y) u g h k = goal_fits e u g h k
    goal_fits (t.ePrefix pre.Extension at e) u g h k = goal_fits e u g (unless_parts (rules.faults env model bodies e) [] h) k
    goal_fits e u g h k = cc
