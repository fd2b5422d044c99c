-- The kind of each value is that of its expression's type.
use Rattle.std.proofs.Common.{◌≡◌, ℕ, Bool, true, false, if◌then◌else◌, List, [], ◌++◌, Option, None, Some, bytes_eq, refl, ap, sym, ◌∙◌}
use Rattle.std.specs.Prelude.{position, slice_get, nat_le, nat_lt}
use Rattle.lv_base.specs.declared.kind.Kind.{Kind}
use Rattle.lv_base.specs.declared.kind.Kind.TheVariants as kind
use Rattle.lv_base.specs.declared.kind.Model.{Model}
use Rattle.lv_base.specs.Integers.{is_promoted, is_signed, width_of}
use Rattle.c_tree.specs.declared.symbol.BinaryOp.{BinaryOp}
use Rattle.c_tree.specs.declared.symbol.BinaryOp.TheVariants as op
use Rattle.c_tree.specs.declared.symbol.AssignOp.TheVariants as to
use Rattle.c_tree.specs.declared.tree.PrefixOp.TheVariants as pre
use Rattle.c_tree.specs.Tree as t
use Rattle.c_meaning.specs.Kinds.{CType, tKind, tVoid, tArray, tFunction, tNone, is_kind, is_array, result_type, kind_of, promoted, unsigned_of, mixed, common_promoted, common, rank, operation_kind, right_kind, result_kind, is_shift}
use Rattle.c_meaning.specs.Bindings.{Env, Entity, anObjectOf, aFunctionOf, aConstantOf, aTypeOf, aTagOf, aNameOf, nothingOf, Object, entity_of, entity_type, object_type, words_type}
use Rattle.c_meaning.specs.Known.{Known, reaches, aborts, draws, known_of}
use Rattle.c_meaning.specs.Types.{type_of, called_type, element_type, binary_type, arms_type, promoted_type}
use Rattle.c_meaning.specs.Rules as rules
use Rattle.c_typed.specs.Tree as v
use Rattle.c_typed.specs.Facts as facts
use Rattle.c_types.specs.Elaborated as el
use Rattle.c_types.specs.Fit.{IsThere, NumberFits, EntityFits, NameFits}
use Rattle.elaboration_fit_laws.specs.Laws.{IsNoName, Unnamed, KnownTakeNone}
use Rattle.elaboration_body_laws.specs.Told.{KnownRight}
use Rattle.elaboration_fit_laws.proofs.Fitting.{nil_left, nil_right, line_holds, not_false, and_right, unless_parts, unless_lines, fits, is_target_of}

-- ---- Kinds that agree with types

-- a type with values has values of its kind, and void has none
abbrev pub Agrees : CType → Option Kind → Type 0
Agrees (tKind k) o = o ≡ Some k
Agrees tVoid o = o ≡ None
Agrees _ o = Unit {0}

pub agree_kind : (c : CType) (o : Option Kind) → is_kind c ≡ true → Agrees c o → o ≡ Some (kind_of c)
agree_kind (tKind k) o h a = a
agree_kind tVoid o h a = cc
agree_kind (tArray k n) o h a = cc
agree_kind (tFunction r ps) o h a = cc
agree_kind tNone o h a = cc

-- a value of the kind of a type that has one
of_kind : (c : CType) → is_kind c ≡ true → Agrees c (Some (kind_of c))
of_kind (tKind k) h = refl
of_kind tVoid h = cc
of_kind (tArray k n) h = cc
of_kind (tFunction r ps) h = cc
of_kind tNone h = cc

-- ---- Promoted kinds

pub promoted_right : (k : Kind) → is_promoted (promoted k) ≡ true
promoted_right kind.Bool = refl
promoted_right kind.Char = refl
promoted_right kind.UChar = refl
promoted_right kind.Short = refl
promoted_right kind.UShort = refl
promoted_right kind.Int = refl
promoted_right kind.UInt = refl
promoted_right kind.Long = refl
promoted_right kind.ULong = refl
promoted_right kind.LongLong = refl
promoted_right kind.ULongLong = refl

unsigned_right : (k : Kind) → is_promoted k ≡ true → is_promoted (unsigned_of k) ≡ true
unsigned_right kind.Bool h = cc
unsigned_right kind.Char h = cc
unsigned_right kind.UChar h = cc
unsigned_right kind.Short h = cc
unsigned_right kind.UShort h = cc
unsigned_right kind.Int h = refl
unsigned_right kind.UInt h = refl
unsigned_right kind.Long h = refl
unsigned_right kind.ULong h = refl
unsigned_right kind.LongLong h = refl
unsigned_right kind.ULongLong h = refl

either_right : (b : Bool) (k l : Kind) → is_promoted k ≡ true → is_promoted l ≡ true → is_promoted (if b then k else l) ≡ true
either_right true k l h g = h
either_right false k l h g = g

module _ (model : Model) where
  mixed_right : (k l : Kind) → is_promoted k ≡ true → is_promoted l ≡ true → is_promoted (mixed model k l) ≡ true
  mixed_right k l h g =
      either_right (nat_le (rank l) (rank k)) k (if nat_lt (width_of k model) (width_of l model) then l else unsigned_of l) h (either_right (nat_lt (width_of k model) (width_of l model)) l (unsigned_of l) g (unsigned_right l g))

  both_right : (a b : Bool) (k l : Kind) → is_promoted k ≡ true → is_promoted l ≡ true → is_promoted (common_promoted model a b k l) ≡ true
  both_right true true k l h g = either_right _ k l h g
  both_right false false k l h g = either_right _ k l h g
  both_right false true k l h g = mixed_right k l h g
  both_right true false k l h g = mixed_right l k g h

  common_right : (k l : Kind) → is_promoted (common model k l) ≡ true
  common_right k l = both_right (is_signed (promoted k)) (is_signed (promoted l)) (promoted k) (promoted l) (promoted_right k) (promoted_right l)

  pub operation_right : (o : BinaryOp) (k l : Kind) → is_promoted (operation_kind model o k l) ≡ true
  operation_right o k l = either_right (is_shift o) (promoted k) (common model k l) (promoted_right k) (common_right k l)

  pub right_fits : (o : BinaryOp) (k l : Kind) → facts.RightFits o (operation_kind model o k l) (Some (right_kind model o k l))
  right_fits op.ShiftLeft k l = promoted_right l
  right_fits op.ShiftRight k l = promoted_right l
  right_fits op.OrElse k l = refl
  right_fits op.AndAlso k l = refl
  right_fits op.BitOr k l = refl
  right_fits op.BitXor k l = refl
  right_fits op.BitAnd k l = refl
  right_fits op.Equal k l = refl
  right_fits op.NotEqual k l = refl
  right_fits op.Less k l = refl
  right_fits op.Greater k l = refl
  right_fits op.LessEqual k l = refl
  right_fits op.GreaterEqual k l = refl
  right_fits op.Add k l = refl
  right_fits op.Subtract k l = refl
  right_fits op.Multiply k l = refl
  right_fits op.Divide k l = refl
  right_fits op.Remainder k l = refl

  -- ---- Parts of expressions

  promoted_agrees : (c : CType) → Agrees (promoted_type c) (Some (promoted (kind_of c)))
  promoted_agrees (tKind k) = refl
  promoted_agrees tVoid = tt
  promoted_agrees (tArray k n) = tt
  promoted_agrees (tFunction r ps) = tt
  promoted_agrees tNone = tt

  element_agrees : (c : CType) → Agrees (element_type c) (Some (kind_of (element_type c)))
  element_agrees (tKind k) = tt
  element_agrees tVoid = tt
  element_agrees (tArray k n) = refl
  element_agrees (tFunction r ps) = tt
  element_agrees tNone = tt

  truth_agrees : (o : BinaryOp) (c d : CType) → ((k l : Kind) → result_kind model o k l ≡ kind.Int) → Agrees (binary_type model o c d) (Some kind.Int)
  truth_agrees o (tKind k) (tKind l) h = ap Some (sym (h k l))
  truth_agrees o (tKind k) tVoid h = tt
  truth_agrees o (tKind k) (tArray l n) h = tt
  truth_agrees o (tKind k) (tFunction r ps) h = tt
  truth_agrees o (tKind k) tNone h = tt
  truth_agrees o tVoid d h = tt
  truth_agrees o (tArray k n) d h = tt
  truth_agrees o (tFunction r ps) d h = tt
  truth_agrees o tNone d h = tt

  kept_agrees : (o : BinaryOp) (c d : CType) (m : Kind) → ((k l : Kind) → c ≡ tKind k → d ≡ tKind l → m ≡ result_kind model o k l) → Agrees (binary_type model o c d) (Some m)
  kept_agrees o (tKind k) (tKind l) m h = ap Some (h k l refl refl)
  kept_agrees o (tKind k) tVoid m h = tt
  kept_agrees o (tKind k) (tArray l n) m h = tt
  kept_agrees o (tKind k) (tFunction r ps) m h = tt
  kept_agrees o (tKind k) tNone m h = tt
  kept_agrees o tVoid d m h = tt
  kept_agrees o (tArray k n) d m h = tt
  kept_agrees o (tFunction r ps) d m h = tt
  kept_agrees o tNone d m h = tt

  same_result : (o : BinaryOp) (c d : CType) → ((k l : Kind) → facts.when (facts.is_comparison o) kind.Int (operation_kind model o k l) ≡ result_kind model o k l) →
      Agrees (binary_type model o c d) (Some (facts.when (facts.is_comparison o) kind.Int (operation_kind model o (kind_of c) (kind_of d))))
  same_result o c d h = kept_agrees o c d _ (λ k l x y. ap (λ z. facts.when (facts.is_comparison o) kind.Int (operation_kind model o (kind_of z) (kind_of d))) x ∙ ap (λ z. facts.when (facts.is_comparison o) kind.Int (operation_kind model o k (kind_of z))) y ∙ h k l)

choice_agrees : (c : CType) (x a b : v.Val) → Agrees c (facts.kind_of (el.choice c x a b))
choice_agrees (tKind k) x a b = refl
choice_agrees tVoid x a b = refl
choice_agrees (tArray k n) x a b = tt
choice_agrees (tFunction r ps) x a b = tt
choice_agrees tNone x a b = tt

cast_agrees : (c : CType) (a : v.Val) → Agrees c (facts.kind_of (el.cast_to c a))
cast_agrees (tKind k) a = refl
cast_agrees tVoid a = refl
cast_agrees (tArray k n) a = tt
cast_agrees (tFunction r ps) a = tt
cast_agrees tNone a = tt

scalar_agrees : (n : ℕ) (k : Kind) (l : Option ℕ) → Agrees (elim l [ None ↦ tKind k | Some m ↦ tArray k m ]) (facts.kind_of (el.scalar_or_array n k l))
scalar_agrees n k None = refl
scalar_agrees n k (Some m) = tt

object_agrees : (n : ℕ) (o : Option Object) → Agrees (object_type o) (facts.kind_of (el.object_value n o))
object_agrees n None = tt
object_agrees n (Some o) = scalar_agrees n o.kind o.length

module _ (env : Env) (model : Model) (bodies : List (List ℕ)) (takes : KnownTakeNone env) (known : KnownRight env model bodies) where
  name_agrees : (x : Entity) → IsNoName x → Agrees (entity_type env x) (facts.kind_of (el.named_value env x))
  name_agrees (anObjectOf n) u = object_agrees n (slice_get env.objects n)
  name_agrees (aFunctionOf r ps) u = tt
  name_agrees (aConstantOf w) u = refl
  name_agrees (aTypeOf k c) u = tt
  name_agrees (aTagOf k) u = tt
  name_agrees (aNameOf k c) u = absurd u
  name_agrees nothingOf u = tt

  -- ---- Calls

  result_agrees : (r : Option Kind) → Agrees (result_type r) r
  result_agrees None = refl
  result_agrees (Some k) = refl

  called_agrees : (r : Option Kind) (at bracket : ℕ) (o : Option ℕ) (vs : v.Vals) → IsThere o → Agrees (result_type r) (facts.kind_of (el.called env model bodies r at bracket o vs))
  called_agrees r at bracket None vs h = absurd h
  called_agrees r at bracket (Some f) vs h = result_agrees r

  known_agrees : (k : Known) (r : Option Kind) (n : List ℕ) (at bracket : ℕ) (vs : v.Vals) → rules.is_known_right env model bodies k r ≡ true → Agrees (result_type r) (facts.kind_of (el.called_known env model bodies (Some k) r n at bracket vs))
  known_agrees reaches None n at bracket vs h = refl
  known_agrees reaches (Some r) n at bracket vs h = cc
  known_agrees aborts None n at bracket vs h = refl
  known_agrees aborts (Some r) n at bracket vs h = cc
  known_agrees (draws k) None n at bracket vs h = cc
  known_agrees (draws k) (Some r) n at bracket vs h = refl

  number_agrees : (k : Option Known) (r : Option Kind) (ps : List Kind) (n : List ℕ) (at bracket : ℕ) (es : t.Parts) (vs : v.Vals) → known_of n ≡ k → entity_of env n at ≡ aFunctionOf r ps → NumberFits env bodies k n es →
      Agrees (result_type r) (facts.kind_of (el.called_known env model bodies k r n at bracket vs))
  number_agrees (Some k) r ps n at bracket es vs e x h = known_agrees k r n at bracket vs (known n at k r ps e x)
  number_agrees None r ps n at bracket es vs e x h = called_agrees r at bracket (position (λ m. bytes_eq m n) bodies) vs h

  entity_agrees : (x : Entity) (n : List ℕ) (at bracket : ℕ) (es : t.Parts) (vs : v.Vals) → entity_of env n at ≡ x → EntityFits env bodies x n es →
      Agrees (called_type (entity_type env x)) (facts.kind_of (el.called_entity env model bodies x n at bracket vs))
  entity_agrees (aFunctionOf r ps) n at bracket es vs e h = number_agrees (known_of n) r ps n at bracket es vs refl e h
  entity_agrees (anObjectOf m) n at bracket es vs e h = absurd h
  entity_agrees (aConstantOf w) n at bracket es vs e h = absurd h
  entity_agrees (aTypeOf k c) n at bracket es vs e h = absurd h
  entity_agrees (aTagOf k) n at bracket es vs e h = absurd h
  entity_agrees (aNameOf k c) n at bracket es vs e h = absurd h
  entity_agrees nothingOf n at bracket es vs e h = absurd h

  call_agrees : (f : t.Ex) (bracket : ℕ) (es : t.Parts) (vs : v.Vals) → NameFits env bodies f es → Agrees (called_type (type_of env model f)) (facts.kind_of (el.called_name env model bodies f bracket vs))
  call_agrees (t.eName n at) bracket es vs h = entity_agrees (entity_of env n at) n at bracket es vs refl h
  call_agrees f bracket es vs h = absurd h

  -- ---- Targets

  element_kind : (c : CType) → is_array c ≡ true → is_kind (element_type c) ≡ true
  element_kind (tKind k) h = cc
  element_kind tVoid h = cc
  element_kind (tArray k n) h = refl
  element_kind (tFunction r ps) h = cc
  element_kind tNone h = cc

  pub index_array : (a : t.Ex) (x : ℕ) (i : t.Ex) (y : ℕ) → rules.faults env model bodies (t.eIndex a x i y) ≡ [] → is_array (type_of env model a) ≡ true
  index_array a x i y h = not_false _ (line_holds _ _ _ (nil_left _ _ (unless_lines (rules.faults env model bodies a ++ rules.faults env model bodies i) _ h)))

  pub target_kind : (e : t.Ex) → rules.is_target env model bodies e ≡ true → rules.faults env model bodies e ≡ [] → is_kind (type_of env model e) ≡ true
  target_kind (t.eName n at) h l = and_right (rules.is_object_name (entity_of env n at)) (is_kind (entity_type env (entity_of env n at))) h
  target_kind (t.eIndex a x i y) h l = element_kind (type_of env model a) (index_array a x i y l)
  target_kind (t.eParen x e y) h l = target_kind e h l
  target_kind (t.ePrefix pre.Extension at e) h l = target_kind e h (unless_parts (rules.faults env model bodies e) [] l)
  target_kind e h l = cc

  stepped_kind : (at : ℕ) (e : t.Ex) → rules.unless (rules.faults env model bodies e) (rules.target_lines env model bodies at e) ≡ [] → is_kind (type_of env model e) ≡ true
  stepped_kind at e h = target_kind e (is_target_of env model bodies takes at e (unless_lines (rules.faults env model bodies e) _ h)) (unless_parts (rules.faults env model bodies e) _ h)

  pub assigned_kind : (a : t.Ex) (o : _) (at : ℕ) (b : t.Ex) → rules.faults env model bodies (t.eAssign a o at b) ≡ [] → is_kind (type_of env model a) ≡ true
  assigned_kind a o at b h =
      target_kind a (is_target_of env model bodies takes at a (nil_left _ _ (unless_lines (rules.faults env model bodies a ++ rules.faults env model bodies b) _ h))) (nil_left _ _ (unless_parts (rules.faults env model bodies a ++ rules.faults env model bodies b) _ h))

  -- ---- Expressions

  pub kinds : (e : t.Ex) → Unnamed env e → rules.faults env model bodies e ≡ [] → Agrees (type_of env model e) (facts.kind_of (el.value env model bodies e))
  kinds (t.eName n at) u h = name_agrees (entity_of env n at) u
  kinds (t.eNumber w f at) u h = refl
  kinds (t.eLetter w at) u h = refl
  kinds (t.eParen a e b) u h = kinds e u h
  kinds (t.eCall f a es b) u h = let g = fits env model bodies takes (t.eCall f a es b) u h in call_agrees f a es _ g.0
  kinds (t.eIndex a x i y) u h = element_agrees model (type_of env model a)
  kinds (t.ePostfix e c at) u h = of_kind (type_of env model e) (stepped_kind at e h)
  kinds (t.ePrefix pre.Increment at e) u h = of_kind (type_of env model e) (stepped_kind at e h)
  kinds (t.ePrefix pre.Decrement at e) u h = of_kind (type_of env model e) (stepped_kind at e h)
  kinds (t.ePrefix pre.Plus at e) u h = promoted_agrees model (type_of env model e)
  kinds (t.ePrefix pre.Minus at e) u h = promoted_agrees model (type_of env model e)
  kinds (t.ePrefix pre.Complement at e) u h = promoted_agrees model (type_of env model e)
  kinds (t.ePrefix pre.Not at e) u h = refl
  kinds (t.ePrefix pre.Extension at e) u h = kinds e u (unless_parts (rules.faults env model bodies e) [] h)
  kinds (t.ePrefix pre.Sizeof at e) u h = refl
  kinds (t.eSizeof at a ws b) u h = refl
  kinds (t.eCast a ws b e) u h = cast_agrees (words_type env ws) _
  kinds (t.eBinary a op.AndAlso at b) u h = truth_agrees model op.AndAlso (type_of env model a) (type_of env model b) (λ k l. refl)
  kinds (t.eBinary a op.OrElse at b) u h = truth_agrees model op.OrElse (type_of env model a) (type_of env model b) (λ k l. refl)
  kinds (t.eBinary a o at b) u h = same_result model o (type_of env model a) (type_of env model b) (λ k l. refl)
  kinds (t.eCond c x a y b) u h = choice_agrees (arms_type model (type_of env model a) (type_of env model b)) _ _ _
  kinds (t.eAssign a to.Plain at b) u h = of_kind (type_of env model a) (assigned_kind a to.Plain at b h)
  kinds (t.eAssign a o at b) u h = of_kind (type_of env model a) (assigned_kind a o at b h)
  kinds (t.eComma t.no_parts) u h = tt
  kinds (t.eComma (t.parts_and es c e)) u h = kinds e u.1 (nil_right (rules.faults_of_parts env model bodies es) _ (unless_parts (rules.faults_of_parts env model bodies (t.parts_and es c e)) _ h))
