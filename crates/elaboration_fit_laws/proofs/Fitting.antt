-- Expressions that break no rule of names, types and calls fit.
use Rattle.std.proofs.Common.{◌≡◌, ℕ, zero, suc, Bool, true, false, ◌&&◌, ◌||◌, not, if◌then◌else◌, List, [], ◌∷◌, ◌++◌, length, ◌<◌, ◌+◌, Option, None, Some, bytes_eq, refl, ap, sym, ◌∙◌, subst, arith}
use Rattle.std.specs.Prelude.{position, nat_eq, cond}
use Rattle.std.specs.List.{list_any, prefix_len}
use Rattle.std.proofs.lemmas.Bool.{eqb-true, lt-ltb}
use Rattle.lv_base.specs.declared.kind.Kind.{Kind}
use Rattle.lv_base.specs.declared.kind.Model.{Model}
use Rattle.lv_base.specs.declared.fault.SourceFault.{SourceFault}
use Rattle.c_tree.specs.declared.known.Typing.{Typing}
use Rattle.c_tree.specs.declared.known.Typing.TheVariants as ty
use Rattle.c_tree.specs.declared.tree.PrefixOp.TheVariants as pre
use Rattle.c_tree.specs.Tree as t
use Rattle.c_run.specs.Breaking.{Broken, line}
use Rattle.c_meaning.specs.Kinds.{CType, tKind, tVoid, tArray, tFunction, tNone, is_kind, is_array, is_void, result_type}
use Rattle.c_meaning.specs.Tokens.{count_parts}
use Rattle.c_meaning.specs.Bindings.{Env, Entity, anObjectOf, aFunctionOf, aConstantOf, aTypeOf, aTagOf, aNameOf, nothingOf, Object, entity_of, object_number, entity_type, words_type, or_typing, typing_type, named_in, typing_of}
use Rattle.c_meaning.specs.Known.{Known, known_of}
use Rattle.c_meaning.specs.Types.{type_of, type_of_last, called_type, element_type, binary_type, arms_type, promoted_type}
use Rattle.c_meaning.specs.Value.{base_of}
use Rattle.c_meaning.specs.Jumps.{object_in}
use Rattle.c_meaning.specs.Rules as rules
use Rattle.c_types.specs.Fit.{AreNone, IsThere, NumberFits, EntityFits, NameFits, Fits, AllFit}
use Rattle.control_laws.specs.Aims.{Aims, AllAim}
use Rattle.elaboration_fit_laws.specs.Laws.{IsNoName, Unnamed, AllUnnamed, KnownTakeNone, ExpressionsFit}

-- ---- Lists and truth values

pub nil_left : {A : Type 0} (xs ys : List A) → xs ++ ys ≡ [] → xs ≡ []
nil_left [] ys h = refl
nil_left (x ∷ xs) ys h = cc

pub nil_right : {A : Type 0} (xs ys : List A) → xs ++ ys ≡ [] → ys ≡ []
nil_right [] ys h = h
nil_right (x ∷ xs) ys h = cc

pub line_holds : (b : Bool) (f : SourceFault) (at : ℕ) → line b f at ≡ [] → b ≡ false
line_holds true f at h = cc
line_holds false f at h = refl

pub not_false : (b : Bool) → not b ≡ false → b ≡ true
not_false true h = refl
not_false false h = cc

pub and_left : (a b : Bool) → a && b ≡ true → a ≡ true
and_left true b h = refl
and_left false b h = cc

pub and_right : (a b : Bool) → a && b ≡ true → b ≡ true
and_right true b h = h
and_right false b h = cc

blocked : (b : Bool) (xs : List Broken) → b ≡ false → (if b then [] else xs) ≡ xs
blocked true xs h = cc
blocked false xs h = refl

-- lines are tried where no part is broken
pub unless_parts : (parts lines : List Broken) → rules.unless parts lines ≡ [] → parts ≡ []
unless_parts parts lines h = nil_left parts _ h

pub unless_lines : (parts lines : List Broken) → rules.unless parts lines ≡ [] → lines ≡ []
unless_lines [] lines h = h
unless_lines (x ∷ xs) lines h = cc

-- ---- Types

pub kind_no_array : (k : CType) → is_kind k ≡ true → is_array k ≡ true → ⊥
kind_no_array (tKind k) h a = cc
kind_no_array tVoid h a = cc
kind_no_array (tArray k n) h a = cc
kind_no_array (tFunction r ps) h a = cc
kind_no_array tNone h a = cc

pub void_no_array : (k : CType) → is_kind k || is_void k ≡ true → is_array k ≡ true → ⊥
void_no_array (tKind k) h a = cc
void_no_array tVoid h a = cc
void_no_array (tArray k n) h a = cc
void_no_array (tFunction r ps) h a = cc
void_no_array tNone h a = cc

pub result_no_array : (r : Option Kind) → is_array (result_type r) ≡ true → ⊥
result_no_array None a = cc
result_no_array (Some k) a = cc

pub called_no_array : (k : CType) → is_array (called_type k) ≡ true → ⊥
called_no_array (tKind k) a = cc
called_no_array tVoid a = cc
called_no_array (tArray k n) a = cc
called_no_array (tFunction r ps) a = result_no_array r a
called_no_array tNone a = cc

pub element_no_array : (k : CType) → is_array (element_type k) ≡ true → ⊥
element_no_array (tKind k) a = cc
element_no_array tVoid a = cc
element_no_array (tArray k n) a = cc
element_no_array (tFunction r ps) a = cc
element_no_array tNone a = cc

pub promoted_no_array : (k : CType) → is_array (promoted_type k) ≡ true → ⊥
promoted_no_array (tKind k) a = cc
promoted_no_array tVoid a = cc
promoted_no_array (tArray k n) a = cc
promoted_no_array (tFunction r ps) a = cc
promoted_no_array tNone a = cc

pub typing_no_array : (u : Typing) → is_array (typing_type u) ≡ true → ⊥
typing_no_array ty.Untyped a = cc
typing_no_array ty.Void a = cc
typing_no_array ty.Bool a = cc
typing_no_array ty.Named a = cc
typing_no_array (ty.Basic s z i) a = cc

pub words_no_array : (k : Option Kind) (u : Typing) → is_array (or_typing k u) ≡ true → ⊥
words_no_array None u a = typing_no_array u a
words_no_array (Some k) u a = cc

module _ (model : Model) where
  pub binary_no_array : (o : _) (k l : CType) → is_array (binary_type model o k l) ≡ true → ⊥
  binary_no_array o (tKind k) (tKind l) a = cc
  binary_no_array o (tKind k) tVoid a = cc
  binary_no_array o (tKind k) (tArray l n) a = cc
  binary_no_array o (tKind k) (tFunction r ps) a = cc
  binary_no_array o (tKind k) tNone a = cc
  binary_no_array o tVoid l a = cc
  binary_no_array o (tArray k n) l a = cc
  binary_no_array o (tFunction r ps) l a = cc
  binary_no_array o tNone l a = cc

  pub arms_no_array : (k l : CType) → is_array (arms_type model k l) ≡ true → ⊥
  arms_no_array (tKind k) (tKind l) a = cc
  arms_no_array (tKind k) tVoid a = cc
  arms_no_array (tKind k) (tArray l n) a = cc
  arms_no_array (tKind k) (tFunction r ps) a = cc
  arms_no_array (tKind k) tNone a = cc
  arms_no_array tVoid (tKind l) a = cc
  arms_no_array tVoid tVoid a = cc
  arms_no_array tVoid (tArray l n) a = cc
  arms_no_array tVoid (tFunction r ps) a = cc
  arms_no_array tVoid tNone a = cc
  arms_no_array (tArray k n) l a = cc
  arms_no_array (tFunction r ps) l a = cc
  arms_no_array tNone l a = cc

-- an array is an object
array_there : (env : Env) (x : Entity) → is_array (entity_type env x) ≡ true → IsThere (object_number x)
array_there env (anObjectOf n) a = tt
array_there env (aFunctionOf r ps) a = cc
array_there env (aConstantOf v) a = cc
array_there env (aTypeOf k c) a = cc
array_there env (aTagOf k) a = cc
array_there env (aNameOf k c) a = cc
array_there env nothingOf a = cc

object_there : (x : Entity) → rules.is_object_name x ≡ true → IsNoName x → IsThere (object_number x)
object_there (anObjectOf n) h u = tt
object_there (aFunctionOf r ps) h u = cc
object_there (aConstantOf v) h u = cc
object_there (aTypeOf k c) h u = cc
object_there (aTagOf k) h u = cc
object_there (aNameOf k c) h u = absurd u
object_there nothingOf h u = cc

-- ---- Calls

none_where_zero : (es : t.Parts) → count_parts es ≡ 0 → AreNone es
none_where_zero t.no_parts h = tt
none_where_zero (t.parts_and es c e) h = absurd (omega (arith, h))

shorter_by : (b : Bool) (rest : Bool) (n m : ℕ) → b || rest ≡ true → (rest ≡ true → n < m) → cond (not b) (1 + n) 0 < suc m
shorter_by true rest n m h k = omega arith
shorter_by false rest n m h k = let l : n < m = k h in omega (arith, l)

shorter : (p : List ℕ → Bool) (xs : List (List ℕ)) → list_any p xs ≡ true → prefix_len (λ x. not (p x)) xs < length xs
shorter p [] h = cc
shorter p (x ∷ xs) h = shorter_by (p x) (list_any p xs) (prefix_len (λ y. not (p y)) xs) (length xs) h (λ k. shorter p xs k)

there_if : (b : Bool) (k : ℕ) → b ≡ true → IsThere (cond b (Some k) None)
there_if true k h = tt
there_if false k h = cc

place_there : (p : List ℕ → Bool) (xs : List (List ℕ)) → list_any p xs ≡ true → IsThere (position p xs)
place_there p xs h = there_if _ _ (lt-ltb (prefix_len (λ x. not (p x)) xs) (length xs) (shorter p xs h))

callable_there : (k : Option Known) (bodies : List (List ℕ)) (n : List ℕ) → k ≡ None → list_any (λ m. bytes_eq m n) bodies || not (rules.is_none k) ≡ true → list_any (λ m. bytes_eq m n) bodies ≡ true
callable_there None bodies n e h = or_none (list_any (λ m. bytes_eq m n) bodies) h
  where
    or_none : (b : Bool) → b || false ≡ true → b ≡ true
    or_none true h = refl
    or_none false h = cc
callable_there (Some k) bodies n e h = cc

module _ (env : Env) (model : Model) (bodies : List (List ℕ)) (known : KnownTakeNone env) where
  number_fits : (k : Option Known) (n : List ℕ) (at : ℕ) (r : Option Kind) (ps : List Kind) (es : t.Parts) → known_of n ≡ k → entity_of env n at ≡ aFunctionOf r ps → length ps ≡ count_parts es →
      list_any (λ m. bytes_eq m n) bodies || not (rules.is_none k) ≡ true → NumberFits env bodies k n es
  number_fits (Some k) n at r ps es e x l h = none_where_zero es (sym l ∙ known n at k r ps e x)
  number_fits None n at r ps es e x l h = place_there (λ m. bytes_eq m n) bodies (callable_there None bodies n refl h)

  entity_fits : (x : Entity) (n : List ℕ) (at : ℕ) (es : t.Parts) → entity_of env n at ≡ x → rules.takes env model bodies x (count_parts es) && rules.is_callable env model bodies n ≡ true → EntityFits env bodies x n es
  entity_fits (aFunctionOf r ps) n at es e h =
      number_fits (known_of n) n at r ps es refl e (eqb-true (length ps) (count_parts es) (and_left (nat_eq (length ps) (count_parts es)) (rules.is_callable env model bodies n) h)) (and_right (nat_eq (length ps) (count_parts es)) (rules.is_callable env model bodies n) h)
  entity_fits (anObjectOf m) n at es e h = cc
  entity_fits (aConstantOf v) n at es e h = cc
  entity_fits (aTypeOf k c) n at es e h = cc
  entity_fits (aTagOf k) n at es e h = cc
  entity_fits (aNameOf k c) n at es e h = cc
  entity_fits nothingOf n at es e h = cc

  name_fits : (f : t.Ex) (bracket : ℕ) (es : t.Parts) → rules.call_line env model bodies f bracket (count_parts es) ≡ [] → NameFits env bodies f es
  name_fits (t.eName n at) bracket es h = entity_fits (entity_of env n at) n at es refl (not_false _ (line_holds _ _ _ h))
  name_fits f bracket es h = cc

  -- ---- Targets

  pub target_no_array : (e : t.Ex) → rules.is_target env model bodies e ≡ true → is_array (type_of env model e) ≡ true → ⊥
  target_no_array (t.eName n at) h a = kind_no_array (entity_type env (entity_of env n at)) (and_right (rules.is_object_name (entity_of env n at)) (is_kind (entity_type env (entity_of env n at))) h) a
  target_no_array (t.eIndex b x i y) h a = element_no_array (type_of env model b) a
  target_no_array (t.eParen x e y) h a = target_no_array e h a
  target_no_array (t.ePrefix pre.Extension at e) h a = target_no_array e h a
  target_no_array e h a = cc

  target_there : (e : t.Ex) → rules.is_target env model bodies e ≡ true → Unnamed env e → Fits env bodies e → IsThere (object_in env e)
  target_there (t.eName n at) h u f = object_there (entity_of env n at) (and_left (rules.is_object_name (entity_of env n at)) (is_kind (entity_type env (entity_of env n at))) h) u
  target_there (t.eIndex b x i y) h u f = f.0
  target_there (t.eParen x e y) h u f = target_there e h u f
  target_there (t.ePrefix pre.Extension at e) h u f = target_there e h u f
  target_there e h u f = cc

  pub is_target_of : (at : ℕ) (e : t.Ex) → rules.target_lines env model bodies at e ≡ [] → rules.is_target env model bodies e ≡ true
  is_target_of at e h = not_false _ (line_holds _ _ _ (nil_left _ _ h))

  -- ---- Arrays

  base_there : (e : t.Ex) → rules.faults env model bodies e ≡ [] → is_array (type_of env model e) ≡ true → IsThere (base_of env e)
  base_there (t.eName n at) h a = array_there env (entity_of env n at) a
  base_there (t.eNumber v form at) h a = cc
  base_there (t.eLetter v at) h a = cc
  base_there (t.eParen x e y) h a = base_there e h a
  base_there (t.eCall f x es y) h a = absurd (called_no_array (type_of env model f) a)
  base_there (t.eIndex b x i y) h a = absurd (element_no_array (type_of env model b) a)
  base_there (t.ePostfix e c at) h a = absurd (target_no_array e (is_target_of at e (unless_lines (rules.faults env model bodies e) _ h)) a)
  base_there (t.ePrefix pre.Increment at e) h a = absurd (target_no_array e (is_target_of at e (unless_lines (rules.faults env model bodies e) _ h)) a)
  base_there (t.ePrefix pre.Decrement at e) h a = absurd (target_no_array e (is_target_of at e (unless_lines (rules.faults env model bodies e) _ h)) a)
  base_there (t.ePrefix pre.Plus at e) h a = absurd (promoted_no_array (type_of env model e) a)
  base_there (t.ePrefix pre.Minus at e) h a = absurd (promoted_no_array (type_of env model e) a)
  base_there (t.ePrefix pre.Complement at e) h a = absurd (promoted_no_array (type_of env model e) a)
  base_there (t.ePrefix pre.Not at e) h a = cc
  base_there (t.ePrefix pre.Extension at e) h a = base_there e (unless_parts (rules.faults env model bodies e) [] h) a
  base_there (t.ePrefix pre.Sizeof at e) h a = cc
  base_there (t.eSizeof at x ws y) h a = cc
  base_there (t.eCast x ws y e) h a = absurd (words_no_array (named_in env ws) (typing_of ws) a)
  base_there (t.eBinary x o at y) h a = absurd (binary_no_array model o (type_of env model x) (type_of env model y) a)
  base_there (t.eCond c q x r y) h a = absurd (arms_no_array model (type_of env model x) (type_of env model y) a)
  base_there (t.eAssign x o at y) h a =
      absurd (target_no_array x (is_target_of at x (nil_left _ _ (unless_lines (rules.faults env model bodies x ++ rules.faults env model bodies y) _ h))) a)
  base_there (t.eComma t.no_parts) h a = cc
  base_there (t.eComma (t.parts_and es c e)) h a = absurd (void_no_array (type_of env model e) (not_false _ (line_holds _ _ _ (unless_lines (rules.faults_of_parts env model bodies (t.parts_and es c e)) _ h))) a)

  -- ---- Expressions

  mutual
    pub fits : (e : t.Ex) → Unnamed env e → rules.faults env model bodies e ≡ [] → Fits env bodies e
    fits (t.eName n at) u h = tt
    fits (t.eNumber v form at) u h = tt
    fits (t.eLetter v at) u h = tt
    fits (t.eParen x e y) u h = fits e u h
    fits (t.eCall f x es y) u h = (
      name_fits f x es (nil_left _ _ (unless_lines (rules.faults env model bodies f ++ rules.faults_of_parts env model bodies es) _ h)),
      all_fit es u.1 (nil_right (rules.faults env model bodies f) _ (unless_parts (rules.faults env model bodies f ++ rules.faults_of_parts env model bodies es) _ h)),
    )
    fits (t.eIndex b x i y) u h = (
      base_there b (nil_left _ _ (unless_parts (rules.faults env model bodies b ++ rules.faults env model bodies i) _ h))
          (not_false _ (line_holds _ _ _ (nil_left _ _ (unless_lines (rules.faults env model bodies b ++ rules.faults env model bodies i) _ h)))),
      fits i u.1 (nil_right (rules.faults env model bodies b) _ (unless_parts (rules.faults env model bodies b ++ rules.faults env model bodies i) _ h)),
    )
    fits (t.ePostfix e c at) u h = fits e u (unless_parts (rules.faults env model bodies e) _ h)
    fits (t.ePrefix pre.Increment at e) u h = fits e u (unless_parts (rules.faults env model bodies e) _ h)
    fits (t.ePrefix pre.Decrement at e) u h = fits e u (unless_parts (rules.faults env model bodies e) _ h)
    fits (t.ePrefix pre.Plus at e) u h = fits e u (unless_parts (rules.faults env model bodies e) _ h)
    fits (t.ePrefix pre.Minus at e) u h = fits e u (unless_parts (rules.faults env model bodies e) _ h)
    fits (t.ePrefix pre.Complement at e) u h = fits e u (unless_parts (rules.faults env model bodies e) _ h)
    fits (t.ePrefix pre.Not at e) u h = fits e u (unless_parts (rules.faults env model bodies e) _ h)
    fits (t.ePrefix pre.Extension at e) u h = fits e u (unless_parts (rules.faults env model bodies e) _ h)
    fits (t.ePrefix pre.Sizeof at e) u h = tt
    fits (t.eSizeof at x ws y) u h = tt
    fits (t.eCast x ws y e) u h = fits e u (nil_right (rules.faults_of_words env model bodies ws) _ (unless_parts (rules.faults_of_words env model bodies ws ++ rules.faults env model bodies e) _ h))
    fits (t.eBinary x o at y) u h =
        let p = unless_parts (rules.faults env model bodies x ++ rules.faults env model bodies y) _ h in
        (fits x u.0 (nil_left _ _ p), fits y u.1 (nil_right (rules.faults env model bodies x) _ p))
    fits (t.eCond c q x r y) u h =
        let p = unless_parts (rules.faults env model bodies c ++ rules.faults env model bodies x ++ rules.faults env model bodies y) _ h in
        let l = nil_left (rules.faults env model bodies c ++ rules.faults env model bodies x) _ p in
        (fits c u.0 (nil_left _ _ l), fits x u.1 (nil_right (rules.faults env model bodies c) _ l), fits y u.2 (nil_right (rules.faults env model bodies c ++ rules.faults env model bodies x) _ p))
    fits (t.eAssign x o at y) u h =
        let p = unless_parts (rules.faults env model bodies x ++ rules.faults env model bodies y) _ h in
        (fits x u.0 (nil_left _ _ p), fits y u.1 (nil_right (rules.faults env model bodies x) _ p))
    fits (t.eComma es) u h = all_fit es u (unless_parts (rules.faults_of_parts env model bodies es) _ h)

    pub all_fit : (es : t.Parts) → AllUnnamed env es → rules.faults_of_parts env model bodies es ≡ [] → AllFit env bodies es
    all_fit t.no_parts u h = tt
    all_fit (t.parts_and es c e) u h = (all_fit es u.0 (nil_left _ _ h), fits e u.1 (nil_right (rules.faults_of_parts env model bodies es) _ h))

  target_of : (e : t.Ex) (at : ℕ) → Unnamed env e → rules.unless (rules.faults env model bodies e) (rules.target_lines env model bodies at e) ≡ [] → IsThere (object_in env e)
  target_of e at u h = target_there e (is_target_of at e (unless_lines (rules.faults env model bodies e) _ h)) u (fits e u (unless_parts (rules.faults env model bodies e) _ h))

  mutual
    pub aims : (e : t.Ex) → Unnamed env e → rules.faults env model bodies e ≡ [] → Aims env e
    aims (t.eName n at) u h = tt
    aims (t.eNumber v form at) u h = tt
    aims (t.eLetter v at) u h = tt
    aims (t.eParen x e y) u h = aims e u h
    aims (t.eCall f x es y) u h = all_aim es u.1 (nil_right (rules.faults env model bodies f) _ (unless_parts (rules.faults env model bodies f ++ rules.faults_of_parts env model bodies es) _ h))
    aims (t.eIndex b x i y) u h = aims i u.1 (nil_right (rules.faults env model bodies b) _ (unless_parts (rules.faults env model bodies b ++ rules.faults env model bodies i) _ h))
    aims (t.ePostfix e c at) u h = (target_of e at u h, aims e u (unless_parts (rules.faults env model bodies e) _ h))
    aims (t.ePrefix pre.Increment at e) u h = (target_of e at u h, aims e u (unless_parts (rules.faults env model bodies e) _ h))
    aims (t.ePrefix pre.Decrement at e) u h = (target_of e at u h, aims e u (unless_parts (rules.faults env model bodies e) _ h))
    aims (t.ePrefix pre.Plus at e) u h = aims e u (unless_parts (rules.faults env model bodies e) _ h)
    aims (t.ePrefix pre.Minus at e) u h = aims e u (unless_parts (rules.faults env model bodies e) _ h)
    aims (t.ePrefix pre.Complement at e) u h = aims e u (unless_parts (rules.faults env model bodies e) _ h)
    aims (t.ePrefix pre.Not at e) u h = aims e u (unless_parts (rules.faults env model bodies e) _ h)
    aims (t.ePrefix pre.Extension at e) u h = aims e u (unless_parts (rules.faults env model bodies e) _ h)
    aims (t.ePrefix pre.Sizeof at e) u h = tt
    aims (t.eSizeof at x ws y) u h = tt
    aims (t.eCast x ws y e) u h = aims e u (nil_right (rules.faults_of_words env model bodies ws) _ (unless_parts (rules.faults_of_words env model bodies ws ++ rules.faults env model bodies e) _ h))
    aims (t.eBinary x o at y) u h =
        let p = unless_parts (rules.faults env model bodies x ++ rules.faults env model bodies y) _ h in
        (aims x u.0 (nil_left _ _ p), aims y u.1 (nil_right (rules.faults env model bodies x) _ p))
    aims (t.eCond c q x r y) u h =
        let p = unless_parts (rules.faults env model bodies c ++ rules.faults env model bodies x ++ rules.faults env model bodies y) _ h in
        let l = nil_left (rules.faults env model bodies c ++ rules.faults env model bodies x) _ p in
        (aims c u.0 (nil_left _ _ l), aims x u.1 (nil_right (rules.faults env model bodies c) _ l), aims y u.2 (nil_right (rules.faults env model bodies c ++ rules.faults env model bodies x) _ p))
    aims (t.eAssign x o at y) u h =
        let p = unless_parts (rules.faults env model bodies x ++ rules.faults env model bodies y) _ h in
        let q = nil_left _ _ p in (
          target_there x (is_target_of at x (nil_left _ _ (unless_lines (rules.faults env model bodies x ++ rules.faults env model bodies y) _ h))) u.0 (fits x u.0 q),
          aims x u.0 q,
          aims y u.1 (nil_right (rules.faults env model bodies x) _ p),
        )
    aims (t.eComma es) u h = all_aim es u (unless_parts (rules.faults_of_parts env model bodies es) _ h)

    pub all_aim : (es : t.Parts) → AllUnnamed env es → rules.faults_of_parts env model bodies es ≡ [] → AllAim env es
    all_aim t.no_parts u h = tt
    all_aim (t.parts_and es c e) u h = (all_aim es u.0 (nil_left _ _ h), aims e u.1 (nil_right (rules.faults_of_parts env model bodies es) _ h))

pub expressions_fit_is : ExpressionsFit
expressions_fit_is env model bodies known e u h = (fits env model bodies known e u h, aims env model bodies known e u h)
