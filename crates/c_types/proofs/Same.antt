-- The run of the typed tree is the run of the source.
use Rattle.std.proofs.Common.{◌≡◌, ℕ, Bool, true, false, List, Option, Some, None, ℤ, pos, slice_get, slice_index_or, position, bytes_eq, refl, ap, ◌∙◌}
use mathlib.Core.Path.{fun_ext}
use Rattle.lv_base.specs.declared.kind.Kind.{Kind}
use Rattle.lv_base.specs.declared.kind.Kind.TheVariants as kind
use Rattle.lv_base.specs.declared.kind.Model.{Model}
use Rattle.c_tree.specs.declared.symbol.BinaryOp.TheVariants as op
use Rattle.c_tree.specs.declared.symbol.AssignOp.TheVariants as to
use Rattle.c_tree.specs.declared.symbol.Crement.TheVariants as by
use Rattle.c_tree.specs.declared.tree.PrefixOp.TheVariants as pre
use Rattle.c_tree.specs.Tree.{Ex, eName, eNumber, eLetter, eParen, eCall, eIndex, ePostfix, ePrefix, eSizeof, eCast, eBinary, eCond, eAssign, eComma, Parts, no_parts, parts_and}
use Rattle.c_run.specs.Run.{Got, Value, Stop, Run, give, after, ◌>>=◌, ◌>>◌, choose, read, write, located, Compute, is_true}
use Rattle.c_run.specs.Operators.{Use, used, dropped}
use Rattle.c_run.specs.Loops.{Calls}
use Rattle.c_run.specs.Operators.{assigned_op}
use Rattle.c_meaning.specs.Tokens.{count_parts}
use Rattle.c_meaning.specs.Kinds.{promoted, operation_kind, right_kind, CType, tKind, tVoid, tArray, tFunction, tNone, as_type}
use Rattle.c_meaning.specs.Bindings.{Env, Entity, anObjectOf, aFunctionOf, aConstantOf, Object, entity_of, object_number, count_of, words_type}
use Rattle.c_meaning.specs.Known.{Known, reaches, aborts, draws, known_of}
use Rattle.c_meaning.specs.Types.{type_of}
use Rattle.c_meaning.specs.Value.{stepped, Context, value, drop_values, target_of, named_value, element_at, target_at, call_named, call_known, call_body, call_of, cast_to, arguments, parameters_of, entity_parameters, base_of, to_kind, kind_at}
use Rattle.c_typed.specs.Tree.{Val, Vals, Goal, vConvert}
use Rattle.c_typed.specs.Tree as t
use Rattle.c_typed.specs.Run as typed
use Rattle.c_types.specs.Elaborated as elab
use Rattle.c_types.specs.Fit.{IsThere, NumberFits, EntityFits, NameFits, Fits, AllFit}

-- ---- One run after another

pub binds_same : {A B : Type 0} (m m' : Run A) (f f' : A → Run B) → m ≡ m' → ((v : A) → f v ≡ f' v) → (m >>= f) ≡ (m' >>= f')
binds_same m m' f f' p h = ap (λ x. x >>= f) p ∙ ap (λ g. m' >>= g) (fun_ext h)

pub nexts_same : {A B : Type 0} (m m' : Run A) (f f' : Run B) → m ≡ m' → f ≡ f' → (m >> f) ≡ (m' >> f')
nexts_same m m' f f' p q = ap (λ x. x >> f) p ∙ ap (λ g. m' >> g) q

after_after : {A B C : Type 0} (g : Got A) (f : A → Run B) (h : B → Run C) → after (after g f) h ≡ after g (λ v st. after (f v st) h)
after_after (Value v st) f h = refl
after_after (Stop e) f h = refl

-- a value that is changed, and then goes on
pub changed : {A B C : Type 0} (m : Run A) (f : A → Run B) (h : B → Run C) → ((m >>= f) >>= h) ≡ (m >>= (λ v. f v >>= h))
changed m f h = fun_ext (λ st. after_after (m st) f h)

-- a first run that is the same
pub behind : {A B : Type 0} (m : Run A) (f f' : A → Run B) → ((v : A) → f v ≡ f' v) → (m >>= f) ≡ (m >>= f')
behind m f f' h = ap (λ g. m >>= g) (fun_ext h)

after_give : {A : Type 0} (g : Got A) → after g give ≡ g
after_give (Value v st) = refl
after_give (Stop e) = refl

pub given : {A : Type 0} (m : Run A) → (m >>= give) ≡ m
given m = fun_ext (λ st. after_give (m st))

module _ (env : Env) (model : Model) (bodies : List (List ℕ)) (objects : List t.Object) (compute : Compute) (inputs : List ℤ) (call : Calls)
    (counts : (n : ℕ) → typed.count_of model objects compute inputs call n ≡ count_of env n) where
  abbrev pub c : Context
  c = record { env = env; model = model; compute = compute; inputs = inputs; call = call; bodies = bodies }

  abbrev T : Use → Val → Run ℤ
  T u v = typed.value model objects compute inputs call u v

  abbrev E : Ex → Val
  E e = elab.value env model bodies e

  -- a converted value, and what comes of it
  converts : {B : Type 0} (k : Kind) (m m' : Run ℤ) (h h' : ℤ → Run B) → m ≡ m' → ((v : ℤ) → h (to_kind c k v) ≡ h' v) → ((m >>= (λ v. give (to_kind c k v))) >>= h) ≡ (m' >>= h')
  converts k m m' h h' p q = changed m (λ v. give (to_kind c k v)) h ∙ binds_same m m' (λ v. h (to_kind c k v)) h' p q

  by_length : (u : Use) (n : ℕ) (k : Kind) (l : Option ℕ) → T u (elab.scalar_or_array n k l) ≡ named_value c (anObjectOf n)
  by_length u n k None = refl
  by_length u n k (Some m) = refl

  object_same : (u : Use) (n : ℕ) (o : Option Object) → T u (elab.object_value n o) ≡ named_value c (anObjectOf n)
  object_same u n None = refl
  object_same u n (Some o) = by_length u n o.kind o.length

  named_same : (u : Use) (e : Entity) → T u (elab.named_value env e) ≡ named_value c e
  named_same u (anObjectOf n) = object_same u n (slice_get env.objects n)
  named_same u (aConstantOf v) = refl
  named_same u e = refl

  element_same : (at : ℕ) (b : Option ℕ) (v : ℤ) → IsThere b → located at (elab.or_none env b) (typed.count_of model objects compute inputs call (elab.or_none env b)) v ≡ element_at c at b v
  element_same at None v p = absurd p
  element_same at (Some o) v p = ap (λ n. located at o n v) (counts o)

  scalar_same : (o : Option ℕ) → typed.target_of model objects compute inputs call (t.gObject (elab.or_first o)) ≡ target_at c o
  scalar_same None = refl
  scalar_same (Some o) = refl

  cast_same : (u : Use) (ty : CType) (v : Val) (m n : Run ℤ) → T used v ≡ m → T dropped v ≡ n → T u (elab.cast_to ty v) ≡ cast_to c ty m n
  cast_same u (tKind k) v m n p q = ap (λ x. x >>= (λ w. give (to_kind c k w))) p
  cast_same u ty v m n p q = ap (λ x. x >> give (pos 0)) q

  chosen_same : (b : Bool) (k : Kind) (m n m' n' : Run ℤ) → m ≡ m' → n ≡ n' →
      (choose b (m >>= (λ v. give (to_kind c k v))) (n >>= (λ v. give (to_kind c k v))) >>= (λ r. give (typed.kept (Some k) r))) ≡ (choose b m' n' >>= (λ r. give (as_type model (tKind k) r)))
  chosen_same true k m n m' n' p q = given (m >>= (λ v. give (to_kind c k v))) ∙ ap (λ x. x >>= (λ v. give (to_kind c k v))) p
  chosen_same false k m n m' n' p q = given (n >>= (λ v. give (to_kind c k v))) ∙ ap (λ x. x >>= (λ v. give (to_kind c k v))) q

  either_same : (b : Bool) (m n m' n' : Run ℤ) → m ≡ m' → n ≡ n' → choose b m n ≡ choose b m' n'
  either_same true m n m' n' p q = p
  either_same false m n m' n' p q = q

  choice_same : (u : Use) (ty : CType) (x y z : Val) (l m n : Run ℤ) → T used x ≡ l → T used y ≡ m → T used z ≡ n →
      T u (elab.choice ty x y z) ≡ (l >>= (λ v. choose (is_true v) m n >>= (λ r. give (as_type model ty r))))
  choice_same u (tKind k) x y z l m n p q r = binds_same _ _ _ _ p (λ v. chosen_same (is_true v) k _ _ m n q r)
  choice_same u tVoid x y z l m n p q r = binds_same _ _ _ _ p (λ v. ap (λ w. w >>= (λ s. give (pos 0))) (either_same (is_true v) _ _ m n q r))
  choice_same u (tArray k i) x y z l m n p q r = binds_same _ _ _ _ p (λ v. ap (λ w. w >>= (λ s. give (pos 0))) (either_same (is_true v) _ _ m n q r))
  choice_same u (tFunction k i) x y z l m n p q r = binds_same _ _ _ _ p (λ v. ap (λ w. w >>= (λ s. give (pos 0))) (either_same (is_true v) _ _ m n q r))
  choice_same u tNone x y z l m n p q r = binds_same _ _ _ _ p (λ v. ap (λ w. w >>= (λ s. give (pos 0))) (either_same (is_true v) _ _ m n q r))

  -- ---- Calls

  known_same : (u : Use) (m : Option Known) (result : Option Kind) (ks : List Kind) (n : List ℕ) (at x : ℕ) (es : Parts) → NumberFits env bodies m n es →
      typed.values model objects compute inputs call (elab.arguments env model bodies ks es) ≡ arguments c ks es →
      T u (elab.called_known env model bodies m result n at x (elab.arguments env model bodies ks es)) ≡ (arguments c ks es >>= (λ vs. call_known c u at n result m vs))
  known_same u (Some reaches) result ks n at x no_parts p h = refl
  known_same u (Some aborts) result ks n at x no_parts p h = refl
  known_same u (Some (draws k)) (Some l) ks n at x no_parts p h = refl
  known_same u (Some (draws k)) None ks n at x no_parts p h = refl
  known_same u (Some m) result ks n at x (parts_and es y e) p h = absurd p
  known_same u None result ks n at x es p h = number_same u result ks n at x es (position (λ m. bytes_eq m n) bodies) p h
    where
      number_same : (u : Use) (result : Option Kind) (ks : List Kind) (n : List ℕ) (at x : ℕ) (es : Parts) (o : Option ℕ) → IsThere o →
          typed.values model objects compute inputs call (elab.arguments env model bodies ks es) ≡ arguments c ks es →
          T u (elab.called env model bodies result at x o (elab.arguments env model bodies ks es)) ≡ (arguments c ks es >>= (λ vs. call_body c u result at o vs))
      number_same u result ks n at x es None p h = absurd p
      number_same u result ks n at x es (Some f) p h = ap (λ m. m >>= (λ vs. call_body c u result at (Some f) vs)) h

  entity_same : (u : Use) (e : Entity) (n : List ℕ) (at x : ℕ) (es : Parts) → EntityFits env bodies e n es →
      ((ks : List Kind) → typed.values model objects compute inputs call (elab.arguments env model bodies ks es) ≡ arguments c ks es) →
      T u (elab.called_entity env model bodies e n at x (elab.arguments env model bodies (entity_parameters e) es)) ≡ (arguments c (entity_parameters e) es >>= (λ vs. call_named c u e at n vs))
  entity_same u (aFunctionOf result ks) n at x es p h = known_same u (known_of n) result ks n at x es p (h ks)
  entity_same u e n at x es p h = absurd p

  call_same : (u : Use) (f : Ex) (x : ℕ) (es : Parts) → NameFits env bodies f es →
      ((ks : List Kind) → typed.values model objects compute inputs call (elab.arguments env model bodies ks es) ≡ arguments c ks es) →
      T u (elab.called_name env model bodies f x (elab.arguments env model bodies (parameters_of env f) es)) ≡ (arguments c (parameters_of env f) es >>= (λ vs. call_of c u f vs))
  call_same u (eName n at) x es p h = entity_same u (entity_of env n at) n at x es p h
  call_same u f x es p h = absurd p

  -- ---- Expressions

  mutual
    pub value_same : (u : Use) (e : Ex) → Fits env bodies e → T u (E e) ≡ value c u e
    value_same u (eName n at) p = named_same u (entity_of env n at)
    value_same u (eNumber v f at) p = refl
    value_same u (eLetter v at) p = refl
    value_same u (eParen a e b) p = value_same u e p
    value_same u (eCall f a es b) p = call_same u f a es p.0 (λ ks. arguments_same ks es p.1)
    value_same u (eIndex a x i y) p = binds_same _ _ _ _ (value_same used i p.1) (λ v. ap (λ m. m >>= read) (element_same x (base_of env a) v p.0))
    value_same u (ePostfix e b at) p = binds_same _ _ _ _ (target_same e p) (λ g. refl)
    value_same u (ePrefix pre.Increment at e) p = binds_same _ _ _ _ (target_same e p) (λ g. behind (read g) (λ old. stepped c at by.Increment (kind_at c e) g old >>= give) (λ old. stepped c at by.Increment (kind_at c e) g old) (λ old. given (stepped c at by.Increment (kind_at c e) g old)))
    value_same u (ePrefix pre.Decrement at e) p = binds_same _ _ _ _ (target_same e p) (λ g. behind (read g) (λ old. stepped c at by.Decrement (kind_at c e) g old >>= give) (λ old. stepped c at by.Decrement (kind_at c e) g old) (λ old. given (stepped c at by.Decrement (kind_at c e) g old)))
    value_same u (ePrefix pre.Plus at e) p = binds_same _ _ _ _ (value_same used e p) (λ v. refl)
    value_same u (ePrefix pre.Minus at e) p = converts (promoted (kind_at c e)) (T used (E e)) (value c used e) _ _ (value_same used e p) (λ v. refl)
    value_same u (ePrefix pre.Complement at e) p = converts (promoted (kind_at c e)) (T used (E e)) (value c used e) _ _ (value_same used e p) (λ v. refl)
    value_same u (ePrefix pre.Not at e) p = binds_same _ _ _ _ (value_same used e p) (λ v. refl)
    value_same u (ePrefix pre.Extension at e) p = value_same u e p
    value_same u (ePrefix pre.Sizeof at e) p = refl
    value_same u (eSizeof at a ws b) p = refl
    value_same u (eCast a ws b e) p = cast_same u (words_type env ws) (E e) _ _ (value_same used e p) (value_same dropped e p)
    value_same u (eBinary a op.AndAlso at b) p = binds_same _ _ _ _ (value_same used a p.0) (λ x. either_same (is_true x) _ _ _ _ (binds_same _ _ _ _ (value_same used b p.1) (λ y. refl)) refl)
    value_same u (eBinary a op.OrElse at b) p = binds_same _ _ _ _ (value_same used a p.0) (λ x. either_same (is_true x) _ _ _ _ refl (binds_same _ _ _ _ (value_same used b p.1) (λ y. refl)))
    value_same u (eBinary a o at b) p =
        converts (operation_kind model o (kind_at c a) (kind_at c b)) (T used (E a)) (value c used a)
        (λ x. T used (vConvert (right_kind model o (kind_at c a) (kind_at c b)) (E b)) >>= (λ y. typed.applied model objects compute inputs call at o (operation_kind model o (kind_at c a) (kind_at c b)) x y)) _ (value_same used a p.0)
        (λ x. converts (right_kind model o (kind_at c a) (kind_at c b)) (T used (E b)) (value c used b)
        (λ y. typed.applied model objects compute inputs call at o (operation_kind model o (kind_at c a) (kind_at c b)) (to_kind c (operation_kind model o (kind_at c a) (kind_at c b)) x) y) _ (value_same used b p.1) (λ y. refl))
    value_same u (eCond s x a y b) p = choice_same u (type_of env model (eCond s x a y b)) (E s) (E a) (E b) _ _ _ (value_same used s p.0) (value_same used a p.1) (value_same used b p.2)
    value_same u (eAssign a to.Plain at b) p = binds_same _ _ _ _ (target_same a p.0) (λ g. converts (kind_at c a) (T used (E b)) (value c used b) _ _ (value_same used b p.1) (λ v. refl))
    value_same u (eAssign a o at b) p = binds_same _ _ _ _ (target_same a p.0) (λ g. behind (read g) _ _ (λ x. converts (right_kind model (assigned_op o) (kind_at c a) (kind_at c b)) (T used (E b)) (value c used b)
        (λ y. typed.applied model objects compute inputs call at (assigned_op o) (operation_kind model (assigned_op o) (kind_at c a) (kind_at c b)) (to_kind c (operation_kind model (assigned_op o) (kind_at c a) (kind_at c b)) x) y >>= (λ v. write g (to_kind c (kind_at c a) v))) _ (value_same used b p.1) (λ y. refl)))
    value_same u (eComma no_parts) p = refl
    value_same u (eComma (parts_and es x e)) p = nexts_same _ _ _ _ (drop_same es p.0) (value_same used e p.1)

    pub drop_same : (es : Parts) → AllFit env bodies es → typed.drop_values model objects compute inputs call (elab.values env model bodies es) ≡ drop_values c es
    drop_same no_parts p = refl
    drop_same (parts_and es x e) p = nexts_same _ _ _ _ (drop_same es p.0) (ap (λ m. m >> give tt) (value_same dropped e p.1))

    pub arguments_same : (ks : List Kind) (es : Parts) → AllFit env bodies es → typed.values model objects compute inputs call (elab.arguments env model bodies ks es) ≡ arguments c ks es
    arguments_same ks no_parts p = refl
    arguments_same ks (parts_and es x e) p = binds_same _ _ _ _ (arguments_same ks es p.0) (λ vs. converts (slice_index_or ks (count_parts es) kind.Int) (T used (E e)) (value c used e) _ _ (value_same used e p.1) (λ v. refl))

    pub target_same : (e : Ex) → Fits env bodies e → typed.target_of model objects compute inputs call (elab.goal env model bodies e) ≡ target_of c e
    target_same (eParen a e b) p = target_same e p
    target_same (ePrefix pre.Extension at e) p = target_same e p
    target_same (eName n at) p = scalar_same (object_number (entity_of env n at))
    target_same (eIndex a x i y) p = binds_same _ _ _ _ (value_same used i p.1) (λ v. element_same x (base_of env a) v p.0)
    target_same e p = refl
