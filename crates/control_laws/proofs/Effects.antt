-- What a typed value writes, reads and calls is what its expression does.
use Rattle.std.proofs.Common.{◌≡◌, ◌⊎◌, inl, inr, ℕ, List, [], ◌∷◌, ◌++◌, map, Option, None, Some, bytes_eq, refl, ap, sym, ◌∙◌}
use Rattle.std.proofs.lemmas.List.{map-append}
use Rattle.std.specs.Prelude.{position, slice_get}
use Rattle.lv_base.specs.declared.kind.Kind.{Kind}
use Rattle.lv_base.specs.declared.kind.Model.{Model}
use Rattle.c_tree.specs.declared.tree.PrefixOp.TheVariants as pre
use Rattle.c_tree.specs.declared.symbol.BinaryOp.TheVariants as op
use Rattle.c_tree.specs.declared.symbol.AssignOp.TheVariants as to
use Rattle.c_tree.specs.Tree as t
use Rattle.c_meaning.specs.Kinds.{CType, tKind, tVoid, tArray, tFunction, tNone}
use Rattle.c_meaning.specs.Bindings.{Env, Entity, anObjectOf, aFunctionOf, aConstantOf, aTypeOf, aTagOf, aNameOf, nothingOf, Object, entity_of, object_of, object_number, words_type}
use Rattle.c_meaning.specs.Known.{Known, reaches, aborts, draws, known_of}
use Rattle.c_meaning.specs.Types.{type_of}
use Rattle.c_meaning.specs.Value.{base_of, parameters_of}
use Rattle.c_meaning.specs.Jumps as source
use Rattle.c_typed.specs.Rules as typed
use Rattle.c_typed.specs.Tree as p
use Rattle.c_types.specs.Elaborated as elab
use Rattle.c_types.specs.Fit.{AreNone, IsThere, NumberFits, EntityFits, NameFits, Fits, AllFit}
use Rattle.control_laws.specs.Aims.{Aims, AllAim, KnownHaveNone}

-- the same call
abbrev pub same_call : source.Call → typed.Call
same_call c = record { at = c.at; to = c.to }

pub both : {A : Type 0} {xs ys zs ws : List A} → xs ≡ ys → zs ≡ ws → xs ++ zs ≡ ys ++ ws
both {A} {xs} {ys} {zs} {ws} e f = ap (λ x. x ++ zs) e ∙ ap (λ x. ys ++ x) f

pub three : {A : Type 0} {xs ys zs ws us vs : List A} → xs ≡ ys → zs ≡ ws → us ≡ vs → xs ++ zs ++ us ≡ ys ++ ws ++ vs
three e f g = both (both e f) g

-- ---- Objects

pub one_first : (o : Option ℕ) → IsThere o → source.one o ≡ elab.or_first o ∷ []
one_first None h = absurd h
one_first (Some n) h = refl

pub one_none : (env : Env) (o : Option ℕ) → IsThere o → source.one o ≡ elab.or_none env o ∷ []
one_none env None h = absurd h
one_none env (Some n) h = refl

reads_scalar : (number : ℕ) (k : Kind) (n : Option ℕ) → typed.reads (elab.scalar_or_array number k n) ≡ number ∷ []
reads_scalar number k None = refl
reads_scalar number k (Some n) = refl

reads_object : (number : ℕ) (o : Option Object) → typed.reads (elab.object_value number o) ≡ number ∷ []
reads_object number None = refl
reads_object number (Some o) = reads_scalar number o.kind o.length

reads_named : (env : Env) (e : Entity) → typed.reads (elab.named_value env e) ≡ source.one (object_number e)
reads_named env (anObjectOf number) = reads_object number (slice_get env.objects number)
reads_named env (aFunctionOf r ps) = refl
reads_named env (aConstantOf v) = refl
reads_named env (aTypeOf k c) = refl
reads_named env (aTagOf k) = refl
reads_named env (aNameOf k c) = refl
reads_named env nothingOf = refl

writes_scalar : (number : ℕ) (k : Kind) (n : Option ℕ) → typed.writes (elab.scalar_or_array number k n) ≡ []
writes_scalar number k None = refl
writes_scalar number k (Some n) = refl

writes_object : (number : ℕ) (o : Option Object) → typed.writes (elab.object_value number o) ≡ []
writes_object number None = refl
writes_object number (Some o) = writes_scalar number o.kind o.length

writes_named : (env : Env) (e : Entity) → typed.writes (elab.named_value env e) ≡ []
writes_named env (anObjectOf number) = writes_object number (slice_get env.objects number)
writes_named env (aFunctionOf r ps) = refl
writes_named env (aConstantOf v) = refl
writes_named env (aTypeOf k c) = refl
writes_named env (aTagOf k) = refl
writes_named env (aNameOf k c) = refl
writes_named env nothingOf = refl

calls_scalar : (number : ℕ) (k : Kind) (n : Option ℕ) → typed.calls (elab.scalar_or_array number k n) ≡ []
calls_scalar number k None = refl
calls_scalar number k (Some n) = refl

calls_object : (number : ℕ) (o : Option Object) → typed.calls (elab.object_value number o) ≡ []
calls_object number None = refl
calls_object number (Some o) = calls_scalar number o.kind o.length

calls_named : (env : Env) (e : Entity) → typed.calls (elab.named_value env e) ≡ []
calls_named env (anObjectOf number) = calls_object number (slice_get env.objects number)
calls_named env (aFunctionOf r ps) = refl
calls_named env (aConstantOf v) = refl
calls_named env (aTypeOf k c) = refl
calls_named env (aTagOf k) = refl
calls_named env (aNameOf k c) = refl
calls_named env nothingOf = refl

-- ---- Casts and choices

writes_cast : (k : CType) (v : p.Val) → typed.writes (elab.cast_to k v) ≡ typed.writes v
writes_cast (tKind k) v = refl
writes_cast tVoid v = refl
writes_cast (tArray k n) v = refl
writes_cast (tFunction r ps) v = refl
writes_cast tNone v = refl

reads_cast : (k : CType) (v : p.Val) → typed.reads (elab.cast_to k v) ≡ typed.reads v
reads_cast (tKind k) v = refl
reads_cast tVoid v = refl
reads_cast (tArray k n) v = refl
reads_cast (tFunction r ps) v = refl
reads_cast tNone v = refl

calls_cast : (k : CType) (v : p.Val) → typed.calls (elab.cast_to k v) ≡ typed.calls v
calls_cast (tKind k) v = refl
calls_cast tVoid v = refl
calls_cast (tArray k n) v = refl
calls_cast (tFunction r ps) v = refl
calls_cast tNone v = refl

writes_choice : (k : CType) (c a b : p.Val) → typed.writes (elab.choice k c a b) ≡ typed.writes c ++ typed.writes a ++ typed.writes b
writes_choice (tKind k) c a b = refl
writes_choice tVoid c a b = refl
writes_choice (tArray k n) c a b = refl
writes_choice (tFunction r ps) c a b = refl
writes_choice tNone c a b = refl

reads_choice : (k : CType) (c a b : p.Val) → typed.reads (elab.choice k c a b) ≡ typed.reads c ++ typed.reads a ++ typed.reads b
reads_choice (tKind k) c a b = refl
reads_choice tVoid c a b = refl
reads_choice (tArray k n) c a b = refl
reads_choice (tFunction r ps) c a b = refl
reads_choice tNone c a b = refl

calls_choice : (k : CType) (c a b : p.Val) → typed.calls (elab.choice k c a b) ≡ typed.calls c ++ typed.calls a ++ typed.calls b
calls_choice (tKind k) c a b = refl
calls_choice tVoid c a b = refl
calls_choice (tArray k n) c a b = refl
calls_choice (tFunction r ps) c a b = refl
calls_choice tNone c a b = refl

-- ---- Calls

-- a call of a function with a body
pub record IsCall (v : p.Val) (bracket : ℕ) (vs : p.Vals) (told : List source.Call) : Type 0 where
  pub result : Option Kind
  pub at : ℕ
  pub number : ℕ
  pub is : v ≡ p.vCall result at bracket number vs
  pub tells : told ≡ (record { at = at; to = number }) ∷ []

-- a call of what means something without one
pub record IsSilent (v : p.Val) (es : t.Parts) (told : List source.Call) : Type 0 where
  pub none : AreNone es
  pub writes : typed.writes v ≡ []
  pub reads : typed.reads v ≡ []
  pub calls : typed.calls v ≡ []
  pub unsequenced : typed.unsequenced v ≡ []
  pub tells : told ≡ []

drawn : (k : Kind) (r : Option Kind) (es : t.Parts) (told : List source.Call) → AreNone es → told ≡ [] → IsSilent (elab.drawn_as r (p.vDraw k)) es told
drawn k None es told h e = record { none = h; writes = refl; reads = refl; calls = refl; unsequenced = refl; tells = e }
drawn k (Some l) es told h e = record { none = h; writes = refl; reads = refl; calls = refl; unsequenced = refl; tells = e }

module _ (env : Env) (model : Model) (bodies : List (List ℕ)) (known : KnownHaveNone bodies) where
  number_told : (o : Option ℕ) (r : Option Kind) (at bracket : ℕ) (vs : p.Vals) → IsThere o → IsCall (elab.called env model bodies r at bracket o vs) bracket vs (source.calls_to at o)
  number_told None r at bracket vs h = absurd h
  number_told (Some f) r at bracket vs h = record { result = r; at = at; number = f; is = refl; tells = refl }

  known_told : (k : Option Known) (r : Option Kind) (n : List ℕ) (at bracket : ℕ) (es : t.Parts) (vs : p.Vals) → known_of n ≡ k → NumberFits env bodies k n es →
      IsCall (elab.called_known env model bodies k r n at bracket vs) bracket vs (source.calls_to at (position (λ m. bytes_eq m n) bodies))
      ⊎ IsSilent (elab.called_known env model bodies k r n at bracket vs) es (source.calls_to at (position (λ m. bytes_eq m n) bodies))
  known_told None r n at bracket es vs e h = inl (number_told (position (λ m. bytes_eq m n) bodies) r at bracket vs h)
  known_told (Some reaches) r n at bracket es vs e h = inr (record { none = h; writes = refl; reads = refl; calls = refl; unsequenced = refl; tells = ap (source.calls_to at) (known n reaches e) })
  known_told (Some aborts) r n at bracket es vs e h = inr (record { none = h; writes = refl; reads = refl; calls = refl; unsequenced = refl; tells = ap (source.calls_to at) (known n aborts e) })
  known_told (Some (draws k)) r n at bracket es vs e h = inr (drawn k r es _ h (ap (source.calls_to at) (known n (draws k) e)))

  entity_told : (x : Entity) (n : List ℕ) (at bracket : ℕ) (es : t.Parts) (vs : p.Vals) → EntityFits env bodies x n es →
      IsCall (elab.called_entity env model bodies x n at bracket vs) bracket vs (source.called env bodies x n at)
      ⊎ IsSilent (elab.called_entity env model bodies x n at bracket vs) es (source.called env bodies x n at)
  entity_told (aFunctionOf r ps) n at bracket es vs h = known_told (known_of n) r n at bracket es vs refl h
  entity_told (anObjectOf x) n at bracket es vs h = absurd h
  entity_told (aConstantOf v) n at bracket es vs h = absurd h
  entity_told (aTypeOf k c) n at bracket es vs h = absurd h
  entity_told (aTagOf k) n at bracket es vs h = absurd h
  entity_told (aNameOf k c) n at bracket es vs h = absurd h
  entity_told nothingOf n at bracket es vs h = absurd h

  pub call_told : (f : t.Ex) (bracket : ℕ) (es : t.Parts) (vs : p.Vals) → NameFits env bodies f es →
      IsCall (elab.called_name env model bodies f bracket vs) bracket vs (source.called_by env bodies f)
      ⊎ IsSilent (elab.called_name env model bodies f bracket vs) es (source.called_by env bodies f)
  call_told (t.eName n at) bracket es vs h = entity_told (entity_of env n at) n at bracket es vs h
  call_told f bracket es vs h = absurd h

  none_written : (es : t.Parts) → AreNone es → source.writes_of_parts env es ≡ []
  none_written t.no_parts h = refl
  none_written (t.parts_and es c e) h = absurd h

  none_read : (es : t.Parts) → AreNone es → source.reads_of_parts env es ≡ []
  none_read t.no_parts h = refl
  none_read (t.parts_and es c e) h = absurd h

  none_called : (es : t.Parts) → AreNone es → source.calls_in env bodies es ≡ []
  none_called t.no_parts h = refl
  none_called (t.parts_and es c e) h = absurd h

  call_writes : (v : p.Val) (bracket : ℕ) (vs : p.Vals) (told : List source.Call) (es : t.Parts) → IsCall v bracket vs told ⊎ IsSilent v es told →
      typed.writes_of_all vs ≡ source.writes_of_parts env es → typed.writes v ≡ source.writes_of_parts env es
  call_writes v bracket vs told es (inl c) h = ap typed.writes c.is ∙ h
  call_writes v bracket vs told es (inr c) h = c.writes ∙ sym (none_written es c.none)

  call_reads : (v : p.Val) (bracket : ℕ) (vs : p.Vals) (told : List source.Call) (es : t.Parts) → IsCall v bracket vs told ⊎ IsSilent v es told →
      typed.reads_of_all vs ≡ source.reads_of_parts env es → typed.reads v ≡ source.reads_of_parts env es
  call_reads v bracket vs told es (inl c) h = ap typed.reads c.is ∙ h
  call_reads v bracket vs told es (inr c) h = c.reads ∙ sym (none_read es c.none)

  call_calls : (v : p.Val) (bracket : ℕ) (vs : p.Vals) (told : List source.Call) (es : t.Parts) → IsCall v bracket vs told ⊎ IsSilent v es told →
      typed.calls_in vs ≡ map same_call (source.calls_in env bodies es) → typed.calls v ≡ map same_call (told ++ source.calls_in env bodies es)
  call_calls v bracket vs told es (inl c) h =
      ap typed.calls c.is ∙ ap (λ xs. (record { at = c.at; to = c.number }) ∷ xs) h ∙ ap (λ xs. map same_call (xs ++ source.calls_in env bodies es)) (sym c.tells)
  call_calls v bracket vs told es (inr c) h =
      c.calls ∙ sym (ap (λ xs. map same_call (xs ++ source.calls_in env bodies es)) c.tells ∙ ap (map same_call) (none_called es c.none))

  -- ---- What is written

  abbrev E : t.Ex → p.Val
  E e = elab.value env model bodies e

  abbrev G : t.Ex → p.Goal
  G e = elab.goal env model bodies e

  pub goal_object : (e : t.Ex) → IsThere (source.object_in env e) → Fits env bodies e → source.one (source.object_in env e) ≡ typed.object_in (G e) ∷ []
  goal_object (t.eName n at) h f = one_first (object_of env n at) h
  goal_object (t.eIndex a x i y) h f = one_none env (base_of env a) h
  goal_object (t.eParen a e b) h f = goal_object e h f
  goal_object (t.ePrefix pre.Extension at e) h f = goal_object e h f
  goal_object e h f = absurd h

  mutual
    pub writes_same : (e : t.Ex) → Fits env bodies e → Aims env e → typed.writes (E e) ≡ source.writes env e
    writes_same (t.eName n at) f a = writes_named env (entity_of env n at)
    writes_same (t.eNumber v form at) f a = refl
    writes_same (t.eLetter v at) f a = refl
    writes_same (t.eParen x e y) f a = writes_same e f a
    writes_same (t.eCall g x es y) f a =
        call_writes _ x (elab.arguments env model bodies (parameters_of env g) es) _ es (call_told g x es (elab.arguments env model bodies (parameters_of env g) es) f.0) (writes_arguments (parameters_of env g) es f.1 a)
    writes_same (t.eIndex b x i y) f a = writes_same i f.1 a
    writes_same (t.ePostfix e c at) f a = writes_target e f a.0 a.1
    writes_same (t.ePrefix pre.Increment at e) f a = writes_target e f a.0 a.1
    writes_same (t.ePrefix pre.Decrement at e) f a = writes_target e f a.0 a.1
    writes_same (t.ePrefix pre.Plus at e) f a = writes_same e f a
    writes_same (t.ePrefix pre.Minus at e) f a = writes_same e f a
    writes_same (t.ePrefix pre.Complement at e) f a = writes_same e f a
    writes_same (t.ePrefix pre.Not at e) f a = writes_same e f a
    writes_same (t.ePrefix pre.Extension at e) f a = writes_same e f a
    writes_same (t.ePrefix pre.Sizeof at e) f a = refl
    writes_same (t.eSizeof at x ws y) f a = refl
    writes_same (t.eCast x ws y e) f a = writes_cast (words_type env ws) (E e) ∙ writes_same e f a
    writes_same (t.eBinary x op.AndAlso at y) f a = both (writes_same x f.0 a.0) (writes_same y f.1 a.1)
    writes_same (t.eBinary x op.OrElse at y) f a = both (writes_same x f.0 a.0) (writes_same y f.1 a.1)
    writes_same (t.eBinary x o at y) f a = both (writes_same x f.0 a.0) (writes_same y f.1 a.1)
    writes_same (t.eCond c q x r y) f a =
        writes_choice (type_of env model (t.eCond c q x r y)) (E c) (E x) (E y) ∙ three (writes_same c f.0 a.0) (writes_same x f.1 a.1) (writes_same y f.2 a.2)
    writes_same (t.eAssign x to.Plain at y) f a = both (writes_target x f.0 a.0 a.1) (writes_same y f.1 a.2)
    writes_same (t.eAssign x o at y) f a = both (writes_target x f.0 a.0 a.1) (writes_same y f.1 a.2)
    writes_same (t.eComma t.no_parts) f a = refl
    writes_same (t.eComma (t.parts_and es c e)) f a = both (writes_values es f.0 a.0) (writes_same e f.1 a.1)

    writes_target : (e : t.Ex) → Fits env bodies e → IsThere (source.object_in env e) → Aims env e →
        typed.object_in (G e) ∷ typed.writes_of_goal (G e) ≡ source.one (source.object_in env e) ++ source.writes env e
    writes_target (t.eName n at) f h a = both (sym (one_first (object_of env n at) h)) refl
    writes_target (t.eIndex b x i y) f h a = both (sym (one_none env (base_of env b) h)) (writes_same i f.1 a)
    writes_target (t.eParen x e y) f h a = writes_target e f h a
    writes_target (t.ePrefix pre.Extension at e) f h a = writes_target e f h a
    writes_target e f h a = absurd h

    pub writes_goal : (e : t.Ex) → Fits env bodies e → IsThere (source.object_in env e) → Aims env e → typed.writes_of_goal (G e) ≡ source.writes env e
    writes_goal (t.eName n at) f h a = refl
    writes_goal (t.eIndex b x i y) f h a = writes_same i f.1 a
    writes_goal (t.eParen x e y) f h a = writes_goal e f h a
    writes_goal (t.ePrefix pre.Extension at e) f h a = writes_goal e f h a
    writes_goal e f h a = absurd h

    writes_values : (es : t.Parts) → AllFit env bodies es → AllAim env es → typed.writes_of_all (elab.values env model bodies es) ≡ source.writes_of_parts env es
    writes_values t.no_parts f a = refl
    writes_values (t.parts_and es c e) f a = both (writes_values es f.0 a.0) (writes_same e f.1 a.1)

    writes_arguments : (ks : List Kind) (es : t.Parts) → AllFit env bodies es → AllAim env es → typed.writes_of_all (elab.arguments env model bodies ks es) ≡ source.writes_of_parts env es
    writes_arguments ks t.no_parts f a = refl
    writes_arguments ks (t.parts_and es c e) f a = both (writes_arguments ks es f.0 a.0) (writes_same e f.1 a.1)

  -- ---- What is read

  mutual
    pub reads_same : (e : t.Ex) → Fits env bodies e → Aims env e → typed.reads (E e) ≡ source.reads env e
    reads_same (t.eName n at) f a = reads_named env (entity_of env n at)
    reads_same (t.eNumber v form at) f a = refl
    reads_same (t.eLetter v at) f a = refl
    reads_same (t.eParen x e y) f a = reads_same e f a
    reads_same (t.eCall g x es y) f a =
        call_reads _ x (elab.arguments env model bodies (parameters_of env g) es) _ es (call_told g x es (elab.arguments env model bodies (parameters_of env g) es) f.0) (reads_arguments (parameters_of env g) es f.1 a)
    reads_same (t.eIndex b x i y) f a = both (sym (one_none env (base_of env b) f.0)) (reads_same i f.1 a)
    reads_same (t.ePostfix e c at) f a = reads_target e f a.0 a.1
    reads_same (t.ePrefix pre.Increment at e) f a = reads_target e f a.0 a.1
    reads_same (t.ePrefix pre.Decrement at e) f a = reads_target e f a.0 a.1
    reads_same (t.ePrefix pre.Plus at e) f a = reads_same e f a
    reads_same (t.ePrefix pre.Minus at e) f a = reads_same e f a
    reads_same (t.ePrefix pre.Complement at e) f a = reads_same e f a
    reads_same (t.ePrefix pre.Not at e) f a = reads_same e f a
    reads_same (t.ePrefix pre.Extension at e) f a = reads_same e f a
    reads_same (t.ePrefix pre.Sizeof at e) f a = refl
    reads_same (t.eSizeof at x ws y) f a = refl
    reads_same (t.eCast x ws y e) f a = reads_cast (words_type env ws) (E e) ∙ reads_same e f a
    reads_same (t.eBinary x op.AndAlso at y) f a = both (reads_same x f.0 a.0) (reads_same y f.1 a.1)
    reads_same (t.eBinary x op.OrElse at y) f a = both (reads_same x f.0 a.0) (reads_same y f.1 a.1)
    reads_same (t.eBinary x o at y) f a = both (reads_same x f.0 a.0) (reads_same y f.1 a.1)
    reads_same (t.eCond c q x r y) f a =
        reads_choice (type_of env model (t.eCond c q x r y)) (E c) (E x) (E y) ∙ three (reads_same c f.0 a.0) (reads_same x f.1 a.1) (reads_same y f.2 a.2)
    reads_same (t.eAssign x to.Plain at y) f a = both (reads_goal x f.0 a.0 a.1) (reads_same y f.1 a.2)
    reads_same (t.eAssign x o at y) f a = both (reads_target x f.0 a.0 a.1) (reads_same y f.1 a.2)
    reads_same (t.eComma t.no_parts) f a = refl
    reads_same (t.eComma (t.parts_and es c e)) f a = both (reads_values es f.0 a.0) (reads_same e f.1 a.1)

    reads_target : (e : t.Ex) → Fits env bodies e → IsThere (source.object_in env e) → Aims env e → typed.object_in (G e) ∷ typed.reads_of_goal (G e) ≡ source.reads env e
    reads_target (t.eName n at) f h a = sym (one_first (object_of env n at) h)
    reads_target (t.eIndex b x i y) f h a = both (sym (one_none env (base_of env b) f.0)) (reads_same i f.1 a)
    reads_target (t.eParen x e y) f h a = reads_target e f h a
    reads_target (t.ePrefix pre.Extension at e) f h a = reads_target e f h a
    reads_target e f h a = absurd h

    pub reads_goal : (e : t.Ex) → Fits env bodies e → IsThere (source.object_in env e) → Aims env e → typed.reads_of_goal (G e) ≡ source.reads_of_target env e
    reads_goal (t.eName n at) f h a = refl
    reads_goal (t.eIndex b x i y) f h a = reads_same i f.1 a
    reads_goal (t.eParen x e y) f h a = reads_goal e f h a
    reads_goal (t.ePrefix pre.Extension at e) f h a = reads_goal e f h a
    reads_goal e f h a = absurd h

    reads_values : (es : t.Parts) → AllFit env bodies es → AllAim env es → typed.reads_of_all (elab.values env model bodies es) ≡ source.reads_of_parts env es
    reads_values t.no_parts f a = refl
    reads_values (t.parts_and es c e) f a = both (reads_values es f.0 a.0) (reads_same e f.1 a.1)

    reads_arguments : (ks : List Kind) (es : t.Parts) → AllFit env bodies es → AllAim env es → typed.reads_of_all (elab.arguments env model bodies ks es) ≡ source.reads_of_parts env es
    reads_arguments ks t.no_parts f a = refl
    reads_arguments ks (t.parts_and es c e) f a = both (reads_arguments ks es f.0 a.0) (reads_same e f.1 a.1)

  -- ---- What is called

  joined : {A B : Type 0} (f : A → B) (xs ys : List A) (us vs : List B) → us ≡ map f xs → vs ≡ map f ys → us ++ vs ≡ map f (xs ++ ys)
  joined f xs ys us vs e g = both e g ∙ sym (map-append f xs ys)

  mutual
    pub calls_same : (e : t.Ex) → Fits env bodies e → Aims env e → typed.calls (E e) ≡ map same_call (source.calls env bodies e)
    calls_same (t.eName n at) f a = calls_named env (entity_of env n at)
    calls_same (t.eNumber v form at) f a = refl
    calls_same (t.eLetter v at) f a = refl
    calls_same (t.eParen x e y) f a = calls_same e f a
    calls_same (t.eCall g x es y) f a =
        call_calls _ x (elab.arguments env model bodies (parameters_of env g) es) _ es (call_told g x es (elab.arguments env model bodies (parameters_of env g) es) f.0) (calls_arguments (parameters_of env g) es f.1 a)
    calls_same (t.eIndex b x i y) f a = calls_same i f.1 a
    calls_same (t.ePostfix e c at) f a = calls_goal e f a.0 a.1
    calls_same (t.ePrefix pre.Increment at e) f a = calls_goal e f a.0 a.1
    calls_same (t.ePrefix pre.Decrement at e) f a = calls_goal e f a.0 a.1
    calls_same (t.ePrefix pre.Plus at e) f a = calls_same e f a
    calls_same (t.ePrefix pre.Minus at e) f a = calls_same e f a
    calls_same (t.ePrefix pre.Complement at e) f a = calls_same e f a
    calls_same (t.ePrefix pre.Not at e) f a = calls_same e f a
    calls_same (t.ePrefix pre.Extension at e) f a = calls_same e f a
    calls_same (t.ePrefix pre.Sizeof at e) f a = refl
    calls_same (t.eSizeof at x ws y) f a = refl
    calls_same (t.eCast x ws y e) f a = calls_cast (words_type env ws) (E e) ∙ calls_same e f a
    calls_same (t.eBinary x op.AndAlso at y) f a = joined same_call (source.calls env bodies x) (source.calls env bodies y) (typed.calls (E x)) (typed.calls (E y)) (calls_same x f.0 a.0) (calls_same y f.1 a.1)
    calls_same (t.eBinary x op.OrElse at y) f a = joined same_call (source.calls env bodies x) (source.calls env bodies y) (typed.calls (E x)) (typed.calls (E y)) (calls_same x f.0 a.0) (calls_same y f.1 a.1)
    calls_same (t.eBinary x o at y) f a = joined same_call (source.calls env bodies x) (source.calls env bodies y) (typed.calls (E x)) (typed.calls (E y)) (calls_same x f.0 a.0) (calls_same y f.1 a.1)
    calls_same (t.eCond c q x r y) f a =
        calls_choice (type_of env model (t.eCond c q x r y)) (E c) (E x) (E y)
        ∙ joined same_call (source.calls env bodies c ++ source.calls env bodies x) (source.calls env bodies y) (typed.calls (E c) ++ typed.calls (E x)) (typed.calls (E y))
        (joined same_call (source.calls env bodies c) (source.calls env bodies x) (typed.calls (E c)) (typed.calls (E x)) (calls_same c f.0 a.0) (calls_same x f.1 a.1)) (calls_same y f.2 a.2)
    calls_same (t.eAssign x to.Plain at y) f a = joined same_call (source.calls env bodies x) (source.calls env bodies y) (typed.calls_of_goal (G x)) (typed.calls (E y)) (calls_goal x f.0 a.0 a.1) (calls_same y f.1 a.2)
    calls_same (t.eAssign x o at y) f a = joined same_call (source.calls env bodies x) (source.calls env bodies y) (typed.calls_of_goal (G x)) (typed.calls (E y)) (calls_goal x f.0 a.0 a.1) (calls_same y f.1 a.2)
    calls_same (t.eComma t.no_parts) f a = refl
    calls_same (t.eComma (t.parts_and es c e)) f a =
        joined same_call (source.calls_in env bodies es) (source.calls env bodies e) (typed.calls_in (elab.values env model bodies es)) (typed.calls (E e)) (calls_values es f.0 a.0) (calls_same e f.1 a.1)

    calls_goal : (e : t.Ex) → Fits env bodies e → IsThere (source.object_in env e) → Aims env e → typed.calls_of_goal (G e) ≡ map same_call (source.calls env bodies e)
    calls_goal (t.eName n at) f h a = refl
    calls_goal (t.eIndex b x i y) f h a = calls_same i f.1 a
    calls_goal (t.eParen x e y) f h a = calls_goal e f h a
    calls_goal (t.ePrefix pre.Extension at e) f h a = calls_goal e f h a
    calls_goal e f h a = absurd h

    calls_values : (es : t.Parts) → AllFit env bodies es → AllAim env es → typed.calls_in (elab.values env model bodies es) ≡ map same_call (source.calls_in env bodies es)
    calls_values t.no_parts f a = refl
    calls_values (t.parts_and es c e) f a = joined same_call (source.calls_in env bodies es) (source.calls env bodies e) (typed.calls_in (elab.values env model bodies es)) (typed.calls (E e)) (calls_values es f.0 a.0) (calls_same e f.1 a.1)

    calls_arguments : (ks : List Kind) (es : t.Parts) → AllFit env bodies es → AllAim env es → typed.calls_in (elab.arguments env model bodies ks es) ≡ map same_call (source.calls_in env bodies es)
    calls_arguments ks t.no_parts f a = refl
    calls_arguments ks (t.parts_and es c e) f a = joined same_call (source.calls_in env bodies es) (source.calls env bodies e) (typed.calls_in (elab.arguments env model bodies ks es)) (typed.calls (E e)) (calls_arguments ks es f.0 a.0) (calls_same e f.1 a.1)
