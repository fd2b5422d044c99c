-- Values of a typed tree run the same with each arithmetic that agrees with C's, in each way that suits the objects.
use Rattle.std.proofs.Common.{◌≡◌, ℕ, suc, Bool, true, false, List, [], ◌∷◌, ◌++◌, length, reverse, Option, Some, None, ℤ, pos, negsuc, slice_get, refl, sym, ap, ◌∙◌, subst, arith}
use Rattle.std.proofs.lemmas.List.{reverse-append, reverse-reverse}
use Rattle.lv_base.specs.declared.kind.Kind.{Kind}
use Rattle.lv_base.specs.declared.kind.Kind.TheVariants as kind
use Rattle.lv_base.specs.declared.kind.Model.{Model}
use Rattle.lv_base.specs.declared.kind.Op.TheVariants as arith'
use Rattle.lv_base.specs.declared.fault.ErrorKind.TheVariants as error
use Rattle.lv_base.specs.Integers.{InRange, is_promoted, converted, truth, is_zero}
use Rattle.c_tree.specs.declared.symbol.BinaryOp.{BinaryOp}
use Rattle.c_run.specs.Run.{Error, Ended, Run, Compute, give, after, choose, read, Element, scalar, located, is_true}
use Rattle.c_run.specs.Operators.{Use, used, dropped, called_value}
use Rattle.c_run.specs.Loops.{Calls}
use Rattle.c_typed.specs.Tree.{Val, vConstant, vRead, vElement, vWhole, vNothing, vConvert, vDiscard, vNegate, vComplement, vNot, vBinary, vBoth, vEither, vCond, vAssign, vUpdate, vChange, vCall, vReach, vAbort, vDraw, vComma, Goal, gObject, gElement, Vals, no_values, values_and, Object, Function}
use Rattle.c_typed.specs.Facts.{kind_of, kinds_of, HasKind, RightFits, IsScalar, IsArray, IsCalled, parameter_kinds, Fits, AllFit, GoalFits, OptionFits, TestFits, AllOf, Begins, Drawn, ReturnFits, StepFits, StepsFit, Reversed}
use Rattle.c_typed.specs.Facts as facts
use Rattle.c_typed.specs.Run as run
use Rattle.typed_range_laws.specs.Ways.{Agrees, Way, Suits, picked}
use Rattle.typed_range_laws.specs.Keeping as keeping
use Rattle.typed_range_laws.proofs.Bounds.{truth_in_range, in_any}
use Rattle.typed_range_laws.proofs.Ranging.{converted_in_range}
use Rattle.typed_range_laws.proofs.Agreeing.{Of, Alike, binds, gives, stops, weaker, chosen, Within, scalar_has, array_has, reads, reads_picked, backs_it, writes_picked, writes_kept, locates, draws, computes, RightIs, applies, steps, Gave}

module _ (model : Model) (objects : List Object) (functions : List Function) (inputs : List ℤ) where
  -- each parameter gets a value of its kind
  abbrev pub Arguments : List ℕ → List ℤ → Type 0
  Arguments (o ∷ os) (v ∷ vs) = ((told : Object) → slice_get objects o ≡ Some told → InRange told.kind model v) × Arguments os vs
  Arguments _ _ = Unit {0}

  -- values of these kinds, one by one
  abbrev pub Hold : List (Option Kind) → List ℤ → Type 0
  Hold (k ∷ ks) (v ∷ vs) = Of model objects k v × Hold ks vs
  Hold _ _ = Unit {0}

  hold_more : (ks : List (Option Kind)) (k : Option Kind) (vs : List ℤ) (v : ℤ) → length vs ≡ length ks → Hold ks vs → Of model objects k v → Hold (ks ++ k ∷ []) (vs ++ v ∷ [])
  hold_more [] k [] v e h o = (o, tt)
  hold_more [] k (w ∷ vs) v e h o = absurd (omega (arith, e))
  hold_more (x ∷ ks) k [] v e h o = absurd (omega (arith, e))
  hold_more (x ∷ ks) k (w ∷ vs) v e h o = (h.0, hold_more ks k vs v (omega (arith, e)) h.1 o)

  held_argument : (p : ℕ) (v : ℤ) → Of model objects (elim (slice_get objects p) [ None ↦ None | Some o ↦ Some o.kind ]) v → (told : Object) → slice_get objects p ≡ Some told → InRange told.kind model v
  held_argument p v h told e = subst (λ (o : Option Object). Of model objects (elim o [ None ↦ None | Some x ↦ Some x.kind ]) v) e h

  arguments_held : (ps : List ℕ) (vs : List ℤ) → Hold (parameter_kinds model objects functions ps) vs → Arguments ps vs
  arguments_held [] vs h = tt
  arguments_held (p ∷ ps) [] h = tt
  arguments_held (p ∷ ps) (v ∷ vs) h = (held_argument p v h.0, arguments_held ps vs h.1)

  -- what two meanings of calls share
  abbrev pub CallsAlike : Calls → Calls → Type 0
  CallsAlike call call' = (f at : ℕ) (vs : List ℤ) (told : Function) → slice_get functions f ≡ Some told → Arguments told.parameters vs → Alike model objects (Option ℤ) (Gave model objects told.result) (call f at vs) (call' f at vs)

  module _ (compute compute' : Compute) (agrees : Agrees model compute) (agrees' : Agrees model compute') (way : Way) (suits : Suits model objects way) (call call' : Calls) (hc : CallsAlike call call') where
    abbrev pub T : Use → Val → Run ℤ
    T u e = keeping.value model objects compute way inputs call u e

    abbrev pub P : Use → Val → Run ℤ
    P u e = run.value model objects compute' inputs call' u e

    abbrev pub OfVal : Val → ℤ → Type 0
    OfVal e v = Of model objects (kind_of e) v

    pub of_kind : (e : Val) (k : Kind) (v : ℤ) → kind_of e ≡ Some k → OfVal e v → InRange k model v
    of_kind e k v h o = subst (λ x. Of model objects x v) h o

    zero_in : (k : Kind) → InRange k model (pos 0)
    zero_in k = truth_in_range k model false

    one_in : (k : Kind) → InRange k model (pos 1)
    one_in k = truth_in_range k model true

    right_is : (o : BinaryOp) (k : Kind) (kb : Option Kind) (y : ℤ) → RightFits o k kb → Of model objects kb y → RightIs model objects o k y
    right_is o k None y f h = absurd f
    right_is o k (Some l) y f h = record {
      shifting = λ e. in_any l model y h;
      other = λ e. let Same : Bool → Type 0 = λ b. elim b [ true ↦ is_promoted l ≡ true | false ↦ l ≡ k ] in subst (λ x. InRange x model y) (subst Same e f) h;
    }

    kept_in : (k : Option Kind) (v : ℤ) → Of model objects k v → Of model objects k (run.kept k v)
    kept_in None v h = tt
    kept_in (Some k) v h = h

    called_alike : (u : Use) (result : Option Kind) (at : ℕ) (r : Option ℤ) → Gave model objects result r → Alike model objects ℤ (Of model objects result) (called_value u result at r) (called_value u result at r)
    called_alike u None at (Some v) h = gives model objects ℤ (Of model objects None) v h
    called_alike u (Some k) at (Some v) h = gives model objects ℤ (Of model objects (Some k)) v h
    called_alike used (Some k) at None h = stops model objects ℤ (Of model objects (Some k)) (λ st. Error error.Missing at st.taken)
    called_alike dropped (Some k) at None h = gives model objects ℤ (Of model objects (Some k)) (pos 0) (zero_in k)
    called_alike used None at None h = gives model objects ℤ (Of model objects None) (pos 0) tt
    called_alike dropped None at None h = gives model objects ℤ (Of model objects None) (pos 0) tt

    truth_alike : (v : Bool) → Alike model objects ℤ (Of model objects (Some kind.Int)) (give (truth v)) (give (truth v))
    truth_alike v = gives model objects ℤ (InRange kind.Int model) (truth v) (truth_in_range kind.Int model v)

    -- the length of the values is that of their kinds
    abbrev Row : Vals → List ℤ → Type 0
    Row es vs = (length vs ≡ length (reverse (kinds_of es))) × Hold (reverse (kinds_of es)) vs

    row_more : (es : Vals) (e : Val) (vs : List ℤ) (v : ℤ) → Row es vs → OfVal e v → Row (values_and es e) (vs ++ v ∷ [])
    row_more es e vs v r o =
        let turn : reverse (kind_of e ∷ kinds_of es) ≡ reverse (kinds_of es) ++ kind_of e ∷ [] = reverse-append (kind_of e ∷ []) (kinds_of es) in
        subst (λ ks. (length (vs ++ v ∷ []) ≡ length ks) × Hold ks (vs ++ v ∷ [])) (sym turn) (longer vs (reverse (kinds_of es)) r.0, hold_more (reverse (kinds_of es)) (kind_of e) vs v r.0 r.1 o)
      where
        longer : (xs : List ℤ) (ks : List (Option Kind)) → length xs ≡ length ks → length (xs ++ v ∷ []) ≡ length (ks ++ kind_of e ∷ [])
        longer [] [] h = refl
        longer [] (k ∷ ks) h = absurd (omega (arith, h))
        longer (x ∷ xs) [] h = absurd (omega (arith, h))
        longer (x ∷ xs) (k ∷ ks) h = ap suc (longer xs ks (omega (arith, h)))

    call_does : (result : Option Kind) (u : Use) (f at : ℕ) (kinds : List (Option Kind)) (vs : List ℤ) → IsCalled model objects functions f result kinds → Hold (reverse kinds) vs →
        Alike model objects ℤ (Of model objects result) (λ st. after (call f at vs st) (called_value u result at)) (λ st. after (call' f at vs st) (called_value u result at))
    call_does result u f at kinds vs c h =
        let ks : List (Option Kind) = parameter_kinds model objects functions c.told.parameters in
        let turned : reverse kinds ≡ ks = ap reverse (sym c.arguments) ∙ reverse-reverse ks in
        binds model objects (Option ℤ) ℤ (Gave model objects result) (Of model objects result) (call f at vs) (call' f at vs) _ _
        (subst (λ x. Alike model objects (Option ℤ) (Gave model objects x) (call f at vs) (call' f at vs)) c.result_is (hc f at vs c.told c.there (arguments_held c.told.parameters vs (subst (λ x. Hold x vs) turned h))))
        (λ r hr. called_alike u result at r hr)

    mutual
      pub value_alike : (u : Use) (e : Val) → Fits model objects functions e → Alike model objects ℤ (OfVal e) (T u e) (P u e)
      value_alike u (vConstant k v) f = gives model objects ℤ (InRange k model) v f
      value_alike u (vRead k o) f = reads model objects k (scalar o) (f.told, f.there, f.kind, scalar_has model objects f.told f.scalar)
      value_alike u (vElement k at o e) f =
          binds model objects ℤ ℤ (OfVal e) (InRange k model) (T used e) (P used e) _ _ (value_alike used e f.2)
          (λ v h. binds model objects Element ℤ (Within model objects k) (InRange k model) (located at o (run.count_of model objects compute' inputs call o) v) (located at o (run.count_of model objects compute' inputs call o) v) _ _
          (locates model objects k at o v f.0.told f.0.there f.0.kind) (λ x w. reads model objects k x w))
      value_alike u (vWhole o) f = weaker model objects ℤ (InRange f.0 model) (λ v. Unit {0}) (read (scalar o)) (read (scalar o)) (λ v h. tt) (reads model objects f.0 (scalar o) (f.1.told, f.1.there, f.1.kind, array_has model objects f.1.told f.1.elements))
      value_alike u vNothing f = gives model objects ℤ (λ v. Unit {0}) (pos 0) tt
      value_alike u (vConvert k e) f = binds model objects ℤ ℤ (OfVal e) (InRange k model) (T used e) (P used e) _ _ (value_alike used e f.1) (λ v h. gives model objects ℤ (InRange k model) (converted k model v) (converted_in_range k model v))
      value_alike u (vDiscard e) f = binds model objects ℤ ℤ (OfVal e) (λ v. Unit {0}) (T dropped e) (P dropped e) _ _ (value_alike dropped e f) (λ v h. gives model objects ℤ (λ w. Unit {0}) (pos 0) tt)
      value_alike u (vNegate k at e) f =
          binds model objects ℤ ℤ (OfVal e) (InRange k model) (T used e) (P used e) _ _ (value_alike used e f.2) (λ v h. computes model objects compute compute' agrees agrees' arith'.Sub k at (pos 0) v f.0 (zero_in k) (of_kind e k v f.1 h))
      value_alike u (vComplement k at e) f =
          binds model objects ℤ ℤ (OfVal e) (InRange k model) (T used e) (P used e) _ _ (value_alike used e f.2)
          (λ v h. computes model objects compute compute' agrees agrees' arith'.Xor k at v (converted k model (negsuc 0)) f.0 (of_kind e k v f.1 h) (converted_in_range k model (negsuc 0)))
      value_alike u (vNot e) f = binds model objects ℤ ℤ (OfVal e) (InRange kind.Int model) (T used e) (P used e) _ _ (value_alike used e f.1) (λ v h. truth_alike (is_zero v))
      value_alike u (vBinary o k at a b) f =
          binds model objects ℤ ℤ (OfVal a) (InRange (facts.when (facts.is_comparison o) kind.Int k) model) (T used a) (P used a) _ _ (value_alike used a f.4)
          (λ x hx. binds model objects ℤ ℤ (OfVal b) (InRange (facts.when (facts.is_comparison o) kind.Int k) model) (T used b) (P used b) _ _ (value_alike used b f.5)
          (λ y hy. applies model objects compute compute' agrees agrees' o k at x y f.0 f.1 (of_kind a k x f.2 hx) (right_is o k (kind_of b) y f.3 hy)))
      value_alike u (vBoth a b) f =
          binds model objects ℤ ℤ (OfVal a) (InRange kind.Int model) (T used a) (P used a) _ _ (value_alike used a f.2)
          (λ x hx. chosen model objects ℤ (InRange kind.Int model) (is_true x) _ _ _ _ (binds model objects ℤ ℤ (OfVal b) (InRange kind.Int model) (T used b) (P used b) _ _ (value_alike used b f.3) (λ y hy. truth_alike (is_true y)))
          (gives model objects ℤ (InRange kind.Int model) (pos 0) (zero_in kind.Int)))
      value_alike u (vEither a b) f =
          binds model objects ℤ ℤ (OfVal a) (InRange kind.Int model) (T used a) (P used a) _ _ (value_alike used a f.2)
          (λ x hx. chosen model objects ℤ (InRange kind.Int model) (is_true x) _ _ _ _ (gives model objects ℤ (InRange kind.Int model) (pos 1) (one_in kind.Int))
          (binds model objects ℤ ℤ (OfVal b) (InRange kind.Int model) (T used b) (P used b) _ _ (value_alike used b f.3) (λ y hy. truth_alike (is_true y))))
      value_alike u (vCond k t a b) f =
          binds model objects ℤ ℤ (OfVal t) (Of model objects k) (T used t) (P used t) _ _ (value_alike used t f.3)
          (λ v h. binds model objects ℤ ℤ (Of model objects k) (Of model objects k) (choose (is_true v) (T used a) (T used b)) (choose (is_true v) (P used a) (P used b)) _ _
          (chosen model objects ℤ (Of model objects k) (is_true v) (T used a) (P used a) (T used b) (P used b)
          (weaker model objects ℤ (OfVal a) (Of model objects k) (T used a) (P used a) (λ x o. subst (λ y. Of model objects y x) f.1 o) (value_alike used a f.4))
          (weaker model objects ℤ (OfVal b) (Of model objects k) (T used b) (P used b) (λ x o. subst (λ y. Of model objects y x) f.2 o) (value_alike used b f.5)))
          (λ r hr. gives model objects ℤ (Of model objects k) (run.kept k r) (kept_in k r hr)))
      value_alike u (vAssign k at g e) f =
          binds model objects Element ℤ (Within model objects k) (InRange k model) _ _ _ _ (target_alike k g f.0)
          (λ x w. binds model objects ℤ ℤ (OfVal e) (InRange k model) (T used e) (P used e) _ _ (value_alike used e f.2) (λ v h. writes_kept model objects way suits k x v w (of_kind e k v f.1 h)))
      value_alike u (vUpdate o k l at g e) f =
          binds model objects Element ℤ (Within model objects l) (InRange l model) _ _ _ _ (target_alike l g f.3)
          (λ x w. binds model objects ℤ ℤ (InRange l model) (InRange l model) (read (picked way x)) (read x) _ _ (reads_picked model objects way suits l x w)
          (λ old ho. binds model objects ℤ ℤ (OfVal e) (InRange l model) (T used e) (P used e) _ _ (value_alike used e f.5)
          (λ y hy. binds model objects ℤ ℤ (InRange (facts.when (facts.is_comparison o) kind.Int k) model) (InRange l model) _ _ _ _ (applies model objects compute compute' agrees agrees' o k at (converted k model old) y f.0 f.1 (converted_in_range k model old) (right_is o k (kind_of e) y f.4 hy))
          (λ v hv. writes_picked model objects way suits l x (converted l model v) w (converted_in_range l model v)))))
      value_alike u (vChange before b k at g) f =
          binds model objects Element ℤ (Within model objects k) (InRange k model) _ _ _ _ (target_alike k g f)
          (λ x w. binds model objects ℤ ℤ (InRange k model) (InRange k model) (read (picked way x)) (read x) _ _ (reads_picked model objects way suits k x w)
          (λ old ho. binds model objects ℤ ℤ (InRange k model) (InRange k model) _ _ _ _ (steps model objects compute compute' agrees agrees' way suits b k at x old w) (λ new hn. subst (λ v. Alike model objects ℤ (InRange k model) (give (choose before v old)) (give (choose before new old))) (sym (backs_it model objects way suits k x new w))
          (gives model objects ℤ (InRange k model) (choose before new old) (one_of before new old k hn ho)))))
        where
          one_of : (c : Bool) (new old : ℤ) (k : Kind) → InRange k model new → InRange k model old → InRange k model (choose c new old)
          one_of true new old k hn ho = hn
          one_of false new old k hn ho = ho
      value_alike u (vCall result at x f es) h =
          binds model objects (List ℤ) ℤ (Row es) (Of model objects result) _ _ _ _ (values_alike es h.1) (λ vs r. call_does result u f at (kinds_of es) vs h.0 r.1)
      value_alike u (vReach at) f = stops model objects ℤ (λ v. Unit {0}) (λ st. Error error.Reach at st.taken)
      value_alike u vAbort f = stops model objects ℤ (λ v. Unit {0}) (λ st. Ended)
      value_alike u (vDraw k) f = draws model objects inputs k
      value_alike u (vComma es e) f = binds model objects (Unit {0}) ℤ (λ v. Unit {0}) (OfVal e) _ _ _ _ (drops_alike es f.0) (λ v h. value_alike used e f.1)

      pub values_alike : (es : Vals) → AllFit model objects functions es → Alike model objects (List ℤ) (Row es) (keeping.values model objects compute way inputs call es) (run.values model objects compute' inputs call' es)
      values_alike no_values f = gives model objects (List ℤ) (Row no_values) [] (refl, tt)
      values_alike (values_and es e) f =
          binds model objects (List ℤ) (List ℤ) (Row es) (Row (values_and es e)) _ _ _ _ (values_alike es f.0)
          (λ vs r. binds model objects ℤ (List ℤ) (OfVal e) (Row (values_and es e)) (T used e) (P used e) _ _ (value_alike used e f.1) (λ v h. gives model objects (List ℤ) (Row (values_and es e)) (vs ++ v ∷ []) (row_more es e vs v r h)))

      drops_alike : (es : Vals) → AllFit model objects functions es → Alike model objects (Unit {0}) (λ v. Unit {0}) (keeping.drop_values model objects compute way inputs call es) (run.drop_values model objects compute' inputs call' es)
      drops_alike no_values f = gives model objects (Unit {0}) (λ v. Unit {0}) tt tt
      drops_alike (values_and es e) f =
          binds model objects (Unit {0}) (Unit {0}) (λ v. Unit {0}) (λ v. Unit {0}) _ _ _ _ (drops_alike es f.0)
          (λ v h. binds model objects ℤ (Unit {0}) (OfVal e) (λ w. Unit {0}) (T dropped e) (P dropped e) _ _ (value_alike dropped e f.1) (λ w hw. gives model objects (Unit {0}) (λ x. Unit {0}) tt tt))

      target_alike : (k : Kind) (g : Goal) → GoalFits model objects functions k g → Alike model objects Element (Within model objects k) (keeping.target_of model objects compute way inputs call g) (run.target_of model objects compute' inputs call' g)
      target_alike k (gObject o) f = gives model objects Element (Within model objects k) (scalar o) (f.told, f.there, f.kind, scalar_has model objects f.told f.scalar)
      target_alike k (gElement at o e) f =
          binds model objects ℤ Element (OfVal e) (Within model objects k) (T used e) (P used e) _ _ (value_alike used e f.2)
          (λ v h. locates model objects k at o v f.0.told f.0.there f.0.kind)
