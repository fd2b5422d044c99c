-- What the arms of an expression give, by the answers of the calls for its parts.
use Rattle.std.proofs.Common.{◌≡◌, ℕ, ◌<◌, ◌+◌, List, [], ◌∷◌, ◌++◌, length, take, get_or, Option, Result, Ok, Err, refl, ap, ◌∙◌, sym, Vec, Global, slice_index_or, pos}
use Rattle.std.specs.Prelude.{Box, IfOk}
use Rattle.lv_base.specs.declared.kind.Kind.{Kind}
use Rattle.lv_base.specs.declared.kind.Kind.TheVariants as kind
use Rattle.lv_base.specs.declared.kind.Model.{Model}
use Rattle.c_tree.specs.declared.symbol.BinaryOp.{BinaryOp}
use Rattle.c_tree.specs.declared.symbol.AssignOp.{AssignOp}
use Rattle.c_tree.specs.declared.tree.Expr.{Expr, Call, Cast, SizeofType, Comma}
use Rattle.c_tree.specs.declared.tree.Listed.{Listed}
use Rattle.c_tree.specs.declared.tree.Specs.{Specs}
use Rattle.c_tree.specs.Tree as tr
use Rattle.c_tree.specs.View.{expr, parts_of, words_of}
use Rattle.c_tree.proofs.Views.{expr_Call, expr_Comma, expr_Cast, expr_SizeofType}
use Rattle.c_meaning.specs.Bindings.{Env, words_type}
use Rattle.c_meaning.specs.Kinds.{CType, size_kind, size_of}
use Rattle.c_meaning.specs.Value as m
use Rattle.c_typed.specs.declared.tree.Value.{Value}
use Rattle.c_typed.specs.Tree as t
use Rattle.c_typed.specs.View.{value, values_of}
use Rattle.c_types.specs.Elaborated as el
use Rattle.typed_values.specs.Made as made
use Rattle.typed_expressions.proofs.Matching.{binary_is, assigned_is, comma_is}
use Rattle.typed_expressions.proofs.Calling.{name_is}
use Rattle.typed_values.proofs.Views.{values_push}
use Rattle.typed_expressions.proofs.Rows.{values_more, arguments_more}

pub ok_as : {A : Type 0} (r : Result (Box Value Global) A) (x y : t.Val) → x ≡ y → IfOk r (λ b. value b.value ≡ x) → IfOk r (λ b. value b.value ≡ y)
ok_as (Ok a) x y e h = h ∙ e
ok_as (Err b) x y e h = h

module _ (env : Env) (model : Model) (bodies : List (List ℕ)) where
  abbrev of : Expr → t.Val
  of e = el.value env model bodies (expr e)

  pub call_arm : {A : Type 0} (e g h : Expr) (f : Box Expr Global) (x : ℕ) (es : Vec Listed Global) (y : ℕ) (parts : List Listed) (kinds : List Kind) (vs : t.Vals) (r : Result (Box Value Global) A) →
      e ≡ Call f x es y → g ≡ f.value → h ≡ f.value → parts ≡ es.items → kinds ≡ m.parameters_of env (expr g) → vs ≡ el.arguments env model bodies kinds (parts_of parts) →
      IfOk r (λ b. value b.value ≡ made.called_name bodies env (expr h) x vs) → IfOk r (λ b. value b.value ≡ el.value env model bodies (expr e))
  call_arm e g h f x es y parts kinds vs r p q s u k w i =
      ok_as r _ _ (ap (λ z. made.called_name bodies env (expr z) x vs) s
      ∙ ap (made.called_name bodies env (expr f.value) x) (w ∙ ap (λ z. el.arguments env model bodies kinds (parts_of z)) u ∙ ap (λ z. el.arguments env model bodies z (parts_of es.items)) (k ∙ ap (λ z. m.parameters_of env (expr z)) q))
      ∙ sym (name_is env model bodies (expr f.value) x (el.arguments env model bodies (m.parameters_of env (expr f.value)) (parts_of es.items)))
      ∙ sym (ap of p ∙ ap (el.value env model bodies) (expr_Call f x es y))) i

  pub cast_arm : {A : Type 0} (e g : Expr) (a : ℕ) (ws : Specs) (b : ℕ) (f : Box Expr Global) (to : CType) (v : t.Val) (r : Result (Box Value Global) A) → e ≡ Cast a ws b f → g ≡ f.value → to ≡ words_type env (words_of ws) →
      v ≡ el.value env model bodies (expr g) → IfOk r (λ b. value b.value ≡ el.cast_to to v) → IfOk r (λ b. value b.value ≡ el.value env model bodies (expr e))
  cast_arm e g a ws b f to v r p q k w i =
      ok_as r _ _ (ap (λ z. el.cast_to z v) k ∙ ap (el.cast_to (words_type env (words_of ws))) (w ∙ ap of q) ∙ sym (ap of p ∙ ap (el.value env model bodies) (expr_Cast a ws b f))) i

  pub sizeof_arm : {A : Type 0} (e : Expr) (at a : ℕ) (ws : Specs) (b : ℕ) (what : CType) (r : Result (Box Value Global) A) → e ≡ SizeofType at a ws b → what ≡ words_type env (words_of ws) →
      IfOk r (λ b. value b.value ≡ t.vConstant (size_kind model) (pos (size_of model what))) → IfOk r (λ b. value b.value ≡ el.value env model bodies (expr e))
  sizeof_arm e at a ws b what r p k i =
      ok_as r _ _ (ap (λ z. t.vConstant (size_kind model) (pos (size_of model z))) k ∙ sym (ap of p ∙ ap (el.value env model bodies) (expr_SizeofType at a ws b))) i

  pub comma_arm : {A : Type 0} (e : Expr) (es : Vec Listed Global) (parts : List Listed) (vs : t.Vals) (r : Result (Box Value Global) A) → e ≡ Comma es → parts ≡ es.items → vs ≡ el.values env model bodies (parts_of parts) →
      IfOk r (λ b. value b.value ≡ made.comma_value vs) → IfOk r (λ b. value b.value ≡ el.value env model bodies (expr e))
  comma_arm e es parts vs r p q w i =
      ok_as r _ _ (ap made.comma_value (w ∙ ap (λ z. el.values env model bodies (parts_of z)) q) ∙ sym (ap of p ∙ ap (el.value env model bodies) (expr_Comma es) ∙ comma_is env model bodies (parts_of es.items))) i

  pub binary_arm : {A : Type 0} (e a b : Expr) (o : BinaryOp) (at : ℕ) (c d : Expr) (x y : t.Val) (r : Result (Box Value Global) A) → expr e ≡ tr.eBinary (expr a) o at (expr b) →
      c ≡ a → d ≡ b → x ≡ el.value env model bodies (expr a) → y ≡ el.value env model bodies (expr b) →
      IfOk r (λ b. value b.value ≡ made.binary_value model o at (el.kind_at env model bodies (expr c)) (el.kind_at env model bodies (expr d)) x y) → IfOk r (λ b. value b.value ≡ el.value env model bodies (expr e))
  binary_arm e a b o at c d x y r p k l u w i =
      ok_as r _ _ (ap (λ z. made.binary_value model o at (el.kind_at env model bodies (expr z)) (el.kind_at env model bodies (expr d)) x y) k ∙ ap (λ z. made.binary_value model o at (el.kind_at env model bodies (expr a)) (el.kind_at env model bodies (expr z)) x y) l
      ∙ ap (λ z. made.binary_value model o at (el.kind_at env model bodies (expr a)) (el.kind_at env model bodies (expr b)) z y) u
      ∙ ap (made.binary_value model o at (el.kind_at env model bodies (expr a)) (el.kind_at env model bodies (expr b)) (el.value env model bodies (expr a))) w
      ∙ sym (ap (el.value env model bodies) p ∙ binary_is env model bodies (expr a) o at (expr b))) i

  pub assign_arm : {A : Type 0} (e a b : Expr) (o : AssignOp) (at : ℕ) (c d : Expr) (g : t.Goal) (y : t.Val) (r : Result (Box Value Global) A) → expr e ≡ tr.eAssign (expr a) o at (expr b) →
      c ≡ a → d ≡ b → g ≡ el.goal env model bodies (expr a) → y ≡ el.value env model bodies (expr b) →
      IfOk r (λ b. value b.value ≡ made.assigned_value model o at (el.kind_at env model bodies (expr c)) (el.kind_at env model bodies (expr d)) g y) → IfOk r (λ b. value b.value ≡ el.value env model bodies (expr e))
  assign_arm e a b o at c d g y r p k l u w i =
      ok_as r _ _ (ap (λ z. made.assigned_value model o at (el.kind_at env model bodies (expr z)) (el.kind_at env model bodies (expr d)) g y) k ∙ ap (λ z. made.assigned_value model o at (el.kind_at env model bodies (expr a)) (el.kind_at env model bodies (expr z)) g y) l
      ∙ ap (λ z. made.assigned_value model o at (el.kind_at env model bodies (expr a)) (el.kind_at env model bodies (expr b)) z y) u
      ∙ ap (made.assigned_value model o at (el.kind_at env model bodies (expr a)) (el.kind_at env model bodies (expr b)) (el.goal env model bodies (expr a))) w
      ∙ sym (ap (el.value env model bodies) p ∙ assigned_is env model bodies (expr a) o at (expr b))) i

  pub index_arm : {A : Type 0} (e a i g h : Expr) (x y : ℕ) (k : Kind) (v : t.Val) (r : Result (Box Value Global) A) → expr e ≡ tr.eIndex (expr a) x (expr i) y → g ≡ i → h ≡ a → k ≡ el.kind_at env model bodies (expr e) →
      v ≡ el.value env model bodies (expr g) → IfOk r (λ b. value b.value ≡ t.vElement k x (el.or_none env (m.base_of env (expr h))) v) → IfOk r (λ b. value b.value ≡ el.value env model bodies (expr e))
  index_arm e a i g h x y k v r p q s l w n =
      ok_as r _ _ (ap (λ z. t.vElement z x (el.or_none env (m.base_of env (expr h))) v) (l ∙ ap (el.kind_at env model bodies) p)
      ∙ ap (λ z. t.vElement (el.kind_at env model bodies (tr.eIndex (expr a) x (expr i) y)) x (el.or_none env (m.base_of env (expr z))) v) s
      ∙ ap (t.vElement (el.kind_at env model bodies (tr.eIndex (expr a) x (expr i) y)) x (el.or_none env (m.base_of env (expr a)))) (w ∙ ap of q)
      ∙ sym (ap (el.value env model bodies) p)) n

  -- ---- Loops

  pub values_step : (old new : List Value) (v : Value) (xs : List Listed) (i : ℕ) (x : Listed) (g : Expr) → i < length xs → x ≡ get_or xs i x → g ≡ x.value.value → values_of old ≡ el.values env model bodies (parts_of (take i xs)) →
      value v ≡ el.value env model bodies (expr g) → new ≡ old ++ v ∷ [] → values_of new ≡ el.values env model bodies (parts_of (take (i + 1) xs))
  values_step old new v xs i x g b e q h w n =
      ap values_of n ∙ values_push old v ∙ ap (λ z. t.values_and z (value v)) h ∙ ap (t.values_and (el.values env model bodies (parts_of (take i xs)))) (w ∙ ap of (q ∙ ap (λ z. z.value.value) e))
      ∙ sym (values_more env model bodies xs i x b)

  pub arguments_step : (ks : List Kind) (old new : List Value) (v : Value) (xs : List Listed) (i : ℕ) (x : Listed) (g : Expr) (k : Kind) → i < length xs → x ≡ get_or xs i x → g ≡ x.value.value → k ≡ slice_index_or ks i kind.Int →
      values_of old ≡ el.arguments env model bodies ks (parts_of (take i xs)) → value v ≡ t.vConvert k (el.value env model bodies (expr g)) → new ≡ old ++ v ∷ [] →
      values_of new ≡ el.arguments env model bodies ks (parts_of (take (i + 1) xs))
  arguments_step ks old new v xs i x g k b e q l h w n =
      ap values_of n ∙ values_push old v ∙ ap (λ z. t.values_and z (value v)) h
      ∙ ap (t.values_and (el.arguments env model bodies ks (parts_of (take i xs)))) (w ∙ ap (λ z. t.vConvert z (el.value env model bodies (expr g))) l ∙ ap (λ z. t.vConvert (slice_index_or ks i kind.Int) (of z)) (q ∙ ap (λ z. z.value.value) e))
      ∙ sym (arguments_more env model bodies ks xs i x b)
