-- The value that is computed without a state is the one that evaluation gives.
use Rattle.std.proofs.Common.{◌≡◌, ℕ, Bool, true, false, not, ◌&&◌, if◌then◌else◌, cond, Option, Some, None, Result, Ok, Err, ℤ, pos, negsuc, refl, ap, sym, ◌∙◌}
use Rattle.lv_base.specs.declared.kind.Kind.{Kind}
use Rattle.lv_base.specs.declared.kind.Model.{Model}
use Rattle.lv_base.specs.declared.kind.Op.TheVariants as arith
use Rattle.lv_base.specs.declared.fault.ErrorKind.{ErrorKind}
use Rattle.lv_base.specs.Integers.{arith_of, converted, truth, is_zero}
use Rattle.c_tree.specs.declared.symbol.BinaryOp.{BinaryOp}
use Rattle.c_tree.specs.declared.symbol.BinaryOp.TheVariants as op
use Rattle.c_tree.specs.declared.tree.PrefixOp.TheVariants as pre
use Rattle.c_tree.specs.Tree.{Ex, eName, eNumber, eLetter, eParen, eCall, eIndex, ePostfix, ePrefix, eSizeof, eCast, eBinary, eCond, eAssign, eComma}
use Rattle.c_run.specs.Run.{State, Got, Value, Stop, Run, give, after, ◌>>=◌, ◌>>◌, choose, read, computed, is_true}
use Rattle.c_run.specs.Operators.{Use, used, dropped, negated, is_negated, is_turned, op_of}
use Rattle.c_meaning.specs.Kinds.{CType, tKind, tVoid, tArray, tFunction, tNone, kind_of, is_kind, promoted, operation_kind, right_kind, as_type}
use Rattle.c_meaning.specs.Bindings.{Env, Entity, anObjectOf, aFunctionOf, aConstantOf, aTypeOf, aTagOf, aNameOf, nothingOf, entity_of, object_number, words_type}
use Rattle.c_meaning.specs.Types.{type_of}
use Rattle.c_meaning.specs.Value.{Context, value, named_value, base_of, element_at, applied, prefixed, cast_to}
use Rattle.c_meaning.specs.Constants.{is_constant, is_object, constant_context, constant_of, got_value, only_if, no_state}
use Rattle.type_constants.specs.Evaluated as ev

-- evaluation gives this value and leaves the state as it is, or ends where there is none
abbrev Tells : Got ℤ → Option ℤ → State → Type 0
Tells (Value v after) o st = (o ≡ Some v) × (after ≡ st)
Tells (Stop e) o st = o ≡ None

and_left : (a b : Bool) → (a && b) ≡ true → a ≡ true
and_left true b p = refl
and_left false b p = p

and_right : (a b : Bool) → (a && b) ≡ true → b ≡ true
and_right true b p = p
and_right false b p = cc

then_tells : (g : Got ℤ) (o : Option ℤ) (st : State) (f : ℤ → Run ℤ) (h : Option ℤ → Option ℤ) → Tells g o st → h None ≡ None → ((v : ℤ) → Tells (f v st) (h (Some v)) st) → Tells (after g f) (h o) st
then_tells (Value v st') o st f h p n q = rw (p.0, p.1) (q v)
then_tells (Stop e) o st f h p n q = ap h p ∙ n

choose_tells : (b : Bool) (m n : Run ℤ) (x y : Option ℤ) (st : State) → Tells (m st) x st → Tells (n st) y st → Tells (choose (not b) m n st) (if b then y else x) st
choose_tells true m n x y st p q = q
choose_tells false m n x y st p q = p

computed_tells : (at : ℕ) (r : Result ℤ ErrorKind) (st : State) → Tells (computed at r st) (ev.ok_value r) st
computed_tells at (Ok v) st = (refl, refl)
computed_tells at (Err e) st = refl

finished_tells : (b : Bool) (at : ℕ) (r : Result ℤ ErrorKind) (st : State) → Tells ((computed at r >>= (λ v. give (negated b v))) st) (ev.finished b (ev.ok_value r)) st
finished_tells true at (Ok v) st = (refl, refl)
finished_tells false at (Ok v) st = (refl, refl)
finished_tells true at (Err e) st = refl
finished_tells false at (Err e) st = refl

module _ (env : Env) (model : Model) where
  abbrev c : Context
  c = constant_context env model

  turned_tells : (b t : Bool) (at : ℕ) (o : BinaryOp) (k : Kind) (left right : ℤ) (st : State) →
      Tells ((computed at (if t then arith_of (op_of o) k model right left else arith_of (op_of o) k model left right) >>= (λ v. give (negated b v))) st) (ev.finished b (ev.computed_in model t o k left right)) st
  turned_tells b true at o k left right st = finished_tells b at (arith_of (op_of o) k model right left) st
  turned_tells b false at o k left right st = finished_tells b at (arith_of (op_of o) k model left right) st

  applied_tells : (at : ℕ) (o : BinaryOp) (k l : Kind) (x y : ℤ) (st : State) → Tells (applied c at o k l x y st) (ev.applied_constant model o k l x y) st
  applied_tells at o k l x y st = turned_tells (is_negated o) (is_turned o) at o (operation_kind model o k l) (converted (operation_kind model o k l) model x) (converted (right_kind model o k l) model y) st

  named_tells : (e : Entity) (st : State) → not (is_object e) ≡ true → Tells (named_value c e st) (ev.named_constant e) st
  named_tells (anObjectOf n) st p = cc
  named_tells (aFunctionOf r ps) st p = (refl, refl)
  named_tells (aConstantOf v) st p = (refl, refl)
  named_tells (aTypeOf k b) st p = (refl, refl)
  named_tells (aTagOf k) st p = (refl, refl)
  named_tells (aNameOf k b) st p = cc
  named_tells nothingOf st p = (refl, refl)

  no_object : (e : Entity) → not (is_object e) ≡ true → object_number e ≡ None
  no_object (anObjectOf n) p = cc
  no_object e p = refl

  -- a constant has no object as its base
  no_base : (a : Ex) → is_constant env a ≡ true → base_of env a ≡ None
  no_base (eName n at) p = no_object (entity_of env n at) p
  no_base (eParen a e b) p = no_base e p
  no_base (ePrefix pre.Extension at e) p = no_base e p
  no_base e p = refl

  cast_tells : (t : CType) (m n : Run ℤ) (o : Option ℤ) (st : State) → Tells (m st) o st → Tells (n st) o st → Tells (cast_to c t m n st) (ev.cast_constant model t o) st
  cast_tells (tKind k) m n o st p q = then_tells (m st) o st (λ v. give (converted k model v)) (ev.cast_constant model (tKind k)) p refl (λ v. (refl, refl))
  cast_tells tVoid m n o st p q = then_tells (n st) o st (λ v. give (pos 0)) (ev.cast_constant model tVoid) q refl (λ v. (refl, refl))
  cast_tells (tArray k i) m n o st p q = then_tells (n st) o st (λ v. give (pos 0)) (ev.cast_constant model (tArray k i)) q refl (λ v. (refl, refl))
  cast_tells (tFunction r ps) m n o st p q = then_tells (n st) o st (λ v. give (pos 0)) (ev.cast_constant model (tFunction r ps)) q refl (λ v. (refl, refl))
  cast_tells tNone m n o st p q = then_tells (n st) o st (λ v. give (pos 0)) (ev.cast_constant model tNone) q refl (λ v. (refl, refl))

  as_tells : (t : CType) (v : ℤ) (st : State) → Tells (give (as_type model t v) st) (ev.cast_constant model t (Some v)) st
  as_tells (tKind k) v st = (refl, refl)
  as_tells tVoid v st = (refl, refl)
  as_tells (tArray k i) v st = (refl, refl)
  as_tells (tFunction r ps) v st = (refl, refl)
  as_tells tNone v st = (refl, refl)

  truth_tells : (g : Got ℤ) (o : Option ℤ) (st : State) → Tells g o st → Tells (after g (λ y. give (truth (is_true y)))) (ev.truth_constant o) st
  truth_tells g o st p = then_tells g o st (λ y. give (truth (is_true y))) ev.truth_constant p refl (λ v. (refl, refl))

  both_tells : (z : Bool) (m : Run ℤ) (o : Option ℤ) (st : State) → Tells (m st) o st →
      Tells (choose (not z) (m >>= (λ y. give (truth (is_true y)))) (give (pos 0)) st) (if z then Some (pos 0) else ev.truth_constant o) st
  both_tells true m o st p = (refl, refl)
  both_tells false m o st p = truth_tells (m st) o st p

  either_tells : (z : Bool) (m : Run ℤ) (o : Option ℤ) (st : State) → Tells (m st) o st →
      Tells (choose (not z) (give (pos 1)) (m >>= (λ y. give (truth (is_true y)))) st) (if z then ev.truth_constant o else Some (pos 1)) st
  either_tells true m o st p = truth_tells (m st) o st p
  either_tells false m o st p = (refl, refl)

  tells : (u : Use) (e : Ex) (st : State) → is_constant env e ≡ true → Tells (value c u e st) (ev.evaluated env model e) st
  tells u (eName n at) st p = named_tells (entity_of env n at) st p
  tells u (eNumber v f at) st p = (refl, refl)
  tells u (eLetter v at) st p = (refl, refl)
  tells u (eParen a e b) st p = tells u e st p
  tells u (eCall f a es b) st p = cc
  tells u (eIndex a x i y) st p =
      then_tells (value c used i st) (ev.evaluated env model i) st (λ v. element_at c x (base_of env a) v >>= read) (λ _. None) (tells used i st (and_right (is_constant env a) (is_constant env i) p)) refl
      (λ v. rw (no_base a (and_left (is_constant env a) (is_constant env i) p)) refl)
  tells u (ePostfix e b at) st p = cc
  tells u (ePrefix pre.Increment at e) st p = cc
  tells u (ePrefix pre.Decrement at e) st p = cc
  tells u (ePrefix pre.Plus at e) st p = then_tells (value c used e st) (ev.evaluated env model e) st (prefixed c at pre.Plus (kind_of (type_of env model e))) (ev.plus_constant model (promoted (kind_of (type_of env model e)))) (tells used e st p) refl (λ v. (refl, refl))
  tells u (ePrefix pre.Minus at e) st p =
      then_tells (value c used e st) (ev.evaluated env model e) st (prefixed c at pre.Minus (kind_of (type_of env model e))) (ev.minus_constant model (promoted (kind_of (type_of env model e)))) (tells used e st p) refl
      (λ v. computed_tells at (arith_of arith.Sub (promoted (kind_of (type_of env model e))) model (pos 0) (converted (promoted (kind_of (type_of env model e))) model v)) st)
  tells u (ePrefix pre.Complement at e) st p =
      then_tells (value c used e st) (ev.evaluated env model e) st (prefixed c at pre.Complement (kind_of (type_of env model e))) (ev.complement_constant model (promoted (kind_of (type_of env model e)))) (tells used e st p) refl
      (λ v. computed_tells at (arith_of arith.Xor (promoted (kind_of (type_of env model e))) model (converted (promoted (kind_of (type_of env model e))) model v) (converted (promoted (kind_of (type_of env model e))) model (negsuc 0))) st)
  tells u (ePrefix pre.Not at e) st p = then_tells (value c used e st) (ev.evaluated env model e) st (prefixed c at pre.Not (kind_of (type_of env model e))) (ev.finished true) (tells used e st p) refl (λ v. (refl, refl))
  tells u (ePrefix pre.Extension at e) st p = tells u e st p
  tells u (ePrefix pre.Sizeof at e) st p = (refl, refl)
  tells u (eSizeof at a ws b) st p = (refl, refl)
  tells u (eCast a ws b e) st p = cast_tells (words_type env ws) (value c used e) (value c dropped e) (ev.evaluated env model e) st (tells used e st p) (tells dropped e st p)
  tells u (eBinary a op.AndAlso at b) st p =
      then_tells (value c used a st) (ev.evaluated env model a) st _ (λ o. ev.binary_constant model op.AndAlso (kind_of (type_of env model a)) (kind_of (type_of env model b)) o (ev.evaluated env model b)) (tells used a st (and_left (is_constant env a) (is_constant env b) p)) refl
      (λ x. both_tells (is_zero x) (value c used b) (ev.evaluated env model b) st (tells used b st (and_right (is_constant env a) (is_constant env b) p)))
  tells u (eBinary a op.OrElse at b) st p =
      then_tells (value c used a st) (ev.evaluated env model a) st _ (λ o. ev.binary_constant model op.OrElse (kind_of (type_of env model a)) (kind_of (type_of env model b)) o (ev.evaluated env model b)) (tells used a st (and_left (is_constant env a) (is_constant env b) p)) refl
      (λ x. either_tells (is_zero x) (value c used b) (ev.evaluated env model b) st (tells used b st (and_right (is_constant env a) (is_constant env b) p)))
  tells u (eBinary a o at b) st p =
      then_tells (value c used a st) (ev.evaluated env model a) st _ (λ x. ev.binary_constant model o (kind_of (type_of env model a)) (kind_of (type_of env model b)) x (ev.evaluated env model b)) (tells used a st (and_left (is_constant env a) (is_constant env b) p)) refl
      (λ x. then_tells (value c used b st) (ev.evaluated env model b) st (λ y. applied c at o (kind_of (type_of env model a)) (kind_of (type_of env model b)) x y) (λ y. ev.apply_constant model o (kind_of (type_of env model a)) (kind_of (type_of env model b)) x y)
      (tells used b st (and_right (is_constant env a) (is_constant env b) p)) refl (λ y. applied_tells at o (kind_of (type_of env model a)) (kind_of (type_of env model b)) x y st))
  tells u (eCond t x a y b) st p =
      then_tells (value c used t st) (ev.evaluated env model t) st _ (λ o. ev.cond_constant model (type_of env model (eCond t x a y b)) o (ev.evaluated env model a) (ev.evaluated env model b)) (tells used t st (and_left (is_constant env t) (is_constant env a && is_constant env b) p)) refl
      (λ v. then_tells (choose (is_true v) (value c used a) (value c used b) st) (if is_zero v then ev.evaluated env model b else ev.evaluated env model a) st (λ r. give (as_type model (type_of env model (eCond t x a y b)) r)) (ev.cast_constant model (type_of env model (eCond t x a y b)))
      (choose_tells (is_zero v) (value c used a) (value c used b) (ev.evaluated env model a) (ev.evaluated env model b) st
      (tells used a st (and_left (is_constant env a) (is_constant env b) (and_right (is_constant env t) (is_constant env a && is_constant env b) p)))
      (tells used b st (and_right (is_constant env a) (is_constant env b) (and_right (is_constant env t) (is_constant env a && is_constant env b) p))))
      refl (λ r. as_tells (type_of env model (eCond t x a y b)) r st))
  tells u (eAssign a o at b) st p = cc
  tells u (eComma es) st p = cc

  got_is : (g : Got ℤ) (o : Option ℤ) (st : State) → Tells g o st → got_value g ≡ o
  got_is (Value v st') o st p = sym p.0
  got_is (Stop e) o st p = sym p

  only_same : (b : Bool) (x y : Option ℤ) → (b ≡ true → x ≡ y) → only_if b x ≡ only_if b y
  only_same true x y h = h refl
  only_same false x y h = refl

  pub constant_is : (e : Ex) → constant_of env model e ≡ ev.constant_in env model e
  constant_is e = only_same (is_constant env e && is_kind (type_of env model e)) _ _ (λ p. got_is (value c used e no_state) (ev.evaluated env model e) no_state (tells used e no_state (and_left (is_constant env e) (is_kind (type_of env model e)) p)))
