-- The values of the definition, by those of their parts.
pub use Rattle.c_tree.proofs.Views.{expr_Call, expr_Comma, expr_Cast, expr_SizeofType}
use Rattle.std.proofs.Common.{◌≡◌, ℕ, List, refl}
use Rattle.lv_base.specs.declared.kind.Model.{Model}
use Rattle.c_tree.specs.declared.symbol.BinaryOp.{BinaryOp}
use Rattle.c_tree.specs.declared.symbol.BinaryOp.TheVariants as op
use Rattle.c_tree.specs.declared.symbol.AssignOp.{AssignOp}
use Rattle.c_tree.specs.declared.symbol.AssignOp.TheVariants as to
use Rattle.c_tree.specs.Tree as tr
use Rattle.c_meaning.specs.Bindings.{Env}
use Rattle.c_types.specs.Elaborated as el
use Rattle.typed_values.specs.Made as made

module _ (env : Env) (model : Model) (bodies : List (List ℕ)) where
  pub binary_is : (a : tr.Ex) (o : BinaryOp) (at : ℕ) (b : tr.Ex) →
      el.value env model bodies (tr.eBinary a o at b) ≡ made.binary_value model o at (el.kind_at env model bodies a) (el.kind_at env model bodies b) (el.value env model bodies a) (el.value env model bodies b)
  binary_is a op.OrElse at b = refl
  binary_is a op.AndAlso at b = refl
  binary_is a op.BitOr at b = refl
  binary_is a op.BitXor at b = refl
  binary_is a op.BitAnd at b = refl
  binary_is a op.Equal at b = refl
  binary_is a op.NotEqual at b = refl
  binary_is a op.Less at b = refl
  binary_is a op.Greater at b = refl
  binary_is a op.LessEqual at b = refl
  binary_is a op.GreaterEqual at b = refl
  binary_is a op.ShiftLeft at b = refl
  binary_is a op.ShiftRight at b = refl
  binary_is a op.Add at b = refl
  binary_is a op.Subtract at b = refl
  binary_is a op.Multiply at b = refl
  binary_is a op.Divide at b = refl
  binary_is a op.Remainder at b = refl

  pub assigned_is : (a : tr.Ex) (o : AssignOp) (at : ℕ) (b : tr.Ex) →
      el.value env model bodies (tr.eAssign a o at b) ≡ made.assigned_value model o at (el.kind_at env model bodies a) (el.kind_at env model bodies b) (el.goal env model bodies a) (el.value env model bodies b)
  assigned_is a to.Plain at b = refl
  assigned_is a to.Multiply at b = refl
  assigned_is a to.Divide at b = refl
  assigned_is a to.Remainder at b = refl
  assigned_is a to.Add at b = refl
  assigned_is a to.Subtract at b = refl
  assigned_is a to.ShiftLeft at b = refl
  assigned_is a to.ShiftRight at b = refl
  assigned_is a to.BitAnd at b = refl
  assigned_is a to.BitXor at b = refl
  assigned_is a to.BitOr at b = refl

  pub comma_is : (es : tr.Parts) → el.value env model bodies (tr.eComma es) ≡ made.comma_value (el.values env model bodies es)
  comma_is tr.no_parts = refl
  comma_is (tr.parts_and es c e) = refl
