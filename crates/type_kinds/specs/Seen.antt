-- The types of expressions, without where they lie in memory.
use Rattle.type_kinds.specs.declared.types.ExprType.{ExprType}
use Rattle.type_kinds.specs.declared.types.ExprType.TheVariants as t
use Rattle.c_meaning.specs.Kinds.{CType, tKind, tVoid, tArray, tFunction, tNone}

abbrev pub type_of : ExprType → CType
type_of (t.Kind k) = tKind k
type_of t.Void = tVoid
type_of (t.Array k n) = tArray k n
type_of (t.Function result parameters) = tFunction result parameters.now
type_of t.None = tNone
