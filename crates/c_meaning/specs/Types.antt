-- The types of expressions (C11 6.5).
use Rattle.lv_base.specs.declared.kind.Kind.TheVariants as kind
use Rattle.lv_base.specs.declared.kind.Model.{Model}
use Rattle.c_tree.specs.declared.tree.PrefixOp.{PrefixOp}
use Rattle.c_tree.specs.declared.tree.PrefixOp.TheVariants as pre
use Rattle.c_tree.specs.declared.symbol.BinaryOp.{BinaryOp}
use Rattle.c_tree.specs.Tree.{Ex, eName, eNumber, eLetter, eParen, eCall, eIndex, ePostfix, ePrefix, eSizeof, eCast, eBinary, eCond, eAssign, eComma, Parts, no_parts, parts_and}
use Rattle.c_meaning.specs.Kinds.{CType, tKind, tVoid, tArray, tFunction, tNone, promoted, common, result_kind, number_kind, size_kind, result_type}
use Rattle.c_meaning.specs.Bindings.{Env, entity_of, entity_type, words_type}

-- an operation on two values has a kind
abbrev pub binary_type : Model → BinaryOp → CType → CType → CType
binary_type model o (tKind k) (tKind l) = tKind (result_kind model o k l)
binary_type model o _ _ = tNone

-- `+ - ~` promote, and `!` gives an `int` (C11 6.5.3.3)
abbrev pub promoted_type : CType → CType
promoted_type (tKind k) = tKind (promoted k)
promoted_type _ = tNone

abbrev pub prefix_type : Model → PrefixOp → CType → CType
prefix_type model pre.Increment t = t
prefix_type model pre.Decrement t = t
prefix_type model pre.Plus t = promoted_type t
prefix_type model pre.Minus t = promoted_type t
prefix_type model pre.Complement t = promoted_type t
prefix_type model pre.Not t = tKind kind.Int
prefix_type model pre.Extension t = t
prefix_type model pre.Sizeof t = tKind (size_kind model)

-- `?:` converts its arms to their common type; two void arms are void (C11 6.5.15 p5)
abbrev pub arms_type : Model → CType → CType → CType
arms_type model (tKind k) (tKind l) = tKind (common model k l)
arms_type model tVoid tVoid = tVoid
arms_type model _ _ = tNone

abbrev pub element_type : CType → CType
element_type (tArray k n) = tKind k
element_type _ = tNone

abbrev pub called_type : CType → CType
called_type (tFunction result parameters) = result_type result
called_type _ = tNone

module _ (env : Env) (model : Model) where
  abbrev mutual
    pub type_of : Ex → CType
    type_of (eName n at) = entity_type env (entity_of env n at)
    type_of (eNumber v f at) = tKind (number_kind model v f)
    type_of (eLetter v at) = tKind kind.Int
    type_of (eParen a e b) = type_of e
    type_of (eCall f a es b) = called_type (type_of f)
    type_of (eIndex a x i y) = element_type (type_of a)
    type_of (ePostfix e c at) = type_of e
    type_of (ePrefix o at e) = prefix_type model o (type_of e)
    type_of (eSizeof at a ws b) = tKind (size_kind model)
    type_of (eCast a ws b e) = words_type env ws
    type_of (eBinary a o at b) = binary_type model o (type_of a) (type_of b)
    type_of (eCond c x a y b) = arms_type model (type_of a) (type_of b)
    type_of (eAssign a o at b) = type_of a
    type_of (eComma es) = type_of_last es

    -- a comma has the type of its last part (C11 6.5.17 p2)
    pub type_of_last : Parts → CType
    type_of_last no_parts = tNone
    type_of_last (parts_and es c e) = type_of e
