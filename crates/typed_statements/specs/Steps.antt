-- The value of a return, and the declaration that a statement is.
use Rattle.std.specs.Prelude.{Option, None, Some}
use Rattle.lv_base.specs.declared.kind.Kind.{Kind}
use Rattle.c_tree.specs.Tree.{St, sDeclaration, Declaration}
use Rattle.c_typed.specs.Tree.{Val, vConvert}

-- a value as one of a function's result
abbrev pub as_result : Option Kind → Val → Val
as_result None v = v
as_result (Some k) v = vConvert k v

abbrev pub declaration_in : St → Option Declaration
declaration_in (sDeclaration d) = Some d
declaration_in _ = None
