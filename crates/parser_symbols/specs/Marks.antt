-- The symbol of a mark, in three parts.
use Rattle.std.specs.Prelude.{Option, None, Some}
use Rattle.c_tree.specs.declared.symbol.AssignOp.{AssignOp}
use Rattle.c_tree.specs.declared.symbol.BinaryOp.{BinaryOp}
use Rattle.c_tree.specs.declared.symbol.Symbol.{Symbol}
use Rattle.c_tree.specs.declared.symbol.Symbol.TheVariants as sy

abbrev pub assignment_in : Symbol → Option AssignOp
assignment_in (sy.Assign o) = Some o
assignment_in _ = None

abbrev pub operator_in : Symbol → Option BinaryOp
operator_in (sy.Binary o) = Some o
operator_in _ = None

-- what is neither; the end stands for what is one of them
abbrev pub other_in : Symbol → Symbol
other_in (sy.Assign o) = sy.End
other_in (sy.Binary o) = sy.End
other_in s = s

abbrev pub joined_operator : Option BinaryOp → Symbol → Symbol
joined_operator (Some o) s = sy.Binary o
joined_operator None s = s

abbrev pub joined : Option AssignOp → Option BinaryOp → Symbol → Symbol
joined (Some o) b s = sy.Assign o
joined None b s = joined_operator b s
