-- The three parts of a symbol make it whole.
use Rattle.std.proofs.Common.{◌≡◌, refl}
use Rattle.c_tree.specs.declared.symbol.Symbol.{Symbol}
use Rattle.c_tree.specs.declared.symbol.Symbol.TheVariants as sy
use Rattle.parser_symbols.specs.Marks.{assignment_in, operator_in, other_in, joined}

pub joined_parts : (s : Symbol) → joined (assignment_in s) (operator_in s) (other_in s) ≡ s
joined_parts (sy.Assign o) = refl
joined_parts (sy.Binary o) = refl
joined_parts _ = refl
