-- The expressions of a witness as trees of C.
use Rattle.std.specs.Prelude.{ℕ, zero, suc, Bool, true, false, List, [], ◌∷◌, ◌==◌, if◌then◌else◌}
use Rattle.c_lexer.specs.declared.token.NumberForm.{NumberForm}
use Rattle.c_tree.specs.declared.symbol.BinaryOp.TheVariants as op
use Rattle.c_tree.specs.declared.tree.PrefixOp.TheVariants as pre
use Rattle.c_tree.specs.Tree.{Ex, eName, eNumber, eParen, eIndex, ePrefix, eBinary}
use Rattle.witness_truth_laws.specs.Written.{Place, pScalar, pElement, Expression, xTruth, xBit, xBoth, xEither, xNot}

-- digits that don't begin with 0 are decimal; 0 itself is an octal digit
abbrev pub is_decimal : ℕ → Bool
is_decimal zero = false
is_decimal (suc k) = true

-- a constant in decimal digits without a suffix
abbrev pub plain_form : ℕ → NumberForm
plain_form k = record { decimal = is_decimal k; unsigned_suffix = false; longs = 0 }

-- each token stands at one offset, at which names mean what they mean there
module _ (at : ℕ) where
  abbrev pub number : ℕ → Ex
  number k = eNumber k (plain_form k) at

  abbrev pub place_tree : Place → Ex
  place_tree (pScalar name) = eName name at
  place_tree (pElement name k) = eIndex (eName name at) at (number k) at

  abbrev pub tree_of : Expression → Ex
  tree_of (xTruth v) = number (if v == 1 then 1 else 0)
  tree_of (xBit k p) = eParen at (eBinary (eParen at (eBinary (place_tree p) op.ShiftRight at (number k)) at) op.BitAnd at (number 1)) at
  tree_of (xBoth x y) = eParen at (eBinary (tree_of x) op.AndAlso at (tree_of y)) at
  tree_of (xEither x y) = eParen at (eBinary (tree_of x) op.OrElse at (tree_of y)) at
  tree_of (xNot x) = eParen at (ePrefix pre.Not at (tree_of x)) at

  -- behind an expression, the others with `&&` before each
  abbrev pub conjoined_tree : Ex → List Expression → Ex
  conjoined_tree e [] = e
  conjoined_tree e (x ∷ xs) = conjoined_tree (eBinary e op.AndAlso at (tree_of x)) xs

  -- expressions with `&&` between, 1 without any
  abbrev pub conjunction_tree : List Expression → Ex
  conjunction_tree [] = number 1
  conjunction_tree (x ∷ xs) = conjoined_tree (tree_of x) xs
