-- The lines in which the end of a run is told.
use Rattle.std.specs.Prelude.{ℕ, List, [], ◌∷◌, ◌++◌, codes, replicate, ℤ}
use Rattle.std.specs.Fmt.{decimal, signed_decimal}
use Rattle.lv_base.specs.declared.fault.ErrorKind.{ErrorKind}
use Rattle.lv_base.specs.Names.{error_name}
use Rattle.c_tree.specs.declared.symbol.BinaryOp.{BinaryOp}
use Rattle.c_tree.specs.declared.symbol.Crement.{Crement}
use Rattle.trace_texts.specs.Names.{operator_text, crement_text}

-- the operation that failed, with its operands
abbrev pub operated : ℤ → BinaryOp → ℤ → List ℕ
operated left op right = signed_decimal left ++ (codes " " ++ (operator_text op ++ (codes " " ++ signed_decimal right)))

-- the `++` or `--` that failed, with the value before it
abbrev pub changed : Crement → ℤ → List ℕ
changed by value = crement_text by ++ (codes " of " ++ signed_decimal value)

-- an index outside its array
abbrev pub no_element : List ℕ → ℤ → ℕ → List ℕ
no_element name index count = name ++ (codes "[" ++ (signed_decimal index ++ (codes "], of " ++ (decimal count ++ codes " elements"))))

-- a value that a function did not return
abbrev pub absent : List ℕ → List ℕ
absent name = name ++ codes " returned no value"

-- the minus that failed, with its operand
abbrev pub negated : ℤ → List ℕ
negated value = codes "-(" ++ (signed_decimal value ++ codes ")")

-- a value that is none of a kind
abbrev pub unfit : ℤ → List ℕ → List ℕ
unfit value kind = signed_decimal value ++ (codes " is no " ++ kind)

-- what the run asks for that is not given
abbrev pub wanting : List ℕ → List ℕ → List ℕ
wanting at what = at ++ (what ++ 10 ∷ [])

-- an error, with what failed
abbrev pub broken : List ℕ → ErrorKind → List ℕ → List ℕ
broken at kind what = at ++ (error_name kind ++ (codes ": " ++ (what ++ 10 ∷ [])))

-- a mark behind so many columns
abbrev pub caret : ℕ → List ℕ
caret columns = replicate columns 32 ++ (codes "^" ++ 10 ∷ [])
