-- How long texts are, before they are made.
use Rattle.std.specs.Prelude.{ℕ, ◌+◌, List, [], ◌∷◌, ◌++◌, Bool, true, false, ◌&&◌, ◌==◌, nat_le, min, if◌then◌else◌, Option, Some, None, length, slice_get}
use Rattle.bv_term.specs.declared.term.TermId.{TermId}
use Rattle.bv_term.specs.declared.term.Term.{Term}
use Rattle.bv_term.specs.declared.term.Term.TheVariants.{Constant, And, Or, Not, Bit}
use Rattle.witness_expressions.specs.declared.sizes.Size.{Size}
use Rattle.witness_expressions.specs.Expressions.{bit_text, is_named, operand_name}

abbrev pub size : Bool → ℕ → ℕ → Size
size written text parts = record { written = written; text = text; parts = parts }

-- a text's length, ended where no part is as long
abbrev pub ended : ℕ → ℕ
ended n = min n 4097

-- the bytes of parts, each with a mark, ended where no machine has as many
abbrev pub counted : ℕ → ℕ
counted n = min n 18446744073709551615

abbrev pub leaf_size : Bool → ℕ → Size
leaf_size written text = size written (ended text) (if written && nat_le (ended text) 4096 then ended text + 4 else 0)

abbrev pub size_or_none : Option Size → Size
size_or_none None = size false 0 0
size_or_none (Some s) = s

abbrev pub size_at : List Size → TermId → Size
size_at sizes i = size_or_none (slice_get sizes i.0)

abbrev pub and_size : Size → Size → Size
and_size x y = size (x.written && y.written) (ended (x.text + y.text + 6)) (counted (x.parts + y.parts))

abbrev pub size_in : (ℕ → Option (List ℕ)) → List Term → List Size → Term → Size
size_in names terms sizes (Constant w v) = leaf_size (w == 1) 1
size_in names terms sizes (And i j) = and_size (size_at sizes i) (size_at sizes j)
size_in names terms sizes (Or i j) =
    leaf_size ((size_at sizes i).written && (size_at sizes j).written) ((size_at sizes i).text + (size_at sizes j).text + 6)
size_in names terms sizes (Not i) = leaf_size (size_at sizes i).written ((size_at sizes i).text + 3)
size_in names terms sizes (Bit k i) =
    leaf_size (is_named (operand_name names (slice_get terms i.0))) (length (bit_text k (operand_name names (slice_get terms i.0))))
size_in names terms sizes _ = leaf_size false 0

abbrev pub sizes_after : (ℕ → Option (List ℕ)) → List Term → List Size → List Term → List Size
sizes_after names terms sizes [] = sizes
sizes_after names terms sizes (t ∷ ts) = sizes_after names terms (sizes ++ size_in names terms sizes t ∷ []) ts

unfoldable pub sizes_of : (ℕ → Option (List ℕ)) → List Term → List Size
sizes_of names terms = sizes_after names terms [] terms
