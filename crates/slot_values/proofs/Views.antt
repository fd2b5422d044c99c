-- Values, seen by their parts.
use Rattle.std.proofs.Common.{◌≡◌, suc, ◌+◌, List, [], ◌∷◌, length, ◌∙◌, arith}
use Rattle.c_typed.specs.declared.tree.Value.{Value}
use Rattle.c_typed.specs.Tree as t
use Rattle.c_typed.specs.View.{value, values_behind, values_of}
use Rattle.slot_code.specs.Values.{number_of}
pub use Rattle.step_values.proofs.Views.{value_Call, value_Comma}

numbers : (xs : List Value) (vs : t.Vals) → number_of (values_behind vs xs) ≡ number_of vs + length xs
numbers [] vs = let e : number_of vs ≡ number_of vs + 0 = omega arith in e
numbers (x ∷ xs) vs = numbers xs (t.values_and vs (value x)) ∙ (let e : suc (number_of vs) + length xs ≡ number_of vs + suc (length xs) = omega arith in e)

-- as many as the list has
pub number_is : (xs : List Value) → number_of (values_of xs) ≡ length xs
number_is xs = numbers xs t.no_values ∙ (let e : 0 + length xs ≡ length xs = omega arith in e)
