use Rattle.std.proofs.Common.{◌+ℤ◌, ◌-ℤ◌, FitsSigned}
use Rattle.std.specs.Int.{w128}
use Rattle.std.proofs.lemmas.Int.{to_z-of_z}
use Rattle.std.proofs.lemmas.Nat.{or_lt, xor_lt}
use Rattle.quick_integers.proofs.Fits.{in_any, right_in_any, sum_fits, difference_fits}
use Rattle.quick_integers.proofs.arithmetic.arith.Goals as goal

pub with_bits-requires-in-Or : goal.with_bits-requires-in-Or
with_bits-requires-in-Or c = or_lt _ _ _ c.low_bits-in-Or.ensures.small c.low_bits-in-Or-2.ensures.small

pub with_bits-requires-in-Xor : goal.with_bits-requires-in-Xor
with_bits-requires-in-Xor c = xor_lt _ _ _ c.low_bits-in-Xor.ensures.small c.low_bits-in-Xor-2.ensures.small

pub returns-in-Add : goal.returns-in-Add
returns-in-Add c =
    let fits : FitsSigned w128 (c.args.left +ℤ c.args.right) = sum_fits _ _ (in_any _ _ _ c.requires.left) (right_in_any _ _ _ _ c.requires.right) in
    let left : FitsSigned w128 c.args.left = c.ranges.left in
    let right : FitsSigned w128 c.args.right = c.ranges.right in
    let e = simp to_z-of_z at c.exact_sum.ensures.value in
    record { value = rw c.in-Add.is e }

pub returns-in-Sub : goal.returns-in-Sub
returns-in-Sub c =
    let fits : FitsSigned w128 (c.args.left -ℤ c.args.right) = difference_fits _ _ (in_any _ _ _ c.requires.left) (right_in_any _ _ _ _ c.requires.right) in
    let left : FitsSigned w128 c.args.left = c.ranges.left in
    let right : FitsSigned w128 c.args.right = c.ranges.right in
    let e = simp to_z-of_z at c.exact_sum-in-Sub.ensures.value in
    record { value = rw c.in-Sub.is e }
