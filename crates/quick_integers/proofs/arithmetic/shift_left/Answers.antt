use Rattle.std.proofs.Common.{rules, ◌≡◌, ◌∙◌, ap, sym, ◌≤◌, ◌^◌, ◌*ℤ◌, pos, false, arith, to_z, of_z}
use Rattle.std.specs.Int.{w128}
use Rattle.std.specs.Prelude.{unsigned_abs}
use Rattle.std.proofs.lemmas.Int.{to_z-of_z, to_z_pos}
use Rattle.lv_base.specs.Integers.{is_signed, converted}
use Rattle.quick_integers.proofs.Fits.{in_any, below_power, shifted_fits, shift_is, shifted_product, shl_unsigned}
use Rattle.quick_integers.proofs.arithmetic.shift_left.Goals as goal

pub overflow_mul-shifted : goal.overflow_mul-shifted
overflow_mul-shifted c =
    let le : c.power.result ≤ 2 ^ 63 = rw c.power.ensures.power (below_power _ c.in-Some.ensures.small) in
    let plain : to_z w128 c.power.result ≡ pos c.power.result = to_z_pos w128 c.power.result (omega arith) in
    rw (plain, to_z-of_z w128 c.args.left c.ranges.left) (shifted_fits _ _ (in_any _ _ _ c.requires.left) le)

pub returns : goal.returns
returns c =
    let right = shift_is c.args.kind c.args.model c.args.left c.args.right _ c.power.result c.in-Some.ensures.value c.ranges.right in
    let shifted = shifted_product c.args.left c.power.result c.in-Some.amount (unsigned_abs c.args.right) c.power.ensures.power c.in-Some.ensures.small (in_any _ _ _ c.requires.left) c.ranges.left right.1 in
    let unsigned : is_signed c.args.kind ≡ false = sym c.signed.ensures ∙ c.if-signed.false in
    let value : to_z w128 (of_z w128 c.convert.result) ≡ converted c.args.kind c.args.model (c.args.left *ℤ pos (2 ^ unsigned_abs c.args.right)) =
    to_z-of_z w128 c.convert.result (search rules) ∙ c.convert.ensures.value ∙ ap (converted c.args.kind c.args.model) shifted in
    record { value = shl_unsigned c.args.kind c.args.model c.args.left c.args.right _ right.0 unsigned value }
