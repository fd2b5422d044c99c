use Rattle.std.proofs.Common.{rules, ◌≡◌, ◌∙◌, ap, sym, ◌≤◌, ◌^◌, ◌*ℤ◌, pos, ℤ, true, false, arith, to_z, of_z}
use Rattle.std.specs.Int.{w128}
use Rattle.std.specs.Prelude.{unsigned_abs, int_lt}
use Rattle.std.proofs.lemmas.Int.{to_z-of_z, to_z_pos}
use Rattle.lv_base.specs.Integers.{is_signed, converted, held}
use Rattle.lv_base.specs.declared.fault.ErrorKind.TheVariants.{Shift}
use Rattle.lv_base.proofs.RangeLemmas.{in_any, below_power, shifted_fits, shift_is, shifted_product, shl_signed, shl_unsigned}
use Rattle.lv_base.proofs.arithmetic.shift_left.Goals as goal

pub overflow_mul-shifted : goal.overflow_mul-shifted
overflow_mul-shifted c =
    let le : c.power.result ≤ 2 ^ 63 = rw c.power.ensures.power (below_power _ c.in-Some.ensures.small) in
    let plain : to_z w128 c.power.result ≡ pos c.power.result = to_z_pos w128 c.power.result (omega arith) in
    rw (plain, to_z-of_z w128 c.args.left c.ranges.left) (shifted_fits _ _ (in_any _ _ _ c.requires) le)

pub returns-then-not-signed-clause-value : goal.returns-then-not-signed-clause-value
returns-then-not-signed-clause-value c =
    let right = shift_is c.args.kind c.args.model c.args.left c.args.right _ c.power.result c.in-Some.ensures.value c.ranges.right in
    let shifted = shifted_product c.args.left c.power.result c.in-Some.amount (unsigned_abs c.args.right) c.power.ensures.power c.in-Some.ensures.small (in_any _ _ _ c.requires) c.ranges.left right.1 in
    let unsigned : is_signed c.args.kind ≡ false = sym c.signed.ensures ∙ c.if-not-signed.true in
    let value : to_z w128 (of_z w128 c.convert.result) ≡ converted c.args.kind c.args.model (c.args.left *ℤ pos (2 ^ unsigned_abs c.args.right)) =
    to_z-of_z w128 c.convert.result (search rules) ∙ c.convert.ensures.value ∙ ap (converted c.args.kind c.args.model) shifted in
    shl_unsigned c.args.kind c.args.model c.args.left c.args.right _ right.0 unsigned value

pub returns-clause-value : goal.returns-clause-value
returns-clause-value c =
    let right = shift_is c.args.kind c.args.model c.args.left c.args.right _ c.power.result c.in-Some.ensures.value c.ranges.right in
    let shifted = shifted_product c.args.left c.power.result c.in-Some.amount (unsigned_abs c.args.right) c.power.ensures.power c.in-Some.ensures.small (in_any _ _ _ c.requires) c.ranges.left right.1 in
    let signed : is_signed c.args.kind ≡ true = sym c.signed.ensures ∙ c.if-not-signed.false in
    let above : int_lt c.args.left (pos 0) ≡ false = ap (λ (z : ℤ). int_lt z (pos 0)) (sym (to_z-of_z w128 c.args.left c.ranges.left)) ∙ c.if-left-lt0.false in
    shl_signed c.args.kind c.args.model c.args.left c.args.right _ right.0 signed above (c.fitting.ensures.value ∙ ap (held c.args.kind c.args.model Shift) shifted)
