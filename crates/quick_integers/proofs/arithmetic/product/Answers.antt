use Rattle.std.proofs.Common.{◌≡◌, ◌∙◌, ap, sym, ◌*ℤ◌, true, FitsSigned}
use Rattle.std.specs.Int.{w128}
use Rattle.lv_base.specs.Integers.{is_signed, held}
use Rattle.lv_base.specs.declared.fault.ErrorKind.TheVariants.{Overflow}
use Rattle.quick_integers.proofs.Fits.{signed_in_any, product_fits, product_is, product_signed}
use Rattle.quick_integers.proofs.arithmetic.product.Goals as goal

pub returns-then-signed : goal.returns-then-signed
returns-then-signed c =
    let is : is_signed c.args.kind ≡ true = sym c.signed.ensures ∙ c.if-signed.true in
    let fits : FitsSigned w128 (c.args.left *ℤ c.args.right) = product_fits c.args.left c.args.right (signed_in_any _ _ _ is c.requires.left) (signed_in_any _ _ _ is c.requires.right) in
    record { value = product_signed c.args.kind c.args.model _ _ is (c.fitting.ensures.value ∙ ap (held c.args.kind c.args.model Overflow) (product_is c.args.left c.args.right c.ranges.left c.ranges.right fits)) }
