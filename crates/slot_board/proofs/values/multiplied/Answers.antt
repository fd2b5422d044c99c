use Rattle.std.proofs.Common.{◌≡◌, ◌∙◌, sym, true}
use Rattle.lv_base.specs.Integers.{is_signed}
use Rattle.slot_board.proofs.Quick.{product_some}
use Rattle.slot_board.proofs.values.multiplied.Goals as goal

pub returns-then-is_signed : goal.returns-then-is_signed
returns-then-is_signed c =
    let is : is_signed c.args.kind ≡ true = sym c.is_signed.ensures ∙ c.if-is_signed.true in
    product_some c.args.kind c.args.model _ c.args.left c.args.right is c.requires.left c.requires.right c.ranges.left c.ranges.right c.summed.ensures
