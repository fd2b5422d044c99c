use Rattle.std.proofs.Common.{rules, ◌≡◌, true, Ok}
use Rattle.std.specs.Prelude.{IfSome}
use Rattle.lv_base.specs.Integers.{InRange, is_promoted}
use Rattle.slot_board.specs.Seen.{plain_value}
use Rattle.slot_board.proofs.Quick.{opened, some_same}
use Rattle.slot_board.proofs.values.quickly_applied.Goals as goal

pub returns-then-are_given : goal.returns-then-are_given
returns-then-are_given c =
    let left : InRange c.args.kind c.args.model c.args.left = search rules in
    let right : InRange c.args.kind c.args.model c.args.right = search rules in
    let promoted : is_promoted c.args.kind ≡ true = search rules in
    let e : IfSome c.combined.result (λ v. Ok v ≡ plain_value c.args.model c.args.op c.args.kind c.args.left c.args.right) = search rules in
    some_same c.combined.result _ _ (opened c.args.op c.args.kind c.args.model c.args.left c.args.right promoted left right) e
