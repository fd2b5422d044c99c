use Rattle.std.proofs.Common.{rules, ◌≡◌, sym, true, Ok}
use Rattle.std.specs.Prelude.{IfSome}
use Rattle.lv_base.specs.Integers.{InRange, is_promoted, arith_of}
use Rattle.typed_range_laws.proofs.Ranging.{guard_open}
use Rattle.slot_board.proofs.Quick.{right_of, some_same}
use Rattle.slot_board.proofs.values.quickly.Goals as goal

pub returns-then-are_given : goal.returns-then-are_given
returns-then-are_given c =
    let left : InRange c.args.kind c.args.model c.args.left = search rules in
    let right : InRange c.args.kind c.args.model c.args.right = search rules in
    let promoted : is_promoted c.args.kind ≡ true = search rules in
    let e : IfSome c.operated.result (λ v. Ok v ≡ arith_of c.args.op c.args.kind c.args.model c.args.left c.args.right) = search rules in
    some_same c.operated.result _ _ (sym (guard_open c.args.op c.args.kind c.args.model c.args.left c.args.right promoted left (right_of c.args.op c.args.kind c.args.model c.args.right right))) e
