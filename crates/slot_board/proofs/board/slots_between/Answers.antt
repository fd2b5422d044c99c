use Rattle.std.proofs.Common.{◌≡◌, ◌+◌, ◌-◌, ap, sym, ◌∙◌, arith, take, drop}
use Rattle.slot_board.proofs.Shapes.{slots_taken}
use Rattle.slot_board.proofs.board.slots_between.Goals as goal

pub returns : goal.returns
returns c =
    let e : c.args.slot + c.args.count - c.args.slot ≡ c.args.count = omega arith in
    ap (λ n. take n (drop c.args.slot c.args.slots.now)) e ∙ sym (slots_taken c.args.slots.now c.args.slot c.args.count c.requires)
