use Rattle.std.proofs.Common.{rules, ◌≡◌, suc, ◌+◌, ap, ◌∙◌, arith}
use mir.Syntax.{w128}
use mir.Val.{SFits}
use Rattle.std.proofs.lemmas.Int.{to_z-of_z}
use Rattle.slot_code.specs.Slots.{get}
use Rattle.slot_board.proofs.board.Board.third.Goals as goal

pub returns : goal.returns
returns c =
    let f : SFits w128 c.slot.result = search rules in
    let e : c.args.slot + 2 ≡ suc (suc c.args.slot) = omega arith in
    to_z-of_z w128 c.slot.result f ∙ c.slot.ensures ∙ ap (get c.args.self.now.slots.items) e
