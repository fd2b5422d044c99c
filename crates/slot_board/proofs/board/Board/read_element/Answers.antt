use Rattle.std.proofs.Common.{rules, ◌≡◌}
use Rattle.slot_code.specs.Slots.{get}
use Rattle.slot_board.specs.Seen.{reply, seen, element_at}
use Rattle.slot_board.specs.Boards.{state_of}
use Rattle.slot_board.proofs.Answering.{fills_reply}
use Rattle.slot_board.proofs.board.Board.read_element.Goals as goal

pub returns-clause-next : goal.returns-clause-next
returns-clause-next c =
    let e : reply c.element-got.result (state_of c.args.self.now) ≡ seen (element_at c.args.at c.args.object c.args.count (get c.args.self.now.slots.items c.args.site.slot) (state_of c.args.self.now)) = search rules in
    fills_reply _ c.args.site.place c.args.self.now.slots.items c.args.site.slot _ _ c.filled.ensures.next e
