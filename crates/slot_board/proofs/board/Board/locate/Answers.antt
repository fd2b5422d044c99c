use Rattle.std.proofs.Common.{rules, ◌≡◌}
use Rattle.slot_code.specs.Slots.{get}
use Rattle.slot_board.specs.Seen.{reply, seen, index_at}
use Rattle.slot_board.specs.Boards.{state_of}
use Rattle.slot_board.proofs.Answering.{fills_reply}
use Rattle.slot_board.proofs.board.Board.locate.Goals as goal

pub returns-clause-next : goal.returns-clause-next
returns-clause-next c = λ object.
    let h = c.index-got.ensures object in
    let e : reply c.index-got.result (state_of c.args.self.now) ≡ seen (index_at c.args.at object c.args.count (get c.args.self.now.slots.items c.args.site.slot) (state_of c.args.self.now)) = search (rules, h) in
    fills_reply _ c.args.site.place c.args.self.now.slots.items c.args.site.slot _ _ c.filled.ensures.next e
