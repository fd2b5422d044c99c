use Rattle.slot_board.proofs.Answering.{fills_reply}
use Rattle.slot_board.proofs.board.Board.draw_value.Goals as goal

pub returns-clause-next : goal.returns-clause-next
returns-clause-next c = fills_reply _ c.args.site.place c.args.self.now.slots.items c.args.site.slot _ _ c.filled.ensures.next (c.draw-got.ensures c.args.self.now.store.items c.args.self.now.turns)
