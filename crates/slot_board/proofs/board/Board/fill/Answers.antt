use Rattle.std.proofs.Common.{◌≡◌, ap, sym, ◌∙◌, arith, [], ◌∷◌, length, get_or}
use Rattle.slot_board.proofs.Shapes.{row_at, lengths_set}
use Rattle.slot_board.proofs.board.Board.fill.Goals as goal

pub returns-in-Ok-clause-kept : goal.returns-in-Ok-clause-kept
returns-in-Ok-clause-kept c =
    let r : get_or c.args.self.now.store.items c.args.object [] ≡ c.index_mut-row.result.now = row_at c.args.self.now.store.items c.args.object c.index_mut-row.result.now (omega arith) c.index_mut-row.ensures.value in
    ap (λ ns. length c.args.self.now.slots.items ∷ ns) (lengths_set c.args.self.now.store.items c.args.object c.fill.new.self (c.fill.ensures.size ∙ ap length (sym r)))

pub returns-in-Err-clause-kept : goal.returns-in-Err-clause-kept
returns-in-Err-clause-kept c =
    let r : get_or c.args.self.now.store.items c.args.object [] ≡ c.index_mut-row.result.now = row_at c.args.self.now.store.items c.args.object c.index_mut-row.result.now (omega arith) c.index_mut-row.ensures.value in
    ap (λ ns. length c.args.self.now.slots.items ∷ ns) (lengths_set c.args.self.now.store.items c.args.object c.fill.new.self (c.fill.ensures.size ∙ ap length (sym r)))
