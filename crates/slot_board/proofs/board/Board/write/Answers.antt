use Rattle.std.proofs.Common.{◌≡◌, ap, sym, ◌∙◌, arith, [], ◌∷◌, length, get_or}
use Rattle.std.proofs.lemmas.List.{length-set}
use Rattle.slot_board.proofs.Shapes.{row_at, lengths_set}
use Rattle.slot_board.proofs.board.Board.write.Goals as goal

pub returns-then-object-len-clause-kept : goal.returns-then-object-len-clause-kept
returns-then-object-len-clause-kept c =
    let r : get_or c.args.self.now.store.items c.args.object [] ≡ c.index_mut-row.result.now = row_at c.args.self.now.store.items c.args.object c.index_mut-row.result.now (omega arith) c.index_mut-row.ensures.value in
    ap (λ ns. length c.args.self.now.slots.items ∷ ns)
    (lengths_set c.args.self.now.store.items c.args.object c.set.new.self (ap length c.set.ensures ∙ length-set c.index_mut-row.result.now c.args.index _ ∙ ap length (sym r)))
