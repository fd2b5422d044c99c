use Rattle.std.proofs.Common.{◌≡◌, ap, sym, ◌∙◌, arith, [], ◌∷◌, length, get_or}
use Rattle.slot_board.proofs.Shapes.{row_at, lengths_set, slots_length}
use Rattle.slot_board.proofs.board.Board.begin.Goals as goal

pub begin-requires : goal.begin-requires
begin-requires c =
    let r : get_or c.args.self.now.store.items c.args.object [] ≡ c.index_mut-row.result.now = row_at c.args.self.now.store.items c.args.object c.index_mut-row.result.now (omega arith) c.index_mut-row.ensures.value in
    omega (arith, ap length c.slots_between.ensures, slots_length c.deref.result.now c.args.site.slot c.args.values, ap length r, c.requires.size)

pub returns-clause-kept : goal.returns-clause-kept
returns-clause-kept c =
    let r : get_or c.args.self.now.store.items c.args.object [] ≡ c.index_mut-row.result.now = row_at c.args.self.now.store.items c.args.object c.index_mut-row.result.now (omega arith) c.index_mut-row.ensures.value in
    ap (λ ns. length c.args.self.now.slots.items ∷ ns) (lengths_set c.args.self.now.store.items c.args.object c.begin.new.self (c.begin.ensures.size ∙ ap length (sym r)))
