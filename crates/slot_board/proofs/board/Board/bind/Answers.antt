use Rattle.std.proofs.Common.{rules, ◌≡◌, suc, ap, ◌∙◌, [], set, get_or}
use Rattle.c_run.specs.Run.{with_store}
use Rattle.slot_code.specs.Slots.{get}
use Rattle.slot_code.specs.Machine.{Goes, machine}
use Rattle.slot_board.specs.Boards.{state_of}
use Rattle.slot_board.proofs.Shapes.{one_value}
use Rattle.slot_board.proofs.board.Board.bind.Goals as goal

pub returns-clause-next : goal.returns-clause-next
returns-clause-next c =
    let s : state_of c.write.new.self ≡ with_store (state_of c.args.self.now) (set c.args.self.now.store.items c.args.object (set (get_or c.args.self.now.store.items c.args.object []) 0 (get c.args.self.now.slots.items c.args.site.slot))) = search rules in
    let o = one_value (get_or c.args.self.now.store.items c.args.object []) (get c.args.self.now.slots.items c.args.site.slot) c.requires.size in
    ap (λ xs. Goes (machine (suc c.args.site.place) xs (state_of c.write.new.self))) c.write.ensures.slots
    ∙ ap (λ t. Goes (machine (suc c.args.site.place) c.args.self.now.slots.items t)) (s ∙ ap (λ row. with_store (state_of c.args.self.now) (set c.args.self.now.store.items c.args.object row)) o)
