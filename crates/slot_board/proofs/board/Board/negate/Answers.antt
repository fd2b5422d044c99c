use Rattle.std.proofs.Common.{rules, ◌≡◌, pos}
use Rattle.lv_base.specs.declared.kind.Op.TheVariants as op
use Rattle.typed_range_laws.specs.Guards.{guarded}
use Rattle.slot_code.specs.Slots.{get}
use Rattle.slot_board.specs.Boards.{state_of}
use Rattle.slot_board.proofs.Answering.{answered}
use Rattle.slot_board.proofs.board.Board.negate.Goals as goal

pub returns-clause-next : goal.returns-clause-next
returns-clause-next c =
    let e : c.guarded-computed.result ≡ guarded c.args.model op.Sub c.args.kind (pos 0) (get c.args.self.now.slots.items c.args.site.slot) = search rules in
    answered c.args.site.place c.args.self.now.slots.items c.args.site.slot c.args.at (state_of c.args.self.now) c.guarded-computed.result _ c.or_error-got.result _ c.filled.ensures.next c.or_error-got.ensures e
