use Rattle.std.proofs.Common.{rules, ◌≡◌, suc, ap, sym, ◌∙◌, [], Ok}
use Rattle.slot_code.specs.Slots.{get, put}
use Rattle.slot_code.specs.Machine.{fills, Goes, machine}
use Rattle.slot_board.specs.Seen.{applied_value}
use Rattle.slot_board.specs.Boards.{state_of, next_of}
use Rattle.slot_board.proofs.Answering.{answered}
use Rattle.slot_board.proofs.Computing.{applied_computed, applied_some}
use Rattle.slot_board.proofs.board.Board.binary.Goals as goal

pub returns-clause-next : goal.returns-clause-next
returns-clause-next c =
    let e : c.applied.result ≡ applied_value c.args.model c.args.op c.args.kind (get c.args.self.now.slots.items c.args.site.slot) (get c.args.self.now.slots.items (suc c.args.site.slot)) = search rules in
    answered c.args.site.place c.args.self.now.slots.items c.args.site.slot c.args.at (state_of c.args.self.now) c.applied.result _ c.or_error-got.result _ c.filled.ensures.next c.or_error-got.ensures e
    ∙ ap (fills c.args.site.place c.args.self.now.slots.items c.args.site.slot)
    (sym (applied_computed c.args.model [] c.args.at c.args.op c.args.kind (get c.args.self.now.slots.items c.args.site.slot) (get c.args.self.now.slots.items (suc c.args.site.slot)) (state_of c.args.self.now)))

pub returns-in-Some-clause-next : goal.returns-in-Some-clause-next
returns-in-Some-clause-next c =
    let e : Ok c.in-Some.value ≡ applied_value c.args.model c.args.op c.args.kind (get c.args.self.now.slots.items c.args.site.slot) (get c.args.self.now.slots.items (suc c.args.site.slot)) = search rules in
    let n : next_of c.args.site.place c.stored.result c.stored.new.self ≡ Goes (machine (suc c.args.site.place) (put c.args.self.now.slots.items c.args.site.slot c.in-Some.value) (state_of c.args.self.now)) = search rules in
    applied_some c.args.model [] c.args.site.place c.args.site.slot c.args.at c.args.self.now.slots.items c.args.op c.args.kind (get c.args.self.now.slots.items c.args.site.slot) (get c.args.self.now.slots.items (suc c.args.site.slot)) (state_of c.args.self.now) c.in-Some.value _ e n
