use Rattle.std.proofs.Common.{rules, ◌≡◌, suc, [], Ok, refl}
use Rattle.std.specs.Prelude.{unsigned_abs}
use Rattle.lv_base.specs.Integers.{converted}
use Rattle.c_run.specs.Run.{element}
use Rattle.slot_code.specs.Slots.{get, put}
use Rattle.slot_code.specs.Machine.{Goes, machine}
use Rattle.slot_board.specs.Seen.{applied_value, state_written}
use Rattle.slot_board.specs.Boards.{state_of, next_of}
use Rattle.slot_board.proofs.Computing.{updated_ok, updated_err}
use Rattle.slot_board.proofs.board.Board.update.Goals as goal

pub returns-in-Ok-clause-next : goal.returns-in-Ok-clause-next
returns-in-Ok-clause-next c =
    let e : c.applied.result ≡ applied_value c.args.model c.args.op c.args.kind (converted c.args.kind c.args.model (get c.args.self.now.slots.items (suc c.args.site.slot))) (get c.args.self.now.slots.items (suc (suc c.args.site.slot))) = search rules in
    let n : next_of c.args.site.place c.rewrite-in-Ok.result c.rewrite-in-Ok.new.self ≡ Goes (machine (suc c.args.site.place) (put c.args.self.now.slots.items c.args.site.slot (converted c.args.target c.args.model c.in-Ok.value))
    (state_written (element c.args.object (unsigned_abs (get c.args.self.now.slots.items c.args.site.slot))) (converted c.args.target c.args.model c.in-Ok.value) (state_of c.args.self.now))) = search rules in
    updated_ok c.args.model [] c.args.site.place c.args.site.slot c.args.at c.args.self.now.slots.items c.args.op c.args.kind c.args.target (element c.args.object (unsigned_abs (get c.args.self.now.slots.items c.args.site.slot)))
    (get c.args.self.now.slots.items (suc c.args.site.slot)) (get c.args.self.now.slots.items (suc (suc c.args.site.slot))) (state_of c.args.self.now) c.applied.result c.in-Ok.value _ e c.in-Ok.is n

pub returns-in-Some-clause-next : goal.returns-in-Some-clause-next
returns-in-Some-clause-next c =
    let e : Ok c.in-Some.value ≡ applied_value c.args.model c.args.op c.args.kind (converted c.args.kind c.args.model (get c.args.self.now.slots.items (suc c.args.site.slot))) (get c.args.self.now.slots.items (suc (suc c.args.site.slot))) = search rules in
    let n : next_of c.args.site.place c.rewrite.result c.rewrite.new.self ≡ Goes (machine (suc c.args.site.place) (put c.args.self.now.slots.items c.args.site.slot (converted c.args.target c.args.model c.in-Some.value))
    (state_written (element c.args.object (unsigned_abs (get c.args.self.now.slots.items c.args.site.slot))) (converted c.args.target c.args.model c.in-Some.value) (state_of c.args.self.now))) = search rules in
    updated_ok c.args.model [] c.args.site.place c.args.site.slot c.args.at c.args.self.now.slots.items c.args.op c.args.kind c.args.target (element c.args.object (unsigned_abs (get c.args.self.now.slots.items c.args.site.slot)))
    (get c.args.self.now.slots.items (suc c.args.site.slot)) (get c.args.self.now.slots.items (suc (suc c.args.site.slot))) (state_of c.args.self.now) (Ok c.in-Some.value) c.in-Some.value _ e refl n

pub returns-in-Err-clause-next : goal.returns-in-Err-clause-next
returns-in-Err-clause-next c =
    let e : c.applied.result ≡ applied_value c.args.model c.args.op c.args.kind (converted c.args.kind c.args.model (get c.args.self.now.slots.items (suc c.args.site.slot))) (get c.args.self.now.slots.items (suc (suc c.args.site.slot))) = search rules in
    updated_err c.args.model [] c.args.site.place c.args.site.slot c.args.at c.args.self.now.slots.items c.args.op c.args.kind c.args.target (element c.args.object (unsigned_abs (get c.args.self.now.slots.items c.args.site.slot)))
    (get c.args.self.now.slots.items (suc c.args.site.slot)) (get c.args.self.now.slots.items (suc (suc c.args.site.slot))) (state_of c.args.self.now) c.applied.result c.in-Err.error e c.in-Err.is
