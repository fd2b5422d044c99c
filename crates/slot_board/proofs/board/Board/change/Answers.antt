use Rattle.std.proofs.Common.{rules, ◌≡◌, suc, [], pos, Ok, refl}
use Rattle.std.specs.Prelude.{unsigned_abs}
use Rattle.lv_base.specs.Integers.{converted}
use Rattle.c_run.specs.Run.{element, choose}
use Rattle.c_run.specs.Operators.{crement_op}
use Rattle.c_typed.specs.Run.{promoted}
use Rattle.typed_range_laws.specs.Guards.{guarded}
use Rattle.slot_code.specs.Slots.{get, put}
use Rattle.slot_code.specs.Machine.{Goes, machine}
use Rattle.slot_board.specs.Seen.{state_written}
use Rattle.slot_board.specs.Boards.{state_of, next_of}
use Rattle.slot_board.proofs.Computing.{was, changed_ok, changed_err}
use Rattle.slot_board.proofs.board.Board.change.Goals as goal

pub returns-in-Ok-clause-next : goal.returns-in-Ok-clause-next
returns-in-Ok-clause-next c =
    let e : c.guarded.result ≡ guarded c.args.model (crement_op c.args.by) (promoted c.args.kind)
    (converted (promoted c.args.kind) c.args.model (was c.args.model [] (element c.args.object (unsigned_abs (get c.args.self.now.slots.items c.args.site.slot))) (state_of c.args.self.now))) (pos 1) = search rules in
    let n : next_of c.args.site.place c.rewrite-in-Ok.result c.rewrite-in-Ok.new.self ≡ Goes (machine (suc c.args.site.place)
    (put c.args.self.now.slots.items c.args.site.slot (choose c.args.before (converted c.args.kind c.args.model c.in-Ok.value) (was c.args.model [] (element c.args.object (unsigned_abs (get c.args.self.now.slots.items c.args.site.slot))) (state_of c.args.self.now))))
    (state_written (element c.args.object (unsigned_abs (get c.args.self.now.slots.items c.args.site.slot))) (converted c.args.kind c.args.model c.in-Ok.value) (state_of c.args.self.now))) = search rules in
    changed_ok c.args.model [] c.args.site.place c.args.site.slot c.args.at c.args.self.now.slots.items c.args.before c.args.by c.args.kind (element c.args.object (unsigned_abs (get c.args.self.now.slots.items c.args.site.slot))) (state_of c.args.self.now)
    c.guarded.result c.in-Ok.value _ e c.in-Ok.is n

pub returns-in-Some-clause-next : goal.returns-in-Some-clause-next
returns-in-Some-clause-next c =
    let e : Ok c.in-Some.value ≡ guarded c.args.model (crement_op c.args.by) (promoted c.args.kind)
    (converted (promoted c.args.kind) c.args.model (was c.args.model [] (element c.args.object (unsigned_abs (get c.args.self.now.slots.items c.args.site.slot))) (state_of c.args.self.now))) (pos 1) = search rules in
    let n : next_of c.args.site.place c.rewrite.result c.rewrite.new.self ≡ Goes (machine (suc c.args.site.place)
    (put c.args.self.now.slots.items c.args.site.slot (choose c.args.before (converted c.args.kind c.args.model c.in-Some.value) (was c.args.model [] (element c.args.object (unsigned_abs (get c.args.self.now.slots.items c.args.site.slot))) (state_of c.args.self.now))))
    (state_written (element c.args.object (unsigned_abs (get c.args.self.now.slots.items c.args.site.slot))) (converted c.args.kind c.args.model c.in-Some.value) (state_of c.args.self.now))) = search rules in
    changed_ok c.args.model [] c.args.site.place c.args.site.slot c.args.at c.args.self.now.slots.items c.args.before c.args.by c.args.kind (element c.args.object (unsigned_abs (get c.args.self.now.slots.items c.args.site.slot))) (state_of c.args.self.now)
    (Ok c.in-Some.value) c.in-Some.value _ e refl n

pub returns-in-Err-clause-next : goal.returns-in-Err-clause-next
returns-in-Err-clause-next c =
    let e : c.guarded.result ≡ guarded c.args.model (crement_op c.args.by) (promoted c.args.kind)
    (converted (promoted c.args.kind) c.args.model (was c.args.model [] (element c.args.object (unsigned_abs (get c.args.self.now.slots.items c.args.site.slot))) (state_of c.args.self.now))) (pos 1) = search rules in
    changed_err c.args.model [] c.args.site.place c.args.site.slot c.args.at c.args.self.now.slots.items c.args.before c.args.by c.args.kind (element c.args.object (unsigned_abs (get c.args.self.now.slots.items c.args.site.slot))) (state_of c.args.self.now)
    c.guarded.result c.in-Err.error e c.in-Err.is
