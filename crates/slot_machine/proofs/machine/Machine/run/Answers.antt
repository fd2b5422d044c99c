use Rattle.std.proofs.Common.{rules, ◌≡◌, ◌<◌, ◌∙◌, ap, arith, length, pos, Some}
use Rattle.typed_range_laws.specs.Guards as guards
use Rattle.slot_code.specs.Slots.{slots_in, put}
use Rattle.slot_code.specs.Machine as flat
use Rattle.slot_board.specs.Boards.{state_of}
use Rattle.slot_board.specs.Seen.{state}
use Rattle.slot_machine.specs.Loaded.{Loaded, run_of}
use Rattle.slot_machine.proofs.Beginning.{put_long, sound_again, run_is, run_of_code}
use Rattle.slot_machine.proofs.machine.Machine.run.Goals as goal

pub run_from-requires-clause-slots : goal.run_from-requires-clause-slots
run_from-requires-clause-slots c =
    let enters : c.in-Some.entry.slot < length c.self.inside.board.slots.items = search rules in
    omega (arith, ap length c.begin.ensures.slots, put_long c.self.inside.board.slots.items c.in-Some.entry.slot (pos c.len.result) enters, ap slots_in c.deref-2.ensures.value, c.self.invariant.slots_fit)

-- a run begins with the objects' first values
pub invariant_of-self : goal.invariant_of-self
invariant_of-self c =
    let enters : c.in-Some.entry.slot < length c.self.inside.board.slots.items = search rules in
    let st : state_of c.begin.new.board ≡ state c.self.inside.first.items 0 c.args.turns = c.begin.ensures.state ∙ ap (λ rows. state rows 0 c.args.turns) c.deref.ensures.value in
    sound_again c.self.inside.code.items c.self.inside.entry c.self.inside.first.items c.self.inside.board.slots.items c.begin.new.board.slots.items c.run_from.new.board.slots.items
    c.self.inside.board.store.items c.begin.new.board.store.items c.run_from.new.board.store.items c.in-Some.entry.slot 0 c.args.turns (pos c.len.result)
    c.begin.new.board.taken c.begin.new.board.turns c.self.invariant enters c.begin.ensures.slots st c.run_from.ensures.kept

pub returns-clause-run : goal.returns-clause-run
returns-clause-run c =
    let end : c.len.result ≡ length c.self.inside.code.items = search rules in
    let st : state_of c.begin.new.board ≡ state c.self.inside.first.items 0 c.args.turns = c.begin.ensures.state ∙ ap (λ rows. state rows 0 c.args.turns) c.deref.ensures.value in
    let slots : c.begin.new.board.slots.items ≡ put c.self.inside.board.slots.items c.in-Some.entry.slot (pos (length c.self.inside.code.items)) =
    c.begin.ensures.slots ∙ ap (λ n. put c.self.inside.board.slots.items c.in-Some.entry.slot (pos n)) end in
    let m : Loaded = record { model = c.self.inside.model; code = c.self.inside.code.items; store = c.self.inside.first.items; entry = c.self.inside.entry; slots = c.self.inside.board.slots.items } in
    let enters : c.self.inside.entry ≡ Some c.in-Some.entry = search rules in
    run_is m c.args.inputs.now c.args.turns c.in-Some.entry c.begin.new.board.slots.items (state_of c.begin.new.board) c.run_from.result enters slots st
    (c.run_from.ensures.run
    ∙ ap (λ code. flat.run_from c.self.inside.model (λ op kind x y. guards.guarded c.self.inside.model op kind x y) c.args.inputs.now code
    (flat.machine c.in-Some.entry.place c.begin.new.board.slots.items (state_of c.begin.new.board))) c.deref-2.ensures.value)
    ∙ ap (λ (l : Loaded). run_of l c.args.inputs.now c.args.turns) c.self.view_is

pub returns-clause-code : goal.returns-clause-code
returns-clause-code c program code link h =
    run_of_code c.args.self.now program code link c.args.self.now.slots c.args.inputs.now c.args.turns c.run_from.result (returns-clause-run c) h
