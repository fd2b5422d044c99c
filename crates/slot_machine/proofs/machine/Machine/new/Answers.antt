use Rattle.std.proofs.Common.{rules, ◌≡◌, ◌≤◌, length}
use Rattle.c_typed.specs.Run.{start_store}
use Rattle.c_typed.specs.Parts.{tree_of}
use Rattle.slot_code.specs.Slots.{slots_in}
use Rattle.slot_machine.specs.Loaded.{EntryFits}
use Rattle.slot_machine.proofs.Beginning.{sound_new}
use Rattle.slot_machine.proofs.machine.Machine.new.Goals.{in-Some+in_ok-ok_or-in-Some, in-None}
use Rattle.slot_machine.proofs.machine.Machine.new.Goals as goal

pub invariant_of-result : goal.invariant_of-result
invariant_of-result c =
    let long : length c.in_ok-slots.slots.items ≡ c.match-entry.wanted = search rules in
    let first : c.in_ok-first.first.items ≡ start_store (tree_of c.args.typed.now).objects = search rules in
    let store : c.in_ok-store.store.items ≡ start_store (tree_of c.args.typed.now).objects = search rules in
    let fit : slots_in c.args.code.items ≤ c.match-entry.wanted =
    elim c.match-entry.branch [ in-Some+in_ok-ok_or-in-Some w ↦ search rules | in-None w ↦ search rules ] in
    let enters : EntryFits c.match-entry.entry c.match-entry.wanted =
    elim c.match-entry.branch [ in-Some+in_ok-ok_or-in-Some w ↦ search rules | in-None w ↦ search rules ] in
    sound_new (tree_of c.args.typed.now) c.args.code.items c.match-entry.entry c.in_ok-first.first.items c.in_ok-store.store.items c.in_ok-slots.slots.items c.match-entry.wanted
    c.objects.ensures.typed c.requires.shaped fit enters long first store
