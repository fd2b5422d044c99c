use Rattle.std.proofs.Common.{◌≡◌, ◌||◌, ◌++◌, drop, take, length}
use Rattle.plan_tables.specs.Made.{added, adds}
use Rattle.plan_tables.proofs.units.add_words.Given as goal

abbrev pub invariant-loop-word : goal.invariant-loop-word
invariant-loop-word l =
    (length l.row.items ≡ length l.initial.row.items)
    × (take l.word l.row.items ++ added (drop l.word l.row.items) (drop l.word l.scratch) ≡ added l.initial.row.items l.scratch)
    × ((l.has_changed || adds (drop l.word l.row.items) (drop l.word l.scratch)) ≡ adds l.initial.row.items l.scratch)
