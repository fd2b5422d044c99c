use Rattle.std.proofs.Common.{◌≡◌, ◌++◌, drop, take, length}
use Rattle.plan_tables.specs.Made.{loaded}
use Rattle.plan_tables.proofs.units.load_words.Given as goal

abbrev pub invariant-loop-word : goal.invariant-loop-word
invariant-loop-word l =
    (length l.scratch.items ≡ length l.initial.scratch.items)
    × (take l.word l.scratch.items ++ loaded (drop l.word l.row) (drop l.word l.scratch.items) ≡ loaded l.row l.initial.scratch.items)
