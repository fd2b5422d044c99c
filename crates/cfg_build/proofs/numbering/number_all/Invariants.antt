use Rattle.std.specs.Prelude.{◌≡◌, ◌++◌}
use Rattle.cfg_build.specs.Numbers.{numbers_from, code_between}
use Rattle.cfg_build.proofs.numbering.number_all.Given as goal

-- the numbers so far and those of the places that are left
abbrev pub invariant-loop-place : goal.invariant-loop-place
invariant-loop-place l =
    l.numbers.items ++ numbers_from l.number (code_between l.code l.place l.end) ≡ l.initial.numbers.items ++ numbers_from l.first (code_between l.code l.entry l.end)
