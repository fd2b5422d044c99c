use Rattle.std.specs.Prelude.{◌≡◌, ◌-◌, ◌++◌, replicate}
use Rattle.cfg_build.proofs.numbering.own_all.Given as goal

-- the owners so far and those of the places that are left
abbrev pub invariant-loop-place : goal.invariant-loop-place
invariant-loop-place l = l.owners.items ++ replicate (l.end - l._place) l.function ≡ l.initial.owners.items ++ replicate (l.end - l.entry) l.function
