use Rattle.std.specs.Prelude.{◌≡◌, ◌+◌}
use Rattle.cfg_build.specs.Sizes.{nodes_of}
use Rattle.cfg_build.specs.Numbers.{code_between, last_number}
use Rattle.cfg_build.proofs.numbering.exit_of.Given as goal

-- the number so far and the nodes of the places that are left
abbrev pub invariant-loop-place : goal.invariant-loop-place
invariant-loop-place l = l.exit + nodes_of (code_between l.code l.place l.end) ≡ last_number l.code l.first l.entry l.end
