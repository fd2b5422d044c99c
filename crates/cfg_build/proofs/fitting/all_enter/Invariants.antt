use Rattle.slot_values.specs.Linked.{links_of}
use Rattle.cfg_build.specs.Fitting.{Enters}
use Rattle.cfg_build.proofs.Entering.{AllBelow}
use Rattle.cfg_build.proofs.fitting.all_enter.Given as goal

-- the instructions so far
abbrev pub invariant-loop-place : goal.invariant-loop-place
invariant-loop-place l = AllBelow (λ x. Enters (links_of l.links) x) l.code l.place
