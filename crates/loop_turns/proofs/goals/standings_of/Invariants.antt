use Rattle.std.proofs.Common.{◌≡◌, ℕ, nat_eq}
use Rattle.std.specs.HashMap.{get}
use Rattle.loop_turns.specs.Turning.{stands_at}
use Rattle.loop_turns.proofs.goals.standings_of.Given as goal

-- what stands at each offset among the instructions so far
abbrev pub invariant-loop-instruction : goal.invariant-loop-instruction
invariant-loop-instruction l = (offset : ℕ) → get nat_eq l.standings offset ≡ stands_at offset l.code l.instruction-index
