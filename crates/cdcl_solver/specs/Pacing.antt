-- When the search starts over.
use Rattle.std.specs.Prelude.{◌≡◌, ℕ, ◌+◌, ◌-◌, ◌*◌, ◌%◌, ◌&&◌, cond, nat_eq, nat_lt}
use Rattle.cdcl_solver.specs.declared.pacing.Pace.{Pace}

-- the pace after a conflict
abbrev pub paced : Pace → Pace
paced p = cond (nat_lt 0 p.left) (record { turn = p.turn; size = p.size; left = p.left - 1 }) (cond (nat_lt p.size 1048576 && nat_eq (p.turn % (2 * p.size)) 0) (record { turn = p.turn; size = 2 * p.size; left = 100 * (2 * p.size) }) (record { turn = cond (nat_lt p.turn 4294967295) (p.turn + 1) 1; size = 1; left = 100 }))
