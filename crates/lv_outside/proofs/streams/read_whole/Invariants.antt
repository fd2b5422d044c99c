use Rattle.std.proofs.Common.{◌+◌, ◌-◌, vec_len}
use Rattle.std.specs.Io.KnownBytes.{Consumes}
use Rattle.lv_outside.proofs.streams.read_whole.Given as goal

-- what was read is what is no longer left
abbrev pub invariant-parts : goal.invariant-parts
invariant-parts g l = Consumes (g.R.Read.remaining l.initial.from) (g.R.Read.remaining l.from) l.bytes.items

abbrev pub decreases-parts : goal.decreases-parts
decreases-parts g l = l.most + 1 - vec_len l.bytes
