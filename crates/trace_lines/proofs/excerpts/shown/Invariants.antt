use Rattle.std.proofs.Common.{◌≡◌, take, map, string_bytes}
use Rattle.trace_lines.specs.Excerpts.{shown_byte}
use Rattle.trace_lines.proofs.excerpts.shown.Given as goal

-- the bytes so far are shown
abbrev pub invariant-loop-byte : goal.invariant-loop-byte
invariant-loop-byte l = string_bytes l.text ≡ map shown_byte (take l.byte-index l.bytes)
