use Rattle.std.proofs.Common.{◌≡◌, replicate, string_bytes}
use Rattle.trace_texts.proofs.failures.caret.Given as goal

-- a blank for each column so far
abbrev pub invariant-loop : goal.invariant-loop
invariant-loop l = string_bytes l.text ≡ replicate l.counter 32
