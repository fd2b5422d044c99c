use Rattle.std.proofs.Common.{◌≡◌, ◌+◌, ◌<◌, ◌^◌, drop, []}
use Rattle.stored_text.specs.Line.{fresh_line}
use Rattle.stored_text.specs.Reading.{read_from}
use Rattle.stored_text.proofs.reading.read_lines.Given as goal

abbrev pub invariant-loop-at : goal.invariant-loop-at
invariant-loop-at l = record {
  rest : read_from l.values.items l.line (6 + l.at) (drop l.at l.bytes) ≡ read_from [] fresh_line 6 l.bytes;
  small : l.line.value < 10 ^ 20;
}
