use Rattle.std.proofs.Common.{◌≡◌, ◌≤◌, Some, drop}
use Rattle.request_words.specs.Values.{number_behind}
use Rattle.request_words.proofs.values.digits.Given as goal

abbrev pub invariant-loop-byte : goal.invariant-loop-byte
invariant-loop-byte l = record {
  small : l.number ≤ l.most;
  most : l.most ≤ 4294967295;
  behind : number_behind l.most (Some l.number) (drop l.byte-index l.bytes) ≡ number_behind l.most (Some 0) l.bytes;
}
