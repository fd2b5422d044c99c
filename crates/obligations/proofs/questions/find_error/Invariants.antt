use Rattle.std.proofs.Common.{◌≡◌, ◌<◌, length, drop, slice_index_or}
use Rattle.obligations.specs.Questions.{error_at, errors_from}
use Rattle.obligations.proofs.questions.find_error.Given as goal

abbrev pub invariant-loop-number : goal.invariant-loop-number
invariant-loop-number l = record {
  there : l.left < length (errors_from l.number (drop l.number l.nodes));
  same : slice_index_or (errors_from l.number (drop l.number l.nodes)) l.left (record { 0 = 0 }) ≡ error_at l.nodes l.before;
}
