use Rattle.std.proofs.Common.{◌≡◌, ◌≤◌, ◌+◌, length, drop}
use Rattle.obligations.specs.Questions.{errors_from}
use Rattle.obligations.proofs.questions.error_count.Given as goal

abbrev pub invariant-loop-node : goal.invariant-loop-node
invariant-loop-node l = record {
  few : l.count ≤ l.node-index;
  left : l.count + length (errors_from l.node-index (drop l.node-index l.nodes)) ≡ length (errors_from 0 l.nodes);
}
