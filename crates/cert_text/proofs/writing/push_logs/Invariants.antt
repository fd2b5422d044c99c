use Rattle.std.proofs.Common.{◌≡◌, drop, take, ◌++◌, All}
use Rattle.cert_text.specs.CertText.{logs_text}
use Rattle.cert_text.specs.Ranges.{ChainInRange}
use Rattle.cert_text.proofs.writing.push_logs.Given as goal

abbrev pub invariant-loop-log : goal.invariant-loop-log
invariant-loop-log l = record {
  text : l.file.items ++ logs_text (drop l.log-index l.logs) ≡ l.initial.file.items ++ logs_text l.logs;
  numbers : All (All ChainInRange) (take l.log-index l.logs);
}
