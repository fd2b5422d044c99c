use Rattle.std.proofs.Common.{◌≡◌, ◌++◌, drop}
use Rattle.stored_text.specs.RunText.{AreShort, lines_text, run_text}
use Rattle.stored_text.proofs.writing.write_run.Given as goal

abbrev pub invariant-loop-value : goal.invariant-loop-value
invariant-loop-value l = record {
  rest : l.file.items ++ lines_text (drop l.value-index l.values) ≡ run_text l.fn.values;
  short : AreShort (drop l.value-index l.values);
}
