use Rattle.std.proofs.Common.{◌≡◌, ◌++◌}
use Rattle.std.specs.Prelude.{string_bytes}
use Rattle.task_gen.specs.Generated.{blocks_text, head, number_at}
use Rattle.task_gen.proofs.source.generate.Given as goal

abbrev pub invariant-loop-block : goal.invariant-loop-block
invariant-loop-block l = record {
  number : l.number ≡ number_at l.seed l.block;
  source : string_bytes l.source ≡ head ++ blocks_text l.seed l.block;
}
