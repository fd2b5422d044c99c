use Rattle.std.proofs.Common.{◌≡◌, ◌+◌, ◌++◌, drop, length}
use Rattle.clause_learning.specs.Cuts.{need_in, cut_from}
use Rattle.clause_learning.proofs.cone.cut.Given as goal

abbrev pub invariant-loop-chain : goal.invariant-loop-chain
invariant-loop-chain l = record {
  rest : l.log ++ cut_from (need_in l.cone.marks.items) l.at (drop (length l.yielded) l.fn.chains.items) ≡ cut_from (need_in l.cone.marks.items) l.base l.fn.chains.items;
  place : l.at ≡ l.base + length l.yielded;
}
