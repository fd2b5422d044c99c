use Rattle.std.proofs.Common.{arith}
use Rattle.first_broken.specs.Seen.{found_of}
use Rattle.source_rules.proofs.Past.{found_more, past_more}
use Rattle.source_rules.proofs.cases.duplicates.Goals as goal

pub loop-case-preserved : goal.loop-case-preserved
loop-case-preserved c = record {
  all = found_more c.args.cases.now c.loop-case.case-index _ c.loop-case.past.values.keys c.loop-case.past.has_default c.is_past-test.result c.case_at.result (found_of c.loop-case.all) (found_of c.line.result) (found_of c.both-all.result)
      (omega arith) c.loop-case.invariant.past c.is_past-test.ensures c.case_at.ensures c.loop-case.invariant.all c.line.ensures c.both-all.ensures;
  past = past_more c.args.cases.now c.loop-case.case-index _ c.loop-case.past.values.keys c.keep_case.new.past.values.keys c.loop-case.past.has_default c.keep_case.new.past.has_default
      (omega arith) c.loop-case.invariant.past c.in_ok-keep_case.ensures.values c.in_ok-keep_case.ensures.default;
}
