use Rattle.std.proofs.Common.{arith, ◌∙◌}
use Rattle.jump_rules.proofs.Naming.{last_more, before_more, count_more}
use Rattle.jump_rules.proofs.names.name_all.Goals as goal

pub loop-place-preserved : goal.loop-place-preserved
loop-place-preserved c = record {
  labels = c.in_ok-add_name.ensures.labels ∙ c.loop-place.invariant.labels;
  last = last_more c.args.labels.now c.loop-place.place c.index-labels-place.result c.as_bytes.result.now c.loop-place.named.last c.add_name.new.named.last
      (omega arith) c.index-labels-place.is c.as_bytes.ensures c.loop-place.invariant.last c.in_ok-add_name.ensures.last;
  count = count_more c.loop-place.named.before.items c.add_name.new.named.before.items c.loop-place.place _ c.loop-place.invariant.count c.in_ok-add_name.ensures.before;
  before = before_more c.args.labels.now c.loop-place.place c.index-labels-place.result c.as_bytes.result.now c.loop-place.named.last c.loop-place.named.before.items c.add_name.new.named.before.items
      (omega arith) c.index-labels-place.is c.as_bytes.ensures c.loop-place.invariant.last c.loop-place.invariant.count c.loop-place.invariant.before c.in_ok-add_name.ensures.before;
}
