use Rattle.std.proofs.Common.{◌∙◌}
use Rattle.effect_rules.proofs.Sets.{parts_are}
use Rattle.effect_rules.proofs.touched.is_touched.Goals as goal

pub returns : goal.returns
returns c =
    c.one_of.ensures
    ∙ parts_are c.args.writes.now c.args.reads.now c.args.touched.now.written.keys c.args.touched.now.read.keys c.meets-written.result c.meets-changed.result c.meets-used.result
    c.meets-written.ensures c.meets-changed.ensures c.meets-used.ensures
