use Rattle.effect_rules.specs.Seen.{effects_of}
use Rattle.effect_rules.proofs.Sets.{sets_arm}
use Rattle.effect_rules.proofs.effects.sets_clash.Goals as goal

pub returns : goal.returns
returns c =
    sets_arm c.untouched-touched.result.written.keys c.untouched-touched.result.read.keys c.touch.new.touched.written.keys c.touch.new.touched.read.keys
    c.deref.result.now c.deref-2.result.now c.deref-3.result.now c.deref-4.result.now (effects_of c.args.first.now) (effects_of c.args.second.now) c.is_touched.result
    c.untouched-touched.ensures.writes c.untouched-touched.ensures.reads c.in_ok-touch.ensures.writes c.in_ok-touch.ensures.reads
    c.deref.ensures.value c.deref-2.ensures.value c.deref-3.ensures.value c.deref-4.ensures.value c.is_touched.ensures
