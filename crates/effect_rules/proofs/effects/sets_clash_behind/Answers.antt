use Rattle.effect_rules.specs.Seen.{effects_of}
use Rattle.effect_rules.proofs.Sets.{behind_arm}
use Rattle.effect_rules.proofs.effects.sets_clash_behind.Goals as goal

pub returns : goal.returns
returns c = behind_arm (effects_of c.args.first.now) (effects_of c.args.second.now) c.sets_clash.result c.sets_clash.ensures
