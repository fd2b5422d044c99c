use Rattle.std.proofs.Common.{rules}
use Rattle.prop.proofs.Sound.{holds_step}
use Rattle.prop.proofs.step.resolve_on.Goals as goal

pub returns-clause-sound : goal.returns-clause-sound
returns-clause-sound c v hc hd = holds_step v c.args.var c.args.c.now c.args.d.now _ (search rules) hc hd
