use Rattle.c_typed.specs.View.{object_of}
use Rattle.trace_lines.proofs.Lists.{got_seen}
use Rattle.trace_lines.proofs.scene.object_at.Goals as goal

pub returns : goal.returns
returns c = got_seen object_of c.args.objects.now c.args.number c.get.result c.get.ensures.lookup
