use Rattle.c_typed.specs.View.{function_of}
use Rattle.trace_lines.proofs.Lists.{got_seen}
use Rattle.trace_lines.proofs.scene.function_at.Goals as goal

pub returns : goal.returns
returns c = got_seen function_of c.args.functions.now c.args.number c.get.result c.get.ensures.lookup
