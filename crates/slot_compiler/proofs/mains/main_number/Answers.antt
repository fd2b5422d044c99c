use Rattle.std.proofs.Common.{◌∙◌}
use Rattle.slot_compiler.proofs.Naming.{main_is}
use Rattle.slot_compiler.proofs.mains.main_number.Goals as goal

pub returns : goal.returns
returns c = c.place_of_main.ensures ∙ main_is c.args.functions.now
