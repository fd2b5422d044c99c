use Rattle.std.proofs.Common.{length}
use Rattle.c_typed.specs.Parts.{tree_of}
use Rattle.c_typed.specs.Run as typed
use Rattle.source_verdicts.proofs.Replays.{error_read}
use Rattle.source_verdicts.proofs.replaying.replayed.Goals as goal

pub returns : goal.returns
returns c =
    let p = tree_of c.args.examined.now.typed in
    let ends = c.requires.ends in λ g model units learn.
    c.reached.ensures p g model units learn
    (error_read (typed.run c.args.turns p c.args.values.now) ends.0 c.in-Error.kind ends.1 c.in-Error.at (length c.args.values.now) c.in-Error.field-2 ends.2 (c.in-Error.ensures.run p c.in-Ok.ensures))
