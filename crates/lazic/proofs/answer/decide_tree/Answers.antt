use Rattle.source_reading.proofs.TreeLaws.{read_of}
use Rattle.lazic.proofs.CauseLaws.{read_caused}
use Rattle.lazic.proofs.answer.decide_tree.Goals as goal

pub returns-in-Ok-clause-caused : goal.returns-in-Ok-clause-caused
returns-in-Ok-clause-caused g c =
    let replay = c.in-Ok.ensures in
    read_caused _ _ c.args.wanted.model c.args.wanted.turns c.args.source.now (g.F.Folder.file c.args.folder.now c.args.wanted.run.now) replay.tree c.decide_run.result (read_of c.args.wanted.model c.args.source.now replay.tree replay.read) (c.decide_run.ensures.caused replay.tree replay.runs)
