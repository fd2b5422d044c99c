use Rattle.std.proofs.Common.{◌∙◌}
use Rattle.c_typed.specs.Parts.{tree_of}
use Rattle.lazic.proofs.CauseLaws.{run_caused}
use Rattle.lazic.proofs.answer.decide_run.Goals as goal

pub returns-in-Ok-Bytes-clause-caused : goal.returns-in-Ok-Bytes-clause-caused
returns-in-Ok-Bytes-clause-caused g c tree runs =
    run_caused _ _ (tree_of c.args.examined.now.typed) c.args.wanted.turns c.args.source.now c.deref.result.now (g.F.Folder.file c.args.folder.now c.args.wanted.run.now) tree c.args.wanted.model c.run_file.result runs c.run_file.ensures
    (λ t. c.deref.ensures.value ∙ (rw c.in-Ok-Bytes.field-0-is at (c.in-Ok-Bytes.ensures.bytes t)).0)
