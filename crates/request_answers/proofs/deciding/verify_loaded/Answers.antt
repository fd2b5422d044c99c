use Rattle.block_join.specs.Living.{live_at}
use Rattle.source_reading.proofs.TreeLaws.{read_of}
use Rattle.request_answers.proofs.Witnesses.{answer_no_fault, told_answer, told_witness}
use Rattle.request_answers.proofs.deciding.verify_loaded.Goals as goal

pub returns : goal.returns
returns g c =
    let parts = c.args.parts.now in
    let t = parts.examined.typed in
    let order = parts.examined.order in
    let marks = live_at parts.joined.live in
    let replay = c.requires.graph.replay in
    let text = c.with_witness.ensures.text replay.tree (read_of c.args.model c.args.source.now replay.tree replay.read) in
    let answer = told_answer t order parts.joined.graph marks c.args.model c.args.source.now c.args.stamp c.requires.graph c.requires.marked c.args.budget.units c.args.budget.learn _ _ c.with_witness.result c.verify-told.ensures.0 text in
    record {
      answer = answer;
      witness = told_witness t order parts.joined.graph marks c.args.model c.args.source.now c.args.stamp c.requires.graph c.requires.marked _ _ c.with_witness.result c.verify-told.ensures.1 text;
      silent = c.with_witness.ensures.silent;
      no_fault = answer_no_fault _ _ _ _ _ answer;
    }
