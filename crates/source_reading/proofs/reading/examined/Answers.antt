use Rattle.c_tree.specs.Denotes.{tree_of}
use Rattle.source_reading.proofs.TreeLaws.{accepted_read, good_fits}
use Rattle.source_reading.proofs.reading.examined.Goals as goal

pub returns : goal.returns
returns c =
    let tree = tree_of c.in_ok-unit.unit in
    accepted_read c.args.model c.args.source.now tree c.accepted.result c.in_ok-unit.ensures.tree c.accepted.ensures.free c.accepted.ensures.tree c.accepted.ensures.good
    (good_fits tree c.args.model c.sources_hold.ensures c.sources_fit.ensures (c.in_ok-unit.ensures.read c.args.model)) c.accepted.ensures.runs c.accepted.ensures.refused
