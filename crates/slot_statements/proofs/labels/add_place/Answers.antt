use Rattle.std.proofs.lemmas.Map.Text.{hash_map_updates_str}
use Rattle.slot_statements.proofs.Marking.{label_more}
use Rattle.slot_statements.proofs.labels.add_place.Goals as goal

pub returns-in_ok-insert-in-Label : goal.returns-in_ok-insert-in-Label
returns-in_ok-insert-in-Label c =
    label_more c.args.mark c.in-Label.name c.as_bytes.result.now c.args.places.now c.insert.new.self c.in-Label.is c.as_bytes.ensures
    (hash_map_updates_str c.as_bytes.result.now c.args.places.now c.insert.new.self _ c.in_ok-insert-in-Label.ensures.updates)
