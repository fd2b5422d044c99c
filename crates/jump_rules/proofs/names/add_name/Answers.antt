use Rattle.std.proofs.lemmas.Map.Text.{hash_map_updates_str}
use Rattle.jump_rules.proofs.names.add_name.Goals as goal

pub returns-clause-last : goal.returns-clause-last
returns-clause-last c = hash_map_updates_str c.args.name.now c.args.named.now.last c.insert.new.self _ c.in_ok-before.ensures.updates
