use Rattle.std.proofs.Common.{rules}
use Rattle.cert_check.proofs.Maps.{map_fits}
use Rattle.cert_check.proofs.map.map_of.Goals as goal

pub returns-clause-map : goal.returns-clause-map
returns-clause-map c = map_fits c.args.graph.now c.new.result c.args.cert.now.formulas.items (search rules) (search rules) (search rules) (search rules)
