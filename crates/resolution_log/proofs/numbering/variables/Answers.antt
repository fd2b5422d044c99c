use Rattle.std.proofs.Common.{◌∙◌, ap}
use Rattle.prop.specs.Trues.{listed}
use Rattle.resolution_log.proofs.Places.{covers_all_from}
use Rattle.resolution_log.proofs.numbering.variables.Goals as goal

pub returns-clause-covers : goal.returns-clause-covers
returns-clause-covers c =
    covers_all_from c.in_ok-vars.vars.items c.args.clauses.now (λ v h. c.in_ok-vars.ensures.all v (ap (λ w. listed w v) c.in_ok-occurring.ensures.items ∙ h))
