use Rattle.std.proofs.Common.{List, subst, sym}
use Rattle.resolution_log.specs.declared.Chain.{Chain}
use Rattle.cert_build.specs.Proofs.{AreProofs}
use Rattle.source_verdicts.proofs.certifying.stored.Goals as goal

pub written-requires-clause-accepted : goal.written-requires-clause-accepted
written-requires-clause-accepted c = c.in-Ok.ensures.accepted c.args.graph.now c.args.learn c.requires.map c.requires.proofs

pub written-requires-clause-of_map : goal.written-requires-clause-of_map
written-requires-clause-of_map c = record {
  terms = c.in-Ok.ensures.of_map.0;
  formulas = c.in-Ok.ensures.of_map.1;
  logs = subst (λ (l : List (List Chain)). AreProofs c.args.graph.now c.args.map.now c.args.learn l) (sym c.in-Ok.ensures.logs) c.requires.proofs;
}
