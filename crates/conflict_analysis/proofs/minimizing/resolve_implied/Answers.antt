use Rattle.std.proofs.Common.{arith, ◌∙◌, ◌/◌, length-set}
use Rattle.resolution_log.proofs.MarkLaws.{most_set}
use Rattle.conflict_analysis.proofs.MinimalLaws.{minimal_few, walked_all}
use Rattle.conflict_analysis.proofs.MinimizeLaws.{loop_half, loop_known, loop_gone, loop_unmarked, loop_none, loop_minimizing, loop_taught, loop_enough, loop_walked}
use Rattle.conflict_analysis.proofs.minimizing.resolve_implied.Goals as goal

pub index-requires : goal.index-requires
index-requires c = let q = loop_half c.args.vars.now c.args.rows.now c.args.trail.now c.args.uip c.args.left c.walk.notes.epoch c.walk.notes.stamps.items c.walk.notes.learnt.items c.walk.pairs c.requires.rising c.requires.wide c.requires.fit c.walk.invariant.stamps c.walk.invariant.minimizing c.walk.at c.walk-test.true c.walk.invariant.within c.index-code.result.now c.index-code.ensures in omega (arith, q, c.walk.invariant.stamps, c.walk.notes.stamps.ok.0)

pub index-reason-requires : goal.index-reason-requires
index-reason-requires c = let q = loop_half c.args.vars.now c.args.rows.now c.args.trail.now c.args.uip c.args.left c.walk.notes.epoch c.walk.notes.stamps.items c.walk.notes.learnt.items c.walk.pairs c.requires.rising c.requires.wide c.requires.fit c.walk.invariant.stamps c.walk.invariant.minimizing c.walk.at c.walk-test.true c.walk.invariant.within c.index-code.result.now c.index-code.ensures in omega (arith, q, c.requires.wide, c.args.trail.now.long, c.args.trail.now.reasons.ok.0)

pub implied_by-found-requires-clause-known : goal.implied_by-found-requires-clause-known
implied_by-found-requires-clause-known c = loop_known c.args.vars.now c.args.rows.now c.args.trail.now c.args.uip c.args.left c.walk.notes.epoch c.walk.notes.stamps.items c.walk.notes.learnt.items c.walk.pairs c.requires.rising c.requires.wide c.requires.fit c.walk.invariant.stamps c.walk.invariant.minimizing c.walk.at c.walk-test.true c.walk.invariant.within c.index-code.result.now c.index-code.ensures c.index-reason.result.now c.index-reason.ensures

pub index_mut-requires : goal.index_mut-requires
index_mut-requires c = let q = loop_half c.args.vars.now c.args.rows.now c.args.trail.now c.args.uip c.args.left c.walk.notes.epoch c.walk.notes.stamps.items c.walk.notes.learnt.items c.walk.pairs c.requires.rising c.requires.wide c.requires.fit c.walk.invariant.stamps c.walk.invariant.minimizing c.walk.at c.walk-test.true c.walk.invariant.within c.index-code.result.now c.index-code.ensures in omega (arith, q, c.walk.invariant.stamps, c.walk.notes.stamps.ok.0)

pub invariant_of-notes : goal.invariant_of-notes
invariant_of-notes c = let q = loop_half c.args.vars.now c.args.rows.now c.args.trail.now c.args.uip c.args.left c.walk.notes.epoch c.walk.notes.stamps.items c.walk.notes.learnt.items c.walk.pairs c.requires.rising c.requires.wide c.requires.fit c.walk.invariant.stamps c.walk.invariant.minimizing c.walk.at c.walk-test.true c.walk.invariant.within c.index-code.result.now c.index-code.ensures in record { most = most_set c.walk.notes.epoch 0 c.walk.notes.stamps.items (c.index-code.result.now / 2) (omega (arith, q, c.walk.invariant.stamps)) (omega arith) c.walk.notes.most }

pub bounds-vars-number : goal.bounds-vars-number
bounds-vars-number c = loop_half c.args.vars.now c.args.rows.now c.args.trail.now c.args.uip c.args.left c.walk.notes.epoch c.walk.notes.stamps.items c.walk.notes.learnt.items c.walk.pairs c.requires.rising c.requires.wide c.requires.fit c.walk.invariant.stamps c.walk.invariant.minimizing c.walk.at c.walk-test.true c.walk.invariant.within c.index-code.result.now c.index-code.ensures

pub walk-preserved : goal.walk-preserved
walk-preserved c = record {
  minimizing = loop_minimizing c.args.vars.now c.args.rows.now c.args.trail.now c.args.uip c.args.left c.walk.notes.epoch c.walk.notes.stamps.items c.walk.notes.learnt.items c.walk.pairs c.requires.rising c.requires.wide c.requires.fit c.walk.invariant.stamps c.walk.invariant.minimizing c.walk.at c.walk-test.true c.walk.invariant.within c.index-code.result.now c.index-code.ensures c.index-reason.result.now c.index-reason.ensures c.index.result.now c.index.ensures c.if-index-notes.false c.as_slice.result.now c.as_slice.ensures.value c.implied_by-found.result c.implied_by-found.ensures c.in-Some.clause c.in-Some.is c.push.new.self c.in_ok-push.ensures.pushed;
  taught = loop_taught c.args.vars.now c.args.rows.now c.args.trail.now c.args.uip c.args.left c.walk.notes.epoch c.walk.notes.stamps.items c.walk.notes.learnt.items c.walk.pairs c.requires.rising c.requires.wide c.requires.fit c.walk.invariant.stamps c.walk.invariant.minimizing c.walk.at c.walk-test.true c.walk.invariant.within c.index-code.result.now c.index-code.ensures c.index-reason.result.now c.index-reason.ensures c.index.result.now c.index.ensures c.if-index-notes.false c.as_slice.result.now c.as_slice.ensures.value c.implied_by-found.result c.implied_by-found.ensures c.in-Some.clause c.in-Some.is c.push.new.self c.in_ok-push.ensures.pushed _ _ c.walk.invariant.taught;
  learnt = c.walk.invariant.learnt;
  stamps = length-set c.walk.notes.stamps.items (c.index-code.result.now / 2) 0 ∙ c.walk.invariant.stamps;
  within = omega (arith, c.walk.invariant.within);
  walked = loop_walked c.args.vars.now c.args.rows.now c.args.trail.now c.args.uip c.args.left c.walk.notes.epoch c.walk.notes.stamps.items c.walk.notes.learnt.items c.walk.pairs c.requires.rising c.requires.wide c.requires.fit c.walk.invariant.stamps c.walk.invariant.minimizing c.walk.at c.walk-test.true c.walk.invariant.within c.index-code.result.now c.index-code.ensures c.index-reason.result.now c.index-reason.ensures c.index.result.now c.index.ensures c.if-index-notes.false c.as_slice.result.now c.as_slice.ensures.value c.implied_by-found.result c.implied_by-found.ensures c.in-Some.clause c.in-Some.is c.walk.invariant.walked;
  enough = loop_enough c.args.vars.now c.args.rows.now c.args.trail.now c.args.uip c.args.left c.walk.notes.epoch c.walk.notes.stamps.items c.walk.notes.learnt.items c.walk.pairs c.requires.rising c.requires.wide c.requires.fit c.walk.invariant.stamps c.walk.invariant.minimizing c.walk.at c.walk-test.true c.walk.invariant.within c.index-code.result.now c.index-code.ensures c.index-reason.result.now c.index-reason.ensures c.index.result.now c.index.ensures c.if-index-notes.false c.as_slice.result.now c.as_slice.ensures.value c.implied_by-found.result c.implied_by-found.ensures c.in-Some.clause c.in-Some.is c.walk.rest c.walk.invariant.enough;
  gone = loop_gone c.args.vars.now c.args.rows.now c.args.trail.now c.args.uip c.args.left c.walk.notes.epoch c.walk.notes.stamps.items c.walk.notes.learnt.items c.walk.pairs c.requires.rising c.requires.wide c.requires.fit c.walk.invariant.stamps c.walk.invariant.minimizing c.walk.at c.walk-test.true c.walk.invariant.within c.index-code.result.now c.index-code.ensures c.walk.gone.items c.push-in-walk.new.self.items c.in_ok-push-2.ensures.items c.walk.invariant.gone;
}

pub walk-preserved-then-index-notes : goal.walk-preserved-then-index-notes
walk-preserved-then-index-notes c = record {
  minimizing = c.walk.invariant.minimizing;
  taught = c.walk.invariant.taught;
  learnt = c.walk.invariant.learnt;
  stamps = c.walk.invariant.stamps;
  within = omega (arith, c.walk.invariant.within);
  walked = loop_unmarked c.args.vars.now c.args.rows.now c.args.trail.now c.args.uip c.args.left c.walk.notes.epoch c.walk.notes.stamps.items c.walk.notes.learnt.items c.walk.pairs c.requires.rising c.requires.wide c.requires.fit c.walk.invariant.stamps c.walk.invariant.minimizing c.walk.at c.walk-test.true c.walk.invariant.within c.index-code.result.now c.index-code.ensures c.index.result.now c.index.ensures c.if-index-notes.true c.walk.invariant.walked;
  enough = c.walk.invariant.enough;
  gone = c.walk.invariant.gone;
}

pub walk-preserved-in_default : goal.walk-preserved-in_default
walk-preserved-in_default c = record {
  minimizing = c.walk.invariant.minimizing;
  taught = c.walk.invariant.taught;
  learnt = c.walk.invariant.learnt;
  stamps = c.walk.invariant.stamps;
  within = omega (arith, c.walk.invariant.within);
  walked = loop_none c.args.vars.now c.args.rows.now c.args.trail.now c.args.uip c.args.left c.walk.notes.epoch c.walk.notes.stamps.items c.walk.notes.learnt.items c.walk.pairs c.requires.rising c.requires.wide c.requires.fit c.walk.invariant.stamps c.walk.invariant.minimizing c.walk.at c.walk-test.true c.walk.invariant.within c.index-code.result.now c.index-code.ensures c.index-reason.result.now c.index-reason.ensures c.as_slice.result.now c.as_slice.ensures.value c.implied_by-found.result c.implied_by-found.ensures c.in_default.not-Some c.walk.invariant.walked;
  enough = c.walk.invariant.enough;
  gone = c.walk.invariant.gone;
}

pub returns-then-rest-eq0-clause-minimal : goal.returns-then-rest-eq0-clause-minimal
returns-then-rest-eq0-clause-minimal c = minimal_few c.walk.notes.epoch c.walk.notes.stamps.items c.args.rows.now c.args.trail.now.reasons.items c.args.uip c.walk.notes.learnt.items c.walk.rest c.walk.invariant.enough c.if-rest-eq0.true

pub returns-clause-minimal : goal.returns-clause-minimal
returns-clause-minimal c = walked_all c.args.vars.now c.args.rows.now c.args.trail.now c.args.uip c.args.left c.walk.notes.epoch c.walk.notes.stamps.items c.walk.notes.learnt.items c.walk.pairs c.walk.invariant.minimizing c.walk.at (omega (arith, c.walk-test.false)) c.walk.invariant.walked
