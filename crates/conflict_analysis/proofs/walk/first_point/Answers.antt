use Rattle.std.proofs.Common.{arith, ◌∙◌, length, ap, refl}
use Rattle.prop.specs.Trues.{listed}
use Rattle.dense_trail.proofs.ValueLaws.{listed_last}
use Rattle.conflict_analysis.proofs.StepLaws.{note_length, begin_walk, code_fits, step_pass, step_above, step_some, step_few, step_taught, step_fits, step_decided, step_reason, step_on, step_minimizing, step_marked, end_fits, end_above}
use Rattle.conflict_analysis.proofs.WalkLaws.{walk_end}
use Rattle.conflict_analysis.proofs.walk.first_point.Goals as goal

pub walk-init : goal.walk-init
walk-init c = record {
  walking = begin_walk c.args.vars.now c.args.rows.now c.args.trail.now c.args.level c.args.conflict c.requires.rising c.requires.wide c.requires.fit c.row.result.now c.args.notes.now.epoch c.clear.new.self.epoch c.note.new.self.epoch c.args.notes.now.stamps.items c.clear.new.self.stamps.items c.note.new.self.stamps.items c.clear.new.self.learnt.items c.note.new.self.learnt.items c.clear.new.self.here c.note.new.self.here 4294967295 c.len-at.result c.new-pairs.result refl c.requires.stamps c.args.notes.now.most c.row.ensures c.requires.begin (omega (arith, c.len-at.ensures, c.args.trail.now.codes.ok.0)) c.new-pairs.ensures c.in_ok-clear.ensures.epoch c.in_ok-clear.ensures.stamps c.in_ok-clear.ensures.learnt c.in_ok-clear.ensures.here c.in_ok-note.ensures.epoch c.in_ok-note.ensures.stamps c.in_ok-note.ensures.learnt c.in_ok-note.ensures.here;
  some = omega (arith, c.in_ok-note.ensures.epoch, c.in_ok-clear.ensures.epoch);
  stamps = ap length c.in_ok-note.ensures.stamps ∙ note_length c.clear.new.self.epoch 4294967295 c.clear.new.self.stamps.items c.row.result.now ∙ ap length c.in_ok-clear.ensures.stamps ∙ c.requires.stamps;
}

pub index-requires : goal.index-requires
index-requires c = let q = code_fits c.args.vars.now c.args.rows.now c.args.trail.now c.args.level c.args.conflict c.requires.rising c.requires.wide c.requires.fit c.walk.pairs c.walk.notes.epoch c.walk.notes.stamps.items c.walk.notes.learnt.items c.walk.notes.here c.walk.at c.walk.invariant.walking c.walk-test.true c.index-code.result.now c.index-code.ensures c.walk.invariant.stamps in omega (arith, q, c.walk.invariant.stamps, c.walk.notes.stamps.ok.0)

pub walk-preserved-then-index-notes : goal.walk-preserved-then-index-notes
walk-preserved-then-index-notes c = record {
  walking = step_pass c.args.vars.now c.args.rows.now c.args.trail.now c.args.level c.args.conflict c.requires.rising c.requires.wide c.requires.fit c.walk.pairs c.walk.notes.epoch c.walk.notes.stamps.items c.walk.notes.learnt.items c.walk.notes.here c.walk.at c.walk.invariant.walking c.walk-test.true c.index-code.result.now c.index-code.ensures c.walk.invariant.stamps c.index.result.now c.index.ensures c.if-index-notes.true;
  some = c.walk.invariant.some;
  stamps = c.walk.invariant.stamps;
}

pub returns-then-is_first-clause-taught : goal.returns-then-is_first-clause-taught
returns-then-is_first-clause-taught c = step_taught c.args.vars.now c.args.rows.now c.args.trail.now c.args.level c.args.conflict c.requires.rising c.requires.wide c.requires.fit c.walk.pairs c.walk.notes.epoch c.walk.notes.stamps.items c.walk.notes.learnt.items c.walk.notes.here c.walk.at c.walk.invariant.walking c.walk-test.true c.index-code.result.now c.index-code.ensures c.walk.invariant.stamps c.index.result.now c.index.ensures c.if-index-notes.false c.is_first.result c.is_first.ensures c.if-is_first.true c.negation-uip.result c.negation-uip.ensures c.push.new.self.items c.in_ok-push.ensures.items

pub returns-then-is_first-clause-above : goal.returns-then-is_first-clause-above
returns-then-is_first-clause-above c = step_above c.args.vars.now c.args.rows.now c.args.trail.now c.args.level c.args.conflict c.requires.rising c.requires.wide c.requires.fit c.walk.pairs c.walk.notes.epoch c.walk.notes.stamps.items c.walk.notes.learnt.items c.walk.notes.here c.walk.at c.walk.invariant.walking c.walk-test.true c.index-code.result.now c.index-code.ensures c.walk.invariant.stamps

pub returns-then-is_first-clause-fits : goal.returns-then-is_first-clause-fits
returns-then-is_first-clause-fits c = step_fits c.args.vars.now c.args.rows.now c.args.trail.now c.args.level c.args.conflict c.requires.rising c.requires.wide c.requires.fit c.walk.pairs c.walk.notes.epoch c.walk.notes.stamps.items c.walk.notes.learnt.items c.walk.notes.here c.walk.at c.walk.invariant.walking c.walk-test.true c.index-code.result.now c.index-code.ensures c.walk.invariant.stamps c.index.result.now c.index.ensures c.if-index-notes.false c.negation-uip.result c.negation-uip.ensures c.push.new.self.items c.in_ok-push.ensures.items

pub index-requires-in-walk : goal.index-requires-in-walk
index-requires-in-walk c = let q = code_fits c.args.vars.now c.args.rows.now c.args.trail.now c.args.level c.args.conflict c.requires.rising c.requires.wide c.requires.fit c.walk.pairs c.walk.notes.epoch c.walk.notes.stamps.items c.walk.notes.learnt.items c.walk.notes.here c.walk.at c.walk.invariant.walking c.walk-test.true c.index-code.result.now c.index-code.ensures c.walk.invariant.stamps in omega (arith, q, c.requires.wide, c.args.trail.now.long, c.args.trail.now.reasons.ok.0)

pub unreachable-requires : goal.unreachable-requires
unreachable-requires c = step_decided c.args.vars.now c.args.rows.now c.args.trail.now c.args.level c.args.conflict c.requires.rising c.requires.wide c.requires.fit c.walk.pairs c.walk.notes.epoch c.walk.notes.stamps.items c.walk.notes.learnt.items c.walk.notes.here c.walk.at c.walk.invariant.walking c.walk-test.true c.index-code.result.now c.index-code.ensures c.walk.invariant.stamps c.index.result.now c.index.ensures c.if-index-notes.false c.is_first.result c.is_first.ensures c.if-is_first.false c.index-in-walk.result.now c.index-in-walk.ensures c.in_default.not-Some

pub overflow_sub-notes : goal.overflow_sub-notes
overflow_sub-notes c = let q = step_some c.args.vars.now c.args.rows.now c.args.trail.now c.args.level c.args.conflict c.requires.rising c.requires.wide c.requires.fit c.walk.pairs c.walk.notes.epoch c.walk.notes.stamps.items c.walk.notes.learnt.items c.walk.notes.here c.walk.at c.walk.invariant.walking c.walk-test.true c.index-code.result.now c.index-code.ensures c.walk.invariant.stamps c.index.result.now c.index.ensures c.if-index-notes.false in omega (arith, q)

pub row-requires-in-walk : goal.row-requires-in-walk
row-requires-in-walk c = step_reason c.args.vars.now c.args.rows.now c.args.trail.now c.args.level c.args.conflict c.requires.rising c.requires.wide c.requires.fit c.walk.pairs c.walk.notes.epoch c.walk.notes.stamps.items c.walk.notes.learnt.items c.walk.notes.here c.walk.at c.walk.invariant.walking c.walk-test.true c.index-code.result.now c.index-code.ensures c.walk.invariant.stamps c.index.result.now c.index.ensures c.if-index-notes.false c.is_first.result c.is_first.ensures c.if-is_first.false c.index-in-walk.result.now c.index-in-walk.ensures c.in-Some.reason c.in-Some.is

pub note-requires-in-walk-clause-few : goal.note-requires-in-walk-clause-few
note-requires-in-walk-clause-few c = step_few c.args.vars.now c.args.rows.now c.args.trail.now c.args.level c.args.conflict c.requires.rising c.requires.wide c.requires.fit c.walk.pairs c.walk.notes.epoch c.walk.notes.stamps.items c.walk.notes.learnt.items c.walk.notes.here c.walk.at c.walk.invariant.walking c.walk-test.true c.index-code.result.now c.index-code.ensures c.walk.invariant.stamps c.index.result.now c.index.ensures c.if-index-notes.false

pub bounds-vars-number : goal.bounds-vars-number
bounds-vars-number c = code_fits c.args.vars.now c.args.rows.now c.args.trail.now c.args.level c.args.conflict c.requires.rising c.requires.wide c.requires.fit c.walk.pairs c.walk.notes.epoch c.walk.notes.stamps.items c.walk.notes.learnt.items c.walk.notes.here c.walk.at c.walk.invariant.walking c.walk-test.true c.index-code.result.now c.index-code.ensures c.walk.invariant.stamps

pub walk-preserved : goal.walk-preserved
walk-preserved c = record {
  walking = step_on c.args.vars.now c.args.rows.now c.args.trail.now c.args.level c.args.conflict c.requires.rising c.requires.wide c.requires.fit c.walk.pairs c.walk.notes.epoch c.walk.notes.stamps.items c.walk.notes.learnt.items c.walk.notes.here c.walk.at c.walk.invariant.walking c.walk-test.true c.index-code.result.now c.index-code.ensures c.walk.invariant.stamps c.index.result.now c.index.ensures c.if-index-notes.false c.is_first.result c.is_first.ensures c.if-is_first.false c.index-in-walk.result.now c.index-in-walk.ensures c.in-Some.reason c.in-Some.is c.row-in-walk.result.now c.row-in-walk.ensures _ refl c.push-in-walk.new.self c.note-in-walk.new.self.epoch c.note-in-walk.new.self.stamps.items c.note-in-walk.new.self.learnt.items c.note-in-walk.new.self.here c.in_ok-push-2.ensures.pushed c.in_ok-note-2.ensures.epoch c.in_ok-note-2.ensures.stamps c.in_ok-note-2.ensures.learnt c.in_ok-note-2.ensures.here;
  some = omega (arith, c.in_ok-note-2.ensures.epoch, c.walk.invariant.some);
  stamps = ap length c.in_ok-note-2.ensures.stamps ∙ note_length c.walk.notes.epoch c.index-code.result.now c.walk.notes.stamps.items c.row-in-walk.result.now ∙ c.walk.invariant.stamps;
}

pub returns-clause-taught : goal.returns-clause-taught
returns-clause-taught c = walk_end c.args.vars.now c.args.rows.now c.args.trail.now c.args.level c.args.conflict c.requires.rising c.requires.wide c.requires.fit c.walk.pairs c.walk.notes.epoch c.walk.notes.stamps.items c.walk.notes.learnt.items c.walk.notes.here c.walk.at c.walk-test.false c.walk.invariant.walking

pub returns-clause-above : goal.returns-clause-above
returns-clause-above c = end_above c.args.vars.now c.args.rows.now c.args.trail.now c.args.level c.args.conflict c.requires.rising c.requires.wide c.requires.fit c.walk.pairs c.walk.notes.epoch c.walk.notes.stamps.items c.walk.notes.learnt.items c.walk.notes.here c.walk.at c.walk-test.false c.walk.invariant.walking

pub returns-clause-fits : goal.returns-clause-fits
returns-clause-fits c = end_fits c.args.vars.now c.args.rows.now c.args.trail.now c.args.level c.args.conflict c.requires.rising c.requires.wide c.requires.fit c.walk.pairs c.walk.notes.epoch c.walk.notes.stamps.items c.walk.notes.learnt.items c.walk.notes.here c.walk.at c.walk.invariant.walking

pub returns-then-is_first-clause-uip : goal.returns-then-is_first-clause-uip
returns-then-is_first-clause-uip c = ap (λ w. listed w c.negation-uip.result) c.in_ok-push.ensures.items ∙ listed_last c.walk.notes.learnt.items c.negation-uip.result

pub returns-then-is_first-clause-minimizing : goal.returns-then-is_first-clause-minimizing
returns-then-is_first-clause-minimizing c = step_minimizing c.args.vars.now c.args.rows.now c.args.trail.now c.args.level c.args.conflict c.requires.rising c.requires.wide c.requires.fit c.walk.pairs c.walk.notes.epoch c.walk.notes.stamps.items c.walk.notes.learnt.items c.walk.notes.here c.walk.at c.walk.invariant.walking c.walk-test.true c.index-code.result.now c.index-code.ensures c.walk.invariant.stamps c.index.result.now c.index.ensures c.if-index-notes.false c.is_first.result c.is_first.ensures c.if-is_first.true c.walk.invariant.some c.negation-uip.result c.negation-uip.ensures c.push.new.self.items c.in_ok-push.ensures.items

pub returns-then-is_first-clause-marked : goal.returns-then-is_first-clause-marked
returns-then-is_first-clause-marked c = step_marked c.args.vars.now c.args.rows.now c.args.trail.now c.args.level c.args.conflict c.requires.rising c.requires.wide c.requires.fit c.walk.pairs c.walk.notes.epoch c.walk.notes.stamps.items c.walk.notes.learnt.items c.walk.notes.here c.walk.at c.walk.invariant.walking c.walk-test.true c.index-code.result.now c.index-code.ensures c.walk.invariant.stamps c.index.result.now c.index.ensures c.if-index-notes.false c.negation-uip.result c.negation-uip.ensures c.push.new.self.items c.in_ok-push.ensures.items
