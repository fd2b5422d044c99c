use Rattle.std.proofs.Common.{rules, arith, ◌≡◌, ◌∙◌, ℕ, ◌+◌, ◌-◌, ◌<◌, ◌≤◌, List, length, [], ◌∷◌, ◌++◌, sym, ap, refl, length-set, length-append}
use Rattle.dense_trail.specs.Dense.{negation}
use Rattle.watched_clauses.proofs.PassLaws.{first_below, pass_start, pass_number, pass_watch, pass_row, pass_gone, pass_met, pass_move, pass_open, lone_below, lone_free, lone_free_not, pass_lone, lone_linked, pass_stop, pass_end, pass_false, pass_below}
use Rattle.watched_clauses.proofs.visiting.visit.Goals as goal

pub take-list-requires : goal.take-list-requires
take-list-requires c = first_below c.args.rows.now c.args.watches.now c.args.lists.now c.args.trail.now c.args.level c.args.head c.args.falsified c.requires.head c.requires.falsified c.requires.lists c.requires.watching

pub clauses-init : goal.clauses-init
clauses-init c = record {
  passing = pass_start c.args.rows.now c.args.watches.now c.args.lists.now c.args.trail.now c.args.level c.args.head c.args.falsified c.requires.head c.requires.falsified c.requires.lists c.requires.watching c.take-list.new.self c.take-list.result.items c.len-i.result c.take-list.ensures.list c.take-list.ensures.left (omega (arith, c.len-i.ensures, c.take-list.result.ok.0));
  linked = λ vars l. l;
  grown = omega arith;
  wide = refl;
}

pub judge_from-requires-clause-row : goal.judge_from-requires-clause-row
judge_from-requires-clause-row c = pass_number c.args.rows.now c.clauses.watches c.clauses.lists c.clauses.trail c.args.level c.args.head c.args.falsified c.clauses.list.items c.clauses.i c.clauses.invariant.passing c.clauses-test.true c.index-number.result.now c.index-number.ensures

pub judge_from-requires-clause-watch : goal.judge_from-requires-clause-watch
judge_from-requires-clause-watch c = pass_watch c.args.rows.now c.clauses.watches c.clauses.lists c.clauses.trail c.args.level c.args.head c.args.falsified c.clauses.list.items c.clauses.i c.clauses.invariant.passing c.clauses-test.true c.index-number.result.now c.index-number.ensures

pub judge_from-requires-clause-first : goal.judge_from-requires-clause-first
judge_from-requires-clause-first c = c.clauses.invariant.passing.watching.firsts c.index-number.result.now (pass_watch c.args.rows.now c.clauses.watches c.clauses.lists c.clauses.trail c.args.level c.args.head c.args.falsified c.clauses.list.items c.clauses.i c.clauses.invariant.passing c.clauses-test.true c.index-number.result.now c.index-number.ensures)

pub judge_from-requires-clause-second : goal.judge_from-requires-clause-second
judge_from-requires-clause-second c = c.clauses.invariant.passing.watching.seconds c.index-number.result.now (pass_watch c.args.rows.now c.clauses.watches c.clauses.lists c.clauses.trail c.args.level c.args.head c.args.falsified c.clauses.list.items c.clauses.i c.clauses.invariant.passing c.clauses-test.true c.index-number.result.now c.index-number.ensures)

pub judge_from-requires-clause-falsified : goal.judge_from-requires-clause-falsified
judge_from-requires-clause-falsified c = c.clauses.invariant.passing.falsified

pub judge_from-requires-clause-pair : goal.judge_from-requires-clause-pair
judge_from-requires-clause-pair c = c.clauses.invariant.passing.watching.pairs c.index-number.result.now

pub judge_from-requires-clause-below : goal.judge_from-requires-clause-below
judge_from-requires-clause-below c = pass_row c.args.rows.now c.clauses.watches c.clauses.lists c.clauses.trail c.args.level c.args.head c.args.falsified c.clauses.list.items c.clauses.i c.clauses.invariant.passing c.clauses-test.true c.index-number.result.now c.index-number.ensures

pub clauses-preserved-in-Elsewhere : goal.clauses-preserved-in-Elsewhere
clauses-preserved-in-Elsewhere c = record {
  passing = pass_gone c.args.rows.now c.clauses.watches c.clauses.lists c.clauses.trail c.args.level c.args.head c.args.falsified c.clauses.list.items c.clauses.i c.clauses.invariant.passing c.clauses-test.true c.index-number.result.now c.index-number.ensures c.swap_remove.result c.swap_remove.new.self.items c.swap_remove.ensures.items c.in-Elsewhere.ensures;
  linked = c.clauses.invariant.linked;
  grown = c.clauses.invariant.grown;
  wide = c.clauses.invariant.wide;
}

pub clauses-preserved-in-Met : goal.clauses-preserved-in-Met
clauses-preserved-in-Met c = record {
  passing = pass_met c.args.rows.now c.clauses.watches c.clauses.lists c.clauses.trail c.args.level c.args.head c.args.falsified c.clauses.list.items c.clauses.i c.clauses.invariant.passing c.clauses-test.true c.index-number.result.now c.index-number.ensures c.in-Met.ensures;
  linked = c.clauses.invariant.linked;
  grown = c.clauses.invariant.grown;
  wide = c.clauses.invariant.wide;
}

pub bounds-watches-number : goal.bounds-watches-number
bounds-watches-number c = pass_watch c.args.rows.now c.clauses.watches c.clauses.lists c.clauses.trail c.args.level c.args.head c.args.falsified c.clauses.list.items c.clauses.i c.clauses.invariant.passing c.clauses-test.true c.index-number.result.now c.index-number.ensures

pub push-requires : goal.push-requires
push-requires c = pass_open c.args.rows.now c.clauses.watches c.clauses.lists c.clauses.trail c.args.level c.args.head c.args.falsified c.clauses.list.items c.clauses.i c.clauses.invariant.passing c.clauses-test.true c.index-number.result.now c.index-number.ensures c.in-Open.other c.in-Open.open c.in-Open.ensures

pub clauses-preserved-in-Open : goal.clauses-preserved-in-Open
clauses-preserved-in-Open c = record {
  passing = pass_move c.args.rows.now c.clauses.watches c.clauses.lists c.clauses.trail c.args.level c.args.head c.args.falsified c.clauses.list.items c.clauses.i c.clauses.invariant.passing c.clauses-test.true c.index-number.result.now c.index-number.ensures c.swap_remove-in-Open.result c.swap_remove-in-Open.new.self.items c.swap_remove-in-Open.ensures.items c.in-Open.other c.in-Open.open _ c.keep_place.new.self c.in-Open.ensures refl (c.in_ok-keep_place-in-Open.ensures ∙ c.in_ok-push-in-Open.ensures);
  linked = c.clauses.invariant.linked;
  grown = c.clauses.invariant.grown;
  wide = c.clauses.invariant.wide;
}

pub push-requires-in-Lone-clause-below : goal.push-requires-in-Lone-clause-below
push-requires-in-Lone-clause-below c = lone_below c.args.rows.now c.clauses.watches c.clauses.lists c.clauses.trail c.args.level c.args.head c.args.falsified c.clauses.list.items c.clauses.i c.clauses.invariant.passing c.clauses-test.true c.index-number.result.now c.index-number.ensures c.in-Lone.other c.in-Lone.ensures

pub push-requires-in-Lone-clause-free : goal.push-requires-in-Lone-clause-free
push-requires-in-Lone-clause-free c = lone_free c.args.rows.now c.clauses.watches c.clauses.lists c.clauses.trail c.args.level c.args.head c.args.falsified c.clauses.list.items c.clauses.i c.clauses.invariant.passing c.clauses-test.true c.index-number.result.now c.index-number.ensures c.in-Lone.other c.in-Lone.ensures

pub push-requires-in-Lone-clause-free_not : goal.push-requires-in-Lone-clause-free_not
push-requires-in-Lone-clause-free_not c = lone_free_not c.args.rows.now c.clauses.watches c.clauses.lists c.clauses.trail c.args.level c.args.head c.args.falsified c.clauses.list.items c.clauses.i c.clauses.invariant.passing c.clauses-test.true c.index-number.result.now c.index-number.ensures c.in-Lone.other c.in-Lone.ensures

pub clauses-preserved : goal.clauses-preserved
clauses-preserved c = record {
  passing = pass_lone c.args.rows.now c.clauses.watches c.clauses.lists c.clauses.trail c.args.level c.args.head c.args.falsified c.clauses.list.items c.clauses.i c.clauses.invariant.passing c.clauses-test.true c.index-number.result.now c.index-number.ensures c.in-Lone.other c.in-Lone.ensures c.push-in-Lone.new.self c.in_ok-push-in-Lone.ensures.codes c.in_ok-push-in-Lone.ensures.truth c.in_ok-push-in-Lone.ensures.levels;
  linked = λ vars l. lone_linked c.args.rows.now c.clauses.watches c.clauses.lists c.clauses.trail c.args.level c.args.head c.args.falsified c.clauses.list.items c.clauses.i c.clauses.invariant.passing c.clauses-test.true c.index-number.result.now c.index-number.ensures c.in-Lone.other c.in-Lone.ensures c.push-in-Lone.new.self c.in_ok-push-in-Lone.ensures.codes c.in_ok-push-in-Lone.ensures.truth c.in_ok-push-in-Lone.ensures.levels c.in_ok-push-in-Lone.ensures.reasons vars (c.clauses.invariant.linked vars l);
  grown = omega (arith, c.clauses.invariant.grown, ap length c.in_ok-push-in-Lone.ensures.codes, length-append c.clauses.trail.codes.items (c.in-Lone.other ∷ []));
  wide = ap length c.in_ok-push-in-Lone.ensures.truth ∙ length-set c.clauses.trail.truth.items c.in-Lone.other _ ∙ c.clauses.invariant.wide;
}

pub returns-in-Clash-clause-watching : goal.returns-in-Clash-clause-watching
returns-in-Clash-clause-watching c = (
  pass_stop c.args.rows.now c.clauses.watches c.clauses.lists c.clauses.trail c.args.level c.args.head c.args.falsified c.clauses.list.items c.clauses.i c.clauses.invariant.passing c.put.new.self c.put.ensures,
  pass_false c.args.rows.now c.clauses.watches c.clauses.lists c.clauses.trail c.args.level c.args.head c.args.falsified c.clauses.list.items c.clauses.i c.clauses.invariant.passing c.clauses-test.true c.index-number.result.now c.index-number.ensures c.in-Clash.ensures,
)

pub returns-clause-watching : goal.returns-clause-watching
returns-clause-watching c = pass_end c.args.rows.now c.clauses.watches c.clauses.lists c.clauses.trail c.args.level c.args.head c.args.falsified c.clauses.list.items c.clauses.i c.clauses.invariant.passing c.put-2.new.self c.clauses-test.false c.put-2.ensures
