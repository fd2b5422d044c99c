use Rattle.std.proofs.Common.{rules, ◌≡◌, ◌∙◌, sym, ap, arith, ℕ, ◌+◌, ◌-◌, ◌*◌, ◌<◌, length, List, Bool, true, false, subst, get_or, refl, [], nat_eq}
use Rattle.prop.specs.declared.Lit.{Lit}
use Rattle.resolution_log.specs.declared.Chain.{Chain}
use Rattle.resolution_log.specs.Chains.{chain_result}
use Rattle.resolution_log.specs.Verdict.{verdict_of}
use Rattle.resolution_log.specs.Codes.{AreRows, AllBelow, RowsBelow, all_codes}
use Rattle.resolution_log.specs.Marks.{AtMost, IsStep, gather}
use Rattle.resolution_log.proofs.Places.{coded_rows}
use Rattle.resolution_log.proofs.RowLaws.{Checked, checked_next, checked_bad, checked_members, rows_below, step_as}
use Rattle.resolution_log.proofs.check.run_chains.Goals as goal

pub loop-i-init : goal.loop-i-init
loop-i-init c = record {
  known = c.args.clauses.now;
  rows_are = rw c.in_ok-rows.ensures (coded_rows c.args.vars.now c.args.clauses.now c.requires.covers);
  size = c.requires.size;
  most = c.requires.most;
  verdict = refl;
}

pub run_chain-requires-clause-rows : goal.run_chain-requires-clause-rows
run_chain-requires-clause-rows c = subst (λ n. RowsBelow n c.loop-i.rows) (sym c.loop-i.invariant.size) (rows_below c.args.vars.now c.loop-i.rows c.loop-i.invariant.known c.loop-i.invariant.rows_are)

pub take_result-requires : goal.take_result-requires
take_result-requires c =
    let w = verdict_of c.args.clauses.now 0 false c.args.chains.now in
    let f = step_as c.args.vars.now c.loop-i.rows c.loop-i.stamps c.run_chain.new.stamps c.run_chain.new.members.items c.loop-i.i c.in_ok-run_chain.field-0 true c.args.chains.now c.index-chains-i.result c.if-not-branch.false c.index-chains-i.is c.in_ok-run_chain.ensures in
    rw c.as_slice.ensures.value (checked_members c.args.vars.now c.loop-i.rows c.loop-i.stamps c.run_chain.new.stamps c.run_chain.new.members.items c.loop-i.i c.loop-i.last c.args.chains.now w c.index-chains-i.result c.loop-i.invariant f)

pub loop-i-preserved : goal.loop-i-preserved
loop-i-preserved c =
    let w = verdict_of c.args.clauses.now 0 false c.args.chains.now in
    let f = step_as c.args.vars.now c.loop-i.rows c.loop-i.stamps c.run_chain.new.stamps c.run_chain.new.members.items c.loop-i.i c.in_ok-run_chain.field-0 true c.args.chains.now c.index-chains-i.result c.if-not-branch.false c.index-chains-i.is c.in_ok-run_chain.ensures in
    checked_next c.args.vars.now c.loop-i.rows c.take_result.new.rows c.loop-i.stamps c.run_chain.new.stamps c.take_result.new.stamps c.run_chain.new.members.items c.loop-i.i c.loop-i.last c.in_ok-last.last c.args.chains.now w c.index-chains-i.result c.requires.rising (search rules) c.loop-i.invariant (search rules) f (rw c.as_slice.ensures.value at c.in_ok-last.ensures.rows) (rw c.as_slice.ensures.value at c.in_ok-last.ensures.stamps) (rw c.as_slice.ensures.value at c.in_ok-last.ensures.empty)

pub returns-then-not-branch : goal.returns-then-not-branch
returns-then-not-branch c =
    let w = verdict_of c.args.clauses.now 0 false c.args.chains.now in
    let f = step_as c.args.vars.now c.loop-i.rows c.loop-i.stamps c.run_chain.new.stamps c.run_chain.new.members.items c.loop-i.i c.in_ok-run_chain.field-0 false c.args.chains.now c.index-chains-i.result c.if-not-branch.true c.index-chains-i.is c.in_ok-run_chain.ensures in
    checked_bad c.args.vars.now c.loop-i.rows c.loop-i.stamps c.run_chain.new.stamps c.run_chain.new.members.items c.loop-i.i c.loop-i.last c.args.chains.now w c.index-chains-i.result (search rules) c.loop-i.invariant f
