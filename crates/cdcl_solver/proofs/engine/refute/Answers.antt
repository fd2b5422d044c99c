use Rattle.std.proofs.Common.{◌≡◌, ℕ}
use Rattle.resolution_log.specs.declared.Chain.{Chain}
use Rattle.cdcl_solver.proofs.OpenLaws.{begin_from, refuted_by}
use Rattle.cdcl_solver.proofs.engine.refute.Goals as goal

pub analyze-requires-clause-begin : goal.analyze-requires-clause-begin
analyze-requires-clause-begin c = begin_from c.args.clauses.now c.args.vars.now c.args.rows.now 0 c.args.trail.now c.args.log c.args.k c.requires.state c.requires.clash

pub returns : goal.returns
returns c limit =
    let ch : Chain = record { first = c.args.k; pairs = c.in_ok-a.a.pairs } in
    refuted_by c.args.clauses.now c.args.learn c.args.vars.now c.args.rows.now c.args.trail.now c.args.log c.push.new.self ch c.analyze.new.notes.learnt.items c.in_ok-a.a.uip c.in_ok-a.a.left c.requires.state c.requires.short c.in_ok-a.ensures.taught c.in_ok-push.ensures.pushed
