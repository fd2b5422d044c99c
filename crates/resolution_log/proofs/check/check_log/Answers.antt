use Rattle.std.proofs.Common.{rules, ◌≡◌, ◌∙◌, sym, ap, ℕ, false}
use Rattle.resolution_log.specs.Verdict.{Verdict, verdict_of, Refutes, Bad, Lacks}
use Rattle.resolution_log.proofs.Results.{refutation_sound}
use Rattle.resolution_log.proofs.Exact.{refutes, refutes_back, cause_bad, cause_lacks}
use Rattle.resolution_log.proofs.check.check_log.Goals as goal

pub returns-in-Ok-Bad-clause-refused : goal.returns-in-Ok-Bad-clause-refused
returns-in-Ok-Bad-clause-refused c = let h : verdict_of c.args.clauses.now 0 false c.args.log.now ≡ Bad c.in-Ok-Bad.chain = search rules in cause_bad c.args.clauses.now c.args.log.now c.in-Ok-Bad.chain h

pub returns-in-Ok-Bad-clause-complete : goal.returns-in-Ok-Bad-clause-complete
returns-in-Ok-Bad-clause-complete c r = let h : verdict_of c.args.clauses.now 0 false c.args.log.now ≡ Bad c.in-Ok-Bad.chain = search rules in let q = refutes_back c.args.clauses.now c.args.log.now r in cc

pub returns-in-Ok-Lacks-clause-refused : goal.returns-in-Ok-Lacks-clause-refused
returns-in-Ok-Lacks-clause-refused c = let h : verdict_of c.args.clauses.now 0 false c.args.log.now ≡ Lacks = search rules in cause_lacks c.args.clauses.now c.args.log.now h

pub returns-in-Ok-Lacks-clause-complete : goal.returns-in-Ok-Lacks-clause-complete
returns-in-Ok-Lacks-clause-complete c r = let h : verdict_of c.args.clauses.now 0 false c.args.log.now ≡ Lacks = search rules in let q = refutes_back c.args.clauses.now c.args.log.now r in cc

pub returns-in-Ok-Refutes-clause-accepted : goal.returns-in-Ok-Refutes-clause-accepted
returns-in-Ok-Refutes-clause-accepted c = let h : verdict_of c.args.clauses.now 0 false c.args.log.now ≡ Refutes = search rules in refutes c.args.clauses.now c.args.log.now h

pub returns-in-Ok-Refutes-clause-sound : goal.returns-in-Ok-Refutes-clause-sound
returns-in-Ok-Refutes-clause-sound c v all = let h : verdict_of c.args.clauses.now 0 false c.args.log.now ≡ Refutes = search rules in refutation_sound c.args.clauses.now c.args.log.now (refutes c.args.clauses.now c.args.log.now h) v all
