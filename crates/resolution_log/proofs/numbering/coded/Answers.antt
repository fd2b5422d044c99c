use Rattle.std.proofs.Common.{rules, ◌≡◌, ◌∙◌, sym, ap, arith, ℕ, ◌++◌, length, drop, [], refl}
use Rattle.resolution_log.specs.Codes.{all_codes, codes_of, Covers, CoversAll}
use Rattle.resolution_log.proofs.Places.{all_codes_next, covers_next}
use Rattle.resolution_log.proofs.numbering.coded.Goals as goal

pub add_codes-requires-clause-covers : goal.add_codes-requires-clause-covers
add_codes-requires-clause-covers c = (covers_next c.args.vars.now c.args.clauses.now c.loop-number.number c.clause.result.now c.clause.ensures c.loop-number.invariant.1).0

pub loop-number-preserved : goal.loop-number-preserved
loop-number-preserved c = (all_codes_next c.args.vars.now c.loop-number.rows c.push.new.self c.as_slice.result.now c.args.clauses.now c.loop-number.number c.clause.result.now (all_codes c.args.vars.now c.args.clauses.now) c.clause.ensures (search rules) (search rules) c.loop-number.invariant.0, (covers_next c.args.vars.now c.args.clauses.now c.loop-number.number c.clause.result.now c.clause.ensures c.loop-number.invariant.1).1)
