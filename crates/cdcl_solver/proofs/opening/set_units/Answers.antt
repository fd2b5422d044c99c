use Rattle.std.proofs.Common.{rules, arith, ◌≡◌, ◌∙◌, ℕ, ◌<◌, ◌*◌, List, length, length-set, true, false, subst, refl, sym, ap}
use Rattle.dense_trail.specs.Dense.{negation, is_true}
use Rattle.dense_trail.proofs.CodeLaws.{negation_below}
use Rattle.watched_clauses.specs.Judge.{first_of, second_of}
use Rattle.cdcl_solver.specs.Opening.{AreUnits}
use Rattle.cdcl_solver.proofs.OpenLaws.{unit_false, unit_linked, unit_met, units_moved, read_at}
use Rattle.cdcl_solver.proofs.opening.set_units.Goals as goal

pub returns-then-index-2-clause-result : goal.returns-then-index-2-clause-result
returns-then-index-2-clause-result c =
    let t = c.loop-number.trail in
    let m = c.loop-number.number in
    let x = first_of c.args.watches.now m in
    let u : AreUnits c.args.rows.now c.args.watches.now (length t.truth.items) = units_moved c.args.rows.now c.args.watches.now (length c.args.trail.now.truth.items) (length t.truth.items) (omega (arith, c.args.trail.now.wide, t.wide, c.loop-number.invariant.wide)) c.requires.units in
    let small : x < length t.truth.items = u.small m c.loop-number-test.true in
    let small_not : negation x < length t.truth.items = (let q = negation_below x (length t.levels.items) (omega (arith, small, t.wide)) in omega (arith, q, t.wide)) in
    let one : x ≡ second_of c.args.watches.now m = c.if-watch.false in
    unit_false c.args.rows.now c.args.watches.now t m u c.requires.paired c.loop-number-test.true one (read_at t.truth.items c.negation.result (negation x) c.index-in-loop-number.result.now true c.negation.ensures small_not c.index-in-loop-number.ensures c.if-index-2.true)

pub loop-number-preserved : goal.loop-number-preserved
loop-number-preserved c =
    let t = c.loop-number.trail in
    let m = c.loop-number.number in
    let x = first_of c.args.watches.now m in
    let u : AreUnits c.args.rows.now c.args.watches.now (length t.truth.items) = units_moved c.args.rows.now c.args.watches.now (length c.args.trail.now.truth.items) (length t.truth.items) (omega (arith, c.args.trail.now.wide, t.wide, c.loop-number.invariant.wide)) c.requires.units in
    let small : x < length t.truth.items = u.small m c.loop-number-test.true in
    let small_not : negation x < length t.truth.items = (let q = negation_below x (length t.levels.items) (omega (arith, small, t.wide)) in omega (arith, q, t.wide)) in
    let one : x ≡ second_of c.args.watches.now m = c.if-watch.false in
    let free : is_true t.truth.items x ≡ false = read_at t.truth.items x x c.index.result.now false refl small c.index.ensures c.if-index.false in
    let free_not : is_true t.truth.items (negation x) ≡ false = read_at t.truth.items c.negation.result (negation x) c.index-in-loop-number.result.now false c.negation.ensures small_not c.index-in-loop-number.ensures c.if-index-2.false in
    record {
      linked = λ vars l. unit_linked c.args.rows.now c.args.watches.now t m u c.requires.paired c.loop-number-test.true one free free_not c.push.new.self c.in_ok-push.ensures.codes c.in_ok-push.ensures.truth c.in_ok-push.ensures.levels c.in_ok-push.ensures.reasons vars (c.loop-number.invariant.linked vars l);
      met = unit_met c.args.rows.now c.args.watches.now t m u c.requires.paired c.loop-number-test.true one free free_not c.push.new.self c.in_ok-push.ensures.codes c.in_ok-push.ensures.truth c.in_ok-push.ensures.levels c.in_ok-push.ensures.reasons c.loop-number.invariant.met;
      wide = ap length c.in_ok-push.ensures.levels ∙ length-set t.levels.items _ 0 ∙ c.loop-number.invariant.wide;
    }
