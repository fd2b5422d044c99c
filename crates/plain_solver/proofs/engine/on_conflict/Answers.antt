use Rattle.std.proofs.Common.{rules, arith, ◌≡◌, ℕ, ◌+◌, ◌-◌, ◌++◌, ◌∷◌, [], ◌<◌, ◌≤◌, length, List, true, false, Some, None, refl, sym, ap, ◌∙◌}
use Rattle.prop.specs.declared.Lit.{Lit}
use Rattle.resolution_log.specs.declared.Chain.{Chain}
use Rattle.clause_learning.specs.declared.Entry.{Entry}
use Rattle.plain_solver.specs.declared.engine.Solver.{Solver}
use Rattle.clause_learning.specs.Solve.{State}
use Rattle.plain_solver.proofs.ConflictLaws.{conflict_lean, conflict_below, conflict_listed, conflict_free, conflict_state, conflict_spent, conflict_heavy, conflict_on}
use Rattle.plain_solver.proofs.engine.on_conflict.Goals as goal
use Rattle.plain_solver.proofs.engine.on_conflict.Goals.{After-len-2}

pub returns-in_default-clause-turn : goal.returns-in_default-clause-turn
returns-in_default-clause-turn c =
    let ch : Chain = record { first = c.args.k; pairs = c.in_ok-a.a.pairs } in
    conflict_lean c.args.clauses.now c.args.learn c.args.limit c.args.s c.requires.state c.analyze.new.trail.entries.items c.in_ok-a.a.clause.items c.in_ok-a.a.uip ch c.in_ok-a.ensures.told c.push.new.self c.in_default.not-Some c.in_ok-push.ensures.pushed

pub least_level-low-requires-clause-below : goal.least_level-low-requires-clause-below
least_level-low-requires-clause-below c =
    let ch : Chain = record { first = c.args.k; pairs = c.in_ok-a.a.pairs } in
    conflict_below c.args.clauses.now c.args.learn c.args.limit c.args.s c.requires.state c.analyze.new.trail.entries.items c.in_ok-a.a.clause.items c.in_ok-a.a.uip ch c.in_ok-a.ensures.told c.as_slice.result.now c.in-Some.u c.in-Some.is c.as_slice.ensures.value

pub push-requires-2-clause-listed : goal.push-requires-2-clause-listed
push-requires-2-clause-listed c =
    let ch : Chain = record { first = c.args.k; pairs = c.in_ok-a.a.pairs } in
    conflict_listed c.args.clauses.now c.args.learn c.args.limit c.args.s c.requires.state c.analyze.new.trail.entries.items c.in_ok-a.a.clause.items c.in_ok-a.a.uip ch c.in_ok-a.ensures.told c.in-Some.u c.in-Some.is c.jump.new.trail.vars.items (c.jump.ensures.vars ∙ c.in_ok-a.ensures.vars)

pub push-requires-2-clause-free : goal.push-requires-2-clause-free
push-requires-2-clause-free c =
    let ch : Chain = record { first = c.args.k; pairs = c.in_ok-a.a.pairs } in
    (conflict_free c.args.clauses.now c.args.learn c.args.limit c.args.s c.requires.state c.analyze.new.trail.entries.items c.in_ok-a.a.clause.items c.in_ok-a.a.uip ch c.in_ok-a.ensures.told c.in-Some.u c.in-Some.is c.least_level-low.result c.jump.new.trail.entries.items c.least_level-low.ensures.within c.jump.ensures.back).0

pub push-requires-2-clause-free_not : goal.push-requires-2-clause-free_not
push-requires-2-clause-free_not c =
    let ch : Chain = record { first = c.args.k; pairs = c.in_ok-a.a.pairs } in
    (conflict_free c.args.clauses.now c.args.learn c.args.limit c.args.s c.requires.state c.analyze.new.trail.entries.items c.in_ok-a.a.clause.items c.in_ok-a.a.uip ch c.in_ok-a.ensures.told c.in-Some.u c.in-Some.is c.least_level-low.result c.jump.new.trail.entries.items c.least_level-low.ensures.within c.jump.ensures.back).1

learned : (c : After-len-2) → State c.args.clauses.now c.push-3.new.self c.least_level-low.result c.push-2.new.self.entries.items c.push-4.new.self
learned c =
    let ch : Chain = record { first = c.args.k; pairs = c.in_ok-a.a.pairs } in
    let e : Entry = record { lit = c.in-Some.u; level = c.least_level-low.result; reason = Some c.in_ok-number.number } in
    let low = c.least_level-low.result in
    conflict_state c.args.clauses.now c.args.learn c.args.limit c.args.s c.requires.state c.analyze.new.trail.entries.items c.in_ok-a.a.clause.items c.in_ok-a.a.uip ch c.in_ok-a.ensures.told c.in-Some.u c.in-Some.is low c.jump.new.trail.entries.items c.least_level-low.ensures.within c.jump.ensures.back c.as_slice.result.now c.push-3.new.self c.push-2.new.self.entries.items c.push-4.new.self e c.least_level-low.ensures.at c.least_level-low.ensures.least c.as_slice.ensures.value refl refl (ap Some c.in_ok-number.ensures.value) c.in_ok-push-2.ensures.entries (c.in_ok-push-3.ensures.pushed ∙ ap (λ w. c.args.s.known ++ (w ∷ [])) (c.as_slice-2.ensures.value ∙ sym c.as_slice.ensures.value)) c.in_ok-push-4.ensures.pushed

pub returns-then-len-learn-clause-turn : goal.returns-then-len-learn-clause-turn
returns-then-len-learn-clause-turn c =
    let ch : Chain = record { first = c.args.k; pairs = c.in_ok-a.a.pairs } in
    conflict_spent c.args.clauses.now c.args.learn c.args.limit c.args.s c.requires.state c.analyze.new.trail.entries.items c.in_ok-a.a.clause.items c.in_ok-a.a.uip ch c.in_ok-a.ensures.told c.in-Some.u c.in-Some.is c.least_level-low.result c.jump.new.trail.entries.items c.least_level-low.ensures.within c.jump.ensures.back c.push-3.new.self c.push-2.new.self.entries.items c.push-4.new.self (learned (goal.at.returns-then-len-learn-clause-turn c).After-len-2) c.in_ok-push-4.ensures.pushed (omega (arith, c.len-2.ensures, c.if-len-learn.true))

pub returns-then-total-limit-clause-turn : goal.returns-then-total-limit-clause-turn
returns-then-total-limit-clause-turn c =
    let ch : Chain = record { first = c.args.k; pairs = c.in_ok-a.a.pairs } in
    conflict_heavy c.args.clauses.now c.args.learn c.args.limit c.args.s c.requires.state c.analyze.new.trail.entries.items c.in_ok-a.a.clause.items c.in_ok-a.a.uip ch c.in_ok-a.ensures.told c.in-Some.u c.in-Some.is c.least_level-low.result c.jump.new.trail.entries.items c.least_level-low.ensures.within c.jump.ensures.back c.push-3.new.self c.push-2.new.self.entries.items c.push-4.new.self (learned (goal.at.returns-then-total-limit-clause-turn c).After-len-2) c.in_ok-push-4.ensures.pushed (omega (arith, c.len-2.ensures, c.if-len-learn.false)) (omega (arith, c.len.ensures.value, c.if-total-limit.true))

pub returns-clause-turn : goal.returns-clause-turn
returns-clause-turn c =
    let ch : Chain = record { first = c.args.k; pairs = c.in_ok-a.a.pairs } in
    let e : Entry = record { lit = c.in-Some.u; level = c.least_level-low.result; reason = Some c.in_ok-number.number } in
    let s2 : Solver = record { known = c.push-3.new.self; trail = c.push-2.new.self; level = c.least_level-low.result; log = c.push-4.new.self; pairs = c.args.s.pairs + c.len.result } in
    conflict_on c.args.clauses.now c.args.learn c.args.limit c.args.s c.requires.state c.analyze.new.trail.entries.items c.in_ok-a.a.clause.items c.in_ok-a.a.uip ch c.in_ok-a.ensures.told c.in-Some.u c.in-Some.is c.least_level-low.result c.jump.new.trail.entries.items c.least_level-low.ensures.within c.jump.ensures.back s2 c.as_slice.result.now e (learned (goal.at.returns-clause-turn c).After-len-2) refl c.in_ok-push-4.ensures.pushed (omega (arith, c.len-2.ensures, c.if-len-learn.false)) (ap (λ n. c.args.s.pairs + n) c.len.ensures.value) (omega (arith, c.len.ensures.value, c.if-total-limit.false)) c.as_slice.ensures.value (c.in_ok-push-3.ensures.pushed ∙ ap (λ w. c.args.s.known ++ (w ∷ [])) (c.as_slice-2.ensures.value ∙ sym c.as_slice.ensures.value)) (c.in_ok-push-2.ensures.vars ∙ c.jump.ensures.vars ∙ c.in_ok-a.ensures.vars) c.in_ok-push-2.ensures.entries refl c.jump.ensures.rises c.jump.ensures.level (omega (arith, c.in_ok-number.ensures.value, c.in_ok-number.ensures.few))
