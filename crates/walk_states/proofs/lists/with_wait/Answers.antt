use Rattle.std.proofs.Common.{get_or, ◌≡◌, None, Some, refl, sym, ap, arith, ◌<◌, ◌≤◌}
use Rattle.std.proofs.lemmas.Option.{slice_get-get_or}
use Rattle.walk_states.specs.declared.state.Waiting.{Waiting}
use Rattle.walk_states.proofs.Waits.{with-on, with-found, with-end}
use Rattle.block_rule.specs.Rule.{with_wait}
use Rattle.walk_states.specs.Walks.{waits_of}
use Rattle.walk_states.proofs.Following.{weaken}
use Rattle.walk_states.proofs.Telling.{told-same}
use Rattle.walk_states.proofs.lists.with_wait.Goals as goal

pub loop-number-preserved : goal.loop-number-preserved
loop-number-preserved c =
    let none : Waiting = record { node = 0; guard = None } in
    let n = c.loop-number.number in
    let ws = c.args.waiting.now in
    let less : (get_or ws n none).node < c.args.node = omega (arith, c.if-waiting-number.false) in
    with-on ws c.loop-number.all.items c.push-in-loop-number.new.self.items n c.args.node c.args.guard (get_or ws n none)
    (slice_get-get_or ws n none c.loop-number-test.true) less c.in_ok-push-2.ensures.items c.loop-number.invariant

pub returns-then-waiting-number-clause-means : goal.returns-then-waiting-number-clause-means
returns-then-waiting-number-clause-means c =
    let none : Waiting = record { node = 0; guard = None } in
    let one : Waiting = record { node = c.args.node; guard = c.args.guard } in
    let n = c.loop-number.number in
    let ws = c.args.waiting.now in
    let less : c.args.node ≤ (get_or ws n none).node = omega (arith, c.if-waiting-number.true) in
    weaken c.joined.result _ _
    (λ v e. with-found ws c.loop-number.all.items c.push.new.self.items v.items n c.args.node c.args.guard (get_or ws n none) one
    (slice_get-get_or ws n none c.loop-number-test.true) less refl refl c.in_ok-push.ensures.items c.loop-number.invariant e)
    c.joined.ensures.means

pub returns-then-waiting-number-clause-made : goal.returns-then-waiting-number-clause-made
returns-then-waiting-number-clause-made c =
    let none : Waiting = record { node = 0; guard = None } in
    let one : Waiting = record { node = c.args.node; guard = c.args.guard } in
    let n = c.loop-number.number in
    let ws = c.args.waiting.now in
    let less : c.args.node ≤ (get_or ws n none).node = omega (arith, c.if-waiting-number.true) in
    told-same _ c.joined.result _ _
    (λ v e. with-found ws c.loop-number.all.items c.push.new.self.items v.items n c.args.node c.args.guard (get_or ws n none) one
    (slice_get-get_or ws n none c.loop-number-test.true) less refl refl c.in_ok-push.ensures.items c.loop-number.invariant e)
    c.joined.ensures.made

pub returns-clause-made : goal.returns-clause-made
returns-clause-made c =
    let one : Waiting = record { node = c.args.node; guard = c.args.guard } in
    let e : waits_of c.push-2.new.self.items ≡ with_wait (waits_of c.args.waiting.now) c.args.node c.args.guard =
    with-end c.args.waiting.now c.loop-number.all.items c.push-2.new.self.items c.loop-number.number c.args.node c.args.guard one
    (omega (arith, c.loop-number-test.false)) refl refl c.in_ok-push-3.ensures.items c.loop-number.invariant in
    ap Some (sym e)

pub returns-clause-means : goal.returns-clause-means
returns-clause-means c =
    let one : Waiting = record { node = c.args.node; guard = c.args.guard } in
    with-end c.args.waiting.now c.loop-number.all.items c.push-2.new.self.items c.loop-number.number c.args.node c.args.guard one
    (omega (arith, c.loop-number-test.false)) refl refl c.in_ok-push-3.ensures.items c.loop-number.invariant
