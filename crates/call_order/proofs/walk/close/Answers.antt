use Rattle.std.proofs.Common.{rules, ◌≡◌, suc, true, false, nat_eq, None, Some, ◌-◌, ◌+◌, sym, ap, ◌∙◌}
use Rattle.call_order.specs.Seen as seen
use Rattle.call_order.specs.Walks as walks
use Rattle.call_order.proofs.Walking.{closing_none, closing_some}
use Rattle.call_order.proofs.walk.close.Goals as goal

-- src/walk.rt:185:13
pub returns-in_default : goal.returns-in_default
returns-in_default c =
    let one : c.len-open-end.result - c.loop-open._open ≡ suc (c.len-open-end.result - (c.loop-open._open + 1)) = search rules in
    let none : walks.last_of c.loop-open.walk.unclosed.items ≡ None = search rules in
    sym (closing_none _ _ c.args.function (seen.walk_of c.loop-open.walk) one none) ∙ c.loop-open.invariant

-- src/walk.rt:189:13
pub returns-then-last-function : goal.returns-then-last-function
returns-then-last-function c =
    let one : c.len-open-end.result - c.loop-open._open ≡ suc (c.len-open-end.result - (c.loop-open._open + 1)) = search rules in
    let some : walks.last_of c.loop-open.walk.unclosed.items ≡ Some c.in-Some.last = search rules in
    let same : nat_eq c.in-Some.last c.args.function ≡ true = search rules in
    c.shut.ensures ∙ (sym (closing_some _ _ c.args.function c.in-Some.last (seen.walk_of c.loop-open.walk) true one some same) ∙ c.loop-open.invariant)

-- src/walk.rt:183:5
pub loop-open-preserved : goal.loop-open-preserved
loop-open-preserved c =
    let one : c.len-open-end.result - c.loop-open._open ≡ suc (c.len-open-end.result - (c.loop-open._open + 1)) = search rules in
    let some : walks.last_of c.loop-open.walk.unclosed.items ≡ Some c.in-Some.last = search rules in
    let other : nat_eq c.in-Some.last c.args.function ≡ false = search rules in
    ap (walks.closing (c.len-open-end.result - (c.loop-open._open + 1)) c.args.function) c.shut.ensures
    ∙ (sym (closing_some _ _ c.args.function c.in-Some.last (seen.walk_of c.loop-open.walk) false one some other) ∙ c.loop-open.invariant)
