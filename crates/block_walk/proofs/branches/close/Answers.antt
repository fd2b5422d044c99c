use Rattle.std.proofs.Common.{◌≡◌, ◌∙◌, Bool, false, ap, sym, if◌then◌else◌}
use Rattle.std.proofs.lemmas.Result.{err_from_is_err_and}
use Rattle.block_rule.specs.Rule.{is_none}
use Rattle.block_steps.specs.declared.cursor.Cursor.{Cursor}
use Rattle.walk_states.specs.Known.{plan_of}
use Rattle.walk_states.specs.Walks.{bads_of, waits_of}
use Rattle.walk_states.proofs.Following.{no-waits}
use Rattle.block_walk.specs.Made as made
use Rattle.block_walk.proofs.Going.{behind-some, told-as, told-behind}
use Rattle.block_walk.proofs.branches.close.Goals as goal

pub returns-in_err-next-clause-made : goal.returns-in_err-next-clause-made
returns-in_err-next-clause-made c =
    let ws = c.args.waiting.now in
    let old = c.args.old.now.terms in
    let h = c.args.new.now in
    let bs = bads_of c.args.bads.now in
    let rest = made.leave old h (plan_of c.args.known.now) c.args.lost (waits_of ws) in
    let some : is_none (waits_of ws) ≡ false = no-waits ws ∙ sym c.is_empty.ensures ∙ c.if-is_empty.false in
    let p = err_from_is_err_and c.from_residual.result c.from_residual.ensures.1 in
    rw (p.1, p.2)
    (told-behind (λ (k : Cursor). k) (λ (k : Cursor). k) _ rest _ _
    (ap (λ (b : Bool). if b then made.flush_last old h bs c.args.cursor else made.behind rest (made.flush old h bs c.args.cursor)) some)
    c.in_err-next.ensures.made)

pub returns-clause-made : goal.returns-clause-made
returns-clause-made c =
    let ws = c.args.waiting.now in
    let old = c.args.old.now.terms in
    let h = c.args.new.now in
    let bs = bads_of c.args.bads.now in
    let rest = made.leave old h (plan_of c.args.known.now) c.args.lost (waits_of ws) in
    let some : is_none (waits_of ws) ≡ false = no-waits ws ∙ sym c.is_empty.ensures ∙ c.if-is_empty.false in
    told-as _ c.leave.result _ _
    (ap (λ (b : Bool). if b then made.flush_last old h bs c.args.cursor else made.behind rest (made.flush old h bs c.args.cursor)) some
    ∙ behind-some rest _ _ c.in_ok-next.ensures.made)
    c.leave.ensures.made
