use Rattle.std.proofs.Common.{◌≡◌, ◌<◌, ◌∙◌, Bool, false, Some, ap, length, sym, if◌then◌else◌}
use Rattle.std.proofs.lemmas.Result.{err_from_is_err_and}
use Rattle.block_rule.specs.Rule.{is_none}
use Rattle.block_steps.specs.declared.cursor.Cursor.{Cursor}
use Rattle.walk_states.specs.Walks.{bads_of}
use Rattle.block_walk.specs.Made as made
use Rattle.walk_states.proofs.Following.{no-bads, weaken}
use Rattle.block_walk.proofs.Going.{some-of, told-behind}
use Rattle.block_walk.proofs.Branching.{flush-found}
use Rattle.block_walk.proofs.branches.flush.Goals as goal

pub returns-clause-means : goal.returns-clause-means
returns-clause-means c =
    let some : 0 < length c.args.bads.now = some-of (length c.args.bads.now) (sym c.is_empty.ensures ∙ c.if-is_empty.false) in
    let (comes, side, bit) = c.in_ok-opened.ensures.means in
    weaken c.second_side.result _ _
    (λ n second code m. flush-found c.args.new.now c.args.bads.now c.args.cursor c.in_ok-opened.opened.next n c.in_ok-opened.opened.node
    c.in_ok-opened.opened.term code some comes side bit second c.in_ok-end.ensures.means m)
    c.second_side.ensures.means

pub returns-in_err-opened-clause-made : goal.returns-in_err-opened-clause-made
returns-in_err-opened-clause-made c =
    let old = c.args.old.now.terms in
    let h = c.args.new.now in
    let bs = bads_of c.args.bads.now in
    let some : is_none bs ≡ false = no-bads c.args.bads.now ∙ sym c.is_empty.ensures ∙ c.if-is_empty.false in
    let p = err_from_is_err_and c.from_residual.result c.from_residual.ensures.1 in
    rw (p.1, p.2)
    (told-behind made.branch_of (λ (k : Cursor). k) _ (made.flushed_branch old h bs) _ _
    (ap (λ (b : Bool). if b then Some c.args.cursor else made.behind (made.flushed_branch old h bs) (made.open_branch h bs c.args.cursor)) some)
    c.in_err-opened.ensures.made)
