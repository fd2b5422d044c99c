use Rattle.std.proofs.Common.{rules, sym, ◌∙◌, ap, [], ◌∷◌, map}
use Rattle.std.proofs.lemmas.List.{append-nil}
use Rattle.std.proofs.lemmas.Result.{err_from_is_err_and}
use Rattle.prop.specs.Logic.{negated}
use Rattle.pair_query.proofs.Blasting.{closing_none, closing_some, first_off, pushed_off}
use Rattle.pair_query.proofs.asking.push_closing.Goals as goal

pub returns-then-not-is_empty-clause-cut : goal.returns-then-not-is_empty-clause-cut
returns-then-not-is_empty-clause-cut c =
    pushed_off c.push.result _ c.args.clauses.now [] c.args.clauses.now c.push.new.self _ c.deref.result.now (sym (append-nil c.args.clauses.now))
    (closing_some c.args.lits.now c.args.bits.now c.deref.result.now (search rules) (c.deref.ensures.value ∙ c.in_ok-fails.ensures.complements)) c.push.ensures

pub returns-in_err-push-clause-cut : goal.returns-in_err-push-clause-cut
returns-in_err-push-clause-cut c =
    let r = err_from_is_err_and c.from_residual-in_err-push.result c.from_residual-in_err-push.ensures.1 in
    let never = c.deref-3.result.now in
    let fails = c.in_ok-fails-2.fails.items in
    let same = c.deref-2.ensures.value ∙ sym c.deref-3.ensures.value in
    rw (r.1, r.2)
    (first_off c.in_err-push.field-0.0 c.args.clauses.now c.push-2.new.self _ never fails
    (closing_none c.args.lits.now c.args.bits.now never fails (search rules) (c.deref-3.ensures.value ∙ c.in-Ok.ensures.made.0)
    (c.in_ok-fails-2.ensures.complements ∙ ap (map negated) same))
    c.in_err-push.ensures.0 c.in_err-push.ensures.1)

pub returns-clause-cut : goal.returns-clause-cut
returns-clause-cut c =
    let never = c.deref-3.result.now in
    let fails = c.deref-4.result.now in
    let same = c.deref-2.ensures.value ∙ sym c.deref-3.ensures.value in
    pushed_off c.push-3.result _ c.args.clauses.now (never ∷ []) c.push-2.new.self c.push-3.new.self _ fails c.in_ok-push.ensures.1
    (closing_none c.args.lits.now c.args.bits.now never fails (search rules) (c.deref-3.ensures.value ∙ c.in-Ok.ensures.made.0)
    (c.deref-4.ensures.value ∙ (c.in_ok-fails-2.ensures.complements ∙ ap (map negated) same)))
    c.push-3.ensures
