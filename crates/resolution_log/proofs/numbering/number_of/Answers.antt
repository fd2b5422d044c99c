use Rattle.std.proofs.Common.{rules, ◌≡◌, ◌∙◌, sym, ap, arith, ℕ, ◌<◌, length, get_or, true, false, subst}
use Rattle.std.specs.List.Sorted.{IsStrictlyIncreasing}
use Rattle.prop.specs.Trues.{listed}
use Rattle.resolution_log.proofs.Places.{place_at, listed_at, found_by, missed_by}
use Rattle.resolution_log.proofs.numbering.number_of.Goals as goal

pub returns-then-vars-at : goal.returns-then-vars-at
returns-then-vars-at c =
    let lt : c.guess-at.result < length c.args.vars.now = search rules in
    let e : get_or c.args.vars.now c.guess-at.result 0 ≡ c.args.var = search rules in
    (listed_at c.args.vars.now c.args.var c.guess-at.result lt e, sym (place_at c.args.vars.now c.requires.rising c.guess-at.result c.args.var lt e), lt)

pub returns-in-Ok : goal.returns-in-Ok
returns-in-Ok c =
    let (lt, e) = found_by c.args.vars.now c.args.var c.in-Ok.k c.in-Ok.ensures.position c.requires.rising in
    (listed_at c.args.vars.now c.args.var c.in-Ok.k lt e, sym (place_at c.args.vars.now c.requires.rising c.in-Ok.k c.args.var lt e), lt)

pub returns-in-Err : goal.returns-in-Err
returns-in-Err c = missed_by c.args.vars.now c.args.var c.in-Err.field-0 c.in-Err.ensures.position c.requires.rising
