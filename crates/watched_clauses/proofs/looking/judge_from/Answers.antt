use Rattle.std.proofs.Common.{rules, ◌≡◌, ℕ, List, Some, None, slice_get, sym, subst, true, ◌∙◌, refl, ◌<◌, length, get_or, false}
use Rattle.std.proofs.lemmas.List.{get_or_default}
use Rattle.prop.specs.Trues.{listed}
use Rattle.dense_trail.specs.Dense.{negation, is_true}
use Rattle.watched_clauses.specs.Judge.{AllClosed, first_of, second_of, pair_of, AreWatched}
use Rattle.watched_clauses.proofs.JudgeLaws.{open_there, all_closed, some_same, last_found, pair_others, pair_cases}
use Rattle.watched_clauses.proofs.looking.judge_from.Goals as goal

pub returns-in-Some-open_from : goal.returns-in-Some-open_from
returns-in-Some-open_from c r g =
    let e : c.row-row.result.now ≡ r = some_same (slice_get c.args.rows.now c.args.number) c.row-row.result.now r c.row-row.ensures g in
    let o = open_there c.args.trail.now.truth.items c.in-Some.other c.row-row.result.now c.in-Some-open_from.at c.in-Some-open_from.ensures.0 c.in-Some-open_from.ensures.1 in
    (search rules, search rules, subst (λ w. listed w (get_or c.row-row.result.now c.in-Some-open_from.at 0) ≡ true) e o.0, o.1, o.2)

pub returns-then-watch : goal.returns-then-watch
returns-then-watch c r g =
    let aw : AreWatched (first_of c.args.watches.now c.args.number) (second_of c.args.watches.now c.args.number) c.args.falsified c.in-Some.other = search rules in
    let free : is_true c.args.trail.now.truth.items c.in-Some.other ≡ false = search rules in
    let two : pair_of c.args.watches.now c.args.number ≡ true = search rules in
    last_found c.args.trail.now.truth.items c.args.falsified (first_of c.args.watches.now c.args.number) (second_of c.args.watches.now c.args.number) c.in-Some.other r aw free (pair_others c.args.trail.now.truth.items c.args.falsified (first_of c.args.watches.now c.args.number) (second_of c.args.watches.now c.args.number) c.in-Some.other r aw c.requires.falsified (pair_cases c.args.watches.now c.args.number r (c.requires.pair r g) two)) c.last_finding.result c.last_finding.ensures

pub returns-in-None : goal.returns-in-None
returns-in-None c r g =
    let e : c.row-row.result.now ≡ r = some_same (slice_get c.args.rows.now c.args.number) c.row-row.result.now r c.row-row.ensures g in
    let aw : AreWatched (first_of c.args.watches.now c.args.number) (second_of c.args.watches.now c.args.number) c.args.falsified c.in-Some.other = search rules in
    let free : is_true c.args.trail.now.truth.items c.in-Some.other ≡ false = search rules in
    last_found c.args.trail.now.truth.items c.args.falsified (first_of c.args.watches.now c.args.number) (second_of c.args.watches.now c.args.number) c.in-Some.other r aw free (all_closed c.args.trail.now.truth.items c.in-Some.other r (subst (λ w. AllClosed c.args.trail.now.truth.items c.in-Some.other w 0 (length w)) e c.in-None.ensures)) c.last_finding-in-None.result c.last_finding-in-None.ensures
