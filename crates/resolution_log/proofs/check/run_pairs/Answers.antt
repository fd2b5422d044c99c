use Rattle.std.proofs.Common.{rules, ◌≡◌, ◌∙◌, sym, ap, arith, ℕ, ◌+◌, ◌*◌, ◌++◌, ◌∷◌, ◌<◌, length, drop, List, get_or, suc, drop-cons, add-one, true, false, refl, Some, None, subst}
use Rattle.prop.specs.declared.Lit.{Lit}
use Rattle.resolution_log.specs.Chains.{chain_from}
use Rattle.resolution_log.specs.Codes.{AreRows, AllBelow}
use Rattle.resolution_log.specs.Marks.{Sofar}
use Rattle.std.proofs.lemmas.List.{drop_all}
use Rattle.resolution_log.proofs.RowLaws.{row_below, pair_past, pair_absent, pair_bad, pair_good, next_pair}
use Rattle.resolution_log.proofs.check.run_pairs.Goals as goal

pub returns-then-at-len : goal.returns-then-at-len
returns-then-at-len c cs d a pos so =
    let (c2, so2, e) = c.loop-p.invariant cs d a pos so in
    let p = get_or c.args.pairs.now c.loop-p.p-index (0, 0) in
    sym e ∙ next_pair cs c2 c.args.pairs.now c.loop-p.p-index (search rules) ∙ pair_past c.args.vars.now c.args.rows.now cs c2 p (drop (c.loop-p.p-index + 1) c.args.pairs.now) a (omega (arith, c.len.ensures, c.if-at-len.true))

pub returns-in_default : goal.returns-in_default
returns-in_default c cs d a pos so =
    let (c2, so2, e) = c.loop-p.invariant cs d a pos so in
    let p = get_or c.args.pairs.now c.loop-p.p-index (0, 0) in
    sym e ∙ next_pair cs c2 c.args.pairs.now c.loop-p.p-index (search rules) ∙ pair_absent c.args.vars.now c.args.epoch c.loop-p.stamps c.loop-p.members.items cs c2 p (drop (c.loop-p.p-index + 1) c.args.pairs.now) pos (omega (arith, c.loop-p.auto.stamps, c.requires.size)) c.in_default.ensures so2

pub resolve_marks-requires-clause-row : goal.resolve_marks-requires-clause-row
resolve_marks-requires-clause-row c = subst (λ n. AllBelow n c.row.result.now) (omega (arith, c.loop-p.auto.stamps)) (row_below (length c.args.stamps.now) c.args.rows.now _ c.row.result.now c.requires.rows c.row.ensures)

pub returns-then-not-branch : goal.returns-then-not-branch
returns-then-not-branch c cs d a pos so =
    let (c2, so2, e) = c.loop-p.invariant cs d a pos so in
    let p = get_or c.args.pairs.now c.loop-p.p-index (0, 0) in
    sym e ∙ next_pair cs c2 c.args.pairs.now c.loop-p.p-index (search rules) ∙ pair_bad c.args.vars.now c.args.epoch c.loop-p.stamps c.loop-p.members.items c.row.result.now c.args.rows.now cs c2 p (drop (c.loop-p.p-index + 1) c.args.pairs.now) c.in-Some.number a c.row.ensures c.in-Some.ensures.1 so2 (sym c.in_ok-resolve_marks.ensures.valid ∙ c.if-not-branch.true)

pub loop-p-preserved : goal.loop-p-preserved
loop-p-preserved c cs d a pos so =
    let (c2, so2, e) = c.loop-p.invariant cs d a pos so in
    let p = get_or c.args.pairs.now c.loop-p.p-index (0, 0) in
    let (c3, so3, g) = pair_good c.args.vars.now c.args.epoch c.loop-p.stamps c.loop-p.members.items c.row.result.now c.resolve_marks.new.stamps c.resolve_marks.new.members.items c.args.rows.now cs c2 p (drop (c.loop-p.p-index + 1) c.args.pairs.now) c.in-Some.number pos c.in-Some.ensures.2 (omega (arith, c.loop-p.auto.stamps, c.requires.size)) a c.row.ensures c.in-Some.ensures.1 so2 (sym c.in_ok-resolve_marks.ensures.valid ∙ c.if-not-branch.false) (c.in_ok-resolve_marks.ensures.stamps c.if-not-branch.false) (c.in_ok-resolve_marks.ensures.members c.if-not-branch.false) in
    (c3, so3, g ∙ sym (next_pair cs c2 c.args.pairs.now c.loop-p.p-index (search rules)) ∙ e)

pub returns : goal.returns
returns c cs d a pos so =
    let (c2, so2, e) = c.loop-p.invariant cs d a pos so in
    (c2, sym e ∙ ap (chain_from cs c2) (drop_all c.loop-p.p-index c.args.pairs.now (omega (arith, c.loop-p-test.false))), so2)
