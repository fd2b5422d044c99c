use Rattle.std.proofs.Common.{ℕ, ◌≤◌, List, [], ◌∷◌, length, All, arith, sym, ap, ◌∙◌}
use Rattle.std.proofs.lemmas.List.Elements.{All-head, All-tail}
use Rattle.bv_term.specs.WellFormed.{IsWidth}
use Rattle.bit_blast.specs.Held.{Held, new_of, sum_of}
use Rattle.std.proofs.lemmas.Result.{err_from_is_err_and}
use Rattle.bit_gates.proofs.Refusals.{cut_off, made_within}
use Rattle.pair_query.proofs.PairCuts.{begun_off}
use Rattle.pair_query.proofs.asking.pair_clauses.Goals as goal

pub push_pair-requires-clause-over : goal.push_pair-requires-clause-over
push_pair-requires-clause-over c = c.in_ok-bits.ensures.over c.args.terms.now (sym c.cells.ensures.value)

-- each cell has at least one bit
at-least : (ws : List ℕ) → All IsWidth ws → length ws ≤ sum_of ws
at-least [] h = omega arith
at-least (w ∷ ws) h =
    let a = All-head IsWidth w ws h in
    let b = at-least ws (All-tail IsWidth w ws h) in
    omega (arith, a.0, b)

pub returns-clause-few : goal.returns-clause-few
returns-clause-few c =
    let m = at-least c.args.terms.now.cells c.cells.ensures.table.cells in
    let e = ap (λ (h : Held). h.next) c.in_ok-bits.ensures.held in
    omega (arith, m, e, c.next-next.ensures, c.next-next.type_inv, ap sum_of c.cells.ensures.value)

pub returns-in_err-push_pair-clause-cut : goal.returns-in_err-push_pair-clause-cut
returns-in_err-push_pair-clause-cut c =
    let r = err_from_is_err_and c.from_residual-in_err-push_pair.result c.from_residual-in_err-push_pair.ensures.1 in
    let cs = c.push_pair.new.clauses in
    rw (r.1, r.2)
    (cut_off c.in_err-push_pair.field-0.0 _ cs
    (made_within cs c.clauses-2.inside.ends.items c.clauses-2.inside.lits.items c.clauses-2.view_is c.clauses-2.invariant.0 c.clauses-2.invariant.1)
    (begun_off c.in_err-push_pair.field-0.0 c.args.terms.now c.args.left.now c.args.right.now c.new-clauses.result c.new.new.clauses cs c.in_ok-bits.bits c.new-clauses.ensures
    (c.new.ensures.clauses ∙ c.new-clauses.ensures) (c.in_ok-bits.ensures.held ∙ ap (λ (w : List ℕ). new_of c.new-clauses.result w) c.cells.ensures.value)
    c.in_err-push_pair.ensures.cut))
