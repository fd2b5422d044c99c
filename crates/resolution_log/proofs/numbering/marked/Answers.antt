use Rattle.std.proofs.Common.{◌≡◌, ◌+◌, ◌++◌, ◌∷◌, [], ℕ, List, Vec, Global, arith, sym, subst}
use Rattle.resolution_log.proofs.Dense.{Found, found-more, found-same, marked-within}
use Rattle.resolution_log.proofs.numbering.marked.Goals.{then-marks-number+in_ok-push, else-marks-number}
use Rattle.resolution_log.proofs.numbering.marked.Goals as goal

pub loop-number-preserved : goal.loop-number-preserved
loop-number-preserved c =
    let P : Vec ℕ Global → Type 0 = λ v. Found c.args.marks.now (c.loop-number.number + 1) v.items in
    let Q : List ℕ → Type 0 = λ xs. Found c.args.marks.now (c.loop-number.number + 1) xs in
    elim c.if-marks-number.branch [
      | then-marks-number+in_ok-push w ↦ subst P (sym w.vars-is) (subst Q (sym w.in_ok-push.ensures.items) (found-more c.args.marks.now c.loop-number.number c.loop-number.vars.items c.loop-number.invariant))
      | else-marks-number w ↦ subst P (sym w.vars-is) (found-same c.args.marks.now c.loop-number.number c.loop-number.vars.items w.if-marks-number.false c.loop-number.invariant)
    ]

pub returns-clause-all : goal.returns-clause-all
returns-clause-all c = λ v m. c.loop-number.invariant.all v (omega (arith, marked-within c.args.marks.now v m, c.loop-number-test.false)) m
