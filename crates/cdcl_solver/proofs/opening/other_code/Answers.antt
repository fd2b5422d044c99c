use Rattle.std.proofs.Common.{◌≡◌, ℕ, refl, sym, inl, inr, subst, true, ◌∙◌, take}
use Rattle.std.proofs.lemmas.List.{take_all}
use Rattle.prop.specs.Trues.{listed}
use Rattle.resolution_log.proofs.Places.{listed_at}
use Rattle.cdcl_solver.proofs.HighestLaws.{next_of}
use Rattle.cdcl_solver.proofs.opening.other_code.Goals as goal

pub returns-then-code-first : goal.returns-then-code-first
returns-then-code-first c = inr (c.if-code-first.true, listed_at c.args.row.now _ c.loop-code.code-index c.loop-code-test.true refl)

pub loop-code-preserved : goal.loop-code-preserved
loop-code-preserved c z h = elim (next_of c.args.row.now c.loop-code.code-index z c.loop-code-test.true h) [ inl e ↦ sym e ∙ c.if-code-first.false | inr b ↦ c.loop-code.invariant z b ]

pub returns : goal.returns
returns c = inl (refl, λ z h. c.loop-code.invariant z (subst (λ w. listed w z ≡ true) (sym (take_all c.loop-code.code-index c.args.row.now c.loop-code-test.false)) h))
