use Rattle.std.proofs.Common.{ℕ, ◌+◌, true, refl, sym, ap, ◌∙◌, subst, arith}
use Rattle.interpolants.specs.Memos.{AllKnown}
use Rattle.interpolants.specs.Walks.{AreTrue, truth_of}
use Rattle.interpolants.proofs.Walking.{met-kept, met-set, ok-at, on-ok, result-told, set-known, set-true, true-stays, unmet, unmet-told}
use Rattle.interpolants.proofs.walk.visit.Goals as goal

pub returns-then-not-is_met-clause-told : goal.returns-then-not-is_met-clause-told
returns-then-not-is_met-clause-told g c =
    λ store agree covered all met last.
    ok-at _ (g.A.Algebra.truth c.constant.new.self) store (λ s. true) _
    (sym (unmet-told c.args.cut.now store c.args.place c.requires.exact last (unmet _ _ c.if-not-is_met.true c.is_met.ensures.1))) c.constant.ensures.told

pub returns-then-not-is_met-clause-truths : goal.returns-then-not-is_met-clause-truths
returns-then-not-is_met-clause-truths g c =
    λ store agree covered all met.
    on-ok _ _
    (true-stays (g.A.Algebra.truth c.args.algebra.now) (g.A.Algebra.truth c.constant.new.self) c.args.cut.now store c.args.memo.now (g.A.Algebra.has c.args.algebra.now) all c.requires.known
    (λ f h. g.met.A.Algebra.truth_stays _ _ f store c.constant.ensures.keeps h))

pub returns-clause-known : goal.returns-clause-known
returns-clause-known g c =
    subst (AllKnown (g.A.Algebra.has c.chain_formula.new.algebra)) (sym c.set.ensures)
    (set-known (g.A.Algebra.has c.chain_formula.new.algebra) c.chain_formula.new.memo (c.len.result + c.args.place) c.in_ok-formula.formula c.in_ok-formula.ensures.known c.in_ok-formula.ensures.made)

pub returns-clause-met : goal.returns-clause-met
returns-clause-met g c =
    λ met. met-set c.args.cut.now c.args.place (c.len.result + c.args.place) c.args.chain.now c.args.memo.now c.chain_formula.new.memo c.set.new.self c.in_ok-formula.formula met c.requires.at
    c.chain_formula.ensures.long c.chain_formula.ensures.grows (omega (arith, c.len.ensures.value)) c.set.ensures

pub returns-clause-told : goal.returns-clause-told
returns-clause-told g c =
    λ store agree covered all met last.
    c.in_ok-formula.ensures.told store agree covered all
    (met-kept c.args.cut.now c.args.place c.args.chain.now c.args.memo.now c.requires.exact met c.requires.at (c.is_met.ensures.0 c.if-not-is_met.false))
    ∙ result-told c.args.cut.now store c.args.place c.args.chain.now c.requires.exact c.requires.at

pub returns-clause-truths : goal.returns-clause-truths
returns-clause-truths g c =
    λ store agree covered all met.
    let kept = met-kept c.args.cut.now c.args.place c.args.chain.now c.args.memo.now c.requires.exact met c.requires.at (c.is_met.ensures.0 c.if-not-is_met.false) in
    subst (AreTrue (g.A.Algebra.truth c.chain_formula.new.algebra) c.args.cut.now store) (sym c.set.ensures)
    (set-true (g.A.Algebra.truth c.chain_formula.new.algebra) (g.A.Algebra.truth c.chain_formula.new.algebra) c.args.cut.now store c.chain_formula.new.memo (c.len.result + c.args.place)
    c.in_ok-formula.formula (g.A.Algebra.has c.chain_formula.new.algebra) (c.in_ok-formula.ensures.truths store agree covered all kept) c.in_ok-formula.ensures.known (λ f h. refl)
    (c.in_ok-formula.ensures.told store agree covered all kept ∙ result-told c.args.cut.now store c.args.place c.args.chain.now c.requires.exact c.requires.at
    ∙ sym (ap (λ (n : ℕ). truth_of c.args.cut.now store (n + c.args.place)) c.len.ensures.value)))
