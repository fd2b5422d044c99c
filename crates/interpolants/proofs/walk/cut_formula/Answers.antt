use Rattle.std.proofs.Common.{ℕ, Bool, List, ◌&&◌, ◌∙◌, refl}
use Rattle.interpolants.proofs.Walking.{blank-true, cut-told, none-met, ok-at}
use Rattle.interpolants.proofs.walk.cut_formula.Goals as goal

pub returns-clause-told : goal.returns-clause-told
returns-clause-told g c =
    λ store covered room some.
    let X : List ℕ → Bool = λ s. g.A.Algebra.truth c.last_formula.new.algebra c.in_ok-formula.formula s in
    let Y : List ℕ → Bool = λ s. g.A.Algebra.truth c.last_formula.new.algebra c.in_ok-agree.agree s in
    cut-told _ (g.A.Algebra.truth c.both.new.self) c.args.cut.now store (X store) (Y store) c.requires.exact.placing
    (λ agree. c.in_ok-formula.ensures.told store agree covered (blank-true (g.A.Algebra.truth c.agreements.new.algebra) c.args.cut.now store c.forget.new.self c.forget.ensures.blank) (none-met c.args.cut.now c.forget.new.self (c.forget.ensures.long ∙ room)) some)
    (g.met.A.Algebra.truth_stays _ _ c.in_ok-agree.agree store c.last_formula.ensures.keeps c.in_ok-agree.ensures.made ∙ c.in_ok-agree.ensures.told store)
    (ok-at _ (g.A.Algebra.truth c.both.new.self) store (λ s. X s && Y s) _ refl c.both.ensures.told)
